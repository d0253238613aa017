-- A tree holds each body once, has the nodes that its number of bodies needs, and is low.
use Rattle.std.proofs.Common.{◌≡◌, ℕ, zero, suc, ◌+◌, ◌-◌, ◌*◌, ◌/◌, ◌^◌, ◌<◌, ◌≤◌, max, Bool, true, false, cond, List, [], ◌∷◌, ◌++◌, length, map, refl, sym, ◌∙◌, ap, subst, take-append-drop, arith}
use Rattle.std.specs.List.Sorted.{IsPermutation}
use Rattle.std.proofs.lemmas.List.{length-take, length-drop, map-append}
use Rattle.std.proofs.lemmas.List.Sorted.{IsPermutation-refl, IsPermutation-sym, IsPermutation-trans, IsPermutation-cons, IsPermutation-middle, IsPermutation-append, IsPermutation-map, length_permutation}
use Rattle.std.proofs.Math.Nat.{pow-suc}
use Rattle.fixed_box.specs.declared.fix_box.FixBox.{FixBox}
use Rattle.scene_model.specs.Need.{need_of_run, need_within}
use Rattle.scene_model.proofs.Needs.{need_of_run-two}
use Rattle.scene_model.specs.Tree.{Tree, node, comes_before, widest, insert_in_order, in_order, sorted, front_half, back_half, child_of, node_over, tree_within, tree, nodes_of, height_of, indexes_of}

-- ---- sorting and halving

insert_permutes_by : (axis : ℕ) (b x : ℕ × FixBox) (xs : List (ℕ × FixBox)) (test : Bool) → IsPermutation (b ∷ xs) (insert_in_order axis b xs)
    → IsPermutation (b ∷ x ∷ xs) (cond test (b ∷ x ∷ xs) (x ∷ insert_in_order axis b xs))
insert_permutes_by axis b x xs true h = IsPermutation-refl (b ∷ x ∷ xs)
insert_permutes_by axis b x xs false h =
    IsPermutation-trans (b ∷ x ∷ xs) (x ∷ b ∷ xs) (x ∷ insert_in_order axis b xs)
    (IsPermutation-sym (x ∷ b ∷ xs) (b ∷ x ∷ xs) (IsPermutation-middle (x ∷ []) b xs))
    (IsPermutation-cons x (b ∷ xs) (insert_in_order axis b xs) h)

pub insert_permutes : (axis : ℕ) (b : ℕ × FixBox) (xs : List (ℕ × FixBox)) → IsPermutation (b ∷ xs) (insert_in_order axis b xs)
insert_permutes axis b [] = IsPermutation-refl (b ∷ [])
insert_permutes axis b (x ∷ xs) = insert_permutes_by axis b x xs (comes_before axis b x) (insert_permutes axis b xs)

pub in_order_permutes : (axis : ℕ) (xs : List (ℕ × FixBox)) → IsPermutation xs (in_order axis xs)
in_order_permutes axis [] = IsPermutation-refl []
in_order_permutes axis (x ∷ xs) =
    IsPermutation-trans (x ∷ xs) (x ∷ in_order axis xs) (insert_in_order axis x (in_order axis xs))
    (IsPermutation-cons x xs (in_order axis xs) (in_order_permutes axis xs))
    (insert_permutes axis x (in_order axis xs))

-- the two halves hold each body once
pub halves_permute : (xs : List (ℕ × FixBox)) → IsPermutation xs (front_half xs ++ back_half xs)
halves_permute xs =
    subst (λ (ys : List (ℕ × FixBox)). IsPermutation xs ys) (sym (take-append-drop (length xs - length xs / 2) (sorted xs))) (in_order_permutes (widest xs) xs)

length-sorted : (xs : List (ℕ × FixBox)) → length (sorted xs) ≡ length xs
length-sorted xs = length_permutation xs (sorted xs) (in_order_permutes (widest xs) xs)

pub length-front_half : (xs : List (ℕ × FixBox)) → length (front_half xs) ≡ length xs - length xs / 2
length-front_half xs = omega (arith, length-take (length xs - length xs / 2) (sorted xs), length-sorted xs)

pub length-back_half : (xs : List (ℕ × FixBox)) → length (back_half xs) ≡ length xs / 2
length-back_half xs = omega (arith, length-drop (length xs - length xs / 2) (sorted xs), length-sorted xs)

-- ---- a child, and the four of them

child_of-permutes : (f : List (ℕ × FixBox) → Tree) (run : List (ℕ × FixBox)) → (2 ≤ length run → IsPermutation (map (λ b. b.0) run) (indexes_of (f run)))
    → IsPermutation (map (λ b. b.0) run) (indexes_of (child_of f run))
child_of-permutes f [] h = IsPermutation-refl []
child_of-permutes f (b ∷ []) h = IsPermutation-refl (b.0 ∷ [])
child_of-permutes f (b ∷ c ∷ rest) h = h (omega arith)

nodes_of-child_of : (f : List (ℕ × FixBox) → Tree) (g : ℕ → ℕ) (run : List (ℕ × FixBox)) → nodes_of (f run) ≡ g (length run)
    → nodes_of (child_of f run) ≡ need_of_run g (length run)
nodes_of-child_of f g [] h = refl
nodes_of-child_of f g (b ∷ []) h = refl
nodes_of-child_of f g (b ∷ c ∷ rest) h = h ∙ sym (need_of_run-two g (length (b ∷ c ∷ rest)) (omega arith))

height_of-child_of : (f : List (ℕ × FixBox) → Tree) (most : ℕ) (run : List (ℕ × FixBox)) → (2 ≤ length run → height_of (f run) ≤ most) → height_of (child_of f run) ≤ most
height_of-child_of f most [] h = omega arith
height_of-child_of f most (b ∷ []) h = omega arith
height_of-child_of f most (b ∷ c ∷ rest) h = h (omega arith)

child_of-agree : (f g : List (ℕ × FixBox) → Tree) (run : List (ℕ × FixBox)) → (2 ≤ length run → f run ≡ g run) → child_of f run ≡ child_of g run
child_of-agree f g [] h = refl
child_of-agree f g (b ∷ []) h = refl
child_of-agree f g (b ∷ c ∷ rest) h = h (omega arith)

pub same_node : (a b c d e f g h : Tree) → a ≡ e → b ≡ f → c ≡ g → d ≡ h → node a b c d ≡ node e f g h
same_node a b c d e f g h p q r s = cc

-- what holds of a list's halves holds of the four runs
in_runs : (P : List (ℕ × FixBox) → Type 0) (most : ℕ) (xs : List (ℕ × FixBox)) → length xs ≤ 4 * most
    → ((run : List (ℕ × FixBox)) → length run ≤ most → (2 ≤ length run → length run < length xs) → P run)
    → P (front_half (front_half xs)) × P (back_half (front_half xs)) × P (front_half (back_half xs)) × P (back_half (back_half xs))
in_runs P most xs fits h =
    let front = length-front_half xs in
    let back = length-back_half xs in
    let a = length-front_half (front_half xs) in
    let b = length-back_half (front_half xs) in
    let c = length-front_half (back_half xs) in
    let d = length-back_half (back_half xs) in
    (h _ (omega arith) (λ two. omega arith), h _ (omega arith) (λ two. omega arith), h _ (omega arith) (λ two. omega arith), h _ (omega arith) (λ two. omega arith))

-- ---- whole trees

-- the four runs hold each body once
runs_permute : (xs : List (ℕ × FixBox))
    → IsPermutation xs ((front_half (front_half xs) ++ back_half (front_half xs)) ++ (front_half (back_half xs) ++ back_half (back_half xs)))
runs_permute xs =
    IsPermutation-trans xs (front_half xs ++ back_half xs) _ (halves_permute xs)
    (IsPermutation-append (front_half xs) (front_half (front_half xs) ++ back_half (front_half xs)) (back_half xs) (front_half (back_half xs) ++ back_half (back_half xs))
    (halves_permute (front_half xs)) (halves_permute (back_half xs)))

-- so where each of four lists is permuted, all are
four_permute : (xs ks ls ms ns : List (ℕ × FixBox)) (a b c d : List ℕ) → IsPermutation xs ((ks ++ ls) ++ (ms ++ ns))
    → IsPermutation (map (λ b. b.0) ks) a → IsPermutation (map (λ b. b.0) ls) b → IsPermutation (map (λ b. b.0) ms) c → IsPermutation (map (λ b. b.0) ns) d
    → IsPermutation (map (λ b. b.0) xs) (a ++ b ++ (c ++ d))
four_permute xs ks ls ms ns a b c d whole p q r s =
    let f : ℕ × FixBox → ℕ = λ b. b.0 in
    let runs : map f ((ks ++ ls) ++ (ms ++ ns)) ≡ (map f ks ++ map f ls) ++ (map f ms ++ map f ns) = simp map-append in
    IsPermutation-trans (map f xs) ((map f ks ++ map f ls) ++ (map f ms ++ map f ns)) (a ++ b ++ (c ++ d))
    (subst (λ (qs : List ℕ). IsPermutation (map f xs) qs) runs (IsPermutation-map f xs ((ks ++ ls) ++ (ms ++ ns)) whole))
    (IsPermutation-append (map f ks ++ map f ls) (a ++ b) (map f ms ++ map f ns) (c ++ d)
    (IsPermutation-append (map f ks) a (map f ls) b p q)
    (IsPermutation-append (map f ms) c (map f ns) d r s))

-- each body stands in the tree once
pub tree_within-permutes : (levels : ℕ) (xs : List (ℕ × FixBox)) → length xs ≤ levels → IsPermutation (map (λ b. b.0) xs) (indexes_of (tree_within levels xs))
tree_within-permutes zero [] fits = IsPermutation-refl []
tree_within-permutes zero (b ∷ rest) fits = absurd (omega arith)
tree_within-permutes (suc levels) xs fits =
    let below =
    in_runs (λ run. IsPermutation (map (λ b. b.0) run) (indexes_of (child_of (tree_within levels) run))) (length xs) xs (omega arith)
    (λ run within fewer. child_of-permutes (tree_within levels) run (λ two. let less = fewer two in tree_within-permutes levels run (omega arith))) in
    four_permute xs _ _ _ _ _ _ _ _ (runs_permute xs) below.0 below.1 below.2 below.3

sum_four : (a b c d e f g h : ℕ) → a ≡ e → b ≡ f → c ≡ g → d ≡ h → 1 + (a + b + c + d) ≡ 1 + (0 + e + f + g + h)
sum_four a b c d e f g h p q r s = omega arith

-- the tree has the nodes that its bodies need
pub nodes_of-tree_within : (levels : ℕ) (xs : List (ℕ × FixBox)) → nodes_of (tree_within levels xs) ≡ need_within levels (length xs)
nodes_of-tree_within zero xs = refl
nodes_of-tree_within (suc levels) xs =
    let same : (run : List (ℕ × FixBox)) (size : ℕ) → length run ≡ size → nodes_of (child_of (tree_within levels) run) ≡ need_of_run (need_within levels) size =
    λ run size e. nodes_of-child_of (tree_within levels) (need_within levels) run (nodes_of-tree_within levels run) ∙ ap (need_of_run (need_within levels)) e in
    let front = length-front_half xs in
    let back = length-back_half xs in
    sum_four _ _ _ _ _ _ _ _
    (same _ _ (length-front_half (front_half xs) ∙ ap (λ k. k - k / 2) front))
    (same _ _ (length-back_half (front_half xs) ∙ ap (λ k. k / 2) front))
    (same _ _ (length-front_half (back_half xs) ∙ ap (λ k. k - k / 2) back))
    (same _ _ (length-back_half (back_half xs) ∙ ap (λ k. k / 2) back))

two_levels : (h : ℕ) → 2 ≤ 4 ^ h → 0 < h
two_levels zero two = absurd (omega arith)
two_levels (suc h) two = omega arith

max_four : (a b c d most : ℕ) → a ≤ most → b ≤ most → c ≤ most → d ≤ most → 1 + max (max a b) (max c d) ≤ suc most
max_four a b c d most p q r s = omega arith

-- a tree over at most 4 ^ h bodies has at most h levels
pub height_of-tree_within : (levels h : ℕ) (xs : List (ℕ × FixBox)) → 0 < h → length xs ≤ 4 ^ h → height_of (tree_within levels xs) ≤ h
height_of-tree_within zero h xs some fits = omega arith
height_of-tree_within (suc levels) zero xs some fits = absurd (omega arith)
height_of-tree_within (suc levels) (suc h) xs some fits =
    let quarter : length xs ≤ 4 * 4 ^ h = omega (arith, pow-suc 4 h) in
    let below =
    in_runs (λ run. height_of (child_of (tree_within levels) run) ≤ h) (4 ^ h) xs quarter
    (λ run within fewer. height_of-child_of (tree_within levels) h run
    (λ two. let more : 2 ≤ 4 ^ h = omega arith in height_of-tree_within levels h run (two_levels h more) within)) in
    max_four _ _ _ _ h below.0 below.1 below.2 below.3

node_agree : (f g : List (ℕ × FixBox) → Tree) (xs : List (ℕ × FixBox)) → ((run : List (ℕ × FixBox)) → 2 ≤ length run → length run < length xs → f run ≡ g run) → node_over f xs ≡ node_over g xs
node_agree f g xs same =
    let below =
    in_runs (λ run. child_of f run ≡ child_of g run) (length xs) xs (omega arith) (λ run within fewer. child_of-agree f g run (λ two. same run two (fewer two))) in
    same_node _ _ _ _ _ _ _ _ below.0 below.1 below.2 below.3

-- more levels than bodies change nothing
pub tree_within-enough : (j k : ℕ) (xs : List (ℕ × FixBox)) → 0 < length xs → length xs ≤ j → length xs ≤ k → tree_within j xs ≡ tree_within k xs
tree_within-enough zero k xs some below within = absurd (omega arith)
tree_within-enough (suc j) zero xs some below within = absurd (omega arith)
tree_within-enough (suc j) (suc k) xs some below within =
    node_agree (tree_within j) (tree_within k) xs (λ run two fewer. tree_within-enough j k run (omega arith) (omega arith) (omega arith))

-- the tree is the node over the trees of its runs
pub tree-more : (xs : List (ℕ × FixBox)) → 0 < length xs → tree xs ≡ node_over tree xs
tree-more [] some = absurd (omega arith)
tree-more (b ∷ rest) some =
    node_agree (tree_within (length rest)) tree (b ∷ rest) (λ run two fewer. tree_within-enough (length rest) (length run) run (omega arith) (omega arith) (omega arith))
