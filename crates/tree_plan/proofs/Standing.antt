-- The tree over bodies is the tree that stands over them once they are arranged.
use Rattle.std.proofs.Common.{◌≡◌, ℕ, zero, suc, ◌-◌, ◌/◌, ◌<◌, ◌≤◌, ◌⊎◌, inl, inr, List, [], ◌∷◌, ◌++◌, length, take, drop, refl, sym, ◌∙◌, ap, arith}
use Rattle.std.proofs.lemmas.Bool.{cases_lt}
use Rattle.std.proofs.lemmas.List.{take-append-le, drop-append-le, take_all, drop_all}
use Rattle.std.proofs.lemmas.List.Sorted.{length_permutation}
use Rattle.fixed_box.specs.declared.fix_box.FixBox.{FixBox}
use Rattle.scene_model.specs.Tree.{Tree, front_half, back_half, child_of, tree_within, tree}
use Rattle.scene_model.proofs.Trees.{length-front_half, same_node}
use Rattle.std.specs.List.Sorted.{IsPermutation}
use Rattle.tree_plan.specs.Arranged.{AreApart, arranged}
use Rattle.tree_plan.specs.Standing.{front_of, back_of, standing_within}
use Rattle.tree_plan.proofs.Arrangement.{arranged-more, arranged-few, arranged-permutes, arranged-permutation}

pub length-arranged : (xs : List (ℕ × FixBox)) → length (arranged xs) ≡ length xs
length-arranged xs = length_permutation xs (arranged xs) (arranged-permutes xs)

front_by : (xs us vs whole : List (ℕ × FixBox)) → whole ≡ us ++ vs → length us ≡ length whole - length whole / 2 → front_of whole ≡ us
front_by xs us vs whole e size =
    let n = length whole - length whole / 2 in
    ap (take n) e ∙ take-append-le n us vs (omega arith) ∙ take_all n us (omega arith)

back_by : (xs us vs whole : List (ℕ × FixBox)) → whole ≡ us ++ vs → length us ≡ length whole - length whole / 2 → back_of whole ≡ vs
back_by xs us vs whole e size =
    let n = length whole - length whole / 2 in
    ap (drop n) e ∙ drop-append-le n us vs (omega arith) ∙ ap (λ ys. ys ++ vs) (drop_all n us (omega arith))

front_at : (xs : List (ℕ × FixBox)) → (length xs < 2) ⊎ (2 ≤ length xs) → front_of (arranged xs) ≡ arranged (front_half xs)
front_at [] (inl few) = refl
front_at (x ∷ []) (inl few) = refl
front_at (x ∷ y ∷ xs) (inl few) = absurd (omega arith)
front_at xs (inr two) =
    front_by xs (arranged (front_half xs)) (arranged (back_half xs)) (arranged xs) (arranged-more xs two)
    (omega (arith, length-arranged (front_half xs), length-arranged xs, length-front_half xs))

back_at : (xs : List (ℕ × FixBox)) → (length xs < 2) ⊎ (2 ≤ length xs) → back_of (arranged xs) ≡ arranged (back_half xs)
back_at [] (inl few) = refl
back_at (x ∷ []) (inl few) = refl
back_at (x ∷ y ∷ xs) (inl few) = absurd (omega arith)
back_at xs (inr two) =
    back_by xs (arranged (front_half xs)) (arranged (back_half xs)) (arranged xs) (arranged-more xs two)
    (omega (arith, length-arranged (front_half xs), length-arranged xs, length-front_half xs))

-- the halves of arranged bodies, as they stand, are their halves, arranged
front_of-arranged : (xs : List (ℕ × FixBox)) → front_of (arranged xs) ≡ arranged (front_half xs)
front_of-arranged xs = front_at xs (cases_lt (length xs) 2)

back_of-arranged : (xs : List (ℕ × FixBox)) → back_of (arranged xs) ≡ arranged (back_half xs)
back_of-arranged xs = back_at xs (cases_lt (length xs) 2)

-- a run of two bodies or more is its tree
child_of-two : (f : List (ℕ × FixBox) → Tree) (xs : List (ℕ × FixBox)) → 2 ≤ length xs → child_of f xs ≡ f xs
child_of-two f [] two = absurd (omega arith)
child_of-two f (x ∷ []) two = absurd (omega arith)
child_of-two f (x ∷ y ∷ xs) two = refl

child_same : (f g : List (ℕ × FixBox) → Tree) (xs : List (ℕ × FixBox)) → f xs ≡ g (arranged xs) → child_of f xs ≡ child_of g (arranged xs)
child_same f g [] e = refl
child_same f g (x ∷ []) e = sym (ap (child_of g) (arranged-few (x ∷ []) (omega arith)))
child_same f g (x ∷ y ∷ xs) e = e ∙ sym (child_of-two g (arranged (x ∷ y ∷ xs)) (omega (arith, length-arranged (x ∷ y ∷ xs))))

standing_same : (levels : ℕ) (xs : List (ℕ × FixBox)) → tree_within levels xs ≡ standing_within levels (arranged xs)
standing_same zero xs = refl
standing_same (suc levels) xs =
    let f = tree_within levels in
    let g = standing_within levels in
    let child : (run : List (ℕ × FixBox)) → child_of f run ≡ child_of g (arranged run) = λ run. child_same f g run (standing_same levels run) in
    let front = front_of-arranged xs in
    let back = back_of-arranged xs in
    same_node _ _ _ _ _ _ _ _
    (child (front_half (front_half xs)) ∙ sym (ap (child_of g) (ap front_of front ∙ front_of-arranged (front_half xs))))
    (child (back_half (front_half xs)) ∙ sym (ap (child_of g) (ap back_of front ∙ back_of-arranged (front_half xs))))
    (child (front_half (back_half xs)) ∙ sym (ap (child_of g) (ap front_of back ∙ front_of-arranged (back_half xs))))
    (child (back_half (back_half xs)) ∙ sym (ap (child_of g) (ap back_of back ∙ back_of-arranged (back_half xs))))

pub tree-standing : (xs : List (ℕ × FixBox)) → tree xs ≡ standing_within (length xs) (arranged xs)
tree-standing xs = standing_same (length xs) xs

-- the tree depends on the set of bodies alone
pub tree-permutation : (xs ys : List (ℕ × FixBox)) → AreApart xs → IsPermutation xs ys → tree xs ≡ tree ys
tree-permutation xs ys apart same =
    tree-standing xs ∙ ap (standing_within (length xs)) (arranged-permutation xs ys same apart)
    ∙ ap (λ n. standing_within n (arranged ys)) (sym (length_permutation xs ys same)) ∙ sym (tree-standing ys)
