-- The halves of bodies depend on the set of them alone, and a list that is split has them at its two ends.
use Rattle.std.proofs.Common.{◌≡◌, ℕ, ◌+◌, ◌-◌, ◌*◌, ◌/◌, ◌<◌, ◌≤◌, true, nat_eq, ◌⊎◌, inl, inr, List, [], ◌∷◌, ◌++◌, length, get_or, take, drop, map, ℤ, pos, ◌+ℤ◌, sym, ◌∙◌, ap, subst, arith, take-append-drop}
use Rattle.std.specs.Prelude.{unsigned_abs}
use Rattle.std.specs.List.{All}
use Rattle.std.specs.List.Sorted.{IsPermutation}
use Rattle.std.proofs.lemmas.Bool.{cases_order}
use Rattle.std.proofs.lemmas.Int.{ints}
use Rattle.std.proofs.lemmas.List.{take-append-le, drop-append-le, take_all, drop_all, get_or-take, get_or-drop, length-take, length-drop}
use Rattle.std.proofs.lemmas.List.Sorted.{IsPermutation-sym, length_permutation, All-permutation}
use Rattle.std.proofs.lemmas.Map.Keys.{IsDistinct-head, IsDistinct-tail}
use Rattle.fixed_box.proofs.Words.{on_axis_in_range}
use Rattle.fixed_box.specs.declared.fix_box.FixBox.{FixBox}
use Rattle.scene_model.specs.Tree.{centre, comes_before, in_order, sorted, widest, front_half, back_half}
use Rattle.scene_model.proofs.Trees.{in_order_permutes}
use Rattle.tree_plan.specs.Axes.{IsCentre, key_of}
use Rattle.tree_plan.specs.Arranged.{AreApart, IsSplit}
use Rattle.tree_plan.proofs.Members.{In, in_append_left, in_append_right, place_of}
use Rattle.tree_plan.proofs.Order.{lex, lex-from_less, lex-from_equal, index_apart, in_order-permutation, in_order-append, AreApart-permutation}
use Rattle.tree_plan.proofs.Spreads.{widest_same}

sorted-permutation : (xs ys : List (ℕ × FixBox)) → IsPermutation xs ys → AreApart xs → sorted xs ≡ sorted ys
sorted-permutation xs ys same apart =
    ap (λ axis. in_order axis xs) (widest_same xs ys same) ∙ in_order-permutation (widest ys) xs ys same apart

half_same : (xs ys : List (ℕ × FixBox)) → IsPermutation xs ys → length xs - length xs / 2 ≡ length ys - length ys / 2
half_same xs ys same = ap (λ n. n - n / 2) (sym (length_permutation xs ys same))

-- the halves of bodies in another order are the same lists
pub front_half-permutation : (xs ys : List (ℕ × FixBox)) → IsPermutation xs ys → AreApart xs → front_half xs ≡ front_half ys
front_half-permutation xs ys same apart =
    ap (λ n. take n (sorted xs)) (half_same xs ys same) ∙ ap (take (length ys - length ys / 2)) (sorted-permutation xs ys same apart)

pub back_half-permutation : (xs ys : List (ℕ × FixBox)) → IsPermutation xs ys → AreApart xs → back_half xs ≡ back_half ys
back_half-permutation xs ys same apart =
    ap (λ n. drop n (sorted xs)) (half_same xs ys same) ∙ ap (drop (length ys - length ys / 2)) (sorted-permutation xs ys same apart)

-- ---- bodies of a list that is cut are apart

apart_across : (us vs : List (ℕ × FixBox)) → AreApart (us ++ vs) → (u : ℕ × FixBox) → In u us → (v : ℕ × FixBox) → In v vs → (u.0 ≡ v.0 → ⊥)
apart_across [] vs apart u h v k = absurd h
apart_across (x ∷ us) vs apart u (inl e) v k =
    λ same. index_apart x.0 (us ++ vs) (IsDistinct-head nat_eq x.0 (map (λ b. b.0) (us ++ vs)) apart) v (in_append_right us vs v k) (sym (ap (λ b. b.0) e) ∙ same)
apart_across (x ∷ us) vs apart u (inr h) v k = apart_across us vs (IsDistinct-tail nat_eq x.0 (map (λ b. b.0) (us ++ vs)) apart) u h v k

-- ---- keys

key_order : (x y : ℤ) (i j m n : ℕ) → pos m ≡ x +ℤ pos 16777216 → pos n ≡ y +ℤ pos 16777216 → i < 4294967296 → j < 4294967296 → (i ≡ j → ⊥) → m * 4294967296 + i ≤ n * 4294967296 + j
    → (m < n) ⊎ ((m ≡ n) ⊎ (n < m)) → lex x i y j ≡ true
key_order x y i j m n p q small small' apart h (inl less) = lex-from_less x y i j (omega (arith, ints))
key_order x y i j m n p q small small' apart h (inr (inl same)) =
    lex-from_equal x y i j (omega (arith, ints)) (elim (cases_order i j) [ inl e ↦ absurd (apart e) | inr k ↦ elim k [ inl l ↦ l | inr l ↦ absurd (omega arith) ] ])
key_order x y i j m n p q small small' apart h (inr (inr more)) = absurd (omega arith)

three : (m n : ℕ) → (m < n) ⊎ ((m ≡ n) ⊎ (n < m))
three m n = elim (cases_order m n) [ inl e ↦ inr (inl e) | inr k ↦ elim k [ inl l ↦ inl l | inr l ↦ inr (inr l) ] ]

centre_in_range : (axis : ℕ) (b : ℕ × FixBox) → IsCentre (centre axis b)
centre_in_range axis b =
    let lo = on_axis_in_range b.1.lo axis in
    let hi = on_axis_in_range b.1.hi axis in
    (omega (arith, ints), omega (arith, ints))

raised : (x : ℤ) → IsCentre x → pos (unsigned_abs (x +ℤ pos 16777216)) ≡ x +ℤ pos 16777216
raised x h = omega (arith, ints)

-- the lesser key comes first
before_from_key : (axis : ℕ) (u v : ℕ × FixBox) → u.0 < 4294967296 → v.0 < 4294967296 → (u.0 ≡ v.0 → ⊥) → key_of axis u ≤ key_of axis v → comes_before axis u v ≡ true
before_from_key axis u v small small' apart h =
    let m = unsigned_abs (centre axis u +ℤ pos 16777216) in
    let n = unsigned_abs (centre axis v +ℤ pos 16777216) in
    key_order (centre axis u) (centre axis v) u.0 v.0 m n (raised (centre axis u) (centre_in_range axis u)) (raised (centre axis v) (centre_in_range axis v)) small small' apart h (three m n)

-- ---- a split list

keys_across : (axis front : ℕ) (ys : List (ℕ × FixBox)) → front ≤ length ys → IsSplit axis front ys → (u : ℕ × FixBox) → In u (take front ys) → (v : ℕ × FixBox) → In v (drop front ys)
    → key_of axis u ≤ key_of axis v
keys_across axis front ys within split u h v k =
    let p = place_of (take front ys) u h in
    let q = place_of (drop front ys) v k in
    let at : p.at < front = omega (arith, p.within, length-take front ys) in
    let first : get_or ys p.at u ≡ u = sym (get_or-take front ys p.at u at) ∙ p.is u in
    let second : get_or ys (front + q.at) u ≡ v = sym (get_or-drop front ys q.at u) ∙ q.is u in
    subst (λ w. key_of axis w ≤ key_of axis v) first
    (subst (λ w. key_of axis (get_or ys p.at u) ≤ key_of axis w) second
    (split p.at (front + q.at) u at (omega arith) (omega (arith, q.within, length-drop front ys))))

in_order-cut : (axis front : ℕ) (ys : List (ℕ × FixBox)) → front ≤ length ys → AreApart ys → All (λ b. b.0 < 4294967296) ys → IsSplit axis front ys
    → in_order axis ys ≡ in_order axis (take front ys) ++ in_order axis (drop front ys)
in_order-cut axis front ys within apart small split =
    let us = take front ys in
    let vs = drop front ys in
    let whole : us ++ vs ≡ ys = take-append-drop front ys in
    let apart' : AreApart (us ++ vs) = subst AreApart (sym whole) apart in
    let small' : (z : ℕ × FixBox) → In z (us ++ vs) → z.0 < 4294967296 =
    λ z h. let p = place_of ys z (subst (λ ws. In z ws) whole h) in subst (λ w. w.0 < 4294967296) (p.is z) (small p.at z p.within) in
    ap (in_order axis) (sym whole)
    ∙ in_order-append axis us vs
    (λ u h v k. before_from_key axis u v (small' u (in_append_left us vs u h)) (small' v (in_append_right us vs v k)) (apart_across us vs apart' u h v k) (keys_across axis front ys within split u h v k))

record HalvesAt (xs ys : List (ℕ × FixBox)) (axis front : ℕ) : Type 0 where
  cut : sorted xs ≡ in_order axis (take front ys) ++ in_order axis (drop front ys)
  size : length (in_order axis (take front ys)) ≡ front

halves_at : (xs ys : List (ℕ × FixBox)) (axis front : ℕ) → axis ≡ widest xs → front ≤ length ys → AreApart xs → All (λ b. b.0 < 4294967296) xs → IsPermutation xs ys → IsSplit axis front ys
    → HalvesAt xs ys axis front
halves_at xs ys axis front e within apart small same split = record {
  cut = ap (λ k. in_order k xs) (sym e) ∙ in_order-permutation axis xs ys same apart
      ∙ in_order-cut axis front ys within (AreApart-permutation xs ys same apart) (All-permutation (λ b. b.0 < 4294967296) xs ys same small) split;
  size = omega (arith, length_permutation (take front ys) (in_order axis (take front ys)) (in_order_permutes axis (take front ys)), length-take front ys);
}

pub front_from_split : (xs ys : List (ℕ × FixBox)) (axis front : ℕ) → axis ≡ widest xs → front ≡ length xs - length xs / 2 → AreApart xs → All (λ b. b.0 < 4294967296) xs → IsPermutation xs ys
    → IsSplit axis front ys → IsPermutation (front_half xs) (take front ys)
front_from_split xs ys axis front e size apart small same split =
    let within : front ≤ length ys = omega (arith, length_permutation xs ys same) in
    let h = halves_at xs ys axis front e within apart small same split in
    let us = in_order axis (take front ys) in
    let half : front_half xs ≡ us =
    ap (λ n. take n (sorted xs)) (sym size) ∙ ap (take front) h.cut ∙ take-append-le front us (in_order axis (drop front ys)) (omega (arith, h.size)) ∙ take_all front us (omega (arith, h.size)) in
    subst (λ (ws : List (ℕ × FixBox)). IsPermutation ws (take front ys)) (sym half) (IsPermutation-sym (take front ys) us (in_order_permutes axis (take front ys)))

pub back_from_split : (xs ys : List (ℕ × FixBox)) (axis front : ℕ) → axis ≡ widest xs → front ≡ length xs - length xs / 2 → AreApart xs → All (λ b. b.0 < 4294967296) xs → IsPermutation xs ys
    → IsSplit axis front ys → IsPermutation (back_half xs) (drop front ys)
back_from_split xs ys axis front e size apart small same split =
    let within : front ≤ length ys = omega (arith, length_permutation xs ys same) in
    let h = halves_at xs ys axis front e within apart small same split in
    let us = in_order axis (take front ys) in
    let vs = in_order axis (drop front ys) in
    let half : back_half xs ≡ vs =
    ap (λ n. drop n (sorted xs)) (sym size) ∙ ap (drop front) h.cut ∙ drop-append-le front us vs (omega (arith, h.size)) ∙ ap (λ ws. ws ++ vs) (drop_all front us (omega (arith, h.size))) in
    subst (λ (ws : List (ℕ × FixBox)). IsPermutation ws (drop front ys)) (sym half) (IsPermutation-sym (drop front ys) vs (in_order_permutes axis (drop front ys)))
