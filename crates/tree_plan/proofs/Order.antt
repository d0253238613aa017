-- The order of bodies on an axis: what is in order stays the same list in whichever order it came.
use Rattle.std.proofs.Common.{◌≡◌, ℕ, ◌<◌, ◌≤◌, Bool, true, false, cond, ◌||◌, ◌&&◌, nat_eq, nat_lt, ◌⊎◌, inl, inr, List, [], ◌∷◌, ◌++◌, map, ℤ, ◌≤ℤ◌, ◌<ℤ◌, refl, sym, ◌∙◌, ap, subst, arith}
use Rattle.std.specs.Prelude.{int_lt, int_le}
use Rattle.std.specs.List.{AllByRecursion, IsDistinct}
use Rattle.std.specs.List.Sorted.{IsPermutation}
use Rattle.std.proofs.lemmas.Bool.{cases_Bool, eqb-false}
use Rattle.std.proofs.lemmas.Bool.Decides.{nat_tests}
use Rattle.std.proofs.lemmas.Int.{ints}
use Rattle.std.proofs.lemmas.List.Sorted.{IsPermutation-sym, IsPermutation-trans, IsPermutation-map}
use Rattle.std.proofs.lemmas.Map.Keys.{IsDistinct-head, IsDistinct-tail, IsDistinct-IsPermutation}
use Rattle.fixed_box.specs.declared.fix_box.FixBox.{FixBox}
use Rattle.scene_model.specs.Tree.{centre, comes_before, insert_in_order, in_order}
use Rattle.scene_model.proofs.Trees.{insert_permutes, in_order_permutes}
use Rattle.tree_plan.specs.Arranged.{AreApart}
use Rattle.tree_plan.proofs.Members.{In, in_permutation, all_in, all_from_in}

-- ---- the order of two numbers, where equal by two others

abbrev pub lex : ℤ → ℕ → ℤ → ℕ → Bool
lex x i y j = int_lt x y || (int_le x y && nat_lt i j)

lex-true : (x y : ℤ) (i j : ℕ) → lex x i y j ≡ true → (x <ℤ y) ⊎ ((x ≤ℤ y) × (i < j))
lex-true x y i j e = grind (arith, ints, nat_tests)

pub lex-from_less : (x y : ℤ) (i j : ℕ) → x <ℤ y → lex x i y j ≡ true
lex-from_less x y i j h = grind (arith, ints, nat_tests)

pub lex-from_equal : (x y : ℤ) (i j : ℕ) → x ≤ℤ y → i < j → lex x i y j ≡ true
lex-from_equal x y i j h k = grind (arith, ints, nat_tests)

lex-false : (x y : ℤ) (i j : ℕ) → lex x i y j ≡ false → (y ≤ℤ x) × (x ≤ℤ y → j ≤ i)
lex-false x y i j e = (grind (arith, ints, nat_tests), λ h. grind (arith, ints, nat_tests))

lex-irreflexive : (x : ℤ) (i : ℕ) → lex x i x i ≡ true → ⊥
lex-irreflexive x i e = elim (lex-true x x i i e) [ inl h ↦ omega (arith, ints) | inr h ↦ omega arith ]

lex-asymmetric : (x y : ℤ) (i j : ℕ) → lex x i y j ≡ true → lex y j x i ≡ true → ⊥
lex-asymmetric x y i j p q =
    elim (lex-true x y i j p) [ inl h ↦ elim (lex-true y x j i q) [ inl k ↦ omega (arith, ints) | inr k ↦ omega (arith, ints) ] | inr h ↦ elim (lex-true y x j i q) [ inl k ↦ omega (arith, ints) | inr k ↦ omega (arith, ints) ] ]

lex-transitive : (x y z : ℤ) (i j k : ℕ) → lex x i y j ≡ true → lex y j z k ≡ true → lex x i z k ≡ true
lex-transitive x y z i j k p q =
    elim (lex-true x y i j p) [
      | inl h ↦ elim (lex-true y z j k q) [ inl m ↦ lex-from_less x z i k (omega (arith, ints)) | inr m ↦ lex-from_less x z i k (omega (arith, ints)) ]
      | inr h ↦ elim (lex-true y z j k q) [ inl m ↦ lex-from_less x z i k (omega (arith, ints)) | inr m ↦ lex-from_equal x z i k (omega (arith, ints)) (omega arith) ]
    ]

lex-connected_by : (x y : ℤ) (i j : ℕ) → (y ≤ℤ x) × (x ≤ℤ y → j ≤ i) → (i ≡ j → ⊥) → (y <ℤ x) ⊎ (x ≤ℤ y) → lex y j x i ≡ true
lex-connected_by x y i j h apart (inl less) = lex-from_less y x j i less
lex-connected_by x y i j h apart (inr same) =
    let below : j ≤ i = h.1 same in
    let less : j < i = grind (arith, apart) in
    lex-from_equal y x j i h.0 less

less_or_equal : (x y : ℤ) → (y <ℤ x) ⊎ (x ≤ℤ y)
less_or_equal x y = elim (cases_Bool (int_lt y x)) [ inl e ↦ inl (grind (arith, ints)) | inr e ↦ inr (grind (arith, ints)) ]

lex-connected : (x y : ℤ) (i j : ℕ) → (i ≡ j → ⊥) → lex x i y j ≡ false → lex y j x i ≡ true
lex-connected x y i j apart e = lex-connected_by x y i j (lex-false x y i j e) apart (less_or_equal x y)

-- ---- bodies in order

abbrev pub Rises : ℕ → List (ℕ × FixBox) → Type 0
Rises axis [] = Unit {0}
Rises axis (x ∷ xs) = AllByRecursion (λ y. comes_before axis x y ≡ true) xs × Rises axis xs

comes_before-transitive : (axis : ℕ) (a b c : ℕ × FixBox) → comes_before axis a b ≡ true → comes_before axis b c ≡ true → comes_before axis a c ≡ true
comes_before-transitive axis a b c p q = lex-transitive (centre axis a) (centre axis b) (centre axis c) a.0 b.0 c.0 p q

-- no body of the list has this index
pub index_apart : (i : ℕ) (xs : List (ℕ × FixBox)) → AllByRecursion (λ j. nat_eq i j ≡ false) (map (λ b. b.0) xs) → (z : ℕ × FixBox) → In z xs → (i ≡ z.0 → ⊥)
index_apart i [] all z h = absurd h
index_apart i (x ∷ xs) all z (inl e) = λ same. let differ : nat_eq i x.0 ≡ false = all.0 in eqb-false i x.0 differ (same ∙ ap (λ b. b.0) e)
index_apart i (x ∷ xs) all z (inr h) = index_apart i xs all.1 z h

in_inserted : (axis : ℕ) (b : ℕ × FixBox) (xs : List (ℕ × FixBox)) (z : ℕ × FixBox) → In z (insert_in_order axis b xs) → In z (b ∷ xs)
in_inserted axis b xs z h =
    in_permutation (insert_in_order axis b xs) (b ∷ xs) z (IsPermutation-sym (b ∷ xs) (insert_in_order axis b xs) (insert_permutes axis b xs)) h

in_ordered : (axis : ℕ) (xs : List (ℕ × FixBox)) (z : ℕ × FixBox) → In z (in_order axis xs) → In z xs
in_ordered axis xs z h = in_permutation (in_order axis xs) xs z (IsPermutation-sym xs (in_order axis xs) (in_order_permutes axis xs)) h

after_first : (axis : ℕ) (b x : ℕ × FixBox) (xs : List (ℕ × FixBox)) → comes_before axis x b ≡ true → AllByRecursion (λ y. comes_before axis x y ≡ true) xs
    → (z : ℕ × FixBox) → In z (b ∷ xs) → comes_before axis x z ≡ true
after_first axis b x xs e all z (inl same) = subst (λ y. comes_before axis x y ≡ true) (sym same) e
after_first axis b x xs e all z (inr h) = all_in (λ y. comes_before axis x y ≡ true) xs all z h

Rises-insert_by : (axis : ℕ) (b x : ℕ × FixBox) (xs : List (ℕ × FixBox)) (test : Bool) → comes_before axis b x ≡ test → (b.0 ≡ x.0 → ⊥) → Rises axis (x ∷ xs)
    → Rises axis (insert_in_order axis b xs) → Rises axis (cond test (b ∷ x ∷ xs) (x ∷ insert_in_order axis b xs))
Rises-insert_by axis b x xs true e apart up rest =
    ((e, all_from_in _ xs (λ z h. comes_before-transitive axis b x z e (all_in _ xs up.0 z h))), up)
Rises-insert_by axis b x xs false e apart up rest =
    let before : comes_before axis x b ≡ true = lex-connected (centre axis b) (centre axis x) b.0 x.0 apart e in
    (all_from_in _ (insert_in_order axis b xs) (λ z h. after_first axis b x xs before up.0 z (in_inserted axis b xs z h)), rest)

Rises-insert : (axis : ℕ) (b : ℕ × FixBox) (xs : List (ℕ × FixBox)) → ((z : ℕ × FixBox) → In z xs → (b.0 ≡ z.0 → ⊥)) → Rises axis xs → Rises axis (insert_in_order axis b xs)
Rises-insert axis b [] apart up = (tt, tt)
Rises-insert axis b (x ∷ xs) apart up =
    Rises-insert_by axis b x xs (comes_before axis b x) refl (apart x (inl refl)) up (Rises-insert axis b xs (λ z h. apart z (inr h)) up.1)

Rises-in_order : (axis : ℕ) (xs : List (ℕ × FixBox)) → AreApart xs → Rises axis (in_order axis xs)
Rises-in_order axis [] apart = tt
Rises-in_order axis (b ∷ xs) apart =
    Rises-insert axis b (in_order axis xs) (λ z h. index_apart b.0 xs (IsDistinct-head nat_eq b.0 (map (λ b. b.0) xs) apart) z (in_ordered axis xs z h))
    (Rises-in_order axis xs (IsDistinct-tail nat_eq b.0 (map (λ b. b.0) xs) apart))

first_same : (axis : ℕ) (x y : ℕ × FixBox) → (x ≡ y) ⊎ (comes_before axis y x ≡ true) → (y ≡ x) ⊎ (comes_before axis x y ≡ true) → x ≡ y
first_same axis x y (inl e) q = e
first_same axis x y (inr p) (inl e) = sym e
first_same axis x y (inr p) (inr q) = absurd (lex-asymmetric (centre axis x) (centre axis y) x.0 y.0 q p)

first_or_after : (axis : ℕ) (y : ℕ × FixBox) (ys : List (ℕ × FixBox)) → AllByRecursion (λ z. comes_before axis y z ≡ true) ys → (x : ℕ × FixBox) → In x (y ∷ ys)
    → (x ≡ y) ⊎ (comes_before axis y x ≡ true)
first_or_after axis y ys all x (inl e) = inl e
first_or_after axis y ys all x (inr h) = inr (all_in _ ys all x h)

-- what comes after the first stands in the rest
in_rest : (axis : ℕ) (x y : ℕ × FixBox) (ys : List (ℕ × FixBox)) → x ≡ y → (z : ℕ × FixBox) → comes_before axis x z ≡ true → In z (y ∷ ys) → In z ys
in_rest axis x y ys same z after (inl e) =
    absurd (lex-irreflexive (centre axis x) x.0 (subst (λ w. comes_before axis x w ≡ true) (e ∙ sym same) after))
in_rest axis x y ys same z after (inr h) = h

-- two rising lists of the same bodies are one
rises_same : (axis : ℕ) (xs ys : List (ℕ × FixBox)) → Rises axis xs → Rises axis ys → ((z : ℕ × FixBox) → In z xs → In z ys) → ((z : ℕ × FixBox) → In z ys → In z xs) → xs ≡ ys
rises_same axis [] [] up up' there back = refl
rises_same axis [] (y ∷ ys) up up' there back = absurd (back y (inl refl))
rises_same axis (x ∷ xs) [] up up' there back = absurd (there x (inl refl))
rises_same axis (x ∷ xs) (y ∷ ys) up up' there back =
    let e : x ≡ y = first_same axis x y (first_or_after axis y ys up'.0 x (there x (inl refl))) (first_or_after axis x xs up.0 y (back y (inl refl))) in
    let rest : xs ≡ ys =
    rises_same axis xs ys up.1 up'.1
    (λ z h. in_rest axis x y ys e z (all_in _ xs up.0 z h) (there z (inr h)))
    (λ z h. in_rest axis y x xs (sym e) z (all_in _ ys up'.0 z h) (back z (inr h))) in
    cc

pub nat_eq-flips : (i j : ℕ) → nat_eq i j ≡ nat_eq j i
nat_eq-flips i j = grind (arith, nat_tests)

pub AreApart-permutation : (xs ys : List (ℕ × FixBox)) → IsPermutation xs ys → AreApart xs → AreApart ys
AreApart-permutation xs ys same apart =
    IsDistinct-IsPermutation nat_eq nat_eq-flips (map (λ b. b.0) xs) (map (λ b. b.0) ys) (IsPermutation-map (λ b. b.0) xs ys same) apart

-- what is put in order stays the same list in whichever order it came
pub in_order-permutation : (axis : ℕ) (xs ys : List (ℕ × FixBox)) → IsPermutation xs ys → AreApart xs → in_order axis xs ≡ in_order axis ys
in_order-permutation axis xs ys same apart =
    let there : IsPermutation (in_order axis xs) (in_order axis ys) =
    IsPermutation-trans (in_order axis xs) xs (in_order axis ys) (IsPermutation-sym xs (in_order axis xs) (in_order_permutes axis xs))
    (IsPermutation-trans xs ys (in_order axis ys) same (in_order_permutes axis ys)) in
    rises_same axis (in_order axis xs) (in_order axis ys) (Rises-in_order axis xs apart) (Rises-in_order axis ys (AreApart-permutation xs ys same apart))
    (λ z h. in_permutation (in_order axis xs) (in_order axis ys) z there h)
    (λ z h. in_permutation (in_order axis ys) (in_order axis xs) z (IsPermutation-sym (in_order axis xs) (in_order axis ys) there) h)

-- ---- where all of one list come before all of another

insert_front_by : (b u : ℕ × FixBox) (us vs ws xs : List (ℕ × FixBox)) (test : Bool) → xs ≡ ws ++ vs → cond test (b ∷ u ∷ (us ++ vs)) (u ∷ xs) ≡ cond test (b ∷ u ∷ us) (u ∷ ws) ++ vs
insert_front_by b u us vs ws xs true e = refl
insert_front_by b u us vs ws xs false e = ap (λ ys. u ∷ ys) e

insert_front : (axis : ℕ) (b : ℕ × FixBox) (us vs : List (ℕ × FixBox)) → AllByRecursion (λ v. comes_before axis b v ≡ true) vs
    → insert_in_order axis b (us ++ vs) ≡ insert_in_order axis b us ++ vs
insert_front axis b [] [] all = refl
insert_front axis b [] (v ∷ vs) all = ap (λ t. cond t (b ∷ v ∷ vs) (v ∷ insert_in_order axis b vs)) all.0
insert_front axis b (u ∷ us) vs all = insert_front_by b u us vs (insert_in_order axis b us) (insert_in_order axis b (us ++ vs)) (comes_before axis b u) (insert_front axis b us vs all)

pub in_order-append : (axis : ℕ) (us vs : List (ℕ × FixBox)) → ((u : ℕ × FixBox) → In u us → (v : ℕ × FixBox) → In v vs → comes_before axis u v ≡ true)
    → in_order axis (us ++ vs) ≡ in_order axis us ++ in_order axis vs
in_order-append axis [] vs before = refl
in_order-append axis (u ∷ us) vs before =
    ap (insert_in_order axis u) (in_order-append axis us vs (λ w h v k. before w (inr h) v k))
    ∙ insert_front axis u (in_order axis us) (in_order axis vs) (all_from_in _ (in_order axis vs) (λ v k. before u (inl refl) v (in_ordered axis vs v k)))

-- ---- parts of bodies that are apart

index_apart_append : (i : ℕ) (us vs : List (ℕ × FixBox)) → AllByRecursion (λ j. nat_eq i j ≡ false) (map (λ b. b.0) (us ++ vs)) → AllByRecursion (λ j. nat_eq i j ≡ false) (map (λ b. b.0) us)
index_apart_append i [] vs all = tt
index_apart_append i (u ∷ us) vs all = (all.0, index_apart_append i us vs all.1)

pub apart_left : (us vs : List (ℕ × FixBox)) → AreApart (us ++ vs) → AreApart us
unfolding IsDistinct
apart_left [] vs apart = tt
apart_left (u ∷ us) vs apart = (index_apart_append u.0 us vs apart.0, apart_left us vs apart.1)

pub apart_right : (us vs : List (ℕ × FixBox)) → AreApart (us ++ vs) → AreApart vs
apart_right [] vs apart = apart
apart_right (u ∷ us) vs apart = apart_right us vs (IsDistinct-tail nat_eq u.0 (map (λ b. b.0) (us ++ vs)) apart)
