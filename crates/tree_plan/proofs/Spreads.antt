-- The spread of some bodies, and so their widest axis, depends on the set of them alone.
use Rattle.std.proofs.Common.{◌≡◌, ℕ, Bool, true, false, cond, ◌⊎◌, inl, inr, List, [], ◌∷◌, map, fold, ℤ, ◌≤ℤ◌, ◌-ℤ◌, refl, sym, ◌∙◌, ap, subst, arith}
use Rattle.std.specs.Prelude.{int_lt}
use Rattle.std.specs.Int.{int_max, int_min}
use Rattle.std.specs.List.Sorted.{IsPermutation}
use Rattle.std.proofs.lemmas.List.Sorted.{IsPermutation-sym}
use Rattle.std.proofs.lemmas.Int.{ints, clamps}
use Rattle.fixed_box.specs.declared.fix_box.FixBox.{FixBox}
use Rattle.scene_model.specs.Tree.{centre, spread, wider, widest}
use Rattle.tree_plan.proofs.Members.{In, in_permutation}

-- what a choice of one of two numbers has to do with an order
record Chooses (f : ℤ → ℤ → ℤ) (R : ℤ → ℤ → Type 0) : Type 0 where
  reflexive : (x : ℤ) → R x x
  transitive : (x y z : ℤ) → R x y → R y z → R x z
  antisymmetric : (x y : ℤ) → R x y → R y x → x ≡ y
  first : (x y : ℤ) → R x (f x y)
  second : (x y : ℤ) → R y (f x y)
  one : (x y : ℤ) → (f x y ≡ x) ⊎ (f x y ≡ y)

bounds_start : (f : ℤ → ℤ → ℤ) (R : ℤ → ℤ → Type 0) → Chooses f R → (g : ℕ × FixBox → ℤ) (a : ℤ) (xs : List (ℕ × FixBox)) → R a (fold f a (map g xs))
bounds_start f R c g a [] = c.reflexive a
bounds_start f R c g a (x ∷ xs) = c.transitive a (f a (g x)) _ (c.first a (g x)) (bounds_start f R c g (f a (g x)) xs)

bounds_all : (f : ℤ → ℤ → ℤ) (R : ℤ → ℤ → Type 0) → Chooses f R → (g : ℕ × FixBox → ℤ) (a : ℤ) (xs : List (ℕ × FixBox)) (z : ℕ × FixBox) → In z xs → R (g z) (fold f a (map g xs))
bounds_all f R c g a [] z h = absurd h
bounds_all f R c g a (x ∷ xs) z (inl e) =
    c.transitive (g z) (f a (g x)) _ (subst (λ y. R (g y) (f a (g x))) (sym e) (c.second a (g x))) (bounds_start f R c g (f a (g x)) xs)
bounds_all f R c g a (x ∷ xs) z (inr h) = bounds_all f R c g (f a (g x)) xs z h

record Met (g : ℕ × FixBox → ℤ) (xs : List (ℕ × FixBox)) (v : ℤ) : Type 0 where
  by : ℕ × FixBox
  among : In by xs
  is : v ≡ g by

met_more : (g : ℕ × FixBox → ℤ) (x : ℕ × FixBox) (xs : List (ℕ × FixBox)) (v : ℤ) → Met g xs v → Met g (x ∷ xs) v
met_more g x xs v m = record { by = m.by; among = inr m.among; is = m.is }

reached_by : (f : ℤ → ℤ → ℤ) (g : ℕ × FixBox → ℤ) (a : ℤ) (x : ℕ × FixBox) (xs : List (ℕ × FixBox)) (v : ℤ) → (v ≡ f a (g x)) ⊎ Met g xs v → (f a (g x) ≡ a) ⊎ (f a (g x) ≡ g x)
    → (v ≡ a) ⊎ Met g (x ∷ xs) v
reached_by f g a x xs v (inr m) one = inr (met_more g x xs v m)
reached_by f g a x xs v (inl e) (inl p) = inl (e ∙ p)
reached_by f g a x xs v (inl e) (inr p) = inr (record { by = x; among = inl refl; is = e ∙ p })

reached : (f : ℤ → ℤ → ℤ) (R : ℤ → ℤ → Type 0) → Chooses f R → (g : ℕ × FixBox → ℤ) (a : ℤ) (xs : List (ℕ × FixBox)) → (fold f a (map g xs) ≡ a) ⊎ Met g xs (fold f a (map g xs))
reached f R c g a [] = inl refl
reached f R c g a (x ∷ xs) = reached_by f g a x xs _ (reached f R c g (f a (g x)) xs) (c.one a (g x))

met : (f : ℤ → ℤ → ℤ) (R : ℤ → ℤ → Type 0) → Chooses f R → (g : ℕ × FixBox → ℤ) (x : ℕ × FixBox) (xs : List (ℕ × FixBox)) → Met g (x ∷ xs) (fold f (g x) (map g xs))
met f R c g x xs = elim (reached f R c g (g x) xs) [ inl e ↦ record { by = x; among = inl refl; is = e } | inr m ↦ met_more g x xs _ m ]

bounds : (f : ℤ → ℤ → ℤ) (R : ℤ → ℤ → Type 0) → Chooses f R → (g : ℕ × FixBox → ℤ) (x : ℕ × FixBox) (xs : List (ℕ × FixBox)) (z : ℕ × FixBox) → In z (x ∷ xs) → R (g z) (fold f (g x) (map g xs))
bounds f R c g x xs z (inl e) = subst (λ y. R (g y) (fold f (g x) (map g xs))) (sym e) (bounds_start f R c g (g x) xs)
bounds f R c g x xs z (inr h) = bounds_all f R c g (g x) xs z h

bounds_met : (f : ℤ → ℤ → ℤ) (R : ℤ → ℤ → Type 0) → Chooses f R → (g : ℕ × FixBox → ℤ) (x y : ℕ × FixBox) (xs ys : List (ℕ × FixBox)) → ((z : ℕ × FixBox) → In z (x ∷ xs) → In z (y ∷ ys))
    → (v : ℤ) → Met g (x ∷ xs) v → R v (fold f (g y) (map g ys))
bounds_met f R c g x y xs ys there v m =
    subst (λ w. R w (fold f (g y) (map g ys))) (sym m.is) (bounds f R c g y ys m.by (there m.by m.among))

-- two lists of the same elements give one number
chosen_same : (f : ℤ → ℤ → ℤ) (R : ℤ → ℤ → Type 0) → Chooses f R → (g : ℕ × FixBox → ℤ) (x y : ℕ × FixBox) (xs ys : List (ℕ × FixBox))
    → ((z : ℕ × FixBox) → In z (x ∷ xs) → In z (y ∷ ys)) → ((z : ℕ × FixBox) → In z (y ∷ ys) → In z (x ∷ xs)) → fold f (g x) (map g xs) ≡ fold f (g y) (map g ys)
chosen_same f R c g x y xs ys there back =
    c.antisymmetric _ _ (bounds_met f R c g x y xs ys there _ (met f R c g x xs)) (bounds_met f R c g y x ys xs back _ (met f R c g y ys))

cond_one : (b : Bool) (x y : ℤ) → (cond b x y ≡ x) ⊎ (cond b x y ≡ y)
cond_one true x y = inl refl
cond_one false x y = inr refl

cond_other : (b : Bool) (x y : ℤ) → (cond b x y ≡ y) ⊎ (cond b x y ≡ x)
cond_other true x y = inr refl
cond_other false x y = inl refl

greatest_chooses : Chooses int_max (λ x y. x ≤ℤ y)
greatest_chooses = record {
  reflexive = λ x. omega (arith, ints);
  transitive = λ x y z p q. omega (arith, ints);
  antisymmetric = λ x y p q. omega (arith, ints);
  first = λ x y. omega (arith, ints, clamps);
  second = λ x y. omega (arith, ints, clamps);
  one = λ x y. cond_one (int_lt y x) x y;
}

least_chooses : Chooses int_min (λ x y. y ≤ℤ x)
least_chooses = record {
  reflexive = λ x. omega (arith, ints);
  transitive = λ x y z p q. omega (arith, ints);
  antisymmetric = λ x y p q. omega (arith, ints);
  first = λ x y. omega (arith, ints, clamps);
  second = λ x y. omega (arith, ints, clamps);
  one = λ x y. cond_other (int_lt y x) y x;
}

spread_same : (axis : ℕ) (xs ys : List (ℕ × FixBox)) → ((z : ℕ × FixBox) → In z xs → In z ys) → ((z : ℕ × FixBox) → In z ys → In z xs) → spread axis xs ≡ spread axis ys
spread_same axis [] [] there back = refl
spread_same axis [] (y ∷ ys) there back = absurd (back y (inl refl))
spread_same axis (x ∷ xs) [] there back = absurd (there x (inl refl))
spread_same axis (x ∷ xs) (y ∷ ys) there back =
    let most = chosen_same int_max (λ x y. x ≤ℤ y) greatest_chooses (centre axis) x y xs ys there back in
    let least = chosen_same int_min (λ x y. y ≤ℤ x) least_chooses (centre axis) x y xs ys there back in
    ap (λ m. m -ℤ fold int_min (centre axis x) (map (centre axis) xs)) most ∙ ap (λ m. fold int_max (centre axis y) (map (centre axis) ys) -ℤ m) least

wider_same : (xs ys : List (ℕ × FixBox)) (first second : ℕ) → ((axis : ℕ) → spread axis xs ≡ spread axis ys) → wider xs first second ≡ wider ys first second
wider_same xs ys first second same =
    ap (λ s. cond (int_lt s (spread second xs)) second first) (same first) ∙ ap (λ s. cond (int_lt (spread first ys) s) second first) (same second)

pub widest_same : (xs ys : List (ℕ × FixBox)) → IsPermutation xs ys → widest xs ≡ widest ys
widest_same xs ys perm =
    let same : (axis : ℕ) → spread axis xs ≡ spread axis ys =
    λ axis. spread_same axis xs ys (λ z h. in_permutation xs ys z perm h) (λ z h. in_permutation ys xs z (IsPermutation-sym xs ys perm) h) in
    ap (λ k. wider xs k 2) (wider_same xs ys 0 1 same) ∙ wider_same xs ys (wider ys 0 1) 2 same
