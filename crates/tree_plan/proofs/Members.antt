-- Which elements a list has, in any order.
use Rattle.std.proofs.Common.{◌≡◌, ℕ, zero, suc, ◌<◌, ◌⊎◌, inl, inr, List, [], ◌∷◌, ◌++◌, length, get_or, refl, sym, subst, arith}
use Rattle.std.specs.List.{AllByRecursion, Contains}
use Rattle.std.specs.List.Sorted.{IsPermutation}
use Rattle.std.proofs.lemmas.List.Sorted.{Contains-permutation}

abbrev pub In : {X : Type 0} → X → List X → Type 0
In z [] = ⊥
In z (x ∷ xs) = (z ≡ x) ⊎ In z xs

in_at : {X : Type 0} (xs : List X) (z : X) (k : ℕ) → k < length xs → get_or xs k z ≡ z → In z xs
in_at [] z k within e = absurd (omega arith)
in_at (x ∷ xs) z zero within e = inl (sym e)
in_at (x ∷ xs) z (suc k) within e = inr (in_at xs z k (omega arith) e)

pub contains_from_in : {X : Type 0} (xs : List X) (z : X) → In z xs → Contains xs z
contains_from_in [] z h = absurd h
contains_from_in (x ∷ xs) z (inl e) = (0, omega arith, sym e)
contains_from_in (x ∷ xs) z (inr h) = let c = contains_from_in xs z h in (suc c.0, omega arith, c.2)

pub in_permutation : {X : Type 0} (xs ys : List X) (z : X) → IsPermutation xs ys → In z xs → In z ys
in_permutation xs ys z same h = let c = Contains-permutation xs ys z same (contains_from_in xs z h) in in_at ys z c.0 c.1 c.2

pub all_in : {X : Type 0} (P : X → Type 0) (xs : List X) → AllByRecursion P xs → (z : X) → In z xs → P z
all_in P [] all z h = absurd h
all_in P (x ∷ xs) all z (inl e) = subst P (sym e) all.0
all_in P (x ∷ xs) all z (inr h) = all_in P xs all.1 z h

pub all_from_in : {X : Type 0} (P : X → Type 0) (xs : List X) → ((z : X) → In z xs → P z) → AllByRecursion P xs
all_from_in P [] each = tt
all_from_in P (x ∷ xs) each = (each x (inl refl), all_from_in P xs (λ z h. each z (inr h)))

pub in_append_left : {X : Type 0} (xs ys : List X) (z : X) → In z xs → In z (xs ++ ys)
in_append_left [] ys z h = absurd h
in_append_left (x ∷ xs) ys z (inl e) = inl e
in_append_left (x ∷ xs) ys z (inr h) = inr (in_append_left xs ys z h)

pub in_append_right : {X : Type 0} (xs ys : List X) (z : X) → In z ys → In z (xs ++ ys)
in_append_right [] ys z h = h
in_append_right (x ∷ xs) ys z h = inr (in_append_right xs ys z h)

-- where an element stands
pub record Place {X : Type 0} (xs : List X) (z : X) : Type 0 where
  pub at : ℕ
  pub within : at < length xs
  pub is : (d : X) → get_or xs at d ≡ z

pub place_of : {X : Type 0} (xs : List X) (z : X) → In z xs → Place xs z
place_of [] z h = absurd h
place_of (x ∷ xs) z (inl e) = record { at = 0; within = omega arith; is = λ d. sym e }
place_of (x ∷ xs) z (inr h) = let p = place_of xs z h in record { at = suc p.at; within = omega (arith, p.within); is = p.is }

pub in_from_contains : {X : Type 0} (xs : List X) (z : X) → Contains xs z → In z xs
in_from_contains xs z c = in_at xs z c.0 c.1 c.2
