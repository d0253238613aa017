-- Lists: their elements, what holds of all pairs of them, what is collected of them, and lists that are parts of others.
use Rattle.std.proofs.Common.{◌≡◌, ◌≢◌, ◌⊎◌, ℕ, zero, suc, ◌<◌, List, [], ◌∷◌, ◌++◌, Bool, true, false, cond, Option, Some, None, Contains, AllPairs, get_or, set, refl, ap, sym, ◌∙◌, subst, inl, inr, arith}
use Rattle.std.specs.Prelude.{All, filter, filter_map, find, flat_map, map}
use Rattle.std.specs.List.{cons_option}
use Rattle.std.proofs.lemmas.Bool.{cases_lt, false≢true}
use Rattle.std.proofs.lemmas.Grind.{flat_map-append}
use Rattle.std.proofs.lemmas.List.{append-nil}
use Rattle.std.proofs.lemmas.List.Kept.{AllPairs-cons}
use Rattle.std.proofs.lemmas.List.Elements.{Contains-get_or, Contains-append_left, Contains-append_right, Contains-append_cases}
use mathlib.Core.Option.{some, some-injective, some-ne-none}
use lib.ListN.{get_elem?}
use Rattle.core_state.proofs.Opening.{none_in}
use Rattle.core_state.proofs.Beginning.{contains_flat, cases_cons, contains_first}
use Rattle.core_state.proofs.Lookups.{at_set}
use Rattle.core_guard.proofs.NodesLeft.{flat_from}

-- ---- elements

-- what is an element later is one
pub contains_later : {X : Type 0} (x : X) (xs : List X) (y : X) → Contains xs y → Contains (x ∷ xs) y
contains_later x xs y h = let below = h.1 in (suc h.0, omega arith, h.2)

-- what stands at a place is an element
pub contains_at : {X : Type 0} (xs : List X) (i : ℕ) (x : X) → get_elem? xs i ≡ some x → Contains xs x
contains_at [] i x at = absurd (some-ne-none x (sym at))
contains_at (z ∷ xs) zero x at = subst (λ (y : _). Contains (z ∷ xs) y) (some-injective z x at) (contains_first z xs)
contains_at (z ∷ xs) (suc i) x at = contains_later z xs x (contains_at xs i x at)

-- and an element stands at some place
pub at_contains : {X : Type 0} (xs : List X) (x : X) → Contains xs x → (i : ℕ) × (get_elem? xs i ≡ some x)
at_contains [] x h = absurd (none_in x h)
at_contains (z ∷ xs) x h =
    elim (cases_cons z xs x h) [
      | inl same ↦ (zero, ap some same)
      | inr later ↦ let t = at_contains xs x later in (suc t.0, t.1)
    ]

-- the images of elements are those of the mapped list
pub contains_map : {X Y : Type 0} (f : X → Y) (xs : List X) (x : X) → Contains xs x → Contains (map f xs) (f x)
contains_map f [] x h = absurd (none_in x h)
contains_map {Y = Y} f (z ∷ xs) x h =
    elim (cases_cons z xs x h) [
      | inl same ↦ subst (λ (y : Y). Contains (map f (z ∷ xs)) y) (ap f same) (contains_first (f z) (map f xs))
      | inr later ↦ contains_later (f z) (map f xs) (f x) (contains_map f xs x later)
    ]

pub map_from : {X Y : Type 0} (f : X → Y) (xs : List X) (y : Y) → Contains (map f xs) y → (x : X) × Contains xs x × (f x ≡ y)
map_from f [] y h = absurd (none_in y h)
map_from f (z ∷ xs) y h =
    elim (cases_cons (f z) (map f xs) y h) [
      | inl same ↦ (z, contains_first z xs, same)
      | inr later ↦ let t = map_from f xs y later in (t.0, contains_later z xs t.0 t.1, t.2)
    ]

-- what is left by a test was an element and passes it
pub filter_from : {X : Type 0} (p : X → Bool) (xs : List X) (x : X) → Contains (filter p xs) x → Contains xs x × (p x ≡ true)
filter_from p [] x h = absurd (none_in x h)
filter_from {X = X} p (z ∷ xs) x h = go (p z) refl h (filter_from p xs x)
  where
    go : (b : Bool) → p z ≡ b → Contains (cond b (z ∷ filter p xs) (filter p xs)) x → (Contains (filter p xs) x → Contains xs x × (p x ≡ true)) → Contains (z ∷ xs) x × (p x ≡ true)
    go true e among further =
        elim (cases_cons z (filter p xs) x among) [
          | inl same ↦ (subst (λ (y : X). Contains (z ∷ xs) y) same (contains_first z xs), ap p (sym same) ∙ e)
          | inr later ↦ let t = further later in (contains_later z xs x t.0, t.1)
        ]
    go false e among further = let t = further among in (contains_later z xs x t.0, t.1)

module _ {X : Type 0} where
  found_by : (p : X → Bool) (b : Bool) (x : X) (rest : Option X) (y : X) → p x ≡ b → ((z : X) → x ≡ z → p z ≡ true → z ≡ y) → (b ≡ false → rest ≡ Some y) → cond b (Some x) rest ≡ Some y
  found_by p true x rest y e one later = ap Some (one x refl e)
  found_by p false x rest y e one later = later refl

  -- the only element that passes a test is the one that is found
  pub find-only : (p : X → Bool) (xs : List X) (y : X) → Contains xs y → p y ≡ true → ((z : X) → Contains xs z → p z ≡ true → z ≡ y) → find p xs ≡ Some y
  find-only p [] y h test one = absurd (none_in y h)
  find-only p (x ∷ xs) y h test one =
      found_by p (p x) x (find p xs) y refl (λ z same passes. one z (subst (λ (w : X). Contains (x ∷ xs) w) same (contains_first x xs)) passes)
      (λ fails. find-only p xs y (other fails) test (λ z among passes. one z (contains_later x xs z among) passes))
    where
      other : p x ≡ false → Contains xs y
      other fails =
          elim (cases_cons x xs y h) [
            | inl same ↦ absurd (false≢true (sym fails ∙ (ap p same ∙ test)))
            | inr later ↦ later
          ]

-- ---- pairs

module _ {X : Type 0} (R : X → X → Type 0) where
  pub pairs-first : (x : X) (xs : List X) → AllPairs R (x ∷ xs) → (y : X) → Contains xs y → R x y
  pairs-first x xs h y c = let below = c.1 in subst (R x) c.2 (h zero (suc c.0) y (omega arith) (omega arith))

  pub pairs-rest : (x : X) (xs : List X) → AllPairs R (x ∷ xs) → AllPairs R xs
  pairs-rest x xs h i j d less below = h (suc i) (suc j) d (omega arith) (omega arith)

  pub pairs-cons : (x : X) (xs : List X) → ((y : X) → Contains xs y → R x y) → AllPairs R xs → AllPairs R (x ∷ xs)
  pairs-cons x xs each h = AllPairs-cons R x xs (λ k d below. each (get_or xs k d) (Contains-get_or xs k d below)) h

  pub pairs-none : AllPairs R []
  pairs-none i j d less below = absurd (omega arith)

  -- two elements, by their places
  pub pairs-at : (xs : List X) (i j : ℕ) (x y : X) → AllPairs R xs → i < j → get_elem? xs i ≡ some x → get_elem? xs j ≡ some y → R x y
  pairs-at [] i j x y h less at other = absurd (some-ne-none x (sym at))
  pairs-at (z ∷ xs) i zero x y h less at other = absurd (omega arith)
  pairs-at (z ∷ xs) zero (suc j) x y h less at other = subst (λ (a : X). R a y) (some-injective z x at) (pairs-first z xs h y (contains_at xs j y other))
  pairs-at (z ∷ xs) (suc i) (suc j) x y h less at other = pairs-at xs i j x y (pairs-rest z xs h) (omega arith) at other

  -- two elements are one, or they are a pair one way or the other
  pub pairs-two : (xs : List X) (x y : X) → AllPairs R xs → Contains xs x → Contains xs y → (x ≡ y) ⊎ (R x y ⊎ R y x)
  pairs-two [] x y h one other = absurd (none_in x one)
  pairs-two (z ∷ xs) x y h one other =
      elim (cases_cons z xs x one) [
        | inl a ↦
            elim (cases_cons z xs y other) [
              | inl b ↦ inl (sym a ∙ b)
              | inr b ↦ inr (inl (subst (λ (w : X). R w y) a (pairs-first z xs h y b)))
            ]
        | inr a ↦
            elim (cases_cons z xs y other) [
              | inl b ↦ inr (inr (subst (λ (w : X). R w x) b (pairs-first z xs h x a)))
              | inr b ↦ pairs-two xs x y (pairs-rest z xs h) a b
            ]
      ]

  -- two lists put together
  pub pairs-left : (xs ys : List X) → AllPairs R (xs ++ ys) → AllPairs R xs
  pairs-left [] ys h = pairs-none
  pairs-left (x ∷ xs) ys h = pairs-cons x xs (λ y c. pairs-first x (xs ++ ys) h y (Contains-append_left xs ys y c)) (pairs-left xs ys (pairs-rest x (xs ++ ys) h))

  pub pairs-right : (xs ys : List X) → AllPairs R (xs ++ ys) → AllPairs R ys
  pairs-right [] ys h = h
  pairs-right (x ∷ xs) ys h = pairs-right xs ys (pairs-rest x (xs ++ ys) h)

  pub pairs-across : (xs ys : List X) → AllPairs R (xs ++ ys) → (x y : X) → Contains xs x → Contains ys y → R x y
  pairs-across [] ys h x y first later = absurd (none_in x first)
  pairs-across (z ∷ xs) ys h x y first later =
      elim (cases_cons z xs x first) [
        | inl same ↦ subst (λ (a : X). R a y) same (pairs-first z (xs ++ ys) h y (Contains-append_right xs ys y later))
        | inr further ↦ pairs-across xs ys (pairs-rest z (xs ++ ys) h) x y further later
      ]

  pub pairs-append : (xs ys : List X) → AllPairs R xs → AllPairs R ys → ((x y : X) → Contains xs x → Contains ys y → R x y) → AllPairs R (xs ++ ys)
  pairs-append [] ys h k across = k
  pairs-append (x ∷ xs) ys h k across =
      pairs-cons x (xs ++ ys)
      (λ y c.
      elim (Contains-append_cases xs ys y c) [
        | inl here ↦ pairs-first x xs h y here
        | inr later ↦ across x y (contains_first x xs) later
      ])
      (pairs-append xs ys (pairs-rest x xs h) k (λ a b c d. across a b (contains_later x xs a c) d))

-- the images are apart where the elements are
pub pairs-map : {X Y : Type 0} (f : X → Y) (R : X → X → Type 0) (Q : Y → Y → Type 0) (xs : List X) → ((a b : X) → R a b → Q (f a) (f b)) → AllPairs R xs → AllPairs Q (map f xs)
pairs-map f R Q [] keeps h = pairs-none Q
pairs-map {Y = Y} f R Q (x ∷ xs) keeps h =
    pairs-cons Q (f x) (map f xs)
    (λ y c. let t = map_from f xs y c in subst (Q (f x)) t.2 (keeps x t.0 (pairs-first R x xs h t.0 t.1)))
    (pairs-map f R Q xs keeps (pairs-rest R x xs h))

-- ---- what is collected of a list

module _ {X Y : Type 0} (f : X → List Y) (R : Y → Y → Type 0) where
  -- what is collected of one element
  pub flat-own : (xs : List X) (i : ℕ) (x : X) → AllPairs R (flat_map f xs) → get_elem? xs i ≡ some x → AllPairs R (f x)
  flat-own [] i x h at = absurd (some-ne-none x (sym at))
  flat-own (z ∷ xs) zero x h at = subst (λ (y : X). AllPairs R (f y)) (some-injective z x at) (pairs-left R (f z) (flat_map f xs) h)
  flat-own (z ∷ xs) (suc i) x h at = flat-own xs i x (pairs-right R (f z) (flat_map f xs) h) at

  -- and of two
  pub flat-across : (xs : List X) (i j : ℕ) (x y : X) (u v : Y) → AllPairs R (flat_map f xs) → i < j → get_elem? xs i ≡ some x → get_elem? xs j ≡ some y → Contains (f x) u → Contains (f y) v → R u v
  flat-across [] i j x y u v h less at other first later = absurd (some-ne-none x (sym at))
  flat-across (z ∷ xs) i zero x y u v h less at other first later = absurd (omega arith)
  flat-across (z ∷ xs) zero (suc j) x y u v h less at other first later =
      pairs-across R (f z) (flat_map f xs) h u v (subst (λ (a : X). Contains (f a) u) (sym (some-injective z x at)) first) (contains_flat f xs y v (contains_at xs j y other) later)
  flat-across (z ∷ xs) (suc i) (suc j) x y u v h less at other first later = flat-across xs i j x y u v (pairs-right R (f z) (flat_map f xs) h) (omega arith) at other first later

  -- in either order
  pub flat-apart : (xs : List X) (i j : ℕ) (x y : X) (u v : Y) → ((a b : Y) → R a b → R b a) → AllPairs R (flat_map f xs) → i ≢ j → get_elem? xs i ≡ some x → get_elem? xs j ≡ some y
      → Contains (f x) u → Contains (f y) v → R u v
  flat-apart xs i j x y u v turns h apart at other first later =
      elim (cases_lt i j) [
        | inl less ↦ flat-across xs i j x y u v h less at other first later
        | inr more ↦ turns v u (flat-across xs j i y x v u h (omega arith) other at later first)
      ]

  -- the other way round
  pub flat-pairs : (xs : List X) → ((i : ℕ) (x : X) → get_elem? xs i ≡ some x → AllPairs R (f x))
      → ((i j : ℕ) (x y : X) (u v : Y) → i < j → get_elem? xs i ≡ some x → get_elem? xs j ≡ some y → Contains (f x) u → Contains (f y) v → R u v) → AllPairs R (flat_map f xs)
  flat-pairs [] own across = pairs-none R
  flat-pairs (x ∷ xs) own across =
      pairs-append R (f x) (flat_map f xs) (own 0 x refl) (flat-pairs xs (λ i y at. own (suc i) y at) (λ i j y z u v less at other. across (suc i) (suc j) y z u v (omega arith) at other))
      (λ u v first later.
      let t = flat_from f xs v later in
      let a = at_contains xs t.0 t.1 in
      across 0 (suc a.0) x t.0 u v (omega arith) refl a.1 first t.2)

  -- where one element is changed
  pub flat-changed : (xs : List X) (i : ℕ) (y : X) → AllPairs R (flat_map f xs) → AllPairs R (f y)
      → ((j : ℕ) (z : X) (u v : Y) → j ≢ i → get_elem? xs j ≡ some z → Contains (f y) u → Contains (f z) v → R u v × R v u) → AllPairs R (flat_map f (set xs i y))
  flat-changed xs i y h new apart =
      flat-pairs (set xs i y)
      (λ j z at.
      elim (at_set xs i j y z at) [
        | inl t ↦ subst (λ (a : X). AllPairs R (f a)) t.1 new
        | inr t ↦ flat-own xs j z h t.1
      ])
      (λ j k a b u v less at other first later.
      elim (at_set xs i j y a at) [
        | inl s ↦ elim (at_set xs i k y b other) [
          | inl t ↦ let one = s.0 in let two = t.0 in absurd (omega arith)
          | inr t ↦ (apart k b u v t.0 t.1 (subst (λ (c : X). Contains (f c) u) (sym s.1) first) later).0
        ]
        | inr s ↦ elim (at_set xs i k y b other) [
          | inl t ↦ (apart j a v u s.0 s.1 (subst (λ (c : X). Contains (f c) v) (sym t.1) later) first).1
          | inr t ↦ flat-across xs j k a b u v h less s.1 t.1 first later
        ]
      ])

-- what is collected once is of one element
pub flat-once : {X : Type 0} (f : X → List ℕ) (xs : List X) (x y : X) (n : ℕ) → AllPairs (λ a b. a ≢ b) (flat_map f xs) → Contains xs x → Contains xs y → Contains (f x) n → Contains (f y) n → x ≡ y
flat-once f [] x y n h one other a b = absurd (none_in x one)
flat-once {X = X} f (z ∷ xs) x y n h one other a b =
    elim (cases_cons z xs x one) [
      | inl p ↦
          elim (cases_cons z xs y other) [
            | inl q ↦ sym p ∙ q
            | inr q ↦ absurd (pairs-across (λ a b. a ≢ b) (f z) (flat_map f xs) h n n (subst (λ (w : X). Contains (f w) n) (sym p) a) (contains_flat f xs y n q b) refl)
          ]
      | inr p ↦
          elim (cases_cons z xs y other) [
            | inl q ↦ absurd (pairs-across (λ a b. a ≢ b) (f z) (flat_map f xs) h n n (subst (λ (w : X). Contains (f w) n) (sym q) b) (contains_flat f xs x n p a) refl)
            | inr q ↦ flat-once f xs x y n (pairs-right (λ a b. a ≢ b) (f z) (flat_map f xs) h) p q a b
          ]
    ]

-- collected twice is collected at once
pub flat-flat : {X Y Z : Type 0} (f : X → List Y) (g : Y → List Z) (xs : List X) → flat_map g (flat_map f xs) ≡ flat_map (λ x. flat_map g (f x)) xs
flat-flat f g [] = refl
flat-flat {Z = Z} f g (x ∷ xs) = flat_map-append g (f x) (flat_map f xs) ∙ ap (λ (l : List Z). flat_map g (f x) ++ l) (flat-flat f g xs)

-- and what is collected of what is kept
abbrev pub kept_list : {Y Z : Type 0} → (Y → List Z) → Option Y → List Z
kept_list g None = []
kept_list g (Some y) = g y

pub flat-kept : {X Y Z : Type 0} (f : X → Option Y) (g : Y → List Z) (xs : List X) → flat_map g (filter_map f xs) ≡ flat_map (λ x. kept_list g (f x)) xs
flat-kept f g [] = refl
flat-kept {Y = Y} {Z = Z} f g (x ∷ xs) = go (f x) (flat-kept f g xs)
  where
    go : (o : Option Y) → flat_map g (filter_map f xs) ≡ flat_map (λ z. kept_list g (f z)) xs → flat_map g (cons_option o (filter_map f xs)) ≡ kept_list g o ++ flat_map (λ z. kept_list g (f z)) xs
    go None rest = rest
    go (Some y) rest = ap (λ (l : List Z). g y ++ l) rest

-- ---- parts

-- a list is a part of another, in its order
pub data IsPartOf {X : Type 0} : List X → List X → Type 0 where
  part_nil : IsPartOf [] []
  part_keep : (x : X) (xs ys : List X) → IsPartOf xs ys → IsPartOf (x ∷ xs) (x ∷ ys)
  part_drop : (x : X) (xs ys : List X) → IsPartOf xs ys → IsPartOf xs (x ∷ ys)

module _ {X : Type 0} where
  pub part-refl : (xs : List X) → IsPartOf xs xs
  part-refl [] = part_nil
  part-refl (x ∷ xs) = part_keep x xs xs (part-refl xs)

  pub part-contains : (xs ys : List X) (x : X) → IsPartOf xs ys → Contains xs x → Contains ys x
  part-contains xs ys x part_nil h = h
  part-contains xs ys x (part_keep z ps qs part) h =
      elim (cases_cons z ps x h) [
        | inl same ↦ subst (λ (w : X). Contains (z ∷ qs) w) same (contains_first z qs)
        | inr later ↦ contains_later z qs x (part-contains ps qs x part later)
      ]
  part-contains xs ys x (part_drop z ps qs part) h = contains_later z qs x (part-contains ps qs x part h)

  part-all : (P : X → Type 0) (xs ys : List X) → IsPartOf xs ys → ((x : X) → Contains ys x → P x) → All P xs
  part-all P xs ys part h k d below = h (get_or xs k d) (part-contains xs ys (get_or xs k d) part (Contains-get_or xs k d below))

  pub part-pairs : (R : X → X → Type 0) (xs ys : List X) → IsPartOf xs ys → AllPairs R ys → AllPairs R xs
  part-pairs R xs ys part_nil h = h
  part-pairs R xs ys (part_keep z ps qs part) h =
      AllPairs-cons R z ps (part-all (R z) ps qs part (λ x c. pairs-first R z qs h x c)) (part-pairs R ps qs part (pairs-rest R z qs h))
  part-pairs R xs ys (part_drop z ps qs part) h = part-pairs R ps qs part (pairs-rest R z qs h)

  pub part-append : (ps qs cs ds : List X) → IsPartOf ps qs → IsPartOf cs ds → IsPartOf (ps ++ cs) (qs ++ ds)
  part-append ps qs cs ds part_nil other = other
  part-append ps qs cs ds (part_keep z xs ys part) other = part_keep z (xs ++ cs) (ys ++ ds) (part-append xs ys cs ds part other)
  part-append ps qs cs ds (part_drop z xs ys part) other = part_drop z (xs ++ cs) (ys ++ ds) (part-append xs ys cs ds part other)

  part-cond : (b : Bool) (x : X) (xs ys : List X) → IsPartOf xs ys → IsPartOf (cond b (x ∷ xs) xs) (x ∷ ys)
  part-cond true x xs ys part = part_keep x xs ys part
  part-cond false x xs ys part = part_drop x xs ys part

  pub part-filter : (p : X → Bool) (xs : List X) → IsPartOf (filter p xs) xs
  part-filter p [] = part_nil
  part-filter p (x ∷ xs) = part-cond (p x) x (filter p xs) xs (part-filter p xs)

  part-none : (xs : List X) → IsPartOf [] xs
  part-none [] = part_nil
  part-none (x ∷ xs) = part_drop x [] xs (part-none xs)

-- what is collected of a part is a part
pub part-flat : {X Y : Type 0} (f : X → List Y) (xs ys : List X) → IsPartOf xs ys → IsPartOf (flat_map f xs) (flat_map f ys)
part-flat f xs ys part_nil = part_nil
part-flat f xs ys (part_keep z ps qs part) = part-append (f z) (f z) (flat_map f ps) (flat_map f qs) (part-refl (f z)) (part-flat f ps qs part)
part-flat f xs ys (part_drop z ps qs part) = part-append [] (f z) (flat_map f ps) (flat_map f qs) (part-none (f z)) (part-flat f ps qs part)

-- ---- where one element of a list is changed

module _ {X Y : Type 0} (f : X → Option Y) where
  part-more : {Z : Type 0} (g : Y → List Z) (o : Option Y) (ys zs : List Y) → IsPartOf (flat_map g ys) (flat_map g zs) → IsPartOf (flat_map g (cons_option o ys)) (flat_map g (cons_option o zs))
  part-more g None ys zs part = part
  part-more g (Some b) ys zs part = part-append (g b) (g b) (flat_map g ys) (flat_map g zs) (part-refl (g b)) part

  -- to one of which a part is collected
  pub part-set : {Z : Type 0} (g : Y → List Z) (xs : List X) (i : ℕ) (x y : X) (a b : Y) → get_elem? xs i ≡ some x → f x ≡ Some a → f y ≡ Some b → IsPartOf (g b) (g a)
      → IsPartOf (flat_map g (filter_map f (set xs i y))) (flat_map g (filter_map f xs))
  part-set g [] i x y a b at old new part = part_nil
  part-set g (z ∷ xs) zero x y a b at old new part =
      let first : f z ≡ Some a = ap f (some-injective z x at) ∙ old in
      rw (first, new) (part-append (g b) (g a) (flat_map g (filter_map f xs)) (flat_map g (filter_map f xs)) part (part-refl (flat_map g (filter_map f xs))))
  part-set g (z ∷ xs) (suc i) x y a b at old new part = part-more g (f z) (filter_map f (set xs i y)) (filter_map f xs) (part-set g xs i x y a b at old new part)

part_before : {Y : Type 0} (xs ys zs : List Y) → IsPartOf xs ys → IsPartOf xs (ys ++ zs)
part_before {Y = Y} xs ys zs part = subst (λ (l : List Y). IsPartOf l (ys ++ zs)) (append-nil xs) (part-append xs ys [] zs part (part-none zs))

module _ {X Y : Type 0} where
  -- what is collected of an element is a part of all that is collected
  pub part-one : (f : X → List Y) (xs : List X) (x : X) → Contains xs x → IsPartOf (f x) (flat_map f xs)
  part-one f [] x among = absurd (none_in x among)
  part-one f (z ∷ xs) x among =
      elim (cases_cons z xs x among) [
        | inl same ↦ part_before (f x) (f z) (flat_map f xs) (subst (λ (w : X). IsPartOf (f x) (f w)) (sym same) (part-refl (f x)))
        | inr later ↦ part-append [] (f z) (f x) (flat_map f xs) (part-none (f z)) (part-one f xs x later)
      ]
