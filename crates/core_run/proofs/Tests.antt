-- Tests that give a proof of what they tested, or nothing.
use Rattle.std.proofs.Common.{◌≡◌, ◌≢◌, ℕ, zero, suc, ◌/◌, ◌%◌, ◌<◌, ◌≤◌, ◌==◌, nat_lt, nat_le, not, Bool, true, false, List, [], ◌∷◌, length, Contains, Option, Some, None, IsSome, refl, ap, sym, subst, ltb-true, leb-true, eqb-true, arith}
use Rattle.std.specs.Prelude.{slice_index_or, IsSomeAnd}
use Rattle.std.proofs.lemmas.Bool.{eq-eqb}
use Rattle.scene_model.specs.declared.body_view.Phase.{Phase}
use Rattle.scene_model.specs.declared.body_view.Phase.TheVariants.{Out, Held, In}
use Rattle.scene_model.specs.Scene.{Scene, Record, record_at}
use Rattle.scene_model.specs.Step.{HasBody}
use Rattle.core_state.specs.declared.view.Mode.{Mode}
use Rattle.core_state.specs.declared.view.Mode.TheVariants.{Read, Write}
use Rattle.core_state.specs.declared.view.Task.{Task}
use Rattle.core_state.specs.declared.view.Task.TheVariants.{Nothing, Creating, Destroying, Pooling, Moving, Removing, Placing}
use Rattle.core_state.specs.declared.view.View.{View}
use Rattle.core_state.specs.View.{IsPass, number_of, Holds, HoldsNot, mode_of}
use Rattle.core_state.specs.Boxes.{where_true}
use Rattle.core_state.specs.Encoding.{place}

infixr 20 ◌>>=◌
abbrev pub ◌>>=◌ : {A B : Type 0} → Option A → (A → Option B) → Option B
None >>= next = None
Some a >>= next = next a

-- ---- numbers and flags

abbrev pub same? : (a b : ℕ) → Option (a ≡ b)
same? a b = where_true (a == b) (λ e. Some (eqb-true a b e))

pub differs : (a b : ℕ) → not (a == b) ≡ true → a ≢ b
differs a b e same = let yes' = eq-eqb a b same in cc

abbrev pub other? : (a b : ℕ) → Option (a ≢ b)
other? a b = where_true (not (a == b)) (λ e. Some (differs a b e))

abbrev pub below? : (a b : ℕ) → Option (a < b)
below? a b = where_true (nat_lt a b) (λ e. Some (ltb-true a b e))

abbrev pub at_most? : (a b : ℕ) → Option (a ≤ b)
at_most? a b = where_true (nat_le a b) (λ e. Some (leb-true a b e))

abbrev pub above_zero? : (a : ℕ) → Option ((b : ℕ) × (a ≡ suc b))
above_zero? zero = None
above_zero? (suc b) = Some (b, refl)

abbrev pub true? : (b : Bool) → Option (b ≡ true)
true? true = Some refl
true? false = None

abbrev pub false? : (b : Bool) → Option (b ≡ false)
false? false = Some refl
false? true = None

-- the place that a location word names
abbrev pub place? : (word : ℕ) → Option ((n : ℕ) × (k : ℕ) × (k < 4) × (word ≡ place n k))
place? zero = None
place? (suc w) = do
  below ← below? (w % 4) 4
  same ← same? (suc w) (place (w / 4) (w % 4))
  Some (w / 4, w % 4, below, same)

-- ---- options and lists

abbrev pub some? : {A : Type 0} (o : Option A) → Option ((a : A) × (o ≡ Some a))
some? None = None
some? (Some a) = Some (a, refl)

abbrev pub none? : {A : Type 0} (o : Option A) → Option (o ≡ None)
none? None = Some refl
none? (Some a) = None

abbrev pub is_some? : {A : Type 0} (o : Option A) → Option (IsSome o)
is_some? None = None
is_some? (Some a) = Some refl

abbrev pub empty? : {A : Type 0} (xs : List A) → Option (xs ≡ [])
empty? [] = Some refl
empty? (x ∷ xs) = None

pub not_empty : {A : Type 0} (x : A) (xs : List A) → (x ∷ xs) ≢ []
not_empty x xs e = absurd (cc)

abbrev pub filled? : {A : Type 0} (xs : List A) → Option (xs ≢ [])
filled? [] = None
filled? (x ∷ xs) = Some (not_empty x xs)

pub both_same : (x y : ℕ) (xs ys : List ℕ) → x ≡ y → xs ≡ ys → (x ∷ xs) ≡ (y ∷ ys)
both_same x y xs ys p q = λ i. p i ∷ q i

abbrev pub same_list? : (xs ys : List ℕ) → Option (xs ≡ ys)
same_list? [] [] = Some refl
same_list? (x ∷ xs) (y ∷ ys) = do
  first ← same? x y
  rest ← same_list? xs ys
  Some (both_same x y xs ys first rest)
same_list? _ _ = None

-- the element at a place
abbrev pub entry? : {A : Type 0} (xs : List A) (k : ℕ) → Option ((x : A) × ((d : A) → slice_index_or xs k d ≡ x))
entry? [] k = None
entry? (x ∷ xs) zero = Some (x, λ d. refl)
entry? (x ∷ xs) (suc k) = entry? xs k

module _ {A : Type 0} where
  pub none_in : (P : A → Type 0) (a : A) → Contains [] a → P a
  none_in P a h = let below = h.1 in absurd (omega arith)

  pub each_of : (P : A → Type 0) (x : A) (xs : List A) → P x → ((a : A) → Contains xs a → P a) → (a : A) → Contains (x ∷ xs) a → P a
  each_of P x xs one rest a h = go h.0 h.1 h.2
    where
      go : (k : ℕ) → k < length (x ∷ xs) → slice_index_or (x ∷ xs) k a ≡ a → P a
      go zero below e = subst P e one
      go (suc k) below e = rest a (k, omega arith, e)

  pub first_in : (x : A) (xs : List A) → Contains (x ∷ xs) x
  first_in x xs = (0, omega arith, refl)

  pub later_in : (x : A) (xs : List A) (a : A) → Contains xs a → Contains (x ∷ xs) a
  later_in x xs a h = let below = h.1 in (suc h.0, omega arith, h.2)

-- the test of each element, and the first element that passes one
abbrev pub each? : {A : Type 0} {P : A → Type 0} → ((a : A) → Option (P a)) → (xs : List A) → Option ((a : A) → Contains xs a → P a)
each? {A} {P} test [] = Some (none_in P)
each? {A} {P} test (x ∷ xs) = do
  one ← test x
  rest ← each? {A = A} {P = P} test xs
  Some (each_of P x xs one rest)

abbrev pub in_rest : {A : Type 0} (P : A → Type 0) (x : A) (xs : List A) → Option ((a : A) × Contains xs a × P a) → Option ((a : A) × Contains (x ∷ xs) a × P a)
in_rest P x xs None = None
in_rest P x xs (Some t) = Some (t.0, later_in x xs t.0 t.1, t.2)

abbrev pub first_or : {A : Type 0} (P : A → Type 0) (x : A) (xs : List A) → Option (P x) → Option ((a : A) × Contains xs a × P a) → Option ((a : A) × Contains (x ∷ xs) a × P a)
first_or P x xs None rest = in_rest P x xs rest
first_or P x xs (Some p) rest = Some (x, first_in x xs, p)

abbrev pub some_in? : {A : Type 0} {P : A → Type 0} → ((a : A) → Option (P a)) → (xs : List A) → Option ((a : A) × Contains xs a × P a)
some_in? {A} {P} test [] = None
some_in? {A} {P} test (x ∷ xs) = first_or P x xs (test x) (some_in? {A = A} {P = P} test xs)

pub member_from : (xs : List ℕ) (x a : ℕ) → Contains xs a → a ≡ x → Contains xs x
member_from xs x a h e = subst (λ (y : ℕ). Contains xs y) e h

abbrev pub member? : (xs : List ℕ) (x : ℕ) → Option (Contains xs x)
member? xs x = do
  t ← some_in? {P = λ a. a ≡ x} (λ a. same? a x) xs
  Some (member_from xs x t.0 t.1 t.2)

pub absent_from : (xs : List ℕ) (x : ℕ) → ((a : ℕ) → Contains xs a → a ≢ x) → ¬ Contains xs x
absent_from xs x all h = all x h refl

abbrev pub absent? : (xs : List ℕ) (x : ℕ) → Option (¬ Contains xs x)
absent? xs x = do
  all ← each? {P = λ a. a ≢ x} (λ a. other? a x) xs
  Some (absent_from xs x all)

-- the test of each number below another
pub none_below : (P : ℕ → Type 0) (k : ℕ) → k < 0 → P k
none_below P k h = absurd (omega arith)

pub each_before : (P : ℕ → Type 0) (n : ℕ) → P n → ((k : ℕ) → k < n → P k) → (k : ℕ) → k < suc n → P k
each_before P n last rest k below = go (k == n) refl
  where
    go : (b : Bool) → (k == n) ≡ b → P k
    go true e = subst P (sym (eqb-true k n e)) last
    go false e = let other = differs k n (ap not e) in rest k (omega arith)

abbrev pub each_below? : {P : ℕ → Type 0} (n : ℕ) → ((k : ℕ) → Option (P k)) → Option ((k : ℕ) → k < n → P k)
each_below? {P} zero test = Some (none_below P)
each_below? {P} (suc n) test = do
  last ← test n
  rest ← each_below? {P = P} n test
  Some (each_before P n last rest)

-- ---- what a pass holds, and what it has under way

abbrev pub mode? : (o : Option Mode) (mode : Mode) → Option (o ≡ Some mode)
mode? (Some Read) Read = Some refl
mode? (Some Write) Write = Some refl
mode? _ _ = None

abbrev pub holds? : (view : View) (lock : ℕ) (mode : Mode) → Option (Holds view lock mode)
holds? view lock mode = mode? (mode_of view.locks lock) mode

abbrev pub held? : (view : View) (lock : ℕ) → Option ((mode : Mode) × Holds view lock mode)
held? view lock = some? (mode_of view.locks lock)

abbrev pub free? : (view : View) (lock : ℕ) → Option (HoldsNot view lock)
free? view lock = none? (mode_of view.locks lock)

abbrev pub pass? : (view : View) → Option ((number : ℕ) × IsPass view number)
pass? view = some? (number_of view)

abbrev pub idle? : (task : Task) → Option (task ≡ Nothing)
idle? Nothing = Some refl
idle? _ = None

abbrev pub creating? : (task : Task) → Option ((index : ℕ) × (task ≡ Creating index))
creating? (Creating index) = Some (index, refl)
creating? _ = None

abbrev pub destroying? : (task : Task) → Option ((index : ℕ) × (task ≡ Destroying index))
destroying? (Destroying index) = Some (index, refl)
destroying? _ = None

abbrev pub pooling? : (task : Task) → Option ((taken : ℕ) × (given : ℕ) × (task ≡ Pooling taken given))
pooling? (Pooling taken given) = Some (taken, given, refl)
pooling? _ = None

abbrev pub moving? : (task : Task) → Option ((index : ℕ) × (target : List ℕ) × (task ≡ Moving index target))
moving? (Moving index target) = Some (index, target, refl)
moving? _ = None

abbrev pub removing? : (task : Task) → Option ((index : ℕ) × (task ≡ Removing index))
removing? (Removing index) = Some (index, refl)
removing? _ = None

abbrev pub placing? : (task : Task) → Option ((index : ℕ) × (task ≡ Placing index))
placing? (Placing index) = Some (index, refl)
placing? _ = None

-- ---- the body at an index

abbrev pub on_some? : {A : Type 0} {P : A → Type 0} (o : Option A) → ((a : A) → Option (P a)) → Option (IsSomeAnd o P)
on_some? None test = None
on_some? (Some a) test = test a

abbrev pub body? : {P : Record → Type 0} (scene : Scene) (index : ℕ) → ((r : Record) → Option (P r)) → Option (HasBody scene index P)
body? {P} scene index test = on_some? {P = P} (record_at scene index) test

abbrev pub in? : (phase : Phase) → Option (phase ≡ In)
in? In = Some refl
in? _ = None

abbrev pub out? : (phase : Phase) → Option (phase ≡ Out)
out? Out = Some refl
out? _ = None

pub in_not_held : In ≢ Held
in_not_held e = absurd (cc)

pub out_not_held : Out ≢ Held
out_not_held e = absurd (cc)

abbrev pub unheld? : (phase : Phase) → Option (phase ≢ Held)
unheld? In = Some in_not_held
unheld? Out = Some out_not_held
unheld? Held = None
