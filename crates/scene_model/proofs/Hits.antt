-- The hits of a scene are a right answer to a query at that one point.
use Rattle.std.proofs.Common.{◌≡◌, ℕ, zero, suc, ◌+◌, ◌<◌, ◌≤◌, ◌==◌, ◌&&◌, Bool, true, false, List, [], ◌∷◌, length, map, refl, sym, ◌∙◌, ap, subst, IsTrue, filter_map, All, Contains, Option, Some, None, IfSome, IsSomeAnd, option_and_then, arith, inl, inr}
use Rattle.std.specs.List.{cons_option, range_with_len}
use Rattle.std.specs.List.Sorted.{IsStrictlyIncreasing}
use Rattle.std.specs.Bool.{then_some}
use Rattle.std.specs.Int.{bit_at}
use Rattle.std.proofs.lemmas.List.Elements.{All-nil, All-cons, All-weaker}
use Rattle.std.proofs.lemmas.Bool.{cases_eq}
use Rattle.std.proofs.lemmas.Bool.Decides.{nat_tests}
use Rattle.fixed_box.specs.declared.fix_box.FixBox.{FixBox}
use Rattle.body_ident.specs.Id.{Id, id_of}
use Rattle.scene_model.specs.declared.body_view.Phase.{Phase}
use Rattle.scene_model.specs.declared.body_view.Phase.TheVariants.{Out, Held, In}
use Rattle.scene_model.specs.declared.entry.Made.{Made}
use Rattle.scene_model.specs.Scene.{Record, record_at}
use Rattle.scene_model.specs.Phase.{is_in}
use Rattle.scene_model.specs.Query.{is_hit, hit_id, hit_at, hits}
use Rattle.scene_model.specs.History.{point, IsHit, Fits, IsMet, IsRightAnswer}
use Rattle.scene_model.proofs.Places.{live_used}

-- ---- lists of what some items give

All-cons_option : {A : Type 0} (P : A → Type 0) (o : Option A) (xs : List A) → IfSome o P → All P xs → All P (cons_option o xs)
All-cons_option P None xs h all = all
All-cons_option P (Some x) xs h all = All-cons P x xs h all

All-filter_map : {A B : Type 0} (P : B → Type 0) (f : A → Option B) → ((x : A) → IfSome (f x) P) → (xs : List A) → All P (filter_map f xs)
All-filter_map P f h [] = All-nil P
All-filter_map P f h (x ∷ xs) = All-cons_option P (f x) (filter_map f xs) (h x) (All-filter_map P f h xs)

Contains-cons_option : {A : Type 0} (o : Option A) (xs : List A) (y : A) → Contains xs y → Contains (cons_option o xs) y
Contains-cons_option None xs y c = c
Contains-cons_option (Some x) xs y c = (suc c.0, omega (arith, c.1), c.2)

Contains-cons_some : {A : Type 0} (o : Option A) (xs : List A) (y : A) → o ≡ Some y → Contains (cons_option o xs) y
Contains-cons_some o xs y e = rw e (0, omega arith, refl)

Contains-filter_map_range : {A : Type 0} (f : ℕ → Option A) (n a i : ℕ) (y : A) → a ≤ i → i < a + n → f i ≡ Some y → Contains (filter_map f (range_with_len a n)) y
Contains-filter_map_range f zero a i y from below e = absurd (omega arith)
Contains-filter_map_range f (suc n) a i y from below e =
    elim (cases_eq a i) [
      | inl same ↦ Contains-cons_some (f a) (filter_map f (range_with_len (a + 1) n)) y (ap f same ∙ e)
      | inr apart ↦
          Contains-cons_option (f a) (filter_map f (range_with_len (a + 1) n)) y (Contains-filter_map_range f n (a + 1) i y (omega arith) (omega arith) e)
    ]

IsStrictlyIncreasing-cons : (x : ℕ) (xs : List ℕ) → All (λ y. x < y) xs → IsStrictlyIncreasing xs → IsStrictlyIncreasing (x ∷ xs)
IsStrictlyIncreasing-cons x xs above up zero below = above 0 0 (omega arith)
IsStrictlyIncreasing-cons x xs above up (suc k) below =
    let e : suc k + 1 ≡ suc (k + 1) = omega arith in
    rw e (up k (omega arith))

-- ids that each stand at their own index ascend
ascends_option : {A : Type 0} (n : A → ℕ) (a : ℕ) (o : Option A) (xs : List A) → IfSome o (λ x. n x ≡ a)
    → All (λ y. a + 1 ≤ y) (map n xs) × IsStrictlyIncreasing (map n xs)
    → All (λ y. a ≤ y) (map n (cons_option o xs)) × IsStrictlyIncreasing (map n (cons_option o xs))
ascends_option n a None xs e h = (All-weaker (λ y. a + 1 ≤ y) (λ y. a ≤ y) (λ y above. omega arith) (map n xs) h.0, h.1)
ascends_option n a (Some x) xs e h = (
  All-cons (λ y. a ≤ y) (n x) (map n xs) (omega arith) (All-weaker (λ y. a + 1 ≤ y) (λ y. a ≤ y) (λ y above. omega arith) (map n xs) h.0),
  IsStrictlyIncreasing-cons (n x) (map n xs) (All-weaker (λ y. a + 1 ≤ y) (λ y. n x < y) (λ y above. omega arith) (map n xs) h.0) h.1,
)

ascends_from : {A : Type 0} (n : A → ℕ) (f : ℕ → Option A) → ((i : ℕ) → IfSome (f i) (λ x. n x ≡ i)) → (len a : ℕ)
    → All (λ y. a ≤ y) (map n (filter_map f (range_with_len a len))) × IsStrictlyIncreasing (map n (filter_map f (range_with_len a len)))
ascends_from n f at zero a = (All-nil _, λ k below. absurd (omega arith))
ascends_from n f at (suc len) a = ascends_option n a (f a) (filter_map f (range_with_len (a + 1) len)) (at a) (ascends_from n f at len (a + 1))

-- ---- a test that says what a hit is

both_from : (a b : Bool) → (a && b) ≡ true → (a ≡ true) × (b ≡ true)
both_from true b e = (refl, e)
both_from false b e = absurd (cc)

in_from : (phase : Phase) → is_in phase ≡ true → phase ≡ In
in_from Out e = absurd (cc)
in_from Held e = absurd (cc)
in_from In e = refl

IsHit-from_test : (test : FixBox → Bool) (mask : ℕ) (r : Record) → is_hit test mask r ≡ true → IsHit (λ b. IsTrue (test b)) mask r
IsHit-from_test test mask r e =
    let parts = both_from (is_in r.phase && (bit_at mask r.layer == 1)) (test r.bounds) e in
    let front = both_from (is_in r.phase) (bit_at mask r.layer == 1) parts.0 in
    (in_from r.phase front.0, grind (arith, nat_tests, front.1), parts.1)

test_from_IsHit : (test : FixBox → Bool) (mask : ℕ) (r : Record) → IsHit (λ b. IsTrue (test b)) mask r → is_hit test mask r ≡ true
test_from_IsHit test mask r h = rw (h.0, h.1, h.2) refl

-- ---- which bodies are hits

-- what an id among the hits says of the body at its index
abbrev Names : (FixBox → Bool) → ℕ → ℕ → Option Record → Id → Type 0
Names test mask index o i =
    (generation : ℕ) × IsSomeAnd o (λ r. (r.generation ≡ generation) × IsHit (λ b. IsTrue (test b)) mask r) × (i ≡ id_of index generation)

hit_id-names : (test : FixBox → Bool) (mask index : ℕ) (r : Record) (hit : Bool) → is_hit test mask r ≡ hit
    → IfSome (then_some hit (id_of index r.generation)) (Names test mask index (Some r))
hit_id-names test mask index r true e = (r.generation, (refl, IsHit-from_test test mask r e), refl)
hit_id-names test mask index r false e = tt

hit-names : (test : FixBox → Bool) (mask index : ℕ) (o : Option Record) → IfSome (option_and_then (hit_id test mask index) o) (Names test mask index o)
hit-names test mask index None = tt
hit-names test mask index (Some r) = hit_id-names test mask index r (is_hit test mask r) refl

hit-from_fits : (test : FixBox → Bool) (mask index generation : ℕ) (o : Option Record)
    → IsSomeAnd o (λ r. (r.generation ≡ generation) × IsHit (λ b. IsTrue (test b)) mask r)
    → option_and_then (hit_id test mask index) o ≡ Some (id_of index generation)
hit-from_fits test mask index generation None h = absurd h
hit-from_fits test mask index generation (Some r) h = rw (test_from_IsHit test mask r h.1, h.0) refl

IfSome-weaker : {A : Type 0} (P Q : A → Type 0) → ((x : A) → P x → Q x) → (o : Option A) → IfSome o P → IfSome o Q
IfSome-weaker P Q then None h = h
IfSome-weaker P Q then (Some x) h = then x h

-- a query at one point that answers the hits of the scene there is right
pub hits_right : (test : FixBox → Bool) (mask bodies : ℕ) (history : List Made) (n : ℕ)
    → IsRightAnswer (λ b. IsTrue (test b)) mask bodies (record { history = history; from = n; to = n }) (hits test mask (point bodies history n))
hits_right test mask bodies history n =
    let scene = point bodies history n in
    let used = length scene.places in
    let names : (i : ℕ) → IfSome (hit_at test mask scene i) (Names test mask i (record_at scene i)) = λ i. hit-names test mask i (record_at scene i) in
    record {
      ascending =
          (ascends_from (λ (i : Id). i.index) (hit_at test mask scene)
          (λ i. IfSome-weaker (Names test mask i (record_at scene i)) (λ id. id.index ≡ i) (λ id name. ap (λ (d : Id). d.index) name.2) (hit_at test mask scene i) (names i)) used 0).1;
      complete = λ index generation due.
          let fits : Fits (λ b. IsTrue (test b)) mask scene index generation = due n (omega arith) (omega arith) in
          Contains-filter_map_range (hit_at test mask scene) used 0 index (id_of index generation) (omega arith)
          (omega (arith, live_used scene index _ fits))
          (hit-from_fits test mask index generation (record_at scene index) fits);
      sound =
          All-filter_map _ (hit_at test mask scene)
          (λ i. IfSome-weaker (Names test mask i (record_at scene i))
          (λ (id : Id). (generation : ℕ) × IsMet (λ b. IsTrue (test b)) mask bodies (record { history = history; from = n; to = n }) id.index generation × (id ≡ id_of id.index generation))
          (λ id name.
          subst (λ (k : ℕ). (generation : ℕ) × IsMet (λ b. IsTrue (test b)) mask bodies (record { history = history; from = n; to = n }) k generation × (id ≡ id_of k generation))
          (sym (ap (λ (d : Id). d.index) name.2)) (name.0, (n, omega arith, omega arith, name.1), name.2)) (hit_at test mask scene i) (names i))
          (range_with_len 0 used);
    }
