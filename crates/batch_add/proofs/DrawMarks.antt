-- What placing a body leaves of the bodies of a batch, and of other batches.
use Rattle.std.proofs.Common.{◌≡◌, ◌≢◌, ℕ, suc, ◌+◌, ◌*◌, ◌<◌, ◌≤◌, Bool, true, false, cond, eqb, List, [], ◌∷◌, ◌++◌, Contains, map, refl, sym, ◌∙◌, ap, subst, inl, inr, arith}
use Rattle.std.specs.Prelude.{flat_map, AllPairs}
use Rattle.std.proofs.lemmas.Bool.{cases_lt, eqb-true, eqb-false}
use Rattle.std.proofs.lemmas.List.{map-append, append-nil}
use Rattle.std.proofs.lemmas.Grind.{flat_map-append}
use Rattle.fixed_box.specs.declared.fix_box.FixBox.{FixBox}
use Rattle.tree_plan.specs.declared.plan_child.PlanChild.TheVariants.{Body}
use Rattle.tree_plan.specs.Plan.{node_count, child_at, IsPlanOf}
use Rattle.tree_plan.specs.Arranged.{AreApart}
use Rattle.tree_plan.proofs.OnePlace.{body_once}
use Rattle.core_state.specs.declared.view.Marked.{Marked}
use Rattle.core_state.specs.declared.view.Batch.{Batch}
use Rattle.core_state.specs.Encoding.{place}
use Rattle.core_state.specs.Batches.{with_bodies, changed_at, change_marked}
use Rattle.core_state.proofs.Beginning.{contains_first, contains_flat}
use Rattle.core_batch.proofs.Lists.{contains_later, contains_map, map_from, pairs-across}
use Rattle.core_batch.proofs.Mapped.{AreOtherBodies}
use Rattle.batch_add.specs.Drawing.{node_at, IsMarkedAs, HasBodies}
use Rattle.batch_add.specs.stages.DrawStages.{Planned, ArePlacedUpTo, IsDrawnFrom}

-- ---- bodies that are placed

-- the body as it is placed
abbrev pub placed_at : ℕ → Marked → Marked
placed_at value m = record m { place = value; is_placed = true }

abbrev pub placing : ℕ → ℕ → Marked → Marked
placing index value = changed_at index (placed_at value)

-- a body at the index is placed, and others stay
placing-here : (index value : ℕ) (m : Marked) → eqb m.index index ≡ true → placing index value m ≡ placed_at value m
placing-here index value m same = ap (λ (b : Bool). cond b (placed_at value m) m) same

placing-other : (index value : ℕ) (m : Marked) → eqb m.index index ≡ false → placing index value m ≡ m
placing-other index value m apart = ap (λ (b : Bool). cond b (placed_at value m) m) apart

-- its index and box stay
placing-same : (index value : ℕ) (m : Marked) → ((placing index value m).index ≡ m.index) × ((placing index value m).bounds ≡ m.bounds)
placing-same index value m = go (eqb m.index index)
  where
    go : (b : Bool) → ((cond b (placed_at value m) m).index ≡ m.index) × ((cond b (placed_at value m) m).bounds ≡ m.bounds)
    go true = (refl, refl)
    go false = (refl, refl)

-- ---- lists that stay

pub map-still : {X : Type 0} (f : X → X) (xs : List X) → ((x : X) → Contains xs x → f x ≡ x) → map f xs ≡ xs
map-still f [] same = refl
map-still f (x ∷ xs) same = λ i. same x (contains_first x xs) i ∷ map-still f xs (λ y among. same y (contains_later x xs y among)) i

map-kept : {X Y : Type 0} (f : X → X) (g : X → Y) (xs : List X) → ((x : X) → g (f x) ≡ g x) → map g (map f xs) ≡ map g xs
map-kept f g [] same = refl
map-kept f g (x ∷ xs) same = λ i. same x i ∷ map-kept f g xs same i

-- ---- the batch

abbrev pub with_placed : ℕ → ℕ → Batch → Batch
with_placed index value = with_bodies (map (placing index value))

pub placed-from : (batch drawn : Batch) (index value : ℕ) → IsDrawnFrom batch drawn → IsDrawnFrom batch (with_placed index value drawn)
placed-from batch drawn index value from = record {
  layer = from.layer;
  slot = from.slot;
  nodes = from.nodes;
  indexes = map-kept (placing index value) (λ m. m.index) drawn.marked (λ m. (placing-same index value m).0) ∙ from.indexes;
}

-- it has the same bodies
pub placed-bodies : (drawn : Batch) (bodies : List (ℕ × FixBox)) (index value : ℕ) → HasBodies drawn bodies → HasBodies (with_placed index value drawn) bodies
placed-bodies drawn bodies index value h = record {
  each = λ m among.
      let t = map_from (placing index value) drawn.marked m among in
      let body = h.each t.0 t.1 in
      (body.0, body.1, subst (λ (x : Marked). IsMarkedAs x body.0) t.2 (marked-still t.0 body.0 body.2));
  all = λ body among.
      let t = h.all body among in
      (placing index value t.0, contains_map (placing index value) drawn.marked t.0 t.1, marked-still t.0 body t.2);
}
  where
    marked-still : (m : Marked) (body : ℕ × FixBox) → IsMarkedAs m body → IsMarkedAs (placing index value m) body
    marked-still m body is = let same = placing-same index value m in record { index = same.0 ∙ is.index; bounds = same.1 ∙ is.bounds }

module _ (p : Planned) (planned : IsPlanOf p.bodies p.plan) (apart : AreApart p.bodies) (marked : List Marked) (n k : ℕ) (made : n < node_count p.plan) (few : k < 4) where
  -- the body at the place is placed there
  module _ (index value : ℕ) (there : child_at p.plan n k ≡ Body index) (at : value ≡ place (node_at p.nodes n) k) (h : ArePlacedUpTo p marked (4 * n + k)) where
    -- it stands at no other place
    here : (m : Marked) (a b : ℕ) → a < node_count p.plan → b < 4 → child_at p.plan a b ≡ Body m.index → m.index ≡ index → (a ≡ n) × (b ≡ k)
    here m a b made_a few_b stands same = body_once p.bodies p.plan apart planned index a b n k made_a few_b made few (stands ∙ ap Body same) there

    body_same : (i j : ℕ) → Body i ≡ Body j → i ≡ j
    body_same i j e = cc

    elsewhere : (m : Marked) (a b : ℕ) → child_at p.plan a b ≡ Body m.index → eqb m.index index ≡ false → ¬ ((a ≡ n) × (b ≡ k))
    elsewhere m a b stands other same =
        eqb-false m.index index other (body_same m.index index (sym stands ∙ ((λ i. child_at p.plan (same.0 i) (same.1 i)) ∙ there)))

    abbrev IsPlacedSo : Marked → ℕ → ℕ → Type 0
    IsPlacedSo m a b = (m.is_placed ≡ true) × (m.place ≡ place (node_at p.nodes a) b)

    placed_one : (m : Marked) → Contains marked m → (test : Bool) → eqb m.index index ≡ test → (a b : ℕ) → a < node_count p.plan → b < 4 → child_at p.plan a b ≡ Body m.index → 4 * a + b < suc (4 * n + k)
        → IsPlacedSo (placing index value m) a b
    placed_one m among true e a b made_a few_b stands below =
        let one = here m a b made_a few_b stands (eqb-true m.index index e) in
        subst (λ (x : Marked). IsPlacedSo x a b) (sym (placing-here index value m e)) (refl, at ∙ (λ i. place (node_at p.nodes (sym one.0 i)) (sym one.1 i)))
    placed_one m among false e a b made_a few_b stands below =
        subst (λ (x : Marked). IsPlacedSo x a b) (sym (placing-other index value m e))
        (h.placed m among a b made_a few_b stands
        (elim (cases_lt (4 * a + b) (4 * n + k)) [
          | inl less ↦ less
          | inr past ↦ absurd (elsewhere m a b stands e (omega arith, omega arith))
        ]))

    waiting_one : (m : Marked) → Contains marked m → (test : Bool) → eqb m.index index ≡ test → (a b : ℕ) → a < node_count p.plan → b < 4 → child_at p.plan a b ≡ Body m.index → suc (4 * n + k) ≤ 4 * a + b
        → (placing index value m).is_placed ≡ false
    waiting_one m among true e a b made_a few_b stands past =
        let one = here m a b made_a few_b stands (eqb-true m.index index e) in
        let node = one.0 in
        let child = one.1 in
        absurd (omega arith)
    waiting_one m among false e a b made_a few_b stands past =
        ap (λ (x : Marked). x.is_placed) (placing-other index value m e) ∙ h.waiting m among a b made_a few_b stands (omega arith)

    pub body-placed : ArePlacedUpTo p (map (placing index value) marked) (suc (4 * n + k))
    body-placed = record {
      placed = λ m among a b made_a few_b stands below.
          let t = map_from (placing index value) marked m among in
          subst (λ (x : Marked). IsPlacedSo x a b) t.2
          (placed_one t.0 t.1 (eqb t.0.index index) refl a b made_a few_b (stands ∙ ap Body (sym (ap (λ (x : Marked). x.index) t.2) ∙ (placing-same index value t.0).0)) below);
      waiting = λ m among a b made_a few_b stands past.
          let t = map_from (placing index value) marked m among in
          ap (λ (x : Marked). x.is_placed) (sym t.2)
          ∙ waiting_one t.0 t.1 (eqb t.0.index index) refl a b made_a few_b (stands ∙ ap Body (sym (ap (λ (x : Marked). x.index) t.2) ∙ (placing-same index value t.0).0)) past;
    }

  -- or no body stands there
  pub places-passed : ((index : ℕ) → child_at p.plan n k ≢ Body index) → ArePlacedUpTo p marked (4 * n + k) → ArePlacedUpTo p marked (suc (4 * n + k))
  places-passed none h = record {
    placed = λ m among a b made_a few_b stands below.
        h.placed m among a b made_a few_b stands
        (elim (cases_lt (4 * a + b) (4 * n + k)) [
          | inl less ↦ less
          | inr past ↦
              let node : n ≡ a = omega arith in
              let child : k ≡ b = omega arith in
              absurd (none m.index ((λ i. child_at p.plan (node i) (child i)) ∙ stands))
        ]);
    waiting = λ m among a b made_a few_b stands past. h.waiting m among a b made_a few_b stands (omega arith);
  }

-- ---- the batches of the pass

-- a batch that has marked no body at the index stays
unplaced-still : (index value : ℕ) (b : Batch) → ((m : Marked) → Contains b.marked m → m.index ≢ index) → with_placed index value b ≡ b
unplaced-still index value b other =
    λ i. record b { marked = map-still (placing index value) b.marked (λ m among. placing-other index value m (ne m.index (other m among))) i }
  where
    ne : (j : ℕ) → j ≢ index → eqb j index ≡ false
    ne j apart = go (eqb j index) refl
      where
        go : (b : Bool) → eqb j index ≡ b → eqb j index ≡ false
        go true e = absurd (apart (eqb-true j index e))
        go false e = e

-- no other batch has marked it, so the newest one alone is changed
pub batches-placed : (before : List Batch) (drawn : Batch) (index value : ℕ) → ((b : Batch) (m : Marked) → Contains before b → Contains b.marked m → m.index ≢ index)
    → change_marked index (placed_at value) (before ++ drawn ∷ []) ≡ before ++ with_placed index value drawn ∷ []
batches-placed before drawn index value other =
    map-append (with_placed index value) before (drawn ∷ [])
    ∙ ap (λ (l : List Batch). l ++ with_placed index value drawn ∷ []) (map-still (with_placed index value) before (λ b among. unplaced-still index value b (λ m inside. other b m among inside)))

-- no two batches have marked one body
pub others-apart : (before : List Batch) (drawn : Batch) (index : ℕ) (own : Marked) → Contains drawn.marked own → own.index ≡ index → AllPairs AreOtherBodies (flat_map (λ b. b.marked) (before ++ drawn ∷ []))
    → (b : Batch) (m : Marked) → Contains before b → Contains b.marked m → m.index ≢ index
others-apart before drawn index own inside is apart b m among marked same =
    pairs-across AreOtherBodies (flat_map (λ b. b.marked) before) drawn.marked
    (subst (AllPairs AreOtherBodies) (flat_map-append (λ (b : Batch). b.marked) before (drawn ∷ []) ∙ ap (λ (l : List Marked). flat_map (λ b. b.marked) before ++ l) (append-nil drawn.marked)) apart)
    m own (contains_flat (λ (b : Batch). b.marked) before b m among marked) inside (same ∙ sym is)
