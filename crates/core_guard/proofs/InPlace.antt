-- A body that stays where it is: it may get another box, and the pass may take it out.
use Rattle.std.proofs.Common.{◌≡◌, ◌⊎◌, ◌↔◌, ℕ, Option, Some, None, IsSomeAnd, refl, ap, sym, ◌∙◌, subst, inl, inr}
use Rattle.std.specs.Prelude.{IsNone}
use Rattle.std.proofs.lemmas.Option.{none-some, same_Some}
use Rattle.scene_model.specs.declared.body_view.Phase.{Phase as BodyPhase}
use Rattle.scene_model.specs.declared.body_view.Phase.TheVariants.{Out, In}
use Rattle.scene_model.specs.Scene.{Record, record_at}
use Rattle.scene_model.specs.Step.{HasBody}
use Rattle.word_map.specs.declared.name.Name.TheVariants.{State, Phase, Layer, LocA, LocB}
use Rattle.core_state.specs.Core.{Core, word_of, scene_of}
use Rattle.core_state.specs.Kind.{Kind, Step}
use Rattle.core_state.specs.Scope.{Scope, sight}
use Rattle.core_state.specs.Updates.{IsPlacing}
use Rattle.core_state.specs.LocationsHold.{Removes, IsRemoved}
use Rattle.core_state.proofs.Beginning.{record_body}
use Rattle.core_state.proofs.Steps.{view-step}
use Rattle.core_guard.proofs.Leaving.{Acts, After, Last, Stays, IsAsBefore, not_live, is_live, some_and_map, out_in}
use Rattle.core_guard.proofs.Seats.{KeepsNumber, seen_of, seat-has, has-step}

-- a body of the same creation, in the same layer
pub data IsAlike : Option Record → Option Record → Type 0 where
  no_body : IsAlike None None
  a_body : (r q : Record) → q.generation ≡ r.generation → q.layer ≡ r.layer → IsAlike (Some r) (Some q)

pub alike-forth : (o p : Option Record) → IsAlike o p → (P : ℕ → ℕ → Type 0) → IsSomeAnd o (λ r. P r.generation r.layer) → IsSomeAnd p (λ r. P r.generation r.layer)
alike-forth o p no_body P h = h
alike-forth o p (a_body r q g l) P h = subst (λ (x : ℕ). P x q.layer) (sym g) (subst (P r.generation) (sym l) h)

pub alike-of : (o p : Option Record) (r q : Record) → o ≡ Some r → p ≡ Some q → q.generation ≡ r.generation → q.layer ≡ r.layer → IsAlike o p
alike-of o p r q was is generation layer = subst (λ (x : Option Record). IsAlike x p) (sym was) (subst (IsAlike (Some r)) (sym is) (a_body r q generation layer))

pub alike-same : (o p : Option Record) → p ≡ o → IsAlike o p
alike-same o p e = subst (IsAlike o) (sym e) (go o)
  where
    go : (o : Option Record) → IsAlike o o
    go None = no_body
    go (Some r) = a_body r r refl refl

module _ (kind : Kind) (core : Core) (step : Step) where
  abbrev Was : ℕ → Option Record
  Was i = record_at (scene_of core) i

  abbrev Is : ℕ → Option Record
  Is i = record_at (scene_of (After kind core step)) i

  abbrev SamePhase : Option Record → Option Record → Type 0
  SamePhase o p = (r q : Record) → o ≡ Some r → p ≡ Some q → q.phase ≡ r.phase

  -- its phase stays, and whether the pass takes it out
  pub record PhaseStays (i : ℕ) : Type 0 where
    pub body : SamePhase (Was i) (Is i)
    pub word : word_of (After kind core step) (Phase i) ≡ word_of core (Phase i)
    pub removes : Removes step.view.call.task i ↔ Removes (Last kind core step).call.task i

  -- or the pass has taken it out
  pub record IsOutNow (i : ℕ) : Type 0 where
    pub body : HasBody (scene_of (After kind core step)) i (λ r. r.phase ≡ Out)
    pub word : word_of (After kind core step) (Phase i) ≡ 0
    pub removes : Removes (Last kind core step).call.task i

  pub record InPlace (i : ℕ) : Type 0 where
    pub body : IsAlike (Was i) (Is i)
    pub loc_a : word_of (After kind core step) (LocA i) ≡ word_of core (LocA i)
    pub loc_b : word_of (After kind core step) (LocB i) ≡ word_of core (LocB i)
    pub state : word_of (After kind core step) (State i) ≡ word_of core (State i)
    pub layer : word_of (After kind core step) (Layer i) ≡ word_of core (Layer i)
    pub places : IsPlacing step.view.call.task i ↔ IsPlacing (Last kind core step).call.task i
    pub phase : PhaseStays i ⊎ IsOutNow i

  pub stays-in_place : (i : ℕ) → Stays kind core step i → InPlace i
  stays-in_place i b = record {
    body = alike (Was i) (Is i) b.body;
    loc_a = b.loc_a;
    loc_b = b.loc_b;
    state = b.state;
    layer = b.layer;
    places = b.places;
    phase = inl (record { body = same (Was i) (Is i) b.body; word = b.phase; removes = b.removes });
  }
    where
      alike : (o p : Option Record) → IsAsBefore o p → IsAlike o p
      alike o p not_live = no_body
      alike o p (is_live r user) = a_body r (record r { user = user }) refl refl

      same : (o p : Option Record) → IsAsBefore o p → SamePhase o p
      same o p not_live r q e now = absurd (none-some r e)
      same o p (is_live x user) r q e now = ap (λ (y : Record). y.phase) (sym (same_Some (record x { user = user }) q now)) ∙ ap (λ (y : Record). y.phase) (same_Some x r e)

  -- the pass takes a body out, as far as a law sees who does
  pub removed-now : (i : ℕ) (a : Acts core step) (scope : Scope) (keeps : KeepsNumber scope) → (Removes (Last kind core step).call.task i → Removes (seen_of scope step.number (Last kind core step)).call.task i)
      → Removes (Last kind core step).call.task i → IsRemoved (sight scope (After kind core step)) i
  removed-now i a scope keeps seen removes = (
    step.number,
    seat-has scope keeps (After kind core step) step.number (λ v. Removes v.call.task i) (record { seat = step.seat; view = Last kind core step; at = view-step kind core step a.at; pass = a.pass; holds = seen removes }),
  )

  module _ (i : ℕ) (b : InPlace i) where
    -- the record before is of the same creation and layer
    pub record-was : (q : Record) → Is i ≡ Some q → (r : Record) × (Was i ≡ Some r) × (q.generation ≡ r.generation) × (q.layer ≡ r.layer)
    record-was q e = go (Was i) (Is i) b.body e
      where
        go : (o p : Option Record) → IsAlike o p → p ≡ Some q → (r : Record) × (o ≡ Some r) × (q.generation ≡ r.generation) × (q.layer ≡ r.layer)
        go o p no_body e = absurd (none-some q e)
        go o p (a_body r x g l) e = (r, refl, ap (λ (y : Record). y.generation) (sym (same_Some x q e)) ∙ g, ap (λ (y : Record). y.layer) (sym (same_Some x q e)) ∙ l)

    pub none-was : IsNone (Is i) → IsNone (Was i)
    none-was none = go (Was i) (Is i) b.body none
      where
        go : (o p : Option Record) → IsAlike o p → IsNone p → IsNone o
        go o p no_body h = h
        go o p (a_body r q g l) h = absurd cc

    -- what is said of creation and layer holds as before
    module _ (P : ℕ → ℕ → Type 0) where
      pub creation-forth : IsSomeAnd (Was i) (λ r. P r.generation r.layer) → IsSomeAnd (Is i) (λ r. P r.generation r.layer)
      creation-forth h = alike-forth (Was i) (Is i) b.body P h

      pub creation-back : IsSomeAnd (Is i) (λ r. P r.generation r.layer) → IsSomeAnd (Was i) (λ r. P r.generation r.layer)
      creation-back h = go (Was i) (Is i) b.body h
        where
          go : (o p : Option Record) → IsAlike o p → IsSomeAnd p (λ r. P r.generation r.layer) → IsSomeAnd o (λ r. P r.generation r.layer)
          go o p no_body h = h
          go o p (a_body r q g l) h = subst (λ (x : ℕ). P x r.layer) g (subst (P q.generation) l h)

    -- and what is said of its phase, where that stays
    module _ (P : BodyPhase → Type 0) where
      forth : (o p : Option Record) → IsAlike o p → SamePhase o p → IsSomeAnd o (λ r. P r.phase) → IsSomeAnd p (λ r. P r.phase)
      forth o p no_body same h = h
      forth o p (a_body r q g l) same h = subst P (sym (same r q refl refl)) h

      back : (o p : Option Record) → IsAlike o p → SamePhase o p → IsSomeAnd p (λ r. P r.phase) → IsSomeAnd o (λ r. P r.phase)
      back o p no_body same h = h
      back o p (a_body r q g l) same h = subst P (same r q refl refl) h

      pub phase-back : PhaseStays i → IsSomeAnd (Is i) (λ r. P r.phase) → IsSomeAnd (Was i) (λ r. P r.phase)
      phase-back same h = back (Was i) (Is i) b.body same.body h

      -- and of a body that is out
      pub phase-forth : P Out → IsSomeAnd (Was i) (λ r. P r.phase) → IsSomeAnd (Is i) (λ r. P r.phase)
      phase-forth out h = elim (b.phase) [ inl same ↦ forth (Was i) (Is i) b.body same.body h | inr gone ↦ some_and_map (Is i) _ _ (λ q e. subst P (sym e) out) gone.body ]

    -- a body that is in the broad phase was in it, and its phase word stays
    pub in-stays : (q : Record) → Is i ≡ Some q → q.phase ≡ In → PhaseStays i
    in-stays q e inside =
        elim (b.phase) [
          | inl same ↦ same
          | inr gone ↦ absurd (go (Is i) gone.body (record_body (Is i) (λ r. r.phase ≡ In) q e inside))
        ]
      where
        go : (o : Option Record) → IsSomeAnd o (λ r. r.phase ≡ Out) → IsSomeAnd o (λ r. r.phase ≡ In) → ⊥
        go None h k = h
        go (Some r) h k = out_in (sym h ∙ k)

    pub in-was : (q : Record) → Is i ≡ Some q → q.phase ≡ In → (r : Record) × (Was i ≡ Some r) × (r.phase ≡ In) × (q.layer ≡ r.layer)
    in-was q e inside = let t = record-was q e in (t.0, t.1, sym ((in-stays q e inside).body t.0 q t.1 e) ∙ inside, t.3)

    -- who takes it out does so still, and the pass does where it has taken it out
    module _ (a : Acts core step) (scope : Scope) (keeps : KeepsNumber scope) (was : Removes (seen_of scope step.number step.view).call.task i → Removes step.view.call.task i)
        (seen : Removes (Last kind core step).call.task i → Removes (seen_of scope step.number (Last kind core step)).call.task i) where
      pub removed-forth : IsRemoved (sight scope core) i → IsRemoved (sight scope (After kind core step)) i
      removed-forth h = (
        h.0,
        has-step scope keeps kind core step a.at a.pass h.0 (λ v. Removes v.call.task i) (λ v. Removes v.call.task i) h.1 (λ seat view apart found own removes. removes)
            (λ same removes. seen (elim (b.phase) [ inl stays ↦ stays.removes.0 (was removes) | inr gone ↦ gone.removes ])),
      )

      -- so of a body that nobody takes out the phase stays, and nobody took it out
      pub unremoved-stays : ¬ IsRemoved (sight scope (After kind core step)) i → PhaseStays i × ¬ IsRemoved (sight scope core) i
      unremoved-stays left = (elim (b.phase) [ inl stays ↦ stays | inr gone ↦ absurd (left (removed-now i a scope keeps seen gone.removes)) ], λ removed. left (removed-forth removed))
