-- Clearing a location of a body that is taken out: its entries are cleared, so nothing leads to the location, and nothing
-- stands at it. The first location is cleared before the second, with which the removal ends.
use Rattle.std.proofs.Common.{◌≡◌, ◌≢◌, ◌⊎◌, ℕ, Some, false, refl, ap, sym, ◌∙◌, subst, inl, inr}
use Rattle.word_map.specs.declared.name.Name.{Name}
use Rattle.word_map.specs.declared.name.Name.TheVariants.{LocA, LocB, Child, Bound}
use Rattle.core_state.specs.declared.view.Task.{Task}
use Rattle.core_state.specs.declared.view.Task.TheVariants.{Nothing, Removing}
use Rattle.core_state.specs.declared.view.Call.{Call}
use Rattle.core_state.specs.View.{no_call}
use Rattle.core_state.specs.Core.{Core, word_of}
use Rattle.core_state.specs.Kind.{Step, learned, after_step}
use Rattle.core_state.specs.Removing.{HasClearedEntries, MayClearLocation, the_first, the_second, clear_location, location_cleared}
use Rattle.core_state.specs.Moving.{with_store}
use Rattle.core_state.specs.Guards.{KeepsGuards}
use Rattle.core_state.specs.Parts.{call_on_places}
use Rattle.core_state.specs.Scope.{Sight, sight}
use Rattle.core_state.specs.Bodies.{MovesBody}
use Rattle.core_state.specs.BodiesAgree.{body_scope}
use Rattle.core_state.specs.Updates.{IsPlacing}
use Rattle.core_state.specs.LocationsHold.{location_scope, Removes}
use Rattle.core_state.specs.Invariants.{Invariants}
use Rattle.core_state.specs.Space.{IsTarget}
use Rattle.core_state.proofs.Steps.{word-step, word-step-other}
use Rattle.core_guard.proofs.Holders.{IsGuarded, guarded}
use Rattle.core_guard.proofs.InPlace.{removed-now}
use Rattle.core_guard.proofs.Leaving.{Acts, After, Last, body_of}
use Rattle.core_guard.proofs.LivesGuarded.{IsStripeWord, stripe-guarded}
use Rattle.core_guard.proofs.OnBody.{IsOn}
use Rattle.core_guard.proofs.OutBody.{IsLeftOut, Invariants-left_out, out-after, location-was, other-word, first-off}
use Rattle.core_guard.proofs.PlacesLeft.{SeenUpdate}
use Rattle.core_guard.proofs.PlacesStay.{PassIsPlaced, begun-placed, task-seen, removes-busy}
use Rattle.core_guard.proofs.Recalled.{Recalls, task-is}
use Rattle.core_guard.proofs.Touched.{IsKept, kept}
use Rattle.core_move.proofs.Removers.{stored_more, more-placed, taken, body_out, first-known, location-known, removes-on, not-held, known-stripe}

-- afterwards the first location is 0, and the second one is as it was while the pass goes on, or 0 where it has done
pub record Clears (core : Core) (step : Step) : Type 0 where
  pub i : ℕ
  entries : HasClearedEntries step.view i
  names : (step.name ≡ LocA i) ⊎ (step.name ≡ LocB i)
  pub call : Call
  recalls : Recalls clear_location core step call
  pub first : word_of (After clear_location core step) (LocA i) ≡ 0
  second : ((word_of (After clear_location core step) (LocB i) ≡ word_of core (LocB i)) × (call ≡ stored_more step)) ⊎ ((word_of (After clear_location core step) (LocB i) ≡ 0) × (call ≡ no_call))

pub stored : (core : Core) (step : Step) (name : Name) → step.first ≡ 0 → step.name ≡ name → word_of (After clear_location core step) name ≡ 0
stored core step name none names = ap (word_of (After clear_location core step)) (sym names) ∙ (word-step clear_location core step ∙ none)

unfoldable pub clears : (core : Core) (step : Step) (a : Acts core step) → MayClearLocation step.view step.name step.first step.second → Clears core step
clears core step a (the_first i names entries none) = record {
  i = i;
  entries = entries;
  names = inl names;
  call = stored_more step;
  recalls = ap (λ (n : Name). location_cleared (learned core step) n step.first) names ∙ ap (λ (n : Name). with_store (learned core step) n step.first) (sym names);
  first = stored core step (LocA i) none names;
  second = inl (word-step-other clear_location core step (LocB i) (subst (λ (n : Name). LocB i ≢ n) (sym names) (λ e. absurd cc)), refl);
}
clears core step a (the_second i names entries first none) = record {
  i = i;
  entries = entries;
  names = inr names;
  call = no_call;
  recalls = ap (λ (n : Name). location_cleared (learned core step) n step.first) names;
  first = word-step-other clear_location core step (LocA i) (subst (λ (n : Name). LocA i ≢ n) (sym names) (λ e. absurd cc)) ∙ (first-known clear_location core step a i entries.task ∙ first);
  second = inr (stored core step (LocB i) none names, refl);
}

module _ (core : Core) (step : Step) (a : Acts core step) (c : Clears core step) where
  abbrev Is : Sight
  Is = sight location_scope (After clear_location core step)

  -- what is so of both names, and of the task that goes on and of none
  on-name : (P : Name → Type 0) → P (LocA c.i) → P (LocB c.i) → P step.name
  on-name P one two = elim (c.names) [ inl e ↦ subst P (sym e) one | inr e ↦ subst P (sym e) two ]

  on-task : (P : Task → Type 0) → P (Removing c.i) → P Nothing → P c.call.task
  on-task P one two = elim (c.second) [ inl t ↦ subst (λ (d : Call). P d.task) (sym t.1) (subst P (sym c.entries.task) one) | inr t ↦ subst (λ (d : Call). P d.task) (sym t.1) two ]

  pub left : IsLeftOut clear_location core step a c.i c.call
  left = record {
    on = removes-on clear_location core step a c.i c.entries.task c.call (on-task (IsOn c.i) refl tt) c.recalls;
    of_body = on-name (λ n. body_of n ≡ Some c.i) refl refl;
    unread = on-name (λ n. body_scope.names n ≡ false) refl refl;
    plain = λ value. refl;
    out = body_out clear_location core step a c.i c.entries.task;
    stand = λ n k at. ((taken clear_location core step a c.i c.entries.task).cleared n k at).0;
    empty = λ n k at. elim (((taken clear_location core step a c.i c.entries.task).cleared n k at).1) [ inl e ↦ e | inr e ↦ absurd (e.2 (c.entries.cleared n k (location-known clear_location core step a c.i c.entries.task n k at))) ];
    first = c.first;
    second = elim (c.second) [ inl t ↦ inl t.0 | inr t ↦ inr t.0 ];
    -- while the pass goes on the body is one that is removed
    gone = λ none.
        elim (c.second) [
          | inl t ↦
              let now = task-is clear_location core step c.call c.recalls ∙ (ap (λ (d : Call). d.task) t.1 ∙ c.entries.task) in
              absurd (none (removed-now clear_location core step c.i a location_scope (λ k v. refl) (task-seen (λ t. Removes t c.i) (removes-busy c.i) (Last clear_location core step).call) (subst (λ (t : Task). Removes t c.i) (sym now) refl)))
          | inr t ↦ t.0
        ];
    unplaced = (λ h. subst (λ (t : Task). IsPlacing t c.i) c.entries.task h, on-task (λ t. ¬ IsPlacing t c.i) (λ no. no) (λ no. no));
    unmoved = (λ j q side target. subst (λ (t : Task). IsTarget t j q side) c.entries.task target, λ moves. subst (λ (t : Task). MovesBody t c.i) c.entries.task moves);
  }

  own-after : PassIsPlaced a.laws.nodes Is (call_on_places c.call) (SeenUpdate clear_location core step)
  own-after =
      elim (c.second) [
        | inl t ↦
            subst (λ (d : Call). PassIsPlaced a.laws.nodes Is (call_on_places d) (SeenUpdate clear_location core step)) (sym t.1)
            (more-placed clear_location core step a c.i c.entries.task Is (λ n k q. on-name (λ name. Bound n k q ≢ name) (λ e. absurd cc) (λ e. absurd cc)) (record {
              out = out-after clear_location core step a c.i c.call left;
              cleared = λ n k at.
                  let old = location-was clear_location core step a c.i c.call left n k at in
                  (left.stand n k old, inl (other-word clear_location core step a c.i c.call left (Child n k) refl ∙ left.empty n k old));
              live = λ n k below e. absurd (first-off clear_location core step a c.i c.call left n k e);
            }))
        | inr t ↦
            subst (λ (d : Call). PassIsPlaced a.laws.nodes Is (call_on_places d) (SeenUpdate clear_location core step)) (sym t.1)
            (begun-placed a.laws.nodes Is (SeenUpdate clear_location core step) Nothing (λ j removes. absurd removes) tt (λ n k climbs. absurd climbs))
      ]

  Invariants-cleared : Invariants (after_step clear_location core step)
  Invariants-cleared = Invariants-left_out clear_location core step a c.i c.call left own-after

  guarded-cleared : KeepsGuards clear_location core step
  guarded-cleared = stripe-guarded clear_location core step a c.i (known-stripe clear_location core step a c.i c.entries.task) (not-held clear_location core step a c.i c.entries.task) (on-name (IsStripeWord c.i) refl refl)

-- ---- kind 41

pub Invariants-clear_location : IsKept MayClearLocation clear_location
Invariants-clear_location = kept MayClearLocation clear_location (λ core step a asked. Invariants-cleared core step a (clears core step a asked))

pub GuardsHold-clear_location : IsGuarded MayClearLocation clear_location
GuardsHold-clear_location = guarded MayClearLocation clear_location (λ core step a asked. guarded-cleared core step a (clears core step a asked))
