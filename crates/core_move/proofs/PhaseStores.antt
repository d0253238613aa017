-- Taking a body out: its phase is stored, with the entry. All its places stay; what the laws of trees say of it is from
-- then on what they say of a body that is taken out.
use Rattle.std.proofs.Common.{◌≡◌, ◌≢◌, ℕ, ◌+◌, ◌-◌, ◌<◌, [], Option, Some, false, IsSomeAnd, refl, ap, sym, ◌∙◌, subst, inl, inr, arith, List, ◌++◌, ◌∷◌}
use Rattle.std.proofs.lemmas.Bool.{false≢true}
use Rattle.scene_model.specs.declared.body_view.Phase.TheVariants.{Out, Held, In}
use Rattle.scene_model.specs.declared.entry.Entry.TheVariants.{Remove}
use Rattle.scene_model.specs.Scene.{Record, record_at}
use Rattle.scene_model.specs.Step.{HasBody, in_phase}
use Rattle.word_map.specs.declared.name.Name.{Name}
use Rattle.word_map.specs.declared.name.Name.TheVariants.{State, Phase, Layer, LocA, LocB, Child, Slot, BoxWord}
use Rattle.core_state.specs.declared.view.Task.{Task}
use Rattle.core_state.specs.declared.view.Task.TheVariants.{Removing}
use Rattle.core_state.specs.declared.view.Call.{Call}
use Rattle.core_state.specs.Core.{Core, word_of, scene_of}
use Rattle.core_state.specs.Kind.{Step, learned, after_step, log_after}
use Rattle.core_state.specs.Removing.{MayRemove, remove, removing_by, removal_of}
use Rattle.core_state.specs.Invariants.{Invariants}
use Rattle.core_state.specs.Scope.{sight}
use Rattle.core_state.specs.Bodies.{phase_by, MovesBody}
use Rattle.core_state.specs.Updates.{IsPlacing}
use Rattle.core_state.specs.LocationsHold.{location_scope, IsLocation, IsAt, IsTakenOut, Removes}
use Rattle.core_state.specs.Space.{IsTarget}
use Rattle.core_state.proofs.Beginning.{body_record, record_body}
use Rattle.core_state.proofs.Opening.{none_in}
use Rattle.core_state.proofs.Steps.{word-step-other, word-step}
use Rattle.core_guard.proofs.BodyAnew.{TurnsBody, Invariants-turned}
use Rattle.core_guard.proofs.BodiesStep.{whole-back}
use Rattle.core_guard.proofs.CoverLeft.{in_place}
use Rattle.core_guard.proofs.Holders.{IsGuarded, guarded}
use Rattle.core_guard.proofs.Leaving.{Acts, After, body_of, in_held, out_held, out_in}
use Rattle.core_guard.proofs.PhaseAgree.{is_phase}
use Rattle.core_guard.proofs.PlacesLeft.{SeenUpdate, body_in_place}
use Rattle.core_guard.proofs.PlacesStay.{acting, begun-placed, where-live}
use Rattle.core_guard.proofs.Recalled.{task-is}
use Rattle.core_guard.proofs.Settled.{settled-still}
use Rattle.core_guard.proofs.Touched.{IsKept, kept}
use Rattle.core_guard.proofs.OnBody.{OnBody, IsOn}
use Rattle.core_state.specs.Log.{history}
use Rattle.core_guard.proofs.Changed.{Changes, changes-made, record-after, others-after}
use Rattle.core_guard.proofs.InPlace.{InPlace, alike-of, creation-forth}
use Rattle.core_guard.proofs.AgreeOn.{is_turned, Turned, BodiesAgree-turned}
use Rattle.core_guard.proofs.LivesGuarded.{IsStripeWord, stripe-guarded}
use Rattle.core_guard.proofs.OneBody.{history-made}
use Rattle.std.proofs.lemmas.Option.{same_Some}
use Rattle.scene_model.specs.declared.entry.Made.{Made}

module _ (core : Core) (step : Step) (a : Acts core step) (asked : MayRemove step.view step.name step.first step.second) where
  abbrev new_call : Call
  new_call = record { task = Removing asked.index; loads = []; stores = [] }

  o : OnBody remove core step asked.index new_call
  o = record { stripe = asked.settled.stripe; before = subst (IsOn asked.index) (sym asked.idle) tt; after = refl; recalls = ap (λ (n : Name). removing_by (learned core step) n) asked.names }

  body : (r : Record) × (record_at (scene_of core) asked.index ≡ Some r) × (r.phase ≡ In)
  body =
      body_record (record_at (scene_of core) asked.index) (λ r. r.phase ≡ In)
      (subst (λ (o : Option Record). IsSomeAnd o (λ r. r.phase ≡ In)) (sym (settled-still core step a asked.index asked.settled).body) asked.inside)

  abbrev past : List Made
  past = history core.log ++ record { pass = step.number; entry = Remove asked.index } ∷ []

  goes_on : history (log_after remove core step) ≡ past
  goes_on = history-made remove core step (Remove asked.index) refl (ap removal_of asked.names)

  changes : Changes core asked.index past (in_phase Out body.0)
  changes = changes-made core asked.index a.laws.bodies body.0 body.1 step.number (Remove asked.index) (in_phase Out) (λ scene. refl) (record_body (record_at (scene_of core) asked.index) (λ r. r.phase ≡ In) body.0 body.1 body.2, tt)

  here-after : record_at (scene_of (After remove core step)) asked.index ≡ Some (in_phase Out body.0)
  here-after = record-after remove core step asked.index past (in_phase Out body.0) changes goes_on

  word-same : (name : Name) → is_phase name ≡ false → word_of (After remove core step) name ≡ word_of core name
  word-same name none = word-step-other remove core step name (λ same. false≢true (sym none ∙ ap is_phase (same ∙ asked.names)))

  phase-after : word_of (After remove core step) (Phase asked.index) ≡ 0
  phase-after = ap (word_of (After remove core step)) (sym asked.names) ∙ (word-step remove core step ∙ asked.out)

  out-after : HasBody (scene_of (After remove core step)) asked.index (λ r. r.phase ≡ Out)
  out-after = record_body (record_at (scene_of (After remove core step)) asked.index) (λ r. r.phase ≡ Out) (in_phase Out body.0) here-after refl

  -- it is where it was, and out
  out-in_place : InPlace remove core step asked.index
  out-in_place = record {
    body = alike-of (record_at (scene_of core) asked.index) (record_at (scene_of (After remove core step)) asked.index) body.0 (in_phase Out body.0) body.1 here-after refl refl;
    loc_a = word-same (LocA asked.index) refl;
    loc_b = word-same (LocB asked.index) refl;
    state = word-same (State asked.index) refl;
    layer = word-same (Layer asked.index) refl;
    places = (λ h. absurd (subst (λ (t : Task). IsPlacing t asked.index) asked.idle h), λ h. absurd (subst (λ (t : Task). IsPlacing t asked.index) (task-is remove core step new_call o.recalls) h));
    phase = inr (record { body = out-after; word = phase-after; removes = subst (λ (t : Task). Removes t asked.index) (sym (task-is remove core step new_call o.recalls)) refl });
  }

  -- its locations are where they were
  is-at : (n k : ℕ) → IsLocation (sight location_scope (After remove core step)) asked.index n k → IsAt a.laws.nodes (sight location_scope core) asked.index body.0 n k
  is-at n k h = a.laws.locations.at asked.index body.0 n k body.1 body.2 (h.0, elim (h.1) [ inl e ↦ inl (sym out-in_place.loc_a ∙ e) | inr e ↦ inr (sym out-in_place.loc_b ∙ e) ])

  taken : IsTakenOut a.laws.nodes (sight location_scope (After remove core step)) (acting new_call (SeenUpdate remove core step)) asked.index
  taken = record {
    out = out-after;
    cleared = λ n k location. let t = is-at n k location in (t.stands, inr (word-same (Child n k) refl ∙ t.entry, refl, λ among. none_in _ among));
    live = λ n k below e. where-live a.laws.nodes (sight location_scope core) asked.index body.0.layer n (a.laws.locations.first asked.index body.0 n k body.1 body.2 below (sym (word-same (LocA asked.index) refl) ∙ e));
  }

  turns : TurnsBody remove core step a.laws.nodes asked.index new_call
  turns = record {
    on = o;
    of_body = ap body_of asked.names;
    others = others-after remove core step asked.index past (in_phase Out body.0) changes goes_on;
    layer = λ g l. creation-forth remove core step asked.index out-in_place (λ x y. (x ≡ g) × (y ≡ l));
    targets = λ index q side target. absurd (subst (λ (t : Task). IsTarget t index q side) asked.idle target);
    unheld = record_body (record_at (scene_of core) asked.index) (λ r. r.phase ≢ Held) body.0 body.1 (λ held. in_held (sym body.2 ∙ held));
    placed = body_in_place out-in_place (λ q n k e inside. absurd (out_in (ap (λ (x : Record). x.phase) (same_Some (in_phase Out body.0) q (sym here-after ∙ e)) ∙ inside)));
    stand = λ n k location. (is-at n k location).stands;
    covered = in_place out-in_place;
    own = begun-placed a.laws.nodes (sight location_scope (After remove core step)) (SeenUpdate remove core step) (Removing asked.index) (λ j removes. subst (IsTakenOut a.laws.nodes (sight location_scope (After remove core step)) (acting new_call (SeenUpdate remove core step))) removes taken) tt (λ n k climbs. absurd climbs);
  }

  agrees : Turned remove core step a asked.index new_call o past body.0 (in_phase Out body.0)
  agrees = record {
    of_body = ap body_of asked.names;
    turned = ap is_turned asked.names;
    was = body.1;
    changes = changes;
    made = goes_on;
    unheld = λ held. in_held (sym body.2 ∙ held);
    unheld_now = λ held. out_held held;
    layer = refl;
    user = refl;
    bounds = λ whole k below. word-same (BoxWord asked.index k) refl
        ∙ (a.laws.bodies.live asked.index body.0 body.1).bounds (whole-back remove core step a.at a.pass past asked.index (λ between. absurd (subst (λ (t : Task). MovesBody t asked.index) asked.idle between.0)) whole) k below;
    phase = ap (λ (n : ℕ). phase_by n (word_of core (Slot body.0.layer (n - 2)))) phase-after;
    fits = subst (λ (n : ℕ). n < 2 + core.config.slots) (sym phase-after) (omega arith);
  }

  Invariants-removed : Invariants (after_step remove core step)
  Invariants-removed = Invariants-turned remove core step a asked.index new_call turns (BodiesAgree-turned remove core step a asked.index new_call o past body.0 (in_phase Out body.0) agrees)

-- ---- kind 39

pub Invariants-remove : IsKept MayRemove remove
Invariants-remove = kept MayRemove remove Invariants-removed

pub GuardsHold-remove : IsGuarded MayRemove remove
GuardsHold-remove = guarded MayRemove remove (λ core step a asked. stripe-guarded remove core step a asked.index asked.settled.stripe (turns core step a asked).unheld (subst (IsStripeWord asked.index) (sym asked.names) refl))
