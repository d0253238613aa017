-- A body that is out before the step and after it, and of which no entry stands: its first location leads nowhere any more,
-- and its second one where it led, or nowhere.
use Rattle.std.proofs.Common.{◌≡◌, ◌≢◌, ◌⊎◌, ℕ, Option, Some, None, false, IsSomeAnd, ap, sym, ◌∙◌, subst, inl, inr, arith}
use Rattle.std.proofs.lemmas.Bool.{false≢true}
use Rattle.std.proofs.lemmas.Option.{none-some}
use Rattle.scene_model.specs.declared.body_view.Phase.TheVariants.{Out, In}
use Rattle.scene_model.specs.Scene.{Record, record_at}
use Rattle.scene_model.specs.Step.{HasBody}
use Rattle.word_map.specs.declared.name.Name.{Name}
use Rattle.word_map.specs.declared.name.Name.TheVariants.{Phase, LocA, LocB, Child}
use Rattle.core_state.specs.declared.view.Task.{Task}
use Rattle.core_state.specs.declared.view.Call.{Call}
use Rattle.core_state.specs.declared.view.View.{View}
use Rattle.core_state.specs.Core.{Core, word_of, scene_of}
use Rattle.core_state.specs.Kind.{Kind, Step, after_step}
use Rattle.core_state.specs.Encoding.{place}
use Rattle.core_state.specs.Nodes.{Nodes, Stands}
use Rattle.core_state.specs.Parts.{call_on_places}
use Rattle.core_state.specs.Space.{IsTarget}
use Rattle.core_state.specs.Bodies.{MovesBody}
use Rattle.core_state.specs.BodiesAgree.{body_scope}
use Rattle.core_state.specs.Invariants.{Invariants}
use Rattle.core_state.specs.Scope.{sight}
use Rattle.core_state.specs.Updates.{IsPlacing}
use Rattle.core_state.specs.LocationsHold.{location_scope, IsLocation, IsRemoved}
use Rattle.core_state.proofs.Steps.{word-step-other}
use Rattle.core_guard.proofs.BodiesStep.{zero-out}
use Rattle.core_guard.proofs.BodyAnew.{turn-leaves, Invariants-turned}
use Rattle.core_guard.proofs.CallsAgree.{BodiesAgree-beside}
use Rattle.core_guard.proofs.BodyTouch.{no_place}
use Rattle.core_guard.proofs.CoverLeft.{IsOff, off_trees}
use Rattle.core_guard.proofs.InPlace.{alike-same}
use Rattle.core_guard.proofs.Leaving.{Acts, After, Last, Leaves, body_of, scene-plain, some_and_map, out_in, out_held}
use Rattle.core_guard.proofs.OnBody.{OnBody, others-else}
use Rattle.core_guard.proofs.PlacesLeft.{SeenUpdate, IsAnew, body_anew}
use Rattle.core_guard.proofs.PlacesStay.{PassIsPlaced, second-forth}
use Rattle.core_guard.proofs.Recalled.{recalled, task-is}
use Rattle.core_guard.proofs.Scenes.{none_here}

module _ (kind : Kind) (core : Core) (step : Step) (a : Acts core step) (i : ℕ) (call : Call) where
  abbrev nodes : Nodes
  nodes = a.laws.nodes

  pub record IsLeftOut : Type 0 where
    pub on : OnBody kind core step i call
    pub of_body : body_of step.name ≡ Some i
    pub unread : body_scope.names step.name ≡ false
    pub plain : (value : ℕ) → kind.entry step.view step.name value ≡ None
    pub out : HasBody (scene_of core) i (λ r. r.phase ≡ Out)
    pub stand : (n k : ℕ) → IsLocation (sight location_scope core) i n k → Stands (nodes.home n)
    pub empty : (n k : ℕ) → IsLocation (sight location_scope core) i n k → word_of core (Child n k) ≡ 0
    pub first : word_of (After kind core step) (LocA i) ≡ 0
    pub second : (word_of (After kind core step) (LocB i) ≡ word_of core (LocB i)) ⊎ (word_of (After kind core step) (LocB i) ≡ 0)
    -- it has a second location only while a pass takes it out; and this one neither places nor moves a body
    pub gone : ¬ IsRemoved (sight location_scope (After kind core step)) i → word_of (After kind core step) (LocB i) ≡ 0
    pub unplaced : ¬ IsPlacing step.view.call.task i × ¬ IsPlacing call.task i
    pub unmoved : ((j q side : ℕ) → ¬ IsTarget step.view.call.task j q side) × ¬ MovesBody step.view.call.task i

  module _ (b : IsLeftOut) where
    leaves : Leaves kind core step nodes nodes (λ n. ⊥)
    leaves = turn-leaves kind core step nodes i b.of_body (ap (λ (v : View). v.rebuild) (recalled kind core step call b.on.recalls))

    pub other-word : (name : Name) → body_of name ≡ None → word_of (After kind core step) name ≡ word_of core name
    other-word name none = word-step-other kind core step name (λ e. none-some i (sym none ∙ (ap body_of e ∙ b.of_body)))

    same : (j : ℕ) → record_at (scene_of (After kind core step)) j ≡ record_at (scene_of core) j
    same j = scene-plain kind core step b.plain j

    pub out-after : HasBody (scene_of (After kind core step)) i (λ r. r.phase ≡ Out)
    out-after = subst (λ (x : Option Record). IsSomeAnd x (λ r. r.phase ≡ Out)) (sym (same i)) b.out

    unseen : (r : Record) → record_at (scene_of (After kind core step)) i ≡ Some r → r.phase ≢ In
    unseen r e inside = out_in (sym (subst (λ (x : Option Record). IsSomeAnd x (λ r. r.phase ≡ Out)) e out-after) ∙ inside)

    pub first-off : (n k : ℕ) → word_of (After kind core step) (LocA i) ≢ place n k
    first-off n k = no_place kind core step (word_of (After kind core step) (LocA i)) n k b.first

    -- a location was one before
    pub location-was : (n k : ℕ) → IsLocation (sight location_scope (After kind core step)) i n k → IsLocation (sight location_scope core) i n k
    location-was n k h = (
      h.0,
      elim (h.1) [ inl e ↦ absurd (first-off n k e) | inr e ↦ inr (elim (b.second) [ inl same ↦ sym same ∙ e | inr none ↦ absurd (no_place kind core step (word_of (After kind core step) (LocB i)) n k none e) ]) ],
    )

    unplaced-after : ¬ IsPlacing (Last kind core step).call.task i
    unplaced-after h = b.unplaced.1 (subst (λ (t : Task). IsPlacing t i) (task-is kind core step call b.on.recalls) h)

    -- so what the laws of trees say of it holds
    anew : IsAnew kind core step nodes nodes i
    anew = record {
      placed = record {
        at = λ r n k e inside at. absurd (unseen r e inside);
        first = λ r n k e inside below at. absurd (unseen r e inside);
        located = λ r e inside none. unseen r e inside;
        second = λ other.
            elim (b.second) [
              | inl same_word ↦ second-forth kind core step a nodes (λ n. ⊥) leaves i same_word (alike-same _ _ (same i)) (a.laws.locations.second i (λ none. other (same_word ∙ none)))
              | inr none ↦ absurd (other none)
            ];
        dead = λ dead. absurd (none_here (record_at (scene_of (After kind core step)) i) (λ r. r.phase ≡ Out) dead out-after);
        out = λ out left. (b.first, b.gone left);
      };
      alone = others-else kind core step i call a b.on;
      entry = λ n k published below entry at. let none = b.empty n k at in absurd (omega arith);
      second = λ n k stands below entry e. let none = b.empty n k (below, inr e) in absurd (omega arith);
      places = (λ h. absurd (b.unplaced.0 h), λ h. absurd (unplaced-after h));
    }

    off : IsOff kind core step nodes nodes i
    off = record {
      covered = record { covered = λ r e inside. absurd (unseen r e inside); replaced = λ n k number name below at. absurd (first-off n k at) };
      off = λ n k below at. absurd (first-off n k at);
      unjoined = λ l t root has joins.
          let zero = zero-out core a.laws.bodies i b.out in
          let now = word-step-other kind core step (Phase i) (λ e. false≢true (sym b.unread ∙ ap body_scope.names (sym e))) in
          absurd (omega arith);
      calm = λ h. absurd (unplaced-after h);
    }

    -- and all laws do, where what they say of the pass does
    pub Invariants-left_out : PassIsPlaced nodes (sight location_scope (After kind core step)) (call_on_places call) (SeenUpdate kind core step) → Invariants (after_step kind core step)
    Invariants-left_out own =
        Invariants-turned kind core step a i call
        (record {
          on = b.on;
          of_body = b.of_body;
          others = λ j apart. same j;
          layer = λ g l body. subst (λ (x : Option Record). IsSomeAnd x (λ r. (r.generation ≡ g) × (r.layer ≡ l))) (sym (same i)) body;
          targets = λ j q side target. absurd (b.unmoved.0 j q side target);
          unheld = some_and_map (record_at (scene_of core) i) _ _ (λ r out held. absurd (out_held (sym out ∙ held))) b.out;
          placed = body_anew anew;
          stand = λ n k at. b.stand n k (location-was n k at);
          covered = off_trees off;
          own = own;
        })
        (BodiesAgree-beside kind core step a i call b.on (λ between. absurd (b.unmoved.1 between.0)) b.unread b.plain)
