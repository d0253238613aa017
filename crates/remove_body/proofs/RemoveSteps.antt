-- What the turns of a removal leave that load and store words of the body and of its places, and the last one.
use Rattle.std.specs.Prelude.{◌%◌, ◌^◌, option_map, Contains}
use Rattle.std.proofs.Common.{◌≡◌, ◌≢◌, ◌⊎◌, ℕ, zero, suc, ◌+◌, ◌*◌, ◌<◌, ◌≤◌, List, [], ◌∷◌, ◌++◌, Bool, true, false, Option, Some, None, Ok, Err, Result, IsSomeAnd, cond, eqb, append_assoc, refl, ap, sym, ◌∙◌, subst, inl, inr, arith}
use mathlib.Core.Logic.{∥∥₁_elim}
use Rattle.std.proofs.Props.{props}
use Rattle.std.proofs.lemmas.Bool.{cases_lt}
use Rattle.std.proofs.lemmas.List.Elements.{Contains-append_left, Contains-append_right}
use Rattle.body_ident.specs.Id.{Id}
use Rattle.scene_model.specs.declared.body_view.Phase.TheVariants.{Out, Held, In}
use Rattle.scene_model.specs.declared.entry.Entry.{Entry}
use Rattle.scene_model.specs.declared.entry.Entry.TheVariants.{Remove}
use Rattle.scene_model.specs.Scene.{Record, record_at}
use Rattle.scene_model.specs.Cause.{HasIdBody}
use Rattle.word_map.specs.declared.config.Config.{Config}
use Rattle.word_map.specs.declared.name.Name.{Name}
use Rattle.word_map.specs.declared.name.Name.TheVariants.{Lock, State, Phase, LocA, LocB, Child}
use Rattle.word_map.specs.Limits.{IsConfig}
use Rattle.word_map.specs.Names.{stripe_of, node_count}
use Rattle.core_state.specs.declared.item.Item.{Item}
use Rattle.core_state.specs.declared.item.Store.{Store}
use Rattle.core_state.specs.declared.view.Mode.{Mode}
use Rattle.core_state.specs.declared.view.Mode.TheVariants.{Write}
use Rattle.core_state.specs.declared.view.LockStep.TheVariants.{Taken as TakenStep, Released}
use Rattle.core_state.specs.declared.view.Role.{Role}
use Rattle.core_state.specs.declared.view.Task.{Task}
use Rattle.core_state.specs.declared.view.Task.TheVariants.{Nothing, Removing as RemovingTask}
use Rattle.core_state.specs.declared.view.Call.{Call}
use Rattle.core_state.specs.declared.view.View.{View}
use Rattle.core_state.specs.View.{IsPass, Holds, number_in, mode_of}
use Rattle.core_state.specs.Encoding.{place}
use Rattle.core_state.specs.Event.{of_removals, removes, clears_entry, clears_location}
use Rattle.core_state.specs.Guards.{scene_at}
use Rattle.core_state.specs.Kind.{Asking, Kind, Step, item_of}
use Rattle.core_state.specs.Lives.{MayLoadBody, under_stripe}
use Rattle.core_state.specs.LocationsHold.{location_scope, IsLocation, Removes, IsTakenOut}
use Rattle.core_state.specs.Locking.{MayRelease, release}
use Rattle.core_state.specs.Moving.{HasStored}
use Rattle.core_state.specs.Nodes.{Stands}
use Rattle.core_state.specs.Operation.{store}
use Rattle.core_state.specs.Parts.{call_by_task}
use Rattle.core_state.specs.Removing.{MayRemove, remove, MayClearEntry, clear_entry, HasClearedEntries, MayClearLocation, the_first, the_second, clear_location}
use Rattle.core_state.specs.Scope.{Sight, sight}
use Rattle.core_guard.proofs.Seats.{seen_of, each-seat}
use Rattle.pass_table.specs.declared.turn.Turn.TheVariants.{Done, More}
use Rattle.body_look.specs.declared.look_op.LookOp.{LookOp}
use Rattle.pass_table.specs.Stepping.{step_by, Stored}
use Rattle.pass_table.specs.Turning.{AtMostOneStep, MadeBy, IsUnderWay, HasReached}
use Rattle.pass_table.specs.Labels.{IsRefusal}
use Rattle.pass_table.specs.Holding.{MayLetGo, LetGo, IsAtRest}
use Rattle.pass_table.specs.Calls.{Advances, StoresWord}
use Rattle.pass_table.specs.Bodies.{IsCurrent, KnowsLive, Loaded}
use Rattle.pass_table.specs.Settled.{KnowsPhase, KnowsFirst, KnowsSecond}
use Rattle.pass_table.specs.Work.{is_shown}
use Rattle.pass_table.proofs.Knowing.{known-more, step-alone}
use Rattle.pass_table.proofs.Turning.{one-step, still-made}
use Rattle.pass_table.proofs.Calling.{adds-none, stepped-stores, stored-gained, stored-made, stores-word, word-now, word-beside, released-step, released-made, released-lawful}
use Rattle.pass_table.proofs.Bodies.{known-now, stepped-current}
use Rattle.pass_table.proofs.LockedBodies.{live-steady}
use Rattle.pass_table.proofs.Settled.{sound-now, mid-phase, phase-beside, phase-removed, first-beside, second-steady, sure-word, sure-in}
use Rattle.pass_table.proofs.WorkLater.{worked-role, worked-sizes, worked-pass}
use Rattle.pass_table.proofs.Working.{worked-made, worked-released, worked-done, done-keeps}
use Rattle.remove_body.specs.declared.answers.RemoveRefused.{RemoveRefused}
use Rattle.remove_body.specs.declared.remove_op.RemoveStage.{RemoveStage}
use Rattle.remove_body.specs.declared.remove_op.RemoveStage.TheVariants.{Inside, HalfLocated, Located, TakenOut, Cleared, Forgotten, Leaving}
use Rattle.remove_body.specs.declared.remove_op.RemoveOp.{RemoveOp}
use Rattle.pass_table.specs.Ended.{HasEnded}
use Rattle.remove_body.specs.Answers.{HasRemoved, IsJustOut, IsRemoveAnswer}
use Rattle.remove_body.specs.stages.Removing.{IsAtWork, stripe_taken, IsInside, IsOutAt, HasClearedAt, AtRemove, IsBegunFor, IsRemoving, stage_label, answer_label, stage_left, IsRemoveTurn, ClearsEntry, no_place, a_place, IsLocationOf}
use Rattle.remove_body.specs.stages.RemoveLater.{stripe-held, in-apart, out-apart, removed-later, answer-later, inside-later, first-later}
use Rattle.remove_body.proofs.RemoveTurns.{unlabelled}

-- ---- the locations are loaded

module _ (id : Id) (start view next : View) (rest : IsAtRest start) where
  -- a word of the body may be loaded
  pub may-load-first : IsInside id start view → MayLoadBody view (LocA id.index) 0 0
  may-load-first at = under_stripe id.index Write refl (stripe-held id start view _ _ rest at.calling)

  pub may-load-second : IsInside id start view → MayLoadBody view (LocB id.index) 0 0
  may-load-second at = under_stripe id.index Write refl (stripe-held id start view _ _ rest at.calling)

  pub first-loaded : (look : LookOp) (first : ℕ) → Loaded view next (LocA id.index) first → AtRemove id start view look Inside → AtRemove id start next look (HalfLocated first)
  first-loaded look first loaded at = (inside-later id start view next rest loaded.more at, λ sound. loaded.word)

  pub second-loaded : (look : LookOp) (first second : ℕ) → Loaded view next (LocB id.index) second → AtRemove id start view look (HalfLocated first) → AtRemove id start next look (Located first second)
  second-loaded look first second loaded at = (inside-later id start view next rest loaded.more at.0, first-later id start view next rest loaded.more first at.0 at.1, loaded.word)

-- ---- the body is taken out

-- a body in the broad phase is not held
in-free : (o : Option Record) (P : Record → Type 0) → IsSomeAnd o (λ r. P r × (r.phase ≡ In)) → IsSomeAnd o (λ r. r.phase ≢ Held)
in-free None P h = h
in-free (Some r) P h = λ held. in-apart (sym h.1 ∙ held)

in-inside : (o : Option Record) (P : Record → Type 0) → IsSomeAnd o (λ r. P r × (r.phase ≡ In)) → IsSomeAnd o (λ r. r.phase ≡ In)
in-inside None P h = h
in-inside (Some r) P h = h.1

module _ (id : Id) (start view : View) (first second : ℕ) (rest : IsAtRest start) (at : IsInside id start view) (is_first : KnowsFirst id first view) (is_second : KnowsSecond id second view) where
  holds : Holds view (stripe_of view.config id.index) Write
  holds = stripe-held id start view _ _ rest at.calling

  pub asks_remove : ∥ IsCurrent view ∥₁ → MayRemove view (Phase id.index) 0 0
  asks_remove current =
      let here = sure-in view current id at.phase in
      let body = record_at (scene_at view.config view.known) id.index in
      record {
        index = id.index;
        names = refl;
        settled = record { stripe = holds; live = let live = at.phase.live in omega arith; unheld = in-free body (λ r. r.generation % 256 ≡ id.seq) here };
        inside = in-inside body (λ r. r.generation % 256 ≡ id.seq) here;
        idle = at.calling.doing;
        out = refl;
      }

  module _ (next : View) (stored : Stored MayRemove remove view (Phase id.index) 0 next) where
    abbrev removal : Step
    removal = step_by stored.1.seat view stored.1.number (Phase id.index) 0 0

    word : StoresWord view next (Phase id.index) 0
    word = stores-word MayRemove remove view next (Phase id.index) 0 refl stored

    by : Advances view next (item_of remove removal 0 ∷ [])
    by = stepped-stores MayRemove remove view next (Phase id.index) 0 0 stored.0 stored.1 (item_of remove removal 0) (stored-gained MayRemove remove view next (Phase id.index) 0 refl stored) refl

    sizes : next.config ≡ view.config
    sizes = ap (λ (v : View). v.config) stored.1.leaves

    pub removal-step : AtMostOneStep view next
    removal-step = one-step MayRemove remove view next (Phase id.index) 0 0 stored.0 stored.1 (λ before after steps. of_removals (removes steps))

    pub removal-made : (number : ℕ) → IsPass view number → MadeBy view next (Some (record { pass = number; entry = Remove id.index }))
    removal-made number pass = stored-made MayRemove remove view next (Phase id.index) 0 refl stored number pass

    calling : IsAtWork start next (stripe_taken start.config id) (RemovingTask id.index) (Remove id.index ∷ [])
    calling =
        worked-made start view next _ at.calling (Phase id.index) _ (RemovingTask id.index) refl (step-alone MayRemove remove view next (Phase id.index) 0 0 stored.0 stored.1)
        (removal-made at.calling.adds.number (worked-pass start view _ at.calling))
        (stored.1.leaves
        ∙ (λ i. record view {
          known = sym (ap (λ (v : View). v.known) stored.1.leaves) i;
          joined = sym (ap (λ (v : View). v.joined) stored.1.leaves) i;
          call = sym (ap (λ (v : View). v.call) stored.1.leaves) i;
        }))
        (ap (λ (v : View). v.call.task) stored.1.leaves)

    now : IsCurrent next
    now = stepped-current MayRemove remove view next (Phase id.index) 0 0 stored.0 stored.1

    pub has-removed : HasRemoved id start next
    has-removed = record {
      adds = calling.adds;
      at = record {
        since = at.calling.adds.since ++ by.since;
        item = item_of remove removal 0;
        later = [];
        parts =
            by.known
            ∙ ap (λ (l : List Item). l ++ item_of remove removal 0 ∷ []) (ap (λ (l : List Item). l ++ by.since) at.calling.adds.known ∙ append_assoc start.known at.calling.adds.since by.since);
        pass = ap (λ (r : Role). number_in r) (sym (worked-role start view _ at.calling)) ∙ stored.1.allowed.pass;
        makes = refl;
        holds =
            subst (λ (l : List Item). HasIdBody (scene_at start.config l) id (λ r. r.phase ≡ In))
            (ap (λ (l : List Item). l ++ by.since) at.calling.adds.known ∙ append_assoc start.known at.calling.adds.since by.since)
            (subst (λ (c : Config). HasIdBody (scene_at c (view.known ++ by.since)) id (λ r. r.phase ≡ In)) (worked-sizes start view _ at.calling)
            (mid-phase id Write In in-apart view next holds at.phase (item_of remove removal 0 ∷ []) by sizes (sound-now next now)));
      };
    }

    live : KnowsLive id next
    live = word-beside view next (Phase id.index) 0 word sizes (State id.index) (λ same. absurd cc) (live-steady id Write view (State id.index) holds at.phase.live refl) ∙ at.phase.live

    pub taken-out : IsOutAt id start next first second
    taken-out = record {
      calling = calling;
      removed = has-removed;
      phase = phase-removed id Write In in-apart view next holds at.phase (item_of remove removal 0) by sizes refl live;
      at_first = first-beside id Write In in-apart view next holds at.phase (item_of remove removal 0) by sizes first (λ same. absurd cc) is_first;
      at_second = word-beside view next (Phase id.index) 0 word sizes (LocB id.index) (λ same. absurd cc) (second-steady id.index Write view holds) ∙ is_second;
    }

    pub just-out : IsJustOut id start next
    just-out = record { removed = has-removed; doing = ap (λ (v : View). v.call.task) stored.1.leaves; whole = ap (λ (v : View). v.call.stores) stored.1.leaves }

-- so is the turn
pub remove-turn : (before first : RemoveOp) (start view next : View) (number a b : ℕ) → IsRemoving first start before view → IsPass view number → before.stage ≡ Located a b
    → Stored MayRemove remove view (Phase before.id.index) 0 next
    → IsRemoveTurn More before (record before { stage = TakenOut a b; made = Some (record { pass = number; entry = Remove before.id.index }) }) view next
remove-turn before first start view next number a b removing pass at stored =
    let here = subst (AtRemove first.id start view before.look) at removing.2 in
    let own : Stored MayRemove remove view (Phase first.id.index) 0 next = subst (λ (i : Id). Stored MayRemove remove view (Phase i.index) 0 next) removing.0 stored in
    record {
      plain = record {
        step = removal-step first.id start view a b removing.1.rest here.0 here.1 here.2 next own;
        made = subst (λ (i : Id). MadeBy view next (Some (record { pass = number; entry = Remove i.index }))) (sym removing.0) (removal-made first.id start view a b removing.1.rest here.0 here.1 here.2 next own number pass);
        turned = inl (subst (λ (s : RemoveStage). 5 < stage_left before.look s) (sym at) (omega arith));
        loads = tt;
        keeps = λ other begin goes.
            let there = subst (AtRemove other.id begin view before.look) at goes.2 in
            let named = subst (λ (i : Id). Stored MayRemove remove view (Phase i.index) 0 next) goes.0 stored in
            (goes.0, goes.1, taken-out other.id begin view a b goes.1.rest there.0 there.1 there.2 next named);
        answered = λ other begin goes. tt;
      };
      labelled = λ label reached. absurd (subst (λ (s : RemoveStage). HasReached (stage_label s) label) at reached);
      ends = tt;
      says = λ other begin goes label fresh below.
          let there = subst (AtRemove other.id begin view before.look) at goes.2 in
          let named = subst (λ (i : Id). Stored MayRemove remove view (Phase i.index) 0 next) goes.0 stored in
          just-out other.id begin view a b goes.1.rest there.0 there.1 there.2 next named;
    }

-- ---- stores while it is taken out

module _ (asks : Asking) (kind : Kind) (does : kind.operation ≡ store) (name : Name) (silent : is_shown true name ≡ false) (id : Id) (start view next : View) (first second : ℕ) (rest : IsAtRest start)
    (at : IsOutAt id start view first second) (stored : Stored asks kind view name 0 next) (none : kind.entry view name 0 ≡ None)
    (left : next ≡ record view { known = next.known; joined = next.joined; call = next.call }) where
  abbrev own_step : Step
  own_step = step_by stored.1.seat view stored.1.number name 0 0

  own-by : Advances view next (item_of kind own_step 0 ∷ [])
  own-by = stepped-stores asks kind view next name 0 0 stored.0 stored.1 (item_of kind own_step 0) (stored-gained asks kind view next name 0 does stored) refl

  own-word : StoresWord view next name 0
  own-word = stores-word asks kind view next name 0 does stored

  own-sizes : next.config ≡ view.config
  own-sizes = ap (λ (v : View). v.config) left

  own-holds : Holds view (stripe_of view.config id.index) Write
  own-holds = stripe-held id start view _ _ rest at.calling

  pub made-none : (number : ℕ) → IsPass view number → MadeBy view next None
  made-none number pass =
      subst (λ (o : Option Entry). MadeBy view next (option_map (λ (e : Entry). record { pass = number; entry = e }) o)) none (stored-made asks kind view next name 0 does stored number pass)

  own-none : MadeBy view next None
  own-none = made-none at.calling.adds.number (worked-pass start view _ at.calling)

  pub calling-on : (task : Task) → next.call.task ≡ task → IsAtWork start next (stripe_taken start.config id) task (Remove id.index ∷ [])
  calling-on task doing = worked-made start view next _ at.calling name None task silent (step-alone asks kind view next name 0 0 stored.0 stored.1) own-none left doing

  pub removed-on : HasRemoved id start next
  removed-on =
      removed-later id start view next (known-more asks kind view next name 0 0 stored.0 stored.1)
      (λ entries adds. adds-none start view next entries (worked-role start view _ at.calling) adds own-none) at.removed

  pub phase-on : name ≢ State id.index → KnowsPhase id Out next
  phase-on apart =
      phase-beside id Write Out out-apart view next own-holds at.phase (item_of kind own_step 0) own-by own-sizes none
      (word-beside view next name 0 own-word own-sizes (State id.index) apart (live-steady id Write view (State id.index) own-holds at.phase.live refl) ∙ at.phase.live)

  pub first-on : name ≢ LocA id.index → KnowsFirst id first next
  first-on apart = first-beside id Write Out out-apart view next own-holds at.phase (item_of kind own_step 0) own-by own-sizes first apart at.at_first

  pub second-on : name ≢ LocB id.index → KnowsSecond id second next
  second-on apart = word-beside view next name 0 own-word own-sizes (LocB id.index) apart (second-steady id.index Write view own-holds) ∙ at.at_second

-- ---- an entry is cleared

-- two places that are the same
place-once : (n k m j : ℕ) → k < 4 → j < 4 → place n k ≡ place m j → (n ≡ m) × (k ≡ j)
place-once n k m j below less e = (omega arith, omega arith)

module _ (view next : View) (n k : ℕ) (stored : Stored MayClearEntry clear_entry view (Child n k) 0 next) where
  entry-left : next ≡ record view { known = next.known; joined = next.joined; call = next.call }
  entry-left =
      stored.1.leaves
      ∙ (λ i. record view {
        known = sym (ap (λ (v : View). v.known) stored.1.leaves) i;
        joined = sym (ap (λ (v : View). v.joined) stored.1.leaves) i;
        call = sym (ap (λ (v : View). v.call) stored.1.leaves) i;
      })

  entry-task : next.call.task ≡ view.call.task
  entry-task = ap (λ (v : View). v.call.task) stored.1.leaves

  entry-stores : next.call.stores ≡ view.call.stores ++ record { name = Child n k; value = 0 } ∷ []
  entry-stores = ap (λ (v : View). v.call.stores) stored.1.leaves

module _ (view next : View) (w : ℕ) where
  pub clear-step : ClearsEntry view next w → AtMostOneStep view next
  clear-step (no_place none same) = inl same
  clear-step (a_place n k below is stored) = one-step MayClearEntry clear_entry view next (Child n k) 0 0 stored.0 stored.1 (λ before after steps. of_removals (clears_entry steps))

  pub clear-made : (number : ℕ) → IsPass view number → ClearsEntry view next w → MadeBy view next None
  clear-made number pass (no_place none same) = subst (λ (v : View). MadeBy view v None) (sym same) (still-made view number pass)
  clear-made number pass (a_place n k below is stored) = stored-made MayClearEntry clear_entry view next (Child n k) 0 refl stored number pass

  pub cleared-out : (id : Id) (start : View) (first second : ℕ) → IsAtRest start → ClearsEntry view next w → IsOutAt id start view first second → IsOutAt id start next first second
  cleared-out id start first second rest (no_place none same) at = subst (λ (v : View). IsOutAt id start v first second) (sym same) at
  cleared-out id start first second rest (a_place n k below is stored) at =
      let left = entry-left view next n k stored in
      record {
        calling = calling-on MayClearEntry clear_entry refl (Child n k) refl id start view next first second rest at stored refl left (RemovingTask id.index) (entry-task view next n k stored ∙ at.calling.doing);
        removed = removed-on MayClearEntry clear_entry refl (Child n k) refl id start view next first second rest at stored refl left;
        phase = phase-on MayClearEntry clear_entry refl (Child n k) refl id start view next first second rest at stored refl left (λ same. absurd cc);
        at_first = first-on MayClearEntry clear_entry refl (Child n k) refl id start view next first second rest at stored refl left (λ same. absurd cc);
        at_second = second-on MayClearEntry clear_entry refl (Child n k) refl id start view next first second rest at stored refl left (λ same. absurd cc);
      }

  -- what is cleared there, and elsewhere
  pub cleared-here : ClearsEntry view next w → HasClearedAt next.call w
  cleared-here (no_place none same) m j less e = absurd (omega arith)
  cleared-here (a_place n k below is stored) m j less e =
      let once = place-once n k m j below less (sym is ∙ e) in
      let last : HasStored next.call (Child n k) 0 =
      subst (λ (l : List Store). Contains l (record { name = Child n k; value = 0 })) (sym (entry-stores view next n k stored))
      (Contains-append_right view.call.stores (record { name = Child n k; value = 0 } ∷ []) (record { name = Child n k; value = 0 }) (0, omega arith, refl))
      in
      subst (λ (a : ℕ). HasStored next.call (Child a j) 0) once.0 (subst (λ (b : ℕ). HasStored next.call (Child n b) 0) once.1 last)

  pub cleared-there : (v : ℕ) → ClearsEntry view next w → HasClearedAt view.call v → HasClearedAt next.call v
  cleared-there v (no_place none same) cleared m j less e = subst (λ (x : View). HasClearedAt x.call v) (sym same) cleared m j less e
  cleared-there v (a_place n k below is stored) cleared m j less e =
      subst (λ (l : List Store). Contains l (record { name = Child m j; value = 0 })) (sym (entry-stores view next n k stored))
      (Contains-append_left view.call.stores (record { name = Child n k; value = 0 } ∷ []) (record { name = Child m j; value = 0 }) (cleared m j less e))

-- ---- a location is in a tree

four-cut : (m : ℕ) → (q : ℕ) × (r : ℕ) × (r < 4) × (m ≡ 4 * q + r)
four-cut zero = (0, 0, omega arith, omega arith)
four-cut (suc m) =
    let t = four-cut m in
    let below = t.2 in
    let is = t.3 in
    elim (cases_lt t.1 3) [
      | inl less ↦ (t.0, t.1 + 1, omega arith, omega arith)
      | inr full ↦ (t.0 + 1, 0, omega arith, omega arith)
    ]

module _ (view : View) (number index : ℕ) (pass : IsPass view number) (task : view.call.task ≡ RemovingTask index) (w : ℕ) (location : IsLocationOf index view w) where
  module _ (now : IsCurrent view) where
    abbrev places : Sight
    places = sight location_scope now.core

    taken : IsTakenOut now.stands.laws.nodes places (seen_of location_scope number view) index
    taken =
        each-seat location_scope (λ k v. refl) now.core (λ k v. (j : ℕ) → Removes v.call.task j → IsTakenOut now.stands.laws.nodes places v j) now.stands.laws.locations.removed now.seat number view now.at pass index
        (subst (λ (t : Task). Removes (call_by_task t view.call).task index) (sym task) (subst (λ (t : Task). Removes t index) (sym task) refl))

    there : (n k : ℕ) → k < 4 → w ≡ place n k → IsLocation places index n k
    there n k below is = (below, elim (location) [ inl e ↦ inl (sym (known-now view now (LocA index)) ∙ (e ∙ is)) | inr e ↦ inr (sym (known-now view now (LocB index)) ∙ (e ∙ is)) ])

    node-below : (n k : ℕ) → k < 4 → w ≡ place n k → n < node_count view.config
    node-below n k below is =
        elim (cases_lt n (node_count now.core.config)) [
          | inl less ↦ subst (λ (c : Config). n < node_count c) now.sizes less
          | inr above ↦ absurd (subst Stands (now.stands.laws.places.in_use n above) (taken.cleared n k (there n k below is)).0)
        ]

    word-below : w ≤ 2 ^ 34
    word-below = go w refl
      where
        go : (v : ℕ) → w ≡ v → v ≤ 2 ^ 34
        go zero e = omega arith
        go (suc m) e =
            let t = four-cut m in
            let is = t.3 in
            let node = node-below t.0 t.1 t.2 (e ∙ omega arith) in
            let limits : IsConfig view.config = subst IsConfig now.sizes now.stands.formed.sizes in
            let nodes = limits.nodes.1 in
            let bodies = limits.bodies.1 in
            let layers = limits.layers.1 in
            omega arith

  module _ (current : ∥ IsCurrent view ∥₁) where
    pub in-tree : (n k : ℕ) → k < 4 → w ≡ place n k → n < node_count view.config
    in-tree n k below is = ∥∥₁_elim current (hlevel props) (λ now. node-below now n k below is)

    pub in-range : w ≤ 2 ^ 34
    in-range = ∥∥₁_elim current (hlevel props) word-below

-- ---- the locations are cleared

module _ (id : Id) (start view : View) (first second : ℕ) (at : IsOutAt id start view first second) (current : ∥ IsCurrent view ∥₁) where
  -- the words of the locations are those that were loaded
  pub out-location : IsLocationOf id.index view first × IsLocationOf id.index view second
  out-location = (inl (sure-word view current (LocA id.index) first at.at_first), inr at.at_second)

  entries-cleared : HasClearedAt view.call first → HasClearedAt view.call second → HasClearedEntries view id.index
  entries-cleared one two = record {
    task = at.calling.doing;
    cleared = λ n k known. elim (known.1) [
      | inl e ↦ one n k known.0 (sym (sure-word view current (LocA id.index) first at.at_first) ∙ e)
      | inr e ↦ two n k known.0 (sym at.at_second ∙ e)
    ];
  }

  pub may-forget-first : HasClearedAt view.call first → HasClearedAt view.call second → MayClearLocation view (LocA id.index) 0 0
  may-forget-first one two = the_first id.index refl (entries-cleared one two) refl

-- none is left at a word that is 0
none-there : (call : Call) → HasClearedAt call 0
none-there call n k below e = absurd (omega arith)

pub may-forget-second : (id : Id) (start view : View) (second : ℕ) → IsOutAt id start view 0 second → ∥ IsCurrent view ∥₁ → HasClearedAt view.call second → MayClearLocation view (LocB id.index) 0 0
may-forget-second id start view second at current two =
    the_second id.index refl (entries-cleared id start view 0 second at current (none-there view.call) two) (sure-word view current (LocA id.index) 0 at.at_first) refl

module _ (id : Id) (start view next : View) (rest : IsAtRest start) where
  -- the first one
  module _ (stored : Stored MayClearLocation clear_location view (LocA id.index) 0 next) where
    pub first-step : AtMostOneStep view next
    first-step = one-step MayClearLocation clear_location view next (LocA id.index) 0 0 stored.0 stored.1 (λ before after steps. of_removals (clears_location steps))

    pub first-made : (number : ℕ) → IsPass view number → MadeBy view next None
    first-made number pass = stored-made MayClearLocation clear_location view next (LocA id.index) 0 refl stored number pass

    first-left : next ≡ record view { known = next.known; joined = next.joined; call = next.call }
    first-left =
        stored.1.leaves
        ∙ (λ i. record view {
          known = sym (ap (λ (v : View). v.known) stored.1.leaves) i;
          joined = sym (ap (λ (v : View). v.joined) stored.1.leaves) i;
          call = sym (ap (λ (v : View). v.call) stored.1.leaves) i;
        })

    pub first-forgotten : (look : LookOp) (first second : ℕ) → AtRemove id start view look (Cleared first second) → AtRemove id start next look (Forgotten second)
    first-forgotten look first second at = (
      record {
        calling = calling-on MayClearLocation clear_location refl (LocA id.index) refl id start view next first second rest at.0 stored refl first-left (RemovingTask id.index) (ap (λ (v : View). v.call.task) stored.1.leaves ∙ at.0.calling.doing);
        removed = removed-on MayClearLocation clear_location refl (LocA id.index) refl id start view next first second rest at.0 stored refl first-left;
        phase = phase-on MayClearLocation clear_location refl (LocA id.index) refl id start view next first second rest at.0 stored refl first-left (λ same. absurd cc);
        at_first = λ sound.
            word-now view next (LocA id.index) 0 (stores-word MayClearLocation clear_location view next (LocA id.index) 0 refl stored) (ap (λ (v : View). v.config) first-left);
        at_second = second-on MayClearLocation clear_location refl (LocA id.index) refl id start view next first second rest at.0 stored refl first-left (λ same. absurd cc);
      },
      λ n k below e.
          subst (λ (l : List Store). Contains l (record { name = Child n k; value = 0 })) (sym (ap (λ (v : View). v.call.stores) stored.1.leaves))
          (Contains-append_left view.call.stores (record { name = LocA id.index; value = 0 } ∷ []) (record { name = Child n k; value = 0 }) (at.2 n k below e)),
    )

  -- and the second one, with which the removal is whole
  module _ (stored : Stored MayClearLocation clear_location view (LocB id.index) 0 next) where
    pub second-step : AtMostOneStep view next
    second-step = one-step MayClearLocation clear_location view next (LocB id.index) 0 0 stored.0 stored.1 (λ before after steps. of_removals (clears_location steps))

    pub second-made : (number : ℕ) → IsPass view number → MadeBy view next None
    second-made number pass = stored-made MayClearLocation clear_location view next (LocB id.index) 0 refl stored number pass

    second-left : next ≡ record view { known = next.known; joined = next.joined; call = next.call }
    second-left =
        stored.1.leaves
        ∙ (λ i. record view {
          known = sym (ap (λ (v : View). v.known) stored.1.leaves) i;
          joined = sym (ap (λ (v : View). v.joined) stored.1.leaves) i;
          call = sym (ap (λ (v : View). v.call) stored.1.leaves) i;
        })

    pub second-forgotten : (look : LookOp) (second : ℕ) → AtRemove id start view look (Forgotten second) → AtRemove id start next look (Leaving (Ok tt))
    second-forgotten look second at = (
      Remove id.index ∷ [],
      calling-on MayClearLocation clear_location refl (LocB id.index) refl id start view next 0 second rest at.0 stored refl second-left Nothing (ap (λ (v : View). v.call.task) stored.1.leaves),
      removed-on MayClearLocation clear_location refl (LocB id.index) refl id start view next 0 second rest at.0 stored refl second-left,
    )

-- ---- letting the stripe go

-- then no lock is held
none-held : (a lock : ℕ) → mode_of (TakenStep a Write ∷ Released a ∷ []) lock ≡ None
none-held a lock = go (eqb a lock)
  where
    go : (t : Bool) → cond {A = Option Mode} t None (cond t (Some Write) None) ≡ None
    go true = refl
    go false = refl

module _ (id : Id) (start view : View) (look : LookOp) (answer : Result (Unit {0}) RemoveRefused) (begun : IsBegunFor id start) (at : AtRemove id start view look (Leaving answer)) where
  pub may-leave : MayLetGo view (stripe_of view.config id.index)
  may-leave = record { mode = Write; holds = stripe-held id start view _ _ begun.rest at.1; done = at.1.doing }

  has_left : (next : View) (found : ℕ) → LetGo view (stripe_of start.config id.index) found next → HasEnded start next × IsRemoveAnswer id start next answer
  has_left next found go =
      let lock = stripe_of start.config id.index in
      let by = released-made view next lock found go at.1.adds.number (worked-pass start view _ at.1) in
      let done = worked-done start next _ (worked-released start view next _ at.1 lock found go refl) begun.rest refl (none-held lock) in (
        record { rest = done.rest; tells = done.tells; keeps = done-keeps start next _ done; lawful = released-lawful view next lock found go },
        answer-later id start view next answer (known-more MayRelease release view next (Lock lock) go.0 0 found go.1) (λ entries adds. adds-none start view next entries (worked-role start view _ at.1) adds by) at.2,
      )

-- an answer that is no refusal comes after the label
answer-ends : (answer : Result (Unit {0}) RemoveRefused) → IsRefusal answer ⊎ HasReached (answer_label answer) 0
answer-ends (Ok done) = inr (omega arith)
answer-ends (Err refused) = inl tt

-- so is the last turn
pub leave-turn : (before : RemoveOp) (answer : Result (Unit {0}) RemoveRefused) (view next : View) (number lock found : ℕ) → IsPass view number → before.stage ≡ Leaving answer
    → lock ≡ stripe_of view.config before.id.index → LetGo view lock found next → IsRemoveTurn (Done answer) before (record before { made = None }) view next
leave-turn before answer view next number lock found pass at same go =
    unlabelled (Done answer) before (record before { made = None }) view next
    (record {
      step = released-step view next lock found go;
      made = released-made view next lock found go number pass;
      turned = tt;
      loads = tt;
      keeps = λ first start removing. tt;
      answered = λ first start removing.
          let there = subst (AtRemove first.id start view before.look) at removing.2 in
          has_left first.id start view before.look answer removing.1 there next found
          (subst (λ (l : ℕ). LetGo view l found next) (same ∙ (λ i. stripe_of (worked-sizes start view _ there.1 i) (removing.0 i).index)) go);
    }) refl (subst (λ (s : RemoveStage). IsRefusal answer ⊎ HasReached (stage_label s) 0) (sym at) (answer-ends answer))

pub may-leave-stripe : (before : RemoveOp) (answer : Result (Unit {0}) RemoveRefused) (view : View) (lock : ℕ) → IsUnderWay IsRemoving before view → before.stage ≡ Leaving answer
    → lock ≡ stripe_of view.config before.id.index → MayLetGo view lock
may-leave-stripe before answer view lock way at same =
    let there = subst (AtRemove way.first.id way.start view before.look) at way.goes.2 in
    subst (MayLetGo view) (sym (same ∙ ap (λ (i : Id). stripe_of view.config i.index) way.goes.0)) (may-leave way.first.id way.start view before.look answer way.goes.1 there)
