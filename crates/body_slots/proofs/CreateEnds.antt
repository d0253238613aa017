-- What the turns of a creation on locks leave, and the turn that creates the body.
use Rattle.std.specs.Prelude.{option_map}
use Rattle.std.proofs.Common.{◌≡◌, ℕ, suc, ◌+◌, ◌%◌, ◌^◌, ◌<◌, List, [], ◌∷◌, ◌++◌, Bool, true, false, Option, Some, None, Ok, Result, eqb, cond, append_assoc, inl, refl, ap, sym, ◌∙◌, subst, arith}
use Rattle.fixed_box.specs.declared.fix_box.FixBox.{FixBox}
use Rattle.body_ident.specs.Id.{Id}
use Rattle.scene_model.specs.Scene.{place_at, next_index}
use Rattle.scene_model.specs.declared.entry.Entry.{Entry}
use Rattle.scene_model.specs.declared.entry.Entry.TheVariants.{Create}
use Rattle.word_map.specs.declared.config.Config.{Config}
use Rattle.word_map.specs.declared.name.Name.TheVariants.{Lock, State}
use Rattle.word_map.specs.Names.{index_lock}
use Rattle.core_state.specs.declared.item.Item.{Item}
use Rattle.core_state.specs.declared.view.Mode.{Mode}
use Rattle.core_state.specs.declared.view.Mode.TheVariants.{Write}
use Rattle.core_state.specs.declared.view.LockStep.TheVariants.{Taken as TakenStep, Released}
use Rattle.core_state.specs.declared.view.Task.TheVariants.{Nothing}
use Rattle.core_state.specs.declared.view.Role.{Role}
use Rattle.core_state.specs.declared.view.View.{View}
use Rattle.core_state.specs.View.{IsPass, Holds, number_in, mode_of}
use Rattle.core_state.specs.Core.{Core}
use Rattle.core_state.specs.Event.{creates, of_bodies}
use Rattle.core_state.specs.Kind.{Step, item_of}
use Rattle.core_state.specs.Scope.{sight, scene_in}
use Rattle.core_state.specs.Guards.{scene_at}
use Rattle.core_state.specs.BodiesAgree.{BodiesAgree, body_scope}
use Rattle.core_state.specs.Locking.{MayRelease, release}
use Rattle.core_state.specs.Lives.{HasFields, created_state, MayCreate, create}
use Rattle.core_guard.proofs.Scenes.{state-dead}
use Rattle.core_guard.proofs.FreeIndexes.{free-next}
use Rattle.core_guard.proofs.ListsAgree.{listed-now}
use Rattle.core_guard.proofs.LivesAgree.{creating-lock, creating-dead, created_made, create_first}
use Rattle.pass_table.specs.declared.take_op.TakeOp.{TakeOp}
use Rattle.pass_table.specs.declared.turn.Turn.TheVariants.{Done, More}
use Rattle.pass_table.specs.Stepping.{step_by, Stored}
use Rattle.pass_table.specs.TakeTurns.{taking_of, IsTaking, HasTaken}
use Rattle.pass_table.specs.Turning.{AtMostOneStep, MadeBy, IsUnderWay}
use Rattle.pass_table.specs.Holding.{MayLetGo, LetGo, IsAtRest}
use Rattle.pass_table.proofs.Knowing.{known-more, step-alone}
use Rattle.pass_table.proofs.TakingTurns.{taking-anew}
use Rattle.pass_table.proofs.Turning.{one-step}
use Rattle.pass_table.proofs.Calling.{adds-none, stepped-sizes, stored-gained, stored-made, released-step, released-made, released-lawful}
use Rattle.pass_table.proofs.WorkLater.{worked-role, worked-sizes, worked-pass}
use Rattle.pass_table.proofs.Working.{worked-made, worked-taken, worked-waited, worked-released, worked-done, done-keeps}
use Rattle.pass_table.specs.Work.{IsCalling}
use Rattle.body_slots.specs.declared.answers.Full.{Full}
use Rattle.body_slots.specs.declared.create_op.CreateStage.{CreateStage}
use Rattle.body_slots.specs.declared.create_op.CreateStage.TheVariants.{Taking, Locked, Filled, Leaving}
use Rattle.body_slots.specs.declared.create_op.CreateOp.{CreateOp}
use Rattle.body_slots.specs.Answers.{IsNextId, HasCreated}
use Rattle.body_slots.specs.stages.Creating.{list_taken, AtCreate, IsBegun, CreatesBody, CreateAnswers, stage_left, IsCreateTurn}
use Rattle.body_slots.specs.stages.Later.{list-held, answer-later}
use Rattle.body_slots.proofs.CreateTurns.{is-creating}

-- ---- taking the lock

pub take-done : (first : CreateOp) (start view next : View) (taking : TakeOp) → HasTaken (taking_of (index_lock start.config) Write) view next → MadeBy view next None
    → AtCreate first start view (Taking taking) → AtCreate first start next Locked
take-done first start view next taking taken by at = worked-taken start view next _ at.0 (index_lock start.config) Write taken by

pub take-on : (first : CreateOp) (start view next : View) (taking after : TakeOp) → IsTaking (taking_of (index_lock start.config) Write) view after next → MadeBy view next None
    → AtCreate first start view (Taking taking) → AtCreate first start next (Taking after)
take-on first start view next taking after goes by at = (worked-waited start view next _ at.0 (index_lock start.config) goes.waited by goes.alone, taking-anew _ view after next goes)

-- ---- creating the body

module _ (first : CreateOp) (start view : View) (index state value : ℕ) (begun : IsBegun first start first.layer first.bounds first.user) (at : AtCreate first start view (Filled index state)) (is : value ≡ created_state state) where
  sizes_as : view.config ≡ start.config
  sizes_as = worked-sizes start view _ at.0.calling

  -- the words are those of the body
  pub fields_of : HasFields view index first.bounds
  fields_of = record {
    layer = subst (λ (l : ℕ). l < view.config.layers) (sym (at.2 0 (omega arith))) (subst (λ (c : Config). first.layer < c.layers) (sym sizes_as) begun.in_layers);
    user = subst (λ (u : ℕ). u < 2 ^ 32) (sym (at.2 1 (omega arith))) begun.fits;
    bounds_words = λ k below. at.2 (suc (suc k)) (omega arith);
  }

  abbrev pub asks_create : MayCreate view (State index) value 0
  asks_create = record {
    index = index;
    names = refl;
    creating = is-creating start view index begun.rest at.0;
    bounds = first.bounds;
    fields = fields_of;
    state = is ∙ ap created_state (sym at.1);
  }

  module _ (next : View) (stored : Stored MayCreate create view (State index) value next) where
    core : Core
    core = stored.1.before

    abbrev creation : Step
    creation = step_by stored.1.seat view stored.1.number (State index) value 0

    agree : BodiesAgree stored.1.before
    agree = stored.1.stands.laws.bodies

    abbrev entry : Entry
    entry = Create index first.layer first.bounds first.user

    -- the entry that was made
    made_entry : create.entry view (State index) value ≡ Some entry
    made_entry =
        created_made stored.1.before creation stored.1.allowed.at stored.1.allowed.pass stored.1.stands.formed stored.1.stands.guards stored.1.stands.laws.locks agree asks_create
        ∙ (λ i. Some (Create index (at.2 0 (omega arith) i) first.bounds (at.2 1 (omega arith) i)))

    pub creation-step : AtMostOneStep view next
    creation-step = one-step MayCreate create view next (State index) value 0 stored.0 stored.1 (λ before after steps. of_bodies (creates steps))

    pub creation-made : (number : ℕ) → IsPass view number → MadeBy view next (Some (record { pass = number; entry = entry }))
    creation-made number pass =
        subst (λ (o : Option Entry). MadeBy view next (option_map (λ e. record { pass = number; entry = e }) o)) made_entry (stored-made MayCreate create view next (State index) value refl stored number pass)

    creation_left : next ≡ record view { known = next.known; joined = next.joined; call = next.call }
    creation_left =
        stored.1.leaves
        ∙ (λ i. record view {
          known = sym (ap (λ (v : View). v.known) stored.1.leaves) i;
          joined = sym (ap (λ (v : View). v.joined) stored.1.leaves) i;
          call = sym (ap (λ (v : View). v.call) stored.1.leaves) i;
        })

    pub creation-calling : IsCalling start next (list_taken start.config) Nothing (entry ∷ [])
    creation-calling =
        let own = at.0.calling.adds.number in
        worked-made start view next _ at.0.calling (State index) _ Nothing refl (step-alone MayCreate create view next (State index) value 0 stored.0 stored.1)
        (creation-made own (worked-pass start view _ at.0.calling)) creation_left
        (ap (λ (v : View). v.call.task) stored.1.leaves)

    -- what the log was just before
    log_before : stored.1.before.log ≡ start.known ++ (at.0.calling.adds.since ++ stored.1.since)
    log_before = stored.1.learns ∙ (ap (λ (l : List Item). l ++ stored.1.since) at.0.calling.adds.known ∙ append_assoc start.known at.0.calling.adds.since stored.1.since)

    -- the index was the next one, and none was live there
    was_next : next_index (scene_in (sight body_scope stored.1.before)) ≡ Some index
    was_next =
        free-next (scene_in (sight body_scope stored.1.before)) index agree.chain
        (sym (create_first stored.1.before creation stored.1.allowed.at stored.1.allowed.pass stored.1.stands.formed stored.1.stands.guards stored.1.stands.laws.locks agree asks_create))

    was_state : state ≡ (place_at (scene_in (sight body_scope stored.1.before)) index).creations % 256
    was_state =
        let s = stored.1.stands in
        let creating = is-creating start view index begun.rest at.0 in
        let lock = creating-lock create stored.1.before creation stored.1.allowed.at stored.1.allowed.pass s.formed s.laws.locks agree index creating in
        let dead = creating-dead create stored.1.before creation stored.1.allowed.at stored.1.allowed.pass s.formed s.laws.locks agree index creating in
        let now = listed-now create stored.1.before creation stored.1.allowed.at stored.1.allowed.pass s.formed (State index) s.guards lock refl in
        sym at.1 ∙ (sym now ∙ (agree.state index dead.0 ∙ state-dead (place_at (scene_in (sight body_scope stored.1.before)) index) dead.1))

    pub has-created : (id : Id) → id.index ≡ index → id.seq ≡ (state % 256 + 1) % 256 → HasCreated first.layer first.bounds first.user start next id
    has-created id named sequence =
        let same : id ≡ record { index = index; seq = (state % 256 + 1) % 256 } = λ i. record { index = named i; seq = sequence i } in
        subst (HasCreated first.layer first.bounds first.user start next) (sym same)
        (record {
          below = at.0.below;
          adds = creation-calling.adds;
          at = record {
            since = at.0.calling.adds.since ++ stored.1.since;
            item = item_of create creation value;
            later = [];
            parts = ap (λ (v : View). v.known) stored.1.leaves ∙ (λ i. log_before i ++ stored-gained MayCreate create view next (State index) value refl stored i);
            pass = ap (λ (r : Role). number_in r) (sym (worked-role start view _ at.0.calling)) ∙ stored.1.allowed.pass;
            makes = made_entry;
            holds = subst (λ (l : List Item). IsNextId (scene_at start.config l) (record { index = index; seq = (state % 256 + 1) % 256 })) log_before next_id;
          };
        })
      where
        sizes_before : start.config ≡ stored.1.before.config
        sizes_before = sym sizes_as ∙ stepped-sizes MayCreate create view next (State index) value 0 stored.0 stored.1

        next_id : IsNextId (scene_at start.config stored.1.before.log) (record { index = index; seq = (state % 256 + 1) % 256 })
        next_id =
            subst (λ (c : Config). IsNextId (scene_at c stored.1.before.log) (record { index = index; seq = (state % 256 + 1) % 256 })) (sym sizes_before)
            (let was = was_state in
            let sequence : (state % 256 + 1) % 256 ≡ ((place_at (scene_in (sight body_scope stored.1.before)) index).creations + 1) % 256 = omega arith in
            record { free = was_next; is = λ i. record { index = index; seq = sequence i } })

-- ---- letting the lock go

module _ (first : CreateOp) (start view : View) (answer : Result Id Full) (rest : IsAtRest start) (at : AtCreate first start view (Leaving answer)) where
  pub may-leave : MayLetGo view (index_lock start.config)
  may-leave = record {
    mode = Write;
    holds = subst (λ (c : Config). Holds view (index_lock c) Write) (worked-sizes start view _ at.1) (list-held start view _ _ rest at.1);
    done = at.1.doing;
  }

  -- a lock that was taken and let go is not held
  none_held : (lock other : ℕ) → mode_of (TakenStep lock Write ∷ Released lock ∷ []) other ≡ None
  none_held lock other = go (eqb lock other)
    where
      go : (t : Bool) → cond {A = Option Mode} t None (cond t (Some Write) None) ≡ None
      go true = refl
      go false = refl

  pub has-left : (next : View) (found : ℕ) → LetGo view (index_lock start.config) found next → CreateAnswers first start next answer
  has-left next found go =
      let lock = index_lock start.config in
      let by = released-made view next lock found go at.1.adds.number (worked-pass start view _ at.1) in
      let done = worked-done start next _ (worked-released start view next _ at.1 lock found go refl) rest refl (none_held lock) in (
        record {
          rest = done.rest;
          tells = done.tells;
          keeps = done-keeps start next _ done;
          lawful = released-lawful view next lock found go;
        },
        answer-later first.layer first.bounds first.user start view next answer (known-more MayRelease release view next (Lock lock) go.0 0 found go.1) (λ entries adds. adds-none start view next entries (worked-role start view _ at.1) adds by) at.2,
      )

-- the lock may be let go
pub may-leave-list : (before : CreateOp) (answer : Result Id Full) (view : View) (lock : ℕ) → IsUnderWay CreatesBody before view → before.stage ≡ Leaving answer → lock ≡ index_lock view.config → MayLetGo view lock
may-leave-list before answer view lock way at same =
    let there = subst (AtCreate way.first way.start view) at way.goes.1 in
    subst (MayLetGo view) (sym (same ∙ ap (λ (c : Config). index_lock c) (worked-sizes way.start view _ there.1))) (may-leave way.first way.start view answer way.goes.0.rest there)

-- so is the last turn
pub leave-turn : (before : CreateOp) (answer : Result Id Full) (view next : View) (number lock found : ℕ) → IsPass view number → before.stage ≡ Leaving answer → lock ≡ index_lock view.config → LetGo view lock found next
    → IsCreateTurn (Done answer) before (record before { made = None }) view next
leave-turn before answer view next number lock found pass at same go = record {
  step = released-step view next lock found go;
  made = released-made view next lock found go number pass;
  turned = tt;
  loads = tt;
  keeps = λ first start making. tt;
  answered = λ first start making.
      let there = subst (AtCreate first start view) at making.1 in
      has-left first start view answer making.0.rest there next found
      (subst (λ (l : ℕ). LetGo view l found next) (same ∙ ap (λ (c : Config). index_lock c) (worked-sizes start view _ there.1)) go);
}

-- what it was begun with
pub own_begun : (first : CreateOp) (start : View) (layer : ℕ) (bounds : FixBox) (user : ℕ) → IsBegun first start layer bounds user → IsBegun first start first.layer first.bounds first.user
own_begun first start layer bounds user begun =
    record { layer_as = refl; bounds_as = refl; user_as = refl; in_layers = begun.in_layers; fits = begun.fits; rest = begun.rest }

-- the next sequence number, plus 256
pub next-state : (state last word : ℕ) → last ≡ state % 256 → word ≡ 256 + (last + 1) % 256 → word ≡ created_state state
next-state state last word is says = omega arith

-- the store of the state word may be made
pub may-create : (before first : CreateOp) (start view : View) (index state value : ℕ) → CreatesBody first start before view → before.stage ≡ Filled index state → value ≡ created_state state
    → MayCreate view (State index) value 0
may-create before first start view index state value making at is =
    asks_create first start view index state value (own_begun first start before.layer before.bounds before.user making.0) (subst (AtCreate first start view) at making.1) is

-- and it is the turn that creates the body
pub create-turn : (before first : CreateOp) (start view next : View) (number index state value : ℕ) (id : Id) → CreatesBody first start before view → IsPass view number → before.stage ≡ Filled index state
    → value ≡ created_state state → Stored MayCreate create view (State index) value next → id.index ≡ index → id.seq ≡ (state % 256 + 1) % 256
    → IsCreateTurn More before (record before { stage = Leaving (Ok id); made = Some (record { pass = number; entry = Create index before.layer before.bounds before.user }) }) view next
create-turn before first start view next number index state value id making pass at is stored named sequence =
    let now = subst (AtCreate first start view) at making.1 in
    let begun = own_begun first start before.layer before.bounds before.user making.0 in
    record {
      step = creation-step first start view index state value begun now is next stored;
      made =
          subst (λ (o : CreateOp). MadeBy view next (Some (record { pass = number; entry = Create index o.layer o.bounds o.user }))) (same making)
          (creation-made first start view index state value begun now is next stored number pass);
      turned = inl (subst (λ (s : CreateStage). 1 < stage_left s) (sym at) (omega arith));
      loads = tt;
      keeps = λ other begin goes.
          let there = subst (AtCreate other begin view) at goes.1 in
          let again = own_begun other begin before.layer before.bounds before.user goes.0 in (
            goes.0,
            (
              Create index other.layer other.bounds other.user ∷ [],
              creation-calling other begin view index state value again there is next stored,
              has-created other begin view index state value again there is next stored id named sequence,
            ),
          );
      answered = λ other begin goes. tt;
    }
  where
    same : CreatesBody first start before view → record first { stage = before.stage; made = before.made } ≡ before
    same m = λ i. record { layer = sym m.0.layer_as i; bounds = sym m.0.bounds_as i; user = sym m.0.user_as i; stage = before.stage; made = before.made }
