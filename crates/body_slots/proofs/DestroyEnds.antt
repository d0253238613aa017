-- What the turns of a destruction leave that change the list, destroy the body and let locks go.
use Rattle.std.proofs.Common.{◌≡◌, ◌≢◌, ℕ, suc, ◌-◌, ◌<◌, List, [], ◌∷◌, ◌++◌, Bool, true, false, Option, Some, None, Ok, Result, eqb, cond, append_assoc, inl, refl, ap, sym, ◌∙◌, subst, arith}
use Rattle.std.proofs.lemmas.Bool.{ne_eqb}
use Rattle.body_ident.specs.Id.{Id}
use Rattle.scene_model.specs.declared.body_view.Phase.TheVariants.{Out}
use Rattle.scene_model.specs.Cause.{HasIdBody}
use Rattle.scene_model.specs.declared.entry.Entry.{Entry}
use Rattle.scene_model.specs.declared.entry.Entry.TheVariants.{Destroy}
use Rattle.word_map.specs.declared.config.Config.{Config}
use Rattle.word_map.specs.declared.name.Name.{Name}
use Rattle.word_map.specs.declared.name.Name.TheVariants.{Lock, SlotHead, SlotNext, State, Phase}
use Rattle.word_map.specs.Names.{index_lock, stripe_of}
use Rattle.core_state.specs.declared.item.Item.{Item}
use Rattle.core_state.specs.declared.view.Mode.{Mode}
use Rattle.core_state.specs.declared.view.Mode.TheVariants.{Write}
use Rattle.core_state.specs.declared.view.LockStep.TheVariants.{Released}
use Rattle.core_state.specs.declared.view.Role.{Role}
use Rattle.core_state.specs.declared.view.Task.{Task}
use Rattle.core_state.specs.declared.view.Task.TheVariants.{Nothing, Destroying}
use Rattle.core_state.specs.declared.view.View.{View}
use Rattle.core_state.specs.View.{IsPass, Holds, known_word, number_in, mode_of}
use Rattle.core_state.specs.Event.{stores_link, stores_head, destroys, of_lists, of_bodies}
use Rattle.core_state.specs.Kind.{Step, item_of}
use Rattle.core_state.specs.Guards.{scene_at}
use Rattle.core_state.specs.Scope.{sight, scene_in}
use Rattle.core_state.specs.BodiesAgree.{body_scope}
use Rattle.core_state.specs.Lists.{MayStoreLink, store_link, MayStoreHead, store_head}
use Rattle.core_state.specs.Lives.{MayDestroy, destroy}
use Rattle.core_state.specs.Locking.{MayRelease, release}
use Rattle.core_guard.proofs.LivesAgree.{destroy_out}
use Rattle.pass_table.specs.declared.turn.Turn.TheVariants.{Done, More}
use Rattle.pass_table.specs.Stepping.{step_by, Stored}
use Rattle.pass_table.specs.Turning.{AtMostOneStep, MadeBy, IsUnderWay}
use Rattle.pass_table.specs.Holding.{MayLetGo, LetGo}
use Rattle.pass_table.specs.Calls.{StoresWord}
use Rattle.pass_table.specs.Ended.{HasEnded}
use Rattle.pass_table.proofs.Knowing.{known-more, step-alone}
use Rattle.pass_table.proofs.Turning.{one-step}
use Rattle.pass_table.proofs.Calling.{adds-none, stepped-sizes, steady-now, stored-gained, stored-made, word-beside, released-step, released-made, released-lawful}
use Rattle.pass_table.specs.Bodies.{live_state}
use Rattle.pass_table.proofs.Bodies.{live-at, has-body}
use Rattle.pass_table.proofs.LockedBodies.{live-steady, phase-steady}
use Rattle.pass_table.proofs.WorkLater.{worked-role, worked-sizes, worked-pass, worked-mode, worked-more}
use Rattle.pass_table.proofs.Working.{worked-made, worked-released, worked-done, done-keeps}
use Rattle.pass_table.specs.Work.{IsCalling}
use Rattle.free_list.specs.Heads.{LoadedHead, LinkedTo, PutInFront}
use Rattle.free_list.proofs.Popping.{is-linked}
use Rattle.body_slots.specs.declared.answers.DestroyRefused.{DestroyRefused}
use Rattle.body_slots.specs.declared.destroy_op.DestroyStage.{DestroyStage}
use Rattle.body_slots.specs.declared.destroy_op.DestroyStage.TheVariants.{Locked, Headed, Linked, InFront, Destroyed, Leaving}
use Rattle.body_slots.specs.declared.destroy_op.DestroyOp.{DestroyOp}
use Rattle.body_slots.specs.Answers.{HasDestroyed, IsDestroyAnswer}
use Rattle.body_slots.specs.stages.Destroying.{both_taken, KnowsOut, HasStripeAlone, AtDestroy, PastLook, IsBegunFor, DestroysBody, stage_left, IsDestroyTurn}
use Rattle.body_slots.specs.stages.DestroyLater.{first-taken, both-stripe, both-list, out-more, destroyed-later, answer-later}
use Rattle.body_slots.proofs.CreateTurns.{doing-left}
use Rattle.body_slots.proofs.DestroyTurns.{has-list, has-out}

-- ---- with both locks held

module _ (id : Id) (start view : View) (task : Task) (entries : List Entry) (begun : IsBegunFor id start) (calling : IsCalling start view (both_taken start.config id) task entries) where
  -- a store of another word leaves what is known of the body
  pub out-beside : (next : View) (name : Name) (value : ℕ) → StoresWord view next name value → next.config ≡ view.config → name ≢ State id.index → name ≢ Phase id.index → KnowsOut id view → KnowsOut id next
  out-beside next name value stores sizes no_state no_phase out =
      let holds = both-stripe id start view task entries begun.rest calling in (
        word-beside view next name value stores sizes (State id.index) no_state (live-steady id Write view (State id.index) holds out.0 refl) ∙ out.0,
        word-beside view next name value stores sizes (Phase id.index) no_phase (phase-steady id.index Write view holds) ∙ out.1,
      )

-- ---- the list

pub head-loaded : (id : Id) (start view next : View) (head : ℕ) → IsBegunFor id start → LoadedHead view next head → PastLook id start view Locked → PastLook id start next (Headed head)
head-loaded id start view next head begun loaded at =
    (worked-more start view next _ at.0 loaded.more, out-more id view next loaded.more (both-stripe id start view _ _ begun.rest at.0) at.1, loaded.is)

module _ (view next : View) (index head : ℕ) (linked : LinkedTo view next index head) where
  pub linked-step : AtMostOneStep view next
  linked-step = one-step MayStoreLink store_link view next (SlotNext index) head 0 linked.step.0 linked.step.1 (λ before after steps. of_lists (stores_link steps))

  pub linked-made : (number : ℕ) → IsPass view number → MadeBy view next None
  linked-made number pass = stored-made MayStoreLink store_link view next (SlotNext index) head refl linked.step number pass

pub link-stored : (id : Id) (start view next : View) (head : ℕ) → IsBegunFor id start → LinkedTo view next id.index head → PastLook id start view (Headed head) → PastLook id start next Linked
link-stored id start view next head begun linked at = (
  worked-made start view next _ at.0 (SlotNext id.index) _ Nothing refl (step-alone MayStoreLink store_link view next (SlotNext id.index) head 0 linked.step.0 linked.step.1)
      (linked-made view next id.index head linked at.0.adds.number (worked-pass start view _ at.0))
      (linked.rest ∙ (λ i. record view { known = next.known; joined = sym (ap (λ (v : View). v.joined) linked.rest) i; call = sym (ap (λ (v : View). v.call) linked.rest) i }))
      (ap (λ (v : View). v.call.task) linked.rest ∙ at.0.doing),
  out-beside id start view Nothing [] begun at.0 next (SlotNext id.index) head linked.stores (ap (λ (v : View). v.config) linked.rest) (λ same. absurd cc) (λ same. absurd cc) at.1,
  is-linked view next id.index head (has-list id start view begun.rest at.0) (sym at.2) linked,
)

module _ (view next : View) (index : ℕ) (put : PutInFront view next index) where
  pub put-step : AtMostOneStep view next
  put-step = one-step MayStoreHead store_head view next SlotHead (suc index) 0 put.step.0 put.step.1 (λ before after steps. of_lists (stores_head steps))

  pub put-made : (number : ℕ) → IsPass view number → MadeBy view next None
  put-made number pass = stored-made MayStoreHead store_head view next SlotHead (suc index) refl put.step number pass

pub put-first : (id : Id) (start view next : View) → IsBegunFor id start → PutInFront view next id.index → PastLook id start view Linked → PastLook id start next InFront
put-first id start view next begun put at = (
  worked-made start view next _ at.0 SlotHead _ (Destroying id.index) refl (step-alone MayStoreHead store_head view next SlotHead (suc id.index) 0 put.step.0 put.step.1)
      (put-made view next id.index put at.0.adds.number (worked-pass start view _ at.0))
      (doing-left view next (Destroying id.index) put.doing) (ap (λ (v : View). v.call.task) put.doing.rest),
  out-beside id start view Nothing [] begun at.0 next SlotHead (suc id.index) put.stores (ap (λ (v : View). v.config) put.doing.rest) (λ same. absurd cc) (λ same. absurd cc) at.1,
)

-- ---- destroying the body

module _ (id : Id) (start view : View) (value : ℕ) (begun : IsBegunFor id start) (at : PastLook id start view InFront) (is : value ≡ id.seq) where
  abbrev pub asks_destroy : MayDestroy view (State id.index) value 0
  asks_destroy = record {
    index = id.index;
    names = refl;
    lock = both-list id start view (Destroying id.index) [] begun.rest at.0;
    task = at.0.doing;
    body = has-out id start view (Destroying id.index) [] begun at.0 at.1;
    state = state_less (known_word view (State id.index)) at.1.0;
  }
    where
      state_less : (known : ℕ) → known ≡ live_state id.seq → value ≡ known - 256
      state_less known says = omega arith

  module _ (next : View) (stored : Stored MayDestroy destroy view (State id.index) value next) where
    abbrev destruction : Step
    destruction = step_by stored.1.seat view stored.1.number (State id.index) value 0

    pub destruction-step : AtMostOneStep view next
    destruction-step = one-step MayDestroy destroy view next (State id.index) value 0 stored.0 stored.1 (λ before after steps. of_bodies (destroys steps))

    pub destruction-made : (number : ℕ) → IsPass view number → MadeBy view next (Some (record { pass = number; entry = Destroy id.index }))
    destruction-made number pass = stored-made MayDestroy destroy view next (State id.index) value refl stored number pass

    pub destruction-calling : IsCalling start next (both_taken start.config id) Nothing (Destroy id.index ∷ [])
    destruction-calling =
        let own = at.0.adds.number in
        worked-made start view next _ at.0 (State id.index) _ Nothing refl (step-alone MayDestroy destroy view next (State id.index) value 0 stored.0 stored.1)
        (destruction-made own (worked-pass start view _ at.0))
        (stored.1.leaves
        ∙ (λ i. record view {
          known = sym (ap (λ (v : View). v.known) stored.1.leaves) i;
          joined = sym (ap (λ (v : View). v.joined) stored.1.leaves) i;
          call = sym (ap (λ (v : View). v.call) stored.1.leaves) i;
        }))
        (ap (λ (v : View). v.call.task) stored.1.leaves)

    -- what the log was just before
    log_before : stored.1.before.log ≡ start.known ++ (at.0.adds.since ++ stored.1.since)
    log_before = stored.1.learns ∙ (ap (λ (l : List Item). l ++ stored.1.since) at.0.adds.known ∙ append_assoc start.known at.0.adds.since stored.1.since)

    sizes_before : start.config ≡ stored.1.before.config
    sizes_before = sym (worked-sizes start view _ at.0) ∙ stepped-sizes MayDestroy destroy view next (State id.index) value 0 stored.0 stored.1

    -- the body was live and out
    was_out : HasIdBody (scene_at start.config stored.1.before.log) id (λ r. r.phase ≡ Out)
    was_out =
        let s = stored.1.stands in
        let holds = both-stripe id start view (Destroying id.index) [] begun.rest at.0 in
        let live =
        live-at stored.1.before id s.laws.bodies (subst (λ (c : Config). id.index < c.bodies) sizes_before begun.below)
        (steady-now MayDestroy destroy view next (State id.index) value 0 stored.0 stored.1 (State id.index) (live-steady id Write view (State id.index) holds at.1.0 refl) ∙ at.1.0)
        in
        let out = destroy_out stored.1.before destruction stored.1.allowed.at stored.1.allowed.pass s.formed s.guards s.laws.locks s.laws.bodies asks_destroy live.body live.at in
        subst (λ (c : Config). HasIdBody (scene_at c stored.1.before.log) id (λ r. r.phase ≡ Out)) (sym sizes_before) (has-body (scene_in (sight body_scope stored.1.before)) id live.body live.at live.sequence (λ r. r.phase ≡ Out) out)

    pub has-destroyed : HasDestroyed id start next
    has-destroyed = record {
      adds = destruction-calling.adds;
      at = record {
        since = at.0.adds.since ++ stored.1.since;
        item = item_of destroy destruction value;
        later = [];
        parts = ap (λ (v : View). v.known) stored.1.leaves ∙ (λ i. log_before i ++ stored-gained MayDestroy destroy view next (State id.index) value refl stored i);
        pass = ap (λ (r : Role). number_in r) (sym (worked-role start view _ at.0)) ∙ stored.1.allowed.pass;
        makes = refl;
        holds = subst (λ (l : List Item). HasIdBody (scene_at start.config l) id (λ r. r.phase ≡ Out)) log_before was_out;
      };
    }

-- the store of the state word may be made
pub may-destroy : (before first : DestroyOp) (start view : View) (value : ℕ) → DestroysBody first start before view → before.stage ≡ InFront → value ≡ first.id.seq → MayDestroy view (State first.id.index) value 0
may-destroy before first start view value making at is = asks_destroy first.id start view value making.1 (subst (AtDestroy first.id start view before.look) at making.2) is

-- and it is the turn that destroys the body
pub destroy-turn : (before first : DestroyOp) (start view next : View) (number value : ℕ) → DestroysBody first start before view → IsPass view number → before.stage ≡ InFront → value ≡ before.id.seq
    → Stored MayDestroy destroy view (State before.id.index) value next
    → IsDestroyTurn More before (record before { stage = Destroyed; made = Some (record { pass = number; entry = Destroy before.id.index }) }) view next
destroy-turn before first start view next number value making pass at is stored =
    let here : PastLook before.id start view InFront = subst (λ (i : Id). PastLook i start view InFront) (sym making.0) (subst (AtDestroy first.id start view before.look) at making.2) in
    let begun : IsBegunFor before.id start = subst (λ (i : Id). IsBegunFor i start) (sym making.0) making.1 in
    record {
      step = destruction-step before.id start view value begun here is next stored;
      made = destruction-made before.id start view value begun here is next stored number pass;
      turned = inl (subst (λ (s : DestroyStage). 2 < stage_left before.look s) (sym at) (omega arith));
      loads = tt;
      keeps = λ other begin goes.
          let there = subst (AtDestroy other.id begin view before.look) at goes.2 in
          let named : Stored MayDestroy destroy view (State other.id.index) value next = subst (λ (i : Id). Stored MayDestroy destroy view (State i.index) value next) goes.0 stored in
          let sequence : value ≡ other.id.seq = is ∙ ap (λ (i : Id). i.seq) goes.0 in (
            goes.0,
            goes.1,
            (destruction-calling other.id begin view value goes.1 there sequence next named, has-destroyed other.id begin view value goes.1 there sequence next named),
          );
      answered = λ other begin goes. tt;
    }

-- ---- letting the lock of the list go

-- of two locks that were taken, the second was let go: the first is held alone
first-alone : (c : Config) (id : Id) → stripe_of c id.index < index_lock c → HasStripeAlone c id (both_taken c id ++ Released (index_lock c) ∷ [])
first-alone c id apart = record {
  held =
      ap (λ (t : Bool). cond {A = Option Mode} t None (mode_of (both_taken c id) (stripe_of c id.index))) (ne_eqb (index_lock c) (stripe_of c id.index) (λ same. absurd (omega arith)))
      ∙ first-taken (stripe_of c id.index) (index_lock c);
  alone = λ lock. go (eqb (stripe_of c id.index) lock) (eqb (index_lock c) lock);
}
  where
    go : (s t : Bool) → cond {A = Option Mode} s None (cond t None (cond t (Some Write) (cond s (Some Write) None))) ≡ None
    go true t = refl
    go false true = refl
    go false false = refl

module _ (id : Id) (start view : View) (begun : IsBegunFor id start) (at : PastLook id start view Destroyed) where
  pub may-leave_list : MayLetGo view (index_lock start.config)
  may-leave_list = record {
    mode = Write;
    holds = subst (λ (c : Config). Holds view (index_lock c) Write) (worked-sizes start view _ at.0) (both-list id start view _ _ begun.rest at.0);
    done = at.0.doing;
  }

  pub left-list : (next : View) (found : ℕ) → LetGo view (index_lock start.config) found next → PastLook id start next (Leaving (Ok tt))
  left-list next found go =
      let lock = index_lock start.config in
      let by = released-made view next lock found go at.0.adds.number (worked-pass start view _ at.0) in (
        both_taken start.config id ++ Released lock ∷ [],
        Destroy id.index ∷ [],
        worked-released start view next _ at.0 lock found go refl,
        first-alone start.config id begun.striped,
        destroyed-later id start view next (known-more MayRelease release view next (Lock lock) go.0 0 found go.1) (λ entries adds. adds-none start view next entries (worked-role start view _ at.0) adds by) at.1,
      )

-- ---- letting the stripe go

module _ (id : Id) (start view : View) (answer : Result (Unit {0}) DestroyRefused) (begun : IsBegunFor id start) (at : PastLook id start view (Leaving answer)) where
  pub may-leave : MayLetGo view (stripe_of start.config id.index)
  may-leave = record { mode = Write; holds = worked-mode start view _ at.2 begun.rest (stripe_of start.config id.index) ∙ at.3.held; done = at.2.doing }

  pub has_left : (next : View) (found : ℕ) → LetGo view (stripe_of start.config id.index) found next → HasEnded start next × IsDestroyAnswer id start next answer
  has_left next found go =
      let lock = stripe_of start.config id.index in
      let by = released-made view next lock found go at.2.adds.number (worked-pass start view _ at.2) in
      let done = worked-done start next _ (worked-released start view next _ at.2 lock found go refl) begun.rest refl at.3.alone in (
        record { rest = done.rest; tells = done.tells; keeps = done-keeps start next _ done; lawful = released-lawful view next lock found go },
        answer-later id start view next answer (known-more MayRelease release view next (Lock lock) go.0 0 found go.1) (λ entries adds. adds-none start view next entries (worked-role start view _ at.2) adds by) at.4,
      )

-- so is the last turn
pub leave-turn : (before : DestroyOp) (answer : Result (Unit {0}) DestroyRefused) (view next : View) (number lock found : ℕ) → IsPass view number → before.stage ≡ Leaving answer
    → lock ≡ stripe_of view.config before.id.index → LetGo view lock found next → IsDestroyTurn (Done answer) before (record before { made = None }) view next
leave-turn before answer view next number lock found pass at same go = record {
  step = released-step view next lock found go;
  made = released-made view next lock found go number pass;
  turned = tt;
  loads = tt;
  keeps = λ first start making. tt;
  answered = λ first start making.
      let there = subst (AtDestroy first.id start view before.look) at making.2 in
      has_left first.id start view answer making.1 there next found
      (subst (λ (l : ℕ). LetGo view l found next) (same ∙ (λ i. stripe_of (worked-sizes start view _ there.2 i) (making.0 i).index)) go);
}

-- both locks may be let go, each in its turn
pub may-leave-list : (before : DestroyOp) (view : View) (lock : ℕ) → IsUnderWay DestroysBody before view → before.stage ≡ Destroyed → lock ≡ index_lock view.config → MayLetGo view lock
may-leave-list before view lock way at same =
    let there = subst (AtDestroy way.first.id way.start view before.look) at way.goes.2 in
    subst (MayLetGo view) (sym (same ∙ ap (λ (c : Config). index_lock c) (worked-sizes way.start view _ there.0))) (may-leave_list way.first.id way.start view way.goes.1 there)

pub may-leave-stripe : (before : DestroyOp) (answer : Result (Unit {0}) DestroyRefused) (view : View) (lock : ℕ) → IsUnderWay DestroysBody before view → before.stage ≡ Leaving answer
    → lock ≡ stripe_of view.config before.id.index → MayLetGo view lock
may-leave-stripe before answer view lock way at same =
    let there = subst (AtDestroy way.first.id way.start view before.look) at way.goes.2 in
    subst (MayLetGo view) (sym (same ∙ (λ i. stripe_of (worked-sizes way.start view _ there.2 i) (way.goes.0 i).index))) (may-leave way.first.id way.start view answer way.goes.1 there)
