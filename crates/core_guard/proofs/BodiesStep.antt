-- What a step owes for the bodies to agree afterwards, where its pass keeps its locks and batches.
use Rattle.std.proofs.Common.{◌≡◌, ◌≢◌, ◌↔◌, ℕ, zero, suc, Bool, true, false, cond, ◌+◌, ◌-◌, ◌<◌, List, ◌∷◌, Some, Contains, AllPairs, IsNone, refl, ap, sym, ◌∙◌, subst}
use Rattle.std.specs.Prelude.{⊤, flat_map, nat_lt}
use Rattle.std.proofs.lemmas.Option.{none-some, same_Some}
use Rattle.scene_model.specs.declared.body_view.Phase.{Phase as BodyPhase}
use Rattle.scene_model.specs.declared.body_view.Phase.TheVariants.{Out, Held, In}
use Rattle.scene_model.specs.declared.entry.Made.{Made}
use Rattle.scene_model.specs.Scene.{Record, place_at, record_at}
use Rattle.scene_model.specs.Step.{HasBody}
use Rattle.scene_model.specs.History.{IsLawfulHistory}
use Rattle.word_map.specs.declared.config.Config.{Config}
use Rattle.word_map.specs.declared.name.Name.{Name}
use Rattle.word_map.specs.declared.name.Name.TheVariants.{SlotHead, SlotNext, State, Phase, Layer, User, BoxWord, Slot}
use Rattle.word_map.specs.Names.{index_lock, stripe_of}
use Rattle.core_state.specs.declared.view.Mode.TheVariants.{Write}
use Rattle.core_state.specs.declared.view.Role.{Role}
use Rattle.core_state.specs.declared.view.Task.{Task}
use Rattle.core_state.specs.declared.view.Task.TheVariants.{Nothing, Creating, Destroying, Moving, Removing, Placing}
use Rattle.core_state.specs.declared.view.LockStep.{LockStep}
use Rattle.core_state.specs.declared.view.Call.{Call}
use Rattle.core_state.specs.declared.view.Marked.{Marked}
use Rattle.core_state.specs.declared.view.Batch.{Batch}
use Rattle.core_state.specs.declared.view.View.{View}
use Rattle.core_state.specs.Log.{word}
use Rattle.core_state.specs.View.{number_in, known_word, IsPass, Holds, HoldsNot}
use Rattle.core_state.specs.Core.{Core, word_of, scene_of, IsViewAt}
use Rattle.core_state.specs.Kind.{Kind, Step, view_after, after_step, learned}
use Rattle.core_state.specs.Formed.{IsFormed, IsSoundView}
use Rattle.core_state.specs.Guards.{Owns, GuardsHold}
use Rattle.core_state.specs.Scope.{Sight, sight, scene_in, word_in, HasPass, EachPass}
use Rattle.core_state.specs.Encoding.{phase_out, reserved_by}
use Rattle.core_state.specs.LocksAgree.{LocksAgree}
use Rattle.core_state.specs.Bodies.{state_word, phase_by, free_indexes, IsChain, IsBetweenBoxes, HasWholeBox, IsForSlot, AreOtherSlots, all_batches, all_marked}
use Rattle.core_state.specs.BodiesAgree.{BodiesAgreeIn, BodiesAgree, body_scope, HasWordsOf, ListsFree, ChangesList, IsUnderStripe, IsHeldFor}
use Rattle.core_state.proofs.Frames.{same_cond}
use Rattle.core_state.proofs.Guarding.{owned-still, writer-alone}
use Rattle.core_state.proofs.Steps.{word-step-other, view-step}
use Rattle.core_guard.proofs.Chains.{chain-kept}
use Rattle.core_guard.proofs.Seats.{KeepsNumber, each-seat, each-seats, SeatBefore, steps_now, stays, seat-before, each-step, each-unstep, has-step, has-unstep, flat-step}
use Rattle.core_state.proofs.Beginning.{body_record, record_body}

-- ---- the parts of the law

-- words of bodies
pub record WordsPart (s : Sight) : Type 0 where
  pub lawful : IsLawfulHistory s.config.layers s.config.bodies s.history
  pub state : (i : ℕ) → i < s.config.bodies → s.word (State i) ≡ state_word (place_at (scene_in s) i)
  pub live : (i : ℕ) (r : Record) → record_at (scene_in s) i ≡ Some r → HasWordsOf s i r
  pub dead : (i : ℕ) → IsNone (record_at (scene_in s) i) → s.word (Phase i) ≡ phase_out

-- the list of free indexes
pub record ListPart (s : Sight) : Type 0 where
  pub chain : List ℕ
  pub linked : IsChain (λ i. s.word (SlotNext i)) (s.word SlotHead) chain
  pub listed : EachPass s (λ number view. ListsFree s view view.call.task chain)
  pub settled : EachPass s (λ number view. ¬ ChangesList view.call.task) → chain ≡ free_indexes (scene_in s)

-- the stripes of boxes that are being stored
abbrev pub StripePart : Sight → Type 0
StripePart s = EachPass s (λ number view. IsUnderStripe s view view.call.task)

-- a pass has a batch for the slot
abbrev pub HoldsSlot : ℕ → ℕ → View → Type 0
HoldsSlot l t view = (batch : Batch) × Contains view.batches batch × IsForSlot l t batch

-- batches
pub record BatchPart (s : Sight) : Type 0 where
  pub reserved : (l t number : ℕ) → suc number < 1024 → (s.word (Slot l t) ≡ reserved_by number) ↔ HasPass s number (HoldsSlot l t)
  pub slots : AllPairs AreOtherSlots (all_batches s)
  pub marked : (batch : Batch) (m : Marked) → Contains (all_batches s) batch → Contains batch.marked m → IsHeldFor s batch m
  pub held : (i : ℕ) → HasBody (scene_in s) i (λ r. r.phase ≡ Held) →
      (batch : Batch) × (m : Marked) × Contains (all_batches s) batch × Contains batch.marked m × (m.index ≡ i)
  pub once : AllPairs (λ a b. a.index ≢ b.index) (all_marked s)

pub together : (s : Sight) → WordsPart s → ListPart s → StripePart s → BatchPart s → BodiesAgreeIn s
together s words list stripes batches = record {
  lawful = words.lawful;
  state = words.state;
  live = words.live;
  dead = words.dead;
  chain = list.chain;
  linked = list.linked;
  listed = list.listed;
  settled = list.settled;
  stripes = stripes;
  reserved = batches.reserved;
  slots = batches.slots;
  marked = batches.marked;
  held = batches.held;
  once = batches.once;
}

-- ---- tasks

-- a task that changes the list has the list's lock
pub lists_lock : (s : Sight) (view : View) (task : Task) (chain : List ℕ) → ListsFree s view task chain → ChangesList task → Holds view (index_lock s.config) Write
lists_lock s view (Creating index) chain h changes = h.0
lists_lock s view (Destroying index) chain h changes = h.0
lists_lock s view _ chain h changes = absurd changes

-- one that does not asks nothing
pub unlisted : (s : Sight) (view : View) (task : Task) (chain : List ℕ) → ¬ ChangesList task → ListsFree s view task chain
unlisted s view (Creating index) chain none = absurd (none tt)
unlisted s view (Destroying index) chain none = absurd (none tt)
unlisted s view _ chain none = tt

-- who keeps its locks holds what it held
pub same-locks : (v w : View) → w.locks ≡ v.locks → (lock : ℕ) → Holds v lock Write → Holds w lock Write
same-locks v w locks lock holds = subst (λ (l : List LockStep). Holds (record v { locks = l }) lock Write) (sym locks) holds

-- a phase word stands as it stood where slot words do
pub phase-kept : (old new : ℕ) (before after : ℕ → ℕ) (phase : BodyPhase) → new ≡ old → ((t : ℕ) → after t ≡ before t) → phase_by old (before (old - 2)) ≡ Some phase
    → phase_by new (after (new - 2)) ≡ Some phase
phase-kept old new before after phase same slots h = (λ i. phase_by (same i) (slots (same i - 2) i)) ∙ h

-- a body whose phase word is 0 is out
pub out_phase : (value slot : ℕ) (phase : BodyPhase) → value ≡ phase_out → phase_by value slot ≡ Some phase → Out ≡ phase
out_phase value slot phase out h = same_Some Out phase (sym (ap (λ (n : ℕ). phase_by n slot) out) ∙ h)

zero_phase : (word slot : ℕ) → phase_by word slot ≡ Some Out → word ≡ 0
zero_phase zero slot e = refl
zero_phase (suc zero) slot e = absurd cc
zero_phase (suc (suc t)) zero e = absurd cc
zero_phase (suc (suc t)) (suc w) e = absurd (held_or_in (nat_lt (suc w) 1024) e)
  where
    held_or_in : (test : Bool) → cond test (Some Held) (Some In) ≢ Some Out
    held_or_in true e = absurd cc
    held_or_in false e = absurd cc

-- and that of a body that is out is 0
pub zero-out : (core : Core) → BodiesAgree core → (i : ℕ) → HasBody (scene_of core) i (λ r. r.phase ≡ Out) → word_of core (Phase i) ≡ 0
zero-out core h i out =
    let t = body_record (record_at (scene_of core) i) (λ r. r.phase ≡ Out) out in
    zero_phase (word_of core (Phase i)) _ ((h.live i t.0 t.1).phase ∙ ap Some t.2)

-- ---- a step

keeps : KeepsNumber body_scope
keeps number view = refl

module _ (kind : Kind) (core : Core) (step : Step) (at : IsViewAt core step.seat step.view) (pass : IsPass step.view step.number) where
  -- the pass is of this world, and knows a first part of the log
  pub sound : IsFormed core → IsSoundView core.config core.log step.view
  sound formed =
      formed.views step.seat step.view at
      (λ spent. none-some step.number (sym (ap (λ (r : Role). number_in r) spent) ∙ pass))

  -- what it finds in the log is what there is
  pub found-now : (name : Name) → IsFormed core → known_word (learned core step) name ≡ word_of core name
  found-now name formed = ap (λ (c : Config). word c core.log name) (sound formed).config

  -- a word that the pass has for itself is the one that it knew
  pub known-now : (name : Name) → IsFormed core → GuardsHold core → Owns core.config step.view name → word_of core name ≡ known_word step.view name
  known-now name formed guards owns =
      owned-still core step.seat step.number step.view formed guards at pass name owns
      ∙ ap (λ (c : Config). word c step.view.known name) (sym (sound formed).config)

  -- a word that the law reads and that is not stored
  pub unstored : (name : Name) → name ≢ step.name → word_in body_scope (after_step kind core step) name ≡ word_in body_scope core name
  unstored name other = same_cond (body_scope.names name) (word_of (after_step kind core step) name) (word_of core name) 0 (λ reads. word-step-other kind core step name other)

  -- while the pass writes under the lock of the list, no other one changes the list
  module _ (agree : LocksAgree core) (h : BodiesAgree core) (lock : Holds step.view (index_lock core.config) Write) where
    pub others-idle : (seat number : ℕ) (view : View) → seat ≢ step.seat → IsViewAt core seat view → IsPass view number → ¬ ChangesList view.call.task
    others-idle seat number view apart found is changes =
        let holds : Holds view (index_lock core.config) Write =
        lists_lock (sight body_scope core) view view.call.task h.chain
        (each-seat body_scope keeps core (λ n v. ListsFree (sight body_scope core) v v.call.task h.chain) h.listed seat number view found is) changes in
        let free : HoldsNot view (index_lock core.config) = writer-alone core (index_lock core.config) step.seat seat step.number number step.view view agree at pass lock apart found is in
        none-some Write (sym free ∙ holds)

    -- so where nothing is half done, the list is the scene's
    pub chain-idle : step.view.call.task ≡ Nothing → h.chain ≡ free_indexes (scene_in (sight body_scope core))
    chain-idle idle =
        h.settled
        (each-seats body_scope keeps core (λ n v. ¬ ChangesList v.call.task)
        (λ seat number view found is. go seat number view found is (seat-before body_scope keeps kind core step at pass seat number view found is)))
      where
        go : (seat number : ℕ) (view : View) → IsViewAt core seat view → IsPass view number → SeatBefore body_scope keeps kind core step at pass seat number view → ¬ ChangesList view.call.task
        go seat number view found is (steps_now same one two) changes = subst ChangesList (ap (λ (v : View). v.call.task) (sym one) ∙ idle) changes
        go seat number view found is (stays apart new) changes = others-idle seat number view apart found is changes

    -- and otherwise what the own task says
    pub chain-task : ListsFree (sight body_scope core) step.view step.view.call.task h.chain
    chain-task = each-seat body_scope keeps core (λ n v. ListsFree (sight body_scope core) v v.call.task h.chain) h.listed step.seat step.number step.view at pass

  -- ---- the sight afterwards, with the history that is known to be there

  module _ (past : List Made) where
    abbrev pub new_sight : Sight
    new_sight = record (sight body_scope (after_step kind core step)) { history = past }

    pub bodies-agree : (sight body_scope (after_step kind core step)).history ≡ past → BodiesAgreeIn new_sight → BodiesAgree (after_step kind core step)
    bodies-agree made h = subst (λ (l : List Made). BodiesAgreeIn (record (sight body_scope (after_step kind core step)) { history = l })) (sym made) h

    -- a body's box is whole as far as it was, if the pass still has under way what it had
    pub whole-back : (i : ℕ) → (IsBetweenBoxes step.view i → IsBetweenBoxes (view_after kind core step) i) → HasWholeBox new_sight i → HasWholeBox (sight body_scope core) i
    whole-back i own whole number between =
        whole number
        (has-step body_scope keeps kind core step at pass number (λ v. IsBetweenBoxes v i) (λ v. IsBetweenBoxes v i) between (λ seat view apart found is b. b) (λ same b. own b))

    -- the words of a live body are those of its record as long as none of them is stored
    pub words-kept : (i : ℕ) (r : Record) → (IsBetweenBoxes step.view i → IsBetweenBoxes (view_after kind core step) i)
        → new_sight.word (Layer i) ≡ (sight body_scope core).word (Layer i) → new_sight.word (User i) ≡ (sight body_scope core).word (User i)
        → ((k : ℕ) → new_sight.word (BoxWord i k) ≡ (sight body_scope core).word (BoxWord i k))
        → new_sight.word (Phase i) ≡ (sight body_scope core).word (Phase i) → ((l t : ℕ) → new_sight.word (Slot l t) ≡ (sight body_scope core).word (Slot l t))
        → HasWordsOf (sight body_scope core) i r → HasWordsOf new_sight i r
    words-kept i r own layer user box phase slots h = record {
      layer = layer ∙ h.layer;
      user = user ∙ h.user;
      user_fits = h.user_fits;
      bounds = λ whole k below. box k ∙ h.bounds (whole-back i own whole) k below;
      phase =
          phase-kept (word_of core (Phase i)) (word_of (after_step kind core step) (Phase i)) (λ t. word_of core (Slot r.layer t)) (λ t. word_of (after_step kind core step) (Slot r.layer t)) r.phase
          phase (λ t. slots r.layer t) h.phase;
      slot = subst (λ (n : ℕ). n < 2 + core.config.slots) (sym phase) h.slot;
    }

    -- ---- stripes

    -- what a task needs of a stripe it needs afterwards
    pub stripe-moved : (v w : View) (task : Task) → ((lock : ℕ) → Holds v lock Write → Holds w lock Write) → IsUnderStripe (sight body_scope core) v task → IsUnderStripe new_sight w task
    stripe-moved v w (Moving index target) locks h = locks (stripe_of core.config index) h
    stripe-moved v w (Removing index) locks h = locks (stripe_of core.config index) h
    stripe-moved v w (Placing index) locks h = locks (stripe_of core.config index) h
    stripe-moved v w _ locks h = tt

    pub stripe-part : BodiesAgree core
        → (IsUnderStripe (sight body_scope core) step.view step.view.call.task → IsUnderStripe new_sight (view_after kind core step) (view_after kind core step).call.task) → StripePart new_sight
    stripe-part h own =
        each-step body_scope keeps kind core step at pass (λ n v. IsUnderStripe (sight body_scope core) v v.call.task) (λ n v. IsUnderStripe new_sight v v.call.task) h.stripes
        (λ seat number view apart found is old. stripe-moved view view view.call.task (λ lock holds. holds) old) own

    pub stripe-stays : BodiesAgree core → (view_after kind core step).call ≡ step.view.call → (view_after kind core step).locks ≡ step.view.locks → StripePart new_sight
    stripe-stays h call locks =
        stripe-part h
        (λ old. stripe-moved step.view (view_after kind core step) (view_after kind core step).call.task (same-locks step.view (view_after kind core step) locks)
        (subst (λ (c : Call). IsUnderStripe (sight body_scope core) step.view c.task) (sym call) old))

    -- ---- the list

    -- a step under its lock
    pub list-part : (agree : LocksAgree core) (h : BodiesAgree core) (lock : Holds step.view (index_lock core.config) Write) (chain : List ℕ)
        → IsChain (λ i. new_sight.word (SlotNext i)) (new_sight.word SlotHead) chain
        → ListsFree new_sight (view_after kind core step) (view_after kind core step).call.task chain
        → (¬ ChangesList (view_after kind core step).call.task → chain ≡ free_indexes (scene_in new_sight))
        → ListPart new_sight
    list-part agree h lock chain linked own done = record {
      chain = chain;
      linked = linked;
      listed =
          each-step body_scope keeps kind core step at pass (λ n v. ⊤) (λ n v. ListsFree new_sight v v.call.task chain) (λ n v c is. tt)
          (λ seat number view apart found is old. unlisted new_sight view view.call.task chain (others-idle agree h lock seat number view apart found is)) (λ old. own);
      settled = λ quiet.
          done
          (each-seat body_scope keeps (after_step kind core step) (λ n v. ¬ ChangesList v.call.task) quiet step.seat step.number (view_after kind core step) (view-step kind core step at) pass);
    }

    -- a step that leaves the list, whoever is changing it
    pub list-moved : (v w : View) (task : Task) (chain : List ℕ) → (Holds v (index_lock core.config) Write → Holds w (index_lock core.config) Write)
        → free_indexes (scene_in new_sight) ≡ free_indexes (scene_in (sight body_scope core)) → ListsFree (sight body_scope core) v task chain → ListsFree new_sight w task chain
    list-moved v w (Creating index) chain locks same h = (locks h.0, h.1 ∙ sym same)
    list-moved v w (Destroying index) chain locks same h = (locks h.0, h.1 ∙ ap (λ (l : List ℕ). index ∷ l) (sym same))
    list-moved v w _ chain locks same h = tt

    -- what the own task says of it is to be shown, and that it is half done afterwards if it was before
    pub list-left : (h : BodiesAgree core) → (ListsFree (sight body_scope core) step.view step.view.call.task h.chain → ListsFree new_sight (view_after kind core step) (view_after kind core step).call.task h.chain)
        → (¬ ChangesList (view_after kind core step).call.task → ¬ ChangesList step.view.call.task)
        → new_sight.word SlotHead ≡ (sight body_scope core).word SlotHead → ((i : ℕ) → new_sight.word (SlotNext i) ≡ (sight body_scope core).word (SlotNext i))
        → free_indexes (scene_in new_sight) ≡ free_indexes (scene_in (sight body_scope core)) → ListPart new_sight
    list-left h own quiet_before head next same = record {
      chain = h.chain;
      linked =
          rw head (chain-kept (λ i. (sight body_scope core).word (SlotNext i)) (λ i. new_sight.word (SlotNext i)) ((sight body_scope core).word SlotHead) h.chain (λ j c. next j) h.linked);
      listed =
          each-step body_scope keeps kind core step at pass (λ n v. ListsFree (sight body_scope core) v v.call.task h.chain) (λ n v. ListsFree new_sight v v.call.task h.chain) h.listed
          (λ seat number view apart found is old. list-moved view view view.call.task h.chain (λ holds. holds) same old) own;
      settled = λ quiet.
          h.settled
          (each-unstep body_scope keeps kind core step at pass (λ n v. ¬ ChangesList v.call.task) (λ n v. ¬ ChangesList v.call.task) quiet (λ seat number view apart found is none. none) quiet_before)
          ∙ sym same;
    }

    pub list-stays : BodiesAgree core → (view_after kind core step).call ≡ step.view.call → (view_after kind core step).locks ≡ step.view.locks
        → new_sight.word SlotHead ≡ (sight body_scope core).word SlotHead → ((i : ℕ) → new_sight.word (SlotNext i) ≡ (sight body_scope core).word (SlotNext i))
        → free_indexes (scene_in new_sight) ≡ free_indexes (scene_in (sight body_scope core)) → ListPart new_sight
    list-stays h call locks head next same =
        list-left h
        (λ old. list-moved step.view (view_after kind core step) (view_after kind core step).call.task h.chain (same-locks step.view (view_after kind core step) locks (index_lock core.config)) same
        (subst (λ (c : Call). ListsFree (sight body_scope core) step.view c.task h.chain) (sym call) old))
        (λ none. subst (λ (c : Call). ¬ ChangesList c.task) call none) head next same

    -- ---- batches

    -- held bodies stay held, in their layers and with their boxes, and no others are held
    pub record KeepsHeld : Type 0 where
      pub forth : (i : ℕ) (r : Record) → record_at (scene_in (sight body_scope core)) i ≡ Some r → r.phase ≡ Held → HasBody (scene_in new_sight) i (λ q. (q.phase ≡ Held) × (q.layer ≡ r.layer))
      pub boxes : (i : ℕ) (r : Record) → record_at (scene_in (sight body_scope core)) i ≡ Some r → r.phase ≡ Held → (k : ℕ) → new_sight.word (BoxWord i k) ≡ (sight body_scope core).word (BoxWord i k)
      pub back : (i : ℕ) → HasBody (scene_in new_sight) i (λ q. q.phase ≡ Held) → HasBody (scene_in (sight body_scope core)) i (λ r. r.phase ≡ Held)

    -- batches that are the same hold what they held, where their marks say so and no other body is held
    batches-same : (view_after kind core step).batches ≡ step.view.batches → all_batches new_sight ≡ all_batches (sight body_scope core)
    batches-same batches = flat-step body_scope keeps kind core step at pass (λ v. v.batches) batches

    pub batch-left : BodiesAgree core → (view_after kind core step).batches ≡ step.view.batches → ((l t : ℕ) → new_sight.word (Slot l t) ≡ (sight body_scope core).word (Slot l t))
        → ((batch : Batch) (m : Marked) → IsHeldFor (sight body_scope core) batch m → IsHeldFor new_sight batch m)
        → ((i : ℕ) → HasBody (scene_in new_sight) i (λ q. q.phase ≡ Held) → HasBody (scene_in (sight body_scope core)) i (λ r. r.phase ≡ Held)) → BatchPart new_sight
    batch-left h batches slots marks back = record {
      reserved = λ l t number below. (
        λ e. has-step body_scope keeps kind core step at pass number (HoldsSlot l t) (HoldsSlot l t) ((h.reserved l t number below).0 (sym (slots l t) ∙ e))
            (λ seat view apart found is has. has) (λ same has. subst (λ (b : List Batch). (batch : Batch) × Contains b batch × IsForSlot l t batch) (sym batches) has),
        λ has. slots l t ∙ (h.reserved l t number below).1
            (has-unstep body_scope keeps kind core step at pass number (HoldsSlot l t) (HoldsSlot l t) has
            (λ seat view apart found is one. one) (λ same one. subst (λ (b : List Batch). (batch : Batch) × Contains b batch × IsForSlot l t batch) batches one)),
      );
      slots = subst (λ (b : List Batch). AllPairs AreOtherSlots b) (sym (batches-same batches)) h.slots;
      marked = λ batch m among marked. marks batch m (h.marked batch m (subst (λ (b : List Batch). Contains b batch) (batches-same batches) among) marked);
      held = λ i has.
          let t = h.held i (back i has) in
          (t.0, t.1, subst (λ (b : List Batch). Contains b t.0) (sym (batches-same batches)) t.2, t.3, t.4);
      once =
          subst (λ (m : List Marked). AllPairs (λ (a : Marked) (b : Marked). a.index ≢ b.index) m)
          (ap (λ (l : List Batch). flat_map (λ (b : Batch). b.marked) l) (sym (batches-same batches))) h.once;
    }

    module _ (h : BodiesAgree core) (batches : (view_after kind core step).batches ≡ step.view.batches) (held : KeepsHeld)
        (phases : (i : ℕ) → new_sight.word (Phase i) ≡ (sight body_scope core).word (Phase i)) (slots : (l t : ℕ) → new_sight.word (Slot l t) ≡ (sight body_scope core).word (Slot l t)) where
      held-kept : (batch : Batch) (m : Marked) → IsHeldFor (sight body_scope core) batch m → IsHeldFor new_sight batch m
      held-kept batch m was =
          let old = body_record (record_at (scene_in (sight body_scope core)) m.index) (λ r. (r.phase ≡ Held) × (r.layer ≡ batch.layer)) was.held in
          let new = body_record (record_at (scene_in new_sight) m.index) (λ q. (q.phase ≡ Held) × (q.layer ≡ old.0.layer)) (held.forth m.index old.0 old.1 old.2.0) in
          record {
            held = record_body (record_at (scene_in new_sight) m.index) (λ q. (q.phase ≡ Held) × (q.layer ≡ batch.layer)) new.0 new.1 (new.2.0, new.2.1 ∙ old.2.1);
            phase = phases m.index ∙ was.phase;
            bounds = λ k below. held.boxes m.index old.0 old.1 old.2.0 k ∙ was.bounds k below;
          }

      pub batch-part : BatchPart new_sight
      batch-part = batch-left h batches slots held-kept held.back
