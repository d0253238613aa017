-- Locking several bodies by turns.
use Rattle.std.specs.Prelude.{◌≡◌, ◌≢◌, ℕ, ◌+◌, ◌-◌, ◌*◌, ◌<◌, ◌≤◌, true, List, [], All, length, take, Option, Some, None}
use Rattle.body_ident.specs.Id.{Id}
use Rattle.core_state.specs.declared.view.Mode.{Mode}
use Rattle.core_state.specs.declared.view.Task.TheVariants.{Nothing}
use Rattle.core_state.specs.declared.view.View.{View}
use Rattle.core_state.specs.View.{IsPass, mode_of, Holds}
use Rattle.pass_table.specs.declared.turn.Turn.{Turn}
use Rattle.pass_table.specs.declared.take_op.TakeOp.{TakeOp}
use Rattle.pass_table.specs.TakeTurns.{taking_of, IsTaking, turns_left, taking-later}
use Rattle.pass_table.specs.Knowing.{KnowsMore}
use Rattle.pass_table.specs.Holding.{IsAtRest}
use Rattle.pass_table.specs.Calls.{IsTurn}
use Rattle.pass_table.specs.Work.{IsCalling}
use Rattle.std.proofs.Common.{ap, ◌∙◌}
use Rattle.std.proofs.lemmas.List.Elements.{All-weaker}
use Rattle.pass_table.proofs.TakingTurns.{taking-anew}
use Rattle.pass_table.proofs.Calling.{point-later}
use Rattle.pass_table.proofs.WorkLater.{worked-more}
use Rattle.pass_table.proofs.Between.{more-trans}
use Rattle.pass_table.proofs.LockedBodies.{guarding-more}
use Rattle.pass_table.specs.Bodies.{live_state, Loaded, IsGoneAt}
use Rattle.word_map.specs.Names.{stripe_of}
use Rattle.word_map.specs.declared.name.Name.TheVariants.{State}
use Rattle.body_lock.specs.declared.multi_guard.MultiEntry.{MultiEntry}
use Rattle.body_lock.specs.declared.multi_guard.MultiEntry.TheVariants.{Reached, Gone}
use Rattle.body_lock.specs.declared.multi_guard.LockedBody.{LockedBody}
use Rattle.body_lock.specs.declared.multi_guard.MultiGuard.{MultiGuard}
use Rattle.body_lock.specs.declared.multi_op.Wanted.{Wanted}
use Rattle.body_lock.specs.declared.multi_op.MultiStage.{MultiStage}
use Rattle.body_lock.specs.declared.multi_op.MultiStage.TheVariants.{Taking, Held}
use Rattle.body_lock.specs.declared.multi_op.LockMultiOp.{LockMultiOp}
use Rattle.body_lock.specs.Stripes.{has_stripe, IsNext, HasNone, AreStripesOf, HoldsBelow}
use Rattle.body_lock.specs.Answers.{HasMultiLock, HeldSince, IsEntryRight, IsReachRight, body_ids, takes_below, wanted_ids}

-- two turns for each stripe at most, and then one for each body
abbrev pub turns_of : ℕ → ℕ → MultiStage → ℕ
turns_of wanted read (Taking stripe taking) = turns_left taking + (2 * (64 - stripe) + wanted)
turns_of wanted read Held = wanted - read

abbrev pub multi_left : LockMultiOp → ℕ
multi_left operation = turns_of (length operation.wanted.items) (length operation.bodies.items) operation.stage

-- this stripe is being taken, and of all locks just those of the set below it are held
pub record TakesNext (bits : ℕ) (mode : Mode) (bodies : List LockedBody) (stripe : ℕ) (taking : TakeOp) (view : View) : Type 0 where
  pub goes : IsTaking (taking_of stripe mode) view taking view
  pub has : has_stripe bits stripe ≡ true
  pub low : stripe < 64
  pub holds : HoldsBelow view bits mode stripe
  pub none : bodies ≡ []

-- the state words are being read
pub record ReadsStates (number bits : ℕ) (mode : Mode) (wanted : List Wanted) (bodies : List LockedBody) (start view : View) : Type 0 where
  pub held : View
  pub holds : HeldSince bits mode start held view
  pub left : length bodies < length wanted
  pub ids : body_ids bodies ≡ take (length bodies) (wanted_ids wanted)
  pub each : All (IsEntryRight number mode held view) bodies

abbrev pub IsAtMulti : ℕ → ℕ → Mode → List Wanted → List LockedBody → View → MultiStage → View → Type 0
IsAtMulti number bits mode wanted bodies start (Taking stripe taking) view = TakesNext bits mode bodies stripe taking view
IsAtMulti number bits mode wanted bodies start Held view = ReadsStates number bits mode wanted bodies start view

-- the stripes of the set below this one are taken
abbrev pub taken_to : MultiStage → ℕ
taken_to (Taking stripe taking) = stripe
taken_to Held = 64

-- the pass was at rest, and the bodies are those of the world
pub record IsWanted (first : LockMultiOp) (start : View) : Type 0 where
  pub some : 0 < length first.wanted.items
  pub few : length first.wanted.items ≤ 64
  pub below : All (λ w. w.id.index < start.config.bodies) first.wanted.items
  pub stripes : AreStripesOf start.config (wanted_ids first.wanted.items) first.stripes.bits
  pub within : (stripe : ℕ) → has_stripe first.stripes.bits stripe ≡ true → stripe < start.config.stripes
  pub rest : IsAtRest start

-- it locks the bodies with which it was begun
pub record IsLockingAll (first : LockMultiOp) (start : View) (operation : LockMultiOp) (view : View) : Type 0 where
  pub wanted : operation.wanted ≡ first.wanted
  pub mode : operation.mode ≡ first.mode
  pub stripes : operation.stripes ≡ first.stripes
  pub begun : IsWanted first start
  pub number : ℕ
  pub pass : IsPass start number
  pub calling : IsCalling start view (takes_below first.stripes.bits first.mode (taken_to operation.stage)) Nothing []
  pub stage : IsAtMulti number first.stripes.bits first.mode first.wanted.items operation.bodies.items start operation.stage view

-- the lock that it takes
abbrev pub takes_at : MultiStage → Option TakeOp
takes_at (Taking stripe taking) = Some taking
takes_at Held = None

abbrev pub multi_takes : LockMultiOp → Option TakeOp
multi_takes operation = takes_at operation.stage

-- what a turn of it owes
abbrev pub IsMultiTurn : Turn MultiGuard → LockMultiOp → LockMultiOp → View → View → Type 0
IsMultiTurn turn before after view next = IsTurn IsLockingAll HasMultiLock multi_left (λ operation. None) multi_takes turn before after view next

-- what comes once the stripes below one are held: the next one, or none is left
abbrev pub ComesAfter : ℕ → Mode → ℕ → View → MultiStage → Type 0
ComesAfter bits mode from view (Taking stripe taking) = IsNext bits from stripe × IsTaking (taking_of stripe mode) view taking view
ComesAfter bits mode from view Held = HasNone bits from

-- what a state word says of a body with this sequence number
abbrev pub SaysEntry : ℕ → ℕ → MultiEntry → Type 0
SaysEntry seq state Reached = state ≡ live_state seq
SaysEntry seq state (Gone found) = (found ≡ state) × (state ≢ live_state seq)

-- its stripe is held, and it is a body of the world
pub record MayLoadState (id : Id) (view : View) : Type 0 where
  pub mode : Mode
  pub stripe : Holds view (stripe_of view.config id.index) mode
  pub below : id.index < view.config.bodies

-- the state word of the body was loaded, and what it says is noted
pub record ReadsEntry (id : Id) (view next : View) (body : LockedBody) : Type 0 where
  pub names : body.id ≡ id
  pub state : ℕ
  pub loaded : Loaded view next (State id.index) state
  pub says : SaysEntry id.seq state body.entry

-- ---- a look or a meeting between two turns does no harm

reach_right-later : (number : ℕ) (mode : Mode) (held view next : View) → KnowsMore view next → (id : Id) (entry : MultiEntry) → IsReachRight number mode held view id entry → IsReachRight number mode held next id entry
reach_right-later number mode held view next more id Reached right = guarding-more number id mode view right next more
reach_right-later number mode held view next more id (Gone state) right = point-later held view next (IsGoneAt held.config id state) (more.since, more.known) right

pub entries-later : (number : ℕ) (mode : Mode) (held view next : View) (bodies : List LockedBody) → KnowsMore view next → All (IsEntryRight number mode held view) bodies → All (IsEntryRight number mode held next) bodies
entries-later number mode held view next bodies more right =
    All-weaker (IsEntryRight number mode held view) (IsEntryRight number mode held next) (λ body. reach_right-later number mode held view next more body.id body.entry) bodies right

pub held-later : (bits : ℕ) (mode : Mode) (start held view next : View) → KnowsMore view next → HeldSince bits mode start held view → HeldSince bits mode start held next
held-later bits mode start held view next more holds = record { reached = holds.reached; all = holds.all; since = more-trans held view next holds.since more }

multi-later : (number bits : ℕ) (mode : Mode) (wanted : List Wanted) (bodies : List LockedBody) (start : View) (stage : MultiStage) (view next : View) → KnowsMore view next
    → IsAtMulti number bits mode wanted bodies start stage view → IsAtMulti number bits mode wanted bodies start stage next
multi-later number bits mode wanted bodies start (Taking stripe taking) view next more at = record {
  goes = taking-anew (taking_of stripe mode) view taking next (taking-later (taking_of stripe mode) view taking view next more at.goes);
  has = at.has;
  low = at.low;
  holds = record {
    held = λ lock below has. ap (λ (v : View). mode_of v.locks lock) more.rest ∙ at.holds.held lock below has;
    later = λ lock above. ap (λ (v : View). mode_of v.locks lock) more.rest ∙ at.holds.later lock above;
    others = λ lock has. ap (λ (v : View). mode_of v.locks lock) more.rest ∙ at.holds.others lock has;
  };
  none = at.none;
}
multi-later number bits mode wanted bodies start Held view next more at = record {
  held = at.held;
  holds = held-later bits mode start at.held view next more at.holds;
  left = at.left;
  ids = at.ids;
  each = entries-later number mode at.held view next bodies more at.each;
}

pub locking_all-later : (first : LockMultiOp) (start : View) (operation : LockMultiOp) (view next : View) → KnowsMore view next → IsLockingAll first start operation view → IsLockingAll first start operation next
locking_all-later first start operation view next more locking = record {
  wanted = locking.wanted;
  mode = locking.mode;
  stripes = locking.stripes;
  begun = locking.begun;
  number = locking.number;
  pass = locking.pass;
  calling = worked-more start view next _ locking.calling more;
  stage = multi-later locking.number first.stripes.bits first.mode first.wanted.items operation.bodies.items start operation.stage view next more locking.stage;
}
