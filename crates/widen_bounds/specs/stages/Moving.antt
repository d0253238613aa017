-- How moving a body goes, turn by turn.
use Rattle.std.specs.Prelude.{◌≡◌, ◌≢◌, ℕ, ◌+◌, ◌-◌, ◌<◌, ◌≤◌, List, [], ◌∷◌, Option, Some, None, Result, Ok, Err}
use Rattle.fixed_box.specs.declared.fix_box.FixBox.{FixBox}
use Rattle.body_ident.specs.Id.{Id}
use Rattle.scene_model.specs.declared.body_view.Phase.{Phase as BodyPhase}
use Rattle.scene_model.specs.declared.body_view.Phase.TheVariants.{Held as HeldPhase}
use Rattle.scene_model.specs.declared.entry.Entry.{Entry}
use Rattle.word_map.specs.declared.config.Config.{Config}
use Rattle.word_map.specs.Names.{stripe_of}
use Rattle.core_state.specs.declared.view.Mode.TheVariants.{Write}
use Rattle.core_state.specs.declared.view.LockStep.{LockStep}
use Rattle.core_state.specs.declared.view.LockStep.TheVariants.{Taken as TakenStep}
use Rattle.core_state.specs.declared.view.Task.TheVariants.{Nothing}
use Rattle.core_state.specs.declared.view.View.{View}
use Rattle.core_state.specs.View.{Holds}
use Rattle.pass_table.specs.declared.take_op.TakeOp.{TakeOp}
use Rattle.pass_table.specs.declared.turn.Turn.{Turn}
use Rattle.pass_table.specs.Holding.{IsAtRest}
use Rattle.pass_table.specs.Calls.{IsTurn}
use Rattle.pass_table.specs.Labels.{IsRefusal, EndsAfter, SaysNew}
use Rattle.pass_table.specs.Turning.{Labelled}
use Rattle.pass_table.specs.Work.{IsCalling, SparesLocations}
use Rattle.pass_table.specs.Settled.{KnowsPhase, KnowsFirst}
use Rattle.pass_table.specs.Ended.{HasEnded}
use Rattle.body_look.specs.declared.look_op.LookDepth.TheVariants.{Phase as ItsPhase}
use Rattle.body_look.specs.declared.look_op.LookOp.{LookOp}
use Rattle.body_look.specs.stages.Looking.{looking_of, IsLooking, look_left, look_takes}
use Rattle.widen_bounds.specs.declared.answers.MoveRefused.{MoveRefused}
use Rattle.widen_bounds.specs.declared.move_op.MoveStage.{MoveStage}
use Rattle.widen_bounds.specs.declared.move_op.MoveStage.TheVariants.{Looking, Found, HalfLocated, Widening as IsWideningStage, Storing, Leaving}
use Rattle.widen_bounds.specs.declared.move_op.MoveOp.{MoveOp}
use Rattle.widen_bounds.specs.declared.widening.Widening.{Widening}
use Rattle.widen_bounds.specs.declared.widening.Widening.TheVariants.{First, Second, Ended}
use Rattle.widen_bounds.specs.Answers.{IsMoveAnswer, LabelSays}
use Rattle.widen_bounds.specs.stages.Widening.{IsWidening, widening_left, widening_label}
use Rattle.widen_bounds.specs.stages.Storing.{IsBoxing}

-- ---- stages

-- the stripe of the body, taken
abbrev pub stripe_taken : Config → Id → List LockStep
stripe_taken c id = TakenStep (stripe_of c id.index) Write ∷ []

-- A call was begun at this view, made these steps on locks and no entry, and is in the middle of nothing. Under its stripe the
-- body is in this phase, and no batch holds it
pub record IsUnheldIn (id : Id) (phase : BodyPhase) (steps : List LockStep) (start view : View) : Type 0 where
  pub calling : IsCalling start view steps Nothing []
  pub stripe : Holds view (stripe_of view.config id.index) Write
  pub below : id.index < view.config.bodies
  pub free : phase ≢ HeldPhase
  pub knows : KnowsPhase id phase view

-- in some phase
abbrev pub IsUnheld : Id → List LockStep → View → View → Type 0
IsUnheld id steps start view = (phase : BodyPhase) × IsUnheldIn id phase steps start view

-- and its first location word is this
abbrev pub IsHalfLocated : Id → List LockStep → View → View → ℕ → Type 0
IsHalfLocated id steps start view first = IsUnheld id steps start view × KnowsFirst id first view

-- its box words are being stored, the next one is that of this side
pub record IsStoring (id : Id) (to : FixBox) (steps : List LockStep) (start view : View) (side : ℕ) : Type 0 where
  pub calling : IsCalling start view steps view.call.task []
  pub boxing : IsBoxing id to side view
  pub few : side ≤ 5

-- what holds at a stage, of a move of this id's body to this box that was begun at this view, where the look and the widening
-- are so
abbrev pub AtMove : Id → FixBox → View → View → LookOp → Widening → MoveStage → Type 0
AtMove id to start view look widening Looking = IsLooking (looking_of start.config id Write ItsPhase) start look view
AtMove id to start view look widening Found = IsUnheld id (stripe_taken start.config id) start view
AtMove id to start view look widening (HalfLocated first) = IsHalfLocated id (stripe_taken start.config id) start view first
AtMove id to start view look widening IsWideningStage = IsWidening id to (stripe_taken start.config id) start view widening × (widening ≢ Ended)
AtMove id to start view look widening (Storing side) = IsStoring id to (stripe_taken start.config id) start view side
AtMove id to start view look widening (Leaving answer) =
    (entries : List Entry) × IsCalling start view (stripe_taken start.config id) Nothing entries × IsMoveAnswer id to start view answer

-- the move was begun so, by a pass at rest
pub record IsBegunFor (id : Id) (start : View) : Type 0 where
  pub below : id.index < start.config.bodies
  pub rest : IsAtRest start

pub record IsMoving (first : MoveOp) (start : View) (operation : MoveOp) (view : View) : Type 0 where
  pub id : operation.id ≡ first.id
  pub to : operation.to ≡ first.to
  pub begun : IsBegunFor first.id start
  pub at : AtMove first.id first.to start view operation.look operation.widening operation.stage

-- at its end
pub record HasMovedOr (first : MoveOp) (start next : View) (answer : Result (Unit {0}) MoveRefused) : Type 0 where
  pub ended : HasEnded start next
  pub spares : SparesLocations start next
  pub answers : IsMoveAnswer first.id first.to start next answer

-- ---- where the widening leads

-- the stage at which a widening goes on
abbrev pub stage_after : Widening → MoveStage
stage_after (First climb second) = IsWideningStage
stage_after (Second climb) = IsWideningStage
stage_after Ended = Storing 0

-- a move that widens bounds so, or stores the first side of the box
abbrev pub GoesOnBy : Id → FixBox → List LockStep → View → View → Widening → Type 0
GoesOnBy id to steps start view (First climb later) = IsWidening id to steps start view (First climb later) × (First climb later ≢ Ended)
GoesOnBy id to steps start view (Second climb) = IsWidening id to steps start view (Second climb) × (Second climb ≢ Ended)
GoesOnBy id to steps start view Ended = IsStoring id to steps start view 0

-- ---- labels

-- an answer that is no refusal comes after both
abbrev pub answer_label : Result (Unit {0}) MoveRefused → Option ℕ
answer_label (Ok done) = Some 1
answer_label (Err refused) = None

abbrev pub stage_label : Widening → MoveStage → Option ℕ
stage_label widening Looking = None
stage_label widening Found = None
stage_label widening (HalfLocated first) = None
stage_label widening IsWideningStage = widening_label widening
stage_label widening (Storing side) = Some 1
stage_label widening (Leaving answer) = answer_label answer

abbrev pub label_of : MoveOp → Option ℕ
label_of operation = stage_label operation.widening operation.stage

abbrev pub label_says : MoveOp → View → View → ℕ → Type 0
label_says first start next label = LabelSays first.id first.to start next label

-- ---- turns

abbrev pub stage_left : LookOp → Widening → MoveStage → ℕ
stage_left look widening Looking = 150 + look_left look
stage_left look widening Found = 150
stage_left look widening (HalfLocated first) = 149
stage_left look widening IsWideningStage = 7 + widening_left widening
stage_left look widening (Storing side) = 7 - side
stage_left look widening (Leaving answer) = 1

abbrev pub move_left : MoveOp → ℕ
move_left operation = stage_left operation.look operation.widening operation.stage

-- the lock that it takes
abbrev pub takes_at : LookOp → MoveStage → Option TakeOp
takes_at look Looking = look_takes look
takes_at look _ = None

abbrev pub move_takes : MoveOp → Option TakeOp
move_takes operation = takes_at operation.look operation.stage

abbrev pub IsPlainTurn : Turn (Result (Unit {0}) MoveRefused) → MoveOp → MoveOp → View → View → Type 0
IsPlainTurn turn before after view next = IsTurn IsMoving HasMovedOr move_left (λ operation. operation.made) move_takes turn before after view next

-- what a turn owes, also to the labels
pub record IsMoveTurn (turn : Turn (Result (Unit {0}) MoveRefused)) (before after : MoveOp) (view next : View) : Type 0 where
  pub plain : IsPlainTurn turn before after view next
  pub labelled : Labelled turn (label_of before) (label_of after)
  pub ends : EndsAfter turn IsRefusal (Some 1) (label_of before)
  pub says : (first : MoveOp) (start : View) → IsMoving first start before view → SaysNew (label_of before) (label_of after) (label_says first start next)
