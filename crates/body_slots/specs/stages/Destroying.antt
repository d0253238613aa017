-- How destroying a body goes, turn by turn.
use Rattle.std.specs.Prelude.{◌≡◌, ℕ, ◌+◌, ◌<◌, List, [], ◌∷◌, ◌++◌, Option, Some, None, Result}
use Rattle.body_ident.specs.Id.{Id}
use Rattle.scene_model.specs.declared.entry.Entry.{Entry}
use Rattle.scene_model.specs.declared.entry.Entry.TheVariants.{Destroy}
use Rattle.word_map.specs.declared.config.Config.{Config}
use Rattle.word_map.specs.declared.name.Name.TheVariants.{SlotHead, SlotNext, Phase}
use Rattle.word_map.specs.Names.{index_lock, stripe_of}
use Rattle.core_state.specs.declared.view.Mode.TheVariants.{Write}
use Rattle.core_state.specs.declared.view.LockStep.{LockStep}
use Rattle.core_state.specs.declared.view.LockStep.TheVariants.{Taken as TakenStep, Released}
use Rattle.core_state.specs.declared.view.Task.TheVariants.{Nothing, Destroying}
use Rattle.core_state.specs.declared.view.View.{View}
use Rattle.core_state.specs.View.{known_word, mode_of}
use Rattle.core_state.specs.Encoding.{phase_out}
use Rattle.pass_table.specs.declared.take_op.TakeOp.{TakeOp}
use Rattle.pass_table.specs.declared.turn.Turn.{Turn}
use Rattle.pass_table.specs.TakeTurns.{taking_of, IsTaking, turns_left}
use Rattle.pass_table.specs.Holding.{IsAtRest}
use Rattle.pass_table.specs.Calls.{IsTurn}
use Rattle.pass_table.specs.Bodies.{KnowsLive}
use Rattle.pass_table.specs.Work.{IsCalling}
use Rattle.body_look.specs.declared.look_op.LookDepth.TheVariants.{Phase as ItsPhase}
use Rattle.body_look.specs.declared.look_op.LookOp.{LookOp}
use Rattle.body_look.specs.stages.Looking.{looking_of, IsLooking, look_left, look_takes}
use Rattle.body_slots.specs.declared.answers.DestroyRefused.{DestroyRefused}
use Rattle.body_slots.specs.declared.destroy_op.DestroyStage.{DestroyStage}
use Rattle.body_slots.specs.declared.destroy_op.DestroyStage.TheVariants.{Looking, TakingList, Locked, Headed, Linked, InFront, Destroyed, Leaving}
use Rattle.body_slots.specs.declared.destroy_op.DestroyOp.{DestroyOp}
use Rattle.pass_table.specs.Ended.{HasEnded}
use Rattle.body_slots.specs.Answers.{HasDestroyed, IsDestroyAnswer}

-- ---- stages

-- the stripe of the body, taken; and then the lock of the list
abbrev pub stripe_taken : Config → Id → List LockStep
stripe_taken c id = TakenStep (stripe_of c id.index) Write ∷ []

abbrev pub both_taken : Config → Id → List LockStep
both_taken c id = TakenStep (stripe_of c id.index) Write ∷ TakenStep (index_lock c) Write ∷ []

-- the pass knows the body as live, and out
abbrev pub KnowsOut : Id → View → Type 0
KnowsOut id view = KnowsLive id view × (known_word view (Phase id.index) ≡ phase_out)

-- it is left to let the stripe go
pub record HasStripeAlone (c : Config) (id : Id) (steps : List LockStep) : Type 0 where
  pub held : mode_of steps (stripe_of c id.index) ≡ Some Write
  pub alone : (lock : ℕ) → mode_of (steps ++ Released (stripe_of c id.index) ∷ []) lock ≡ None

-- what holds at a stage, of a destruction of this id's body that was begun at this view and looks so
abbrev pub AtDestroy : Id → View → View → LookOp → DestroyStage → Type 0
AtDestroy id start view look Looking = IsLooking (looking_of start.config id Write ItsPhase) start look view
AtDestroy id start view look (TakingList taking) =
    IsCalling start view (stripe_taken start.config id) Nothing [] × KnowsOut id view × IsTaking (taking_of (index_lock start.config) Write) view taking view
AtDestroy id start view look Locked = IsCalling start view (both_taken start.config id) Nothing [] × KnowsOut id view
AtDestroy id start view look (Headed head) = IsCalling start view (both_taken start.config id) Nothing [] × KnowsOut id view × (known_word view SlotHead ≡ head)
AtDestroy id start view look Linked =
    IsCalling start view (both_taken start.config id) Nothing [] × KnowsOut id view × (known_word view (SlotNext id.index) ≡ known_word view SlotHead)
AtDestroy id start view look InFront = IsCalling start view (both_taken start.config id) (Destroying id.index) [] × KnowsOut id view
AtDestroy id start view look Destroyed = IsCalling start view (both_taken start.config id) Nothing (Destroy id.index ∷ []) × HasDestroyed id start view
AtDestroy id start view look (Leaving answer) =
    (steps : List LockStep) × (entries : List Entry) × IsCalling start view steps Nothing entries × HasStripeAlone start.config id steps × IsDestroyAnswer id start view answer

-- once the look has ended, how it was is of no matter
abbrev pub PastLook : Id → View → View → DestroyStage → Type 0
PastLook id start view stage = AtDestroy id start view (looking_of start.config id Write ItsPhase) stage

-- the destruction was begun so, by a pass at rest
pub record IsBegunFor (id : Id) (start : View) : Type 0 where
  pub below : id.index < start.config.bodies
  pub striped : stripe_of start.config id.index < index_lock start.config
  pub rest : IsAtRest start

abbrev pub DestroysBody : DestroyOp → View → DestroyOp → View → Type 0
DestroysBody first start operation view = (operation.id ≡ first.id) × IsBegunFor first.id start × AtDestroy first.id start view operation.look operation.stage

-- at its end
abbrev pub DestroyAnswers : DestroyOp → View → View → Result (Unit {0}) DestroyRefused → Type 0
DestroyAnswers first start next answer = HasEnded start next × IsDestroyAnswer first.id start next answer

-- ---- turns

abbrev pub stage_left : LookOp → DestroyStage → ℕ
stage_left look Looking = 10 + look_left look
stage_left look (TakingList taking) = 7 + turns_left taking
stage_left look Locked = 7
stage_left look (Headed head) = 6
stage_left look Linked = 5
stage_left look InFront = 4
stage_left look Destroyed = 2
stage_left look (Leaving answer) = 1

abbrev pub destroy_left : DestroyOp → ℕ
destroy_left operation = stage_left operation.look operation.stage

-- the lock that it takes
abbrev pub takes_at : LookOp → DestroyStage → Option TakeOp
takes_at look Looking = look_takes look
takes_at look (TakingList taking) = Some taking
takes_at look _ = None

abbrev pub destroy_takes : DestroyOp → Option TakeOp
destroy_takes operation = takes_at operation.look operation.stage

abbrev pub IsDestroyTurn : Turn (Result (Unit {0}) DestroyRefused) → DestroyOp → DestroyOp → View → View → Type 0
IsDestroyTurn turn before after view next = IsTurn DestroysBody DestroyAnswers destroy_left (λ operation. operation.made) destroy_takes turn before after view next

-- ---- all turns at once

-- the stripe is held, and the body is live and out
abbrev pub IsFoundOut : Id → View → View → Type 0
IsFoundOut id start view = IsCalling start view (stripe_taken start.config id) Nothing [] × KnowsOut id view

-- a destruction of this id's body was begun for which this holds
abbrev pub SomeDestroys : Id → (View → Type 0) → Type 0
SomeDestroys id holds = (start : View) × IsBegunFor id start × holds start

-- whatever was begun for which the first holds, the second does
abbrev pub DestroysOn : Id → (View → Type 0) → (View → Type 0) → Type 0
DestroysOn id before after = (start : View) → IsBegunFor id start → before start → after start
