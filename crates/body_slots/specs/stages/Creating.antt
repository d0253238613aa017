-- How creating a body goes, turn by turn.
use Rattle.std.specs.Prelude.{◌≡◌, ℕ, zero, suc, ◌+◌, ◌-◌, ◌^◌, ◌<◌, List, [], ◌∷◌, Option, Some, None, Ok, Err, Result, slice_index}
use Rattle.fixed_box.specs.FixBox.{words_of}
use Rattle.fixed_box.specs.declared.fix_box.FixBox.{FixBox}
use Rattle.body_ident.specs.Id.{Id}
use Rattle.scene_model.specs.declared.entry.Entry.{Entry}
use Rattle.word_map.specs.declared.name.Name.{Name}
use Rattle.word_map.specs.declared.name.Name.TheVariants.{SlotHead, SlotNext, State, Layer, User, BoxWord}
use Rattle.word_map.specs.declared.config.Config.{Config}
use Rattle.word_map.specs.Names.{index_lock}
use Rattle.core_state.specs.declared.view.Mode.TheVariants.{Write}
use Rattle.core_state.specs.declared.view.LockStep.{LockStep}
use Rattle.core_state.specs.declared.view.LockStep.TheVariants.{Taken as TakenStep}
use Rattle.core_state.specs.declared.view.Task.TheVariants.{Nothing, Creating}
use Rattle.core_state.specs.declared.view.View.{View}
use Rattle.core_state.specs.View.{known_word}
use Rattle.pass_table.specs.declared.take_op.TakeOp.{TakeOp}
use Rattle.pass_table.specs.declared.turn.Turn.{Turn}
use Rattle.pass_table.specs.TakeTurns.{taking_of, IsTaking, turns_left}
use Rattle.pass_table.specs.Holding.{IsAtRest}
use Rattle.pass_table.specs.Calls.{IsTurn}
use Rattle.pass_table.specs.Work.{IsCalling}
use Rattle.body_slots.specs.declared.answers.Full.{Full}
use Rattle.body_slots.specs.declared.create_op.CreateStage.{CreateStage}
use Rattle.body_slots.specs.declared.create_op.CreateStage.TheVariants.{Taking, Locked, First, Linked, Taken, Fields, Filled, Leaving}
use Rattle.body_slots.specs.declared.create_op.CreateOp.{CreateOp}
use Rattle.pass_table.specs.Ended.{HasEnded}
use Rattle.body_slots.specs.Answers.{IsCreateAnswer}

-- ---- the words that a body is given

-- its layer, its user number and the sides of its box, in this order
abbrev pub field_name : ℕ → ℕ → Name
field_name index zero = Layer index
field_name index (suc zero) = User index
field_name index (suc (suc side)) = BoxWord index side

abbrev pub field_values : ℕ → FixBox → ℕ → List ℕ
field_values layer bounds user = layer ∷ user ∷ words_of bounds

abbrev pub field_value : CreateOp → ℕ → ℕ
field_value operation number = slice_index (field_values operation.layer operation.bounds operation.user) number

-- the first of them, so many, are stored
abbrev pub HasFieldsOf : CreateOp → View → ℕ → ℕ → Type 0
HasFieldsOf operation view index stored = (number : ℕ) → number < stored → known_word view (field_name index number) ≡ field_value operation number

-- ---- stages

-- the lock of the list, taken
abbrev pub list_taken : Config → List LockStep
list_taken c = TakenStep (index_lock c) Write ∷ []

-- the first index of the list is the pass's to use
pub record IsTakenOff (start view : View) (index : ℕ) : Type 0 where
  pub calling : IsCalling start view (list_taken start.config) (Creating index) []
  pub below : index < start.config.bodies

-- what holds at a stage, of a creation that was begun so at this view
abbrev pub AtCreate : CreateOp → View → View → CreateStage → Type 0
AtCreate first start view (Taking taking) = IsCalling start view [] Nothing [] × IsTaking (taking_of (index_lock start.config) Write) view taking view
AtCreate first start view Locked = IsCalling start view (list_taken start.config) Nothing []
AtCreate first start view (First index) =
    IsCalling start view (list_taken start.config) Nothing [] × (index < start.config.bodies) × (known_word view SlotHead ≡ suc index)
AtCreate first start view (Linked index link) =
    IsCalling start view (list_taken start.config) Nothing [] × (index < start.config.bodies) × (known_word view SlotHead ≡ suc index) × (known_word view (SlotNext index) ≡ link)
AtCreate first start view (Taken index) = IsTakenOff start view index
AtCreate first start view (Fields index state stored) =
    IsTakenOff start view index × (known_word view (State index) ≡ state) × (stored < 8) × HasFieldsOf first view index stored
AtCreate first start view (Filled index state) = IsTakenOff start view index × (known_word view (State index) ≡ state) × HasFieldsOf first view index 8
AtCreate first start view (Leaving answer) =
    (entries : List Entry) × IsCalling start view (list_taken start.config) Nothing entries × IsCreateAnswer first.layer first.bounds first.user start view answer

-- the creation was begun so, by a pass at rest
pub record IsBegun (first : CreateOp) (start : View) (layer : ℕ) (bounds : FixBox) (user : ℕ) : Type 0 where
  pub layer_as : layer ≡ first.layer
  pub bounds_as : bounds ≡ first.bounds
  pub user_as : user ≡ first.user
  pub in_layers : first.layer < start.config.layers
  pub fits : first.user < 2 ^ 32
  pub rest : IsAtRest start

abbrev pub CreatesBody : CreateOp → View → CreateOp → View → Type 0
CreatesBody first start operation view = IsBegun first start operation.layer operation.bounds operation.user × AtCreate first start view operation.stage

-- at its end
abbrev pub CreateAnswers : CreateOp → View → View → Result Id Full → Type 0
CreateAnswers first start next answer = HasEnded start next × IsCreateAnswer first.layer first.bounds first.user start next answer

-- ---- turns

abbrev pub stage_left : CreateStage → ℕ
stage_left (Taking taking) = 14 + turns_left taking
stage_left Locked = 14
stage_left (First index) = 13
stage_left (Linked index link) = 12
stage_left (Taken index) = 11
stage_left (Fields index state stored) = 2 + (8 - stored)
stage_left (Filled index state) = 2
stage_left (Leaving answer) = 1

abbrev pub create_left : CreateOp → ℕ
create_left operation = stage_left operation.stage

-- the lock that it takes
abbrev pub takes_at : CreateStage → Option TakeOp
takes_at (Taking taking) = Some taking
takes_at _ = None

abbrev pub create_takes : CreateOp → Option TakeOp
create_takes operation = takes_at operation.stage

abbrev pub IsCreateTurn : Turn (Result Id Full) → CreateOp → CreateOp → View → View → Type 0
IsCreateTurn turn before after view next = IsTurn CreatesBody CreateAnswers create_left (λ operation. operation.made) create_takes turn before after view next

-- ---- all turns at once

-- the operation at another stage, after a turn that made no entry
abbrev pub at_stage : CreateOp → CreateStage → CreateOp
at_stage operation stage = record operation { stage = stage; made = None }

-- whatever was begun and may go on as one operation may go on as another
abbrev pub CreatesOn : CreateOp → View → CreateOp → View → Type 0
CreatesOn before view after next = (first : CreateOp) (start : View) → CreatesBody first start before view → CreatesBody first start after next

-- where the index that was taken off leads, or that there was none
abbrev pub once_taken : Result ℕ Full → CreateStage
once_taken (Ok index) = Taken index
once_taken (Err refused) = Leaving (Err refused)
