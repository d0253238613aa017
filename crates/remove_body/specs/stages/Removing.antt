-- How taking a body out goes, turn by turn.
use Rattle.std.specs.Prelude.{◌≡◌, ◌⊎◌, ℕ, ◌+◌, ◌<◌, List, [], ◌∷◌, Option, Some, None, Result, Ok, Err, true}
use Rattle.body_ident.specs.Id.{Id}
use Rattle.scene_model.specs.declared.body_view.Phase.TheVariants.{Out, In}
use Rattle.scene_model.specs.declared.entry.Entry.{Entry}
use Rattle.scene_model.specs.declared.entry.Entry.TheVariants.{Remove}
use Rattle.word_map.specs.declared.config.Config.{Config}
use Rattle.word_map.specs.declared.name.Name.TheVariants.{Child, LocA, LocB}
use Rattle.word_map.specs.Names.{stripe_of}
use Rattle.core_state.specs.declared.view.Mode.TheVariants.{Write}
use Rattle.core_state.specs.declared.view.LockStep.{LockStep}
use Rattle.core_state.specs.declared.view.LockStep.TheVariants.{Taken as TakenStep}
use Rattle.core_state.specs.declared.view.Task.{Task}
use Rattle.core_state.specs.declared.view.Task.TheVariants.{Nothing, Removing as RemovingTask}
use Rattle.core_state.specs.declared.view.Call.{Call}
use Rattle.core_state.specs.declared.view.View.{View}
use Rattle.core_state.specs.View.{known_word}
use Rattle.core_state.specs.Encoding.{place}
use Rattle.core_state.specs.Moving.{HasStored}
use Rattle.core_state.specs.Removing.{MayClearEntry, clear_entry}
use Rattle.pass_table.specs.Stepping.{Stored}
use Rattle.pass_table.specs.declared.take_op.TakeOp.{TakeOp}
use Rattle.pass_table.specs.declared.turn.Turn.{Turn}
use Rattle.pass_table.specs.Holding.{IsAtRest}
use Rattle.pass_table.specs.Calls.{IsTurn}
use Rattle.pass_table.specs.Labels.{IsRefusal, EndsAfter, SaysNew}
use Rattle.pass_table.specs.Turning.{Labelled}
use Rattle.pass_table.specs.Work.{HasWorked}
use Rattle.pass_table.specs.Settled.{KnowsPhase, KnowsFirst, KnowsSecond}
use Rattle.body_look.specs.declared.look_op.LookDepth.TheVariants.{Phase as ItsPhase}
use Rattle.body_look.specs.declared.look_op.LookOp.{LookOp}
use Rattle.body_look.specs.stages.Looking.{looking_of, IsLooking, look_left, look_takes}
use Rattle.remove_body.specs.declared.answers.RemoveRefused.{RemoveRefused}
use Rattle.remove_body.specs.declared.remove_op.RemoveStage.{RemoveStage}
use Rattle.remove_body.specs.declared.remove_op.RemoveStage.TheVariants.{Looking, Inside, HalfLocated, Located, TakenOut, HalfCleared, Cleared, Forgotten, Leaving}
use Rattle.remove_body.specs.declared.remove_op.RemoveOp.{RemoveOp}
use Rattle.pass_table.specs.Ended.{HasEnded}
use Rattle.remove_body.specs.Answers.{HasRemoved, IsRemoveAnswer, IsJustOut}

-- ---- stages

-- A removal is under way that made these steps on locks and these entries, and is in the middle of this task. It stored no
-- word that is told, and may have stored locations; all else but what the pass knows is as it was
abbrev pub IsAtWork : View → View → List LockStep → Task → List Entry → Type 0
IsAtWork start view steps task entries =
    HasWorked start view
    (record { steps = steps; task = task; entries = entries; stores = []; batches = start.batches; loose = start.loose; written = start.written; places = true })

-- the stripe of the body, taken
abbrev pub stripe_taken : Config → Id → List LockStep
stripe_taken c id = TakenStep (stripe_of c id.index) Write ∷ []

-- the body is in the broad phase
pub record IsInside (id : Id) (start view : View) : Type 0 where
  pub calling : IsAtWork start view (stripe_taken start.config id) Nothing []
  pub phase : KnowsPhase id In view

-- the body was taken out, and these are its locations
pub record IsOutAt (id : Id) (start view : View) (first second : ℕ) : Type 0 where
  pub calling : IsAtWork start view (stripe_taken start.config id) (RemovingTask id.index) (Remove id.index ∷ [])
  pub removed : HasRemoved id start view
  pub phase : KnowsPhase id Out view
  pub at_first : KnowsFirst id first view
  pub at_second : KnowsSecond id second view

-- the entry at a location is cleared, if the word names one
abbrev pub HasClearedAt : Call → ℕ → Type 0
HasClearedAt call at = (n k : ℕ) → k < 4 → at ≡ place n k → HasStored call (Child n k) 0

-- what holds at a stage, of a removal of this id's body that was begun at this view and looks so
abbrev pub AtRemove : Id → View → View → LookOp → RemoveStage → Type 0
AtRemove id start view look Looking = IsLooking (looking_of start.config id Write ItsPhase) start look view
AtRemove id start view look Inside = IsInside id start view
AtRemove id start view look (HalfLocated first) = IsInside id start view × KnowsFirst id first view
AtRemove id start view look (Located first second) = IsInside id start view × KnowsFirst id first view × KnowsSecond id second view
AtRemove id start view look (TakenOut first second) = IsOutAt id start view first second
AtRemove id start view look (HalfCleared first second) = IsOutAt id start view first second × HasClearedAt view.call first
AtRemove id start view look (Cleared first second) = IsOutAt id start view first second × HasClearedAt view.call first × HasClearedAt view.call second
AtRemove id start view look (Forgotten second) = IsOutAt id start view 0 second × HasClearedAt view.call second
AtRemove id start view look (Leaving answer) =
    (entries : List Entry) × IsAtWork start view (stripe_taken start.config id) Nothing entries × IsRemoveAnswer id start view answer

-- the removal was begun so, by a pass at rest
pub record IsBegunFor (id : Id) (start : View) : Type 0 where
  pub below : id.index < start.config.bodies
  pub rest : IsAtRest start

abbrev pub IsRemoving : RemoveOp → View → RemoveOp → View → Type 0
IsRemoving first start operation view = (operation.id ≡ first.id) × IsBegunFor first.id start × AtRemove first.id start view operation.look operation.stage

-- at its end
abbrev pub HasRemovedOr : RemoveOp → View → View → Result (Unit {0}) RemoveRefused → Type 0
HasRemovedOr first start next answer = HasEnded start next × IsRemoveAnswer first.id start next answer

-- ---- the label

-- an answer that is no refusal comes after it
abbrev pub answer_label : Result (Unit {0}) RemoveRefused → Option ℕ
answer_label (Ok done) = Some 0
answer_label (Err refused) = None

abbrev pub stage_label : RemoveStage → Option ℕ
stage_label (TakenOut first second) = Some 0
stage_label (HalfCleared first second) = Some 0
stage_label (Cleared first second) = Some 0
stage_label (Forgotten second) = Some 0
stage_label (Leaving answer) = answer_label answer
stage_label _ = None

abbrev pub label_of : RemoveOp → Option ℕ
label_of operation = stage_label operation.stage

abbrev pub label_says : RemoveOp → View → View → ℕ → Type 0
label_says first start next label = IsJustOut first.id start next

-- ---- turns

abbrev pub stage_left : LookOp → RemoveStage → ℕ
stage_left look Looking = 8 + look_left look
stage_left look Inside = 8
stage_left look (HalfLocated first) = 7
stage_left look (Located first second) = 6
stage_left look (TakenOut first second) = 5
stage_left look (HalfCleared first second) = 4
stage_left look (Cleared first second) = 3
stage_left look (Forgotten second) = 2
stage_left look (Leaving answer) = 1

abbrev pub remove_left : RemoveOp → ℕ
remove_left operation = stage_left operation.look operation.stage

-- the lock that it takes
abbrev pub takes_at : LookOp → RemoveStage → Option TakeOp
takes_at look Looking = look_takes look
takes_at look _ = None

abbrev pub remove_takes : RemoveOp → Option TakeOp
remove_takes operation = takes_at operation.look operation.stage

abbrev pub IsPlainTurn : Turn (Result (Unit {0}) RemoveRefused) → RemoveOp → RemoveOp → View → View → Type 0
IsPlainTurn turn before after view next = IsTurn IsRemoving HasRemovedOr remove_left (λ operation. operation.made) remove_takes turn before after view next

-- what a turn owes, also to the label
pub record IsRemoveTurn (turn : Turn (Result (Unit {0}) RemoveRefused)) (before after : RemoveOp) (view next : View) : Type 0 where
  pub plain : IsPlainTurn turn before after view next
  pub labelled : Labelled turn (label_of before) (label_of after)
  pub ends : EndsAfter turn IsRefusal (Some 0) (label_of before)
  pub says : (first : RemoveOp) (start : View) → IsRemoving first start before view → SaysNew (label_of before) (label_of after) (label_says first start next)

-- ---- clearing an entry

-- the word names no location, and no step was made; or the entry there was cleared by one
pub data ClearsEntry (view next : View) (at : ℕ) : Type 0 where
  no_place : at ≡ 0 → next ≡ view → ClearsEntry view next at
  a_place : (n k : ℕ) → k < 4 → at ≡ place n k → Stored MayClearEntry clear_entry view (Child n k) 0 next → ClearsEntry view next at

-- the word is a location word of the body, as the pass knows it
abbrev pub IsLocationOf : ℕ → View → ℕ → Type 0
IsLocationOf index view at = (known_word view (LocA index) ≡ at) ⊎ (known_word view (LocB index) ≡ at)
