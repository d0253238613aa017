-- How marking the bodies of a batch goes, turn by turn, and what it answers.
use Rattle.std.specs.Prelude.{◌≡◌, ℕ, suc, ◌+◌, ◌-◌, ◌*◌, ◌<◌, ◌≤◌, List, [], ◌∷◌, ◌++◌, All, length, map, take, slice_index, slice_index_or, slice_set, Some, None, Result, Ok, Err, Option}
use Rattle.fixed_box.specs.FixBox.{words_of}
use Rattle.fixed_box.specs.declared.fix_box.FixBox.{FixBox}
use Rattle.body_ident.specs.Id.{Id}
use Rattle.scene_model.specs.declared.entry.Entry.TheVariants.{Mark}
use Rattle.word_map.specs.declared.name.Name.TheVariants.{Phase, Layer, BoxWord}
use Rattle.word_map.specs.Names.{stripe_of}
use Rattle.core_state.specs.declared.view.Mode.TheVariants.{Write}
use Rattle.core_state.specs.declared.view.LockStep.{LockStep}
use Rattle.core_state.specs.declared.view.LockStep.TheVariants.{Taken as TakenStep}
use Rattle.core_state.specs.declared.view.Task.TheVariants.{Nothing}
use Rattle.core_state.specs.declared.view.Batch.{Batch}
use Rattle.core_state.specs.declared.view.View.{View}
use Rattle.core_state.specs.View.{known_word, mode_of}
use Rattle.core_state.specs.Encoding.{phase_out, phase_join}
use Rattle.core_state.specs.Bodies.{IsForSlot}
use Rattle.tree_plan.specs.Arranged.{AreApart}
use Rattle.pass_table.specs.declared.take_op.TakeOp.{TakeOp}
use Rattle.pass_table.specs.declared.turn.Turn.{Turn}
use Rattle.pass_table.specs.Holding.{IsAtRest}
use Rattle.pass_table.specs.Calls.{AtPoint, IsTurn}
use Rattle.pass_table.specs.Bodies.{KnowsLive}
use Rattle.body_look.specs.declared.body_found.BodyFound.{BodyFound}
use Rattle.body_look.specs.declared.body_found.BodyFound.TheVariants.{Gone as FoundGone, Live as FoundLive, Out as FoundOut, In as FoundIn, Held as FoundHeld, Joined as FoundJoined}
use Rattle.body_look.specs.declared.look_op.LookDepth.TheVariants.{Phase as ItsPhase}
use Rattle.body_look.specs.declared.look_op.LookOp.{LookOp}
use Rattle.body_look.specs.stages.Looking.{looking_of, IsLooking, look_left, look_takes}
use Rattle.batch_add.specs.declared.mark_op.MarkRefused.{MarkRefused}
use Rattle.batch_add.specs.declared.mark_op.MarkRefused.TheVariants.{Gone, Held, AlreadyIn}
use Rattle.batch_add.specs.declared.mark_op.MarkStage.{MarkStage}
use Rattle.batch_add.specs.declared.mark_op.MarkStage.TheVariants.{Looking, Outside, Sides, Boxed, Leaving, Refusing}
use Rattle.batch_add.specs.declared.mark_op.Marking.{Marking}
use Rattle.pass_table.specs.Work.{Work, HasWorked}
use Rattle.batch_add.specs.Parts.{IsNewest, IsFreeAt, WereFree, HasMarked, HasMarkedBefore, marks_outcome, IsMarkRefusedAt}

-- ---- what is marked

-- the ids whose bodies are to be marked, how many are, and which these are
pub record Marks : Type 0 where
  pub ids : List Id
  pub marked : ℕ
  pub bodies : List (ℕ × FixBox)

abbrev pub marked_bodies : Marking → List (ℕ × FixBox)
marked_bodies operation = take operation.marked operation.bodies.items

abbrev pub marks_of : Marking → Marks
marks_of operation = record { ids = operation.ids.items; marked = operation.marked; bodies = marked_bodies operation }

-- the id of the next body
abbrev pub current : Marks → Id
current marks = slice_index_or marks.ids marks.marked (record { index = 0; seq = 0 })

-- the newest batch of the pass is for the slot and has marked none, and no other one is for the slot
pub record IsForNewest (layer slot : ℕ) (start : View) (before : List Batch) (batch : Batch) : Type 0 where
  pub newest : IsNewest start before batch
  pub for_slot : IsForSlot layer slot batch
  pub bare : batch.marked ≡ []
  pub alone : All (λ b. ¬ IsForSlot layer slot b) before

-- the bodies of the first ids are marked, in order, each index once
pub record AreFirst (marks : Marks) : Type 0 where
  pub within : marks.marked ≤ length marks.ids
  pub many : length marks.bodies ≡ marks.marked
  pub indexes : map (λ b. b.0) marks.bodies ≡ map (λ id. id.index) (take marks.marked marks.ids)
  pub apart : AreApart marks.bodies

-- the marks were begun so, by a pass at rest
pub record IsBegunFor (layer slot : ℕ) (start : View) (before : List Batch) (batch : Batch) (marks : Marks) : Type 0 where
  pub for_newest : IsForNewest layer slot start before batch
  pub below : All (λ id. id.index < start.config.bodies) marks.ids
  pub rest : IsAtRest start
  pub first : AreFirst marks

-- ---- stages

-- no lock is held after these steps
abbrev pub IsFree : List LockStep → Type 0
IsFree steps = (lock : ℕ) → mode_of steps lock ≡ None

-- how far the call is with these bodies marked
abbrev pub marks_work : View → List Batch → Batch → List (ℕ × FixBox) → List LockStep → Work
marks_work start before batch bodies steps =
    let done = marks_outcome start before batch bodies in
    record { steps = steps; task = Nothing; entries = done.entries; stores = done.stores; batches = done.batches; loose = done.loose; written = done.written; places = done.places }

-- they are marked, each was free before, and no lock is held
pub record IsBetween (start : View) (before : List Batch) (batch : Batch) (marks : Marks) (view : View) : Type 0 where
  pub next : marks.marked < length marks.ids
  pub steps : List LockStep
  pub free : IsFree steps
  pub worked : HasWorked start view (marks_work start before batch marks.bodies steps)
  pub each : WereFree batch.layer start view (take marks.marked marks.ids)

-- they are, and this stripe alone is held
pub record HasStripe (start : View) (before : List Batch) (batch : Batch) (marks : Marks) (stripe : ℕ) (view : View) : Type 0 where
  pub steps : List LockStep
  pub free : IsFree steps
  pub worked : HasWorked start view (marks_work start before batch marks.bodies (steps ++ TakenStep stripe Write ∷ []))
  pub each : WereFree batch.layer start view (take marks.marked marks.ids)

-- it is that of the next body
pub record IsAtBody (start : View) (before : List Batch) (batch : Batch) (marks : Marks) (view : View) : Type 0 where
  pub next : marks.marked < length marks.ids
  pub held : HasStripe start before batch marks (stripe_of start.config (current marks).index) view

-- the pass knows the body as live and out
abbrev pub KnowsOut : Id → View → Type 0
KnowsOut id view = KnowsLive id view × (known_word view (Phase id.index) ≡ phase_out)

-- and in this layer
abbrev pub KnowsHere : Id → ℕ → View → Type 0
KnowsHere id layer view = KnowsOut id view × (known_word view (Layer id.index) ≡ layer)

-- so many of these words are known as those of its box
abbrev pub KnowsSides : Id → View → List ℕ → ℕ → Type 0
KnowsSides id view words loaded = (k : ℕ) → k < loaded → known_word view (BoxWord id.index k) ≡ slice_index words k

-- the next body has been looked at since a time at which no lock was held
pub record IsAtLook (start : View) (before : List Batch) (batch : Batch) (marks : Marks) (look : LookOp) (view : View) : Type 0 where
  pub mid : View
  pub between : IsBetween start before batch marks mid
  pub looking : IsLooking (looking_of start.config (current marks) Write ItsPhase) mid look view

-- the stage after the look, where it has found this
abbrev pub after_look : BodyFound → MarkStage
after_look (FoundGone state) = Refusing (Gone state)
after_look FoundLive = Outside
after_look FoundOut = Outside
after_look FoundIn = Refusing (AlreadyIn 1)
after_look (FoundHeld layer slot word) = Refusing (Held word)
after_look (FoundJoined layer slot word) = Refusing (AlreadyIn (phase_join slot))

-- what holds at a stage
abbrev pub AtMark : View → List Batch → Batch → Marks → View → LookOp → MarkStage → Type 0
AtMark start before batch marks view look Looking = IsAtLook start before batch marks look view
AtMark start before batch marks view look Outside = IsAtBody start before batch marks view × KnowsOut (current marks) view
AtMark start before batch marks view look (Sides words loaded) =
    IsAtBody start before batch marks view × KnowsHere (current marks) batch.layer view × (loaded < 6) × (length words ≡ 6) × KnowsSides (current marks) view words loaded
    × AtPoint start view (IsFreeAt start.config batch.layer (current marks))
AtMark start before batch marks view look (Boxed bounds) =
    IsAtBody start before batch marks view × KnowsHere (current marks) batch.layer view × KnowsSides (current marks) view (words_of bounds) 6
    × AtPoint start view (IsFreeAt start.config batch.layer (current marks))
AtMark start before batch marks view look (Leaving stripe) = HasStripe start before batch marks stripe view × (stripe < start.config.stripes)
AtMark start before batch marks view look (Refusing refused) =
    IsAtBody start before batch marks view × AtPoint start view (IsMarkRefusedAt start.config batch.layer (current marks) refused)

-- once a look has ended, how it was is of no matter
abbrev pub PastLook : View → List Batch → Batch → Marks → View → MarkStage → Type 0
PastLook start before batch marks view stage = AtMark start before batch marks view (looking_of start.config (current marks) Write ItsPhase) stage

-- ---- the operation

-- it was begun at this view, and is at this stage
pub record GoesOnFrom (start : View) (operation : Marking) (view : View) : Type 0 where
  pub before : List Batch
  pub batch : Batch
  pub room : length operation.bodies.items ≡ length operation.ids.items
  pub begun : IsBegunFor operation.layer operation.slot start before batch (marks_of operation)
  pub at : AtMark start before batch (marks_of operation) view operation.look operation.stage

-- it marks the bodies of the ids with which it was begun, for the same batch
pub record IsMarking (first : Marking) (start : View) (operation : Marking) (view : View) : Type 0 where
  pub layer : operation.layer ≡ first.layer
  pub slot : operation.slot ≡ first.slot
  pub ids : operation.ids.items ≡ first.ids.items
  pub goes : GoesOnFrom start operation view

-- the marks as they are at a stage, after a step that made no entry
abbrev pub at_mark : Marking → MarkStage → Marking
at_mark operation stage = record operation { stage = stage; made = None }

-- what leads from one stage to another: the marks go on, since whenever they were begun
abbrev pub MarksOn : Marking → View → Marking → View → Type 0
MarksOn before view after next = (first : Marking) (start : View) → IsMarking first start before view → IsMarking first start after next

-- no side is loaded yet
abbrev pub none_loaded : List ℕ
none_loaded = 0 ∷ 0 ∷ 0 ∷ 0 ∷ 0 ∷ 0 ∷ []

abbrev pub no_sides : MarkStage
no_sides = Sides none_loaded 0

-- all bodies are marked; or some of them, and the next one is not, for this reason
abbrev pub IsMarkAnswer : List Batch → Batch → List Id → View → View → Marking → Result (Unit {0}) MarkRefused → Type 0
IsMarkAnswer before batch ids start next last (Ok done) = HasMarked before batch ids start next last.bodies.items
IsMarkAnswer before batch ids start next last (Err refused) = HasMarkedBefore before batch ids start next (marked_bodies last) refused

-- what it answers, for the newest batch of the pass; the rest of the bodies are none. Its last turn made no entry
pub record HasMadeMarks (first : Marking) (start : View) (last : Marking) (next : View) (answer : Result (Unit {0}) MarkRefused) : Type 0 where
  pub ids : last.ids.items ≡ first.ids.items
  pub room : length last.bodies.items ≡ length first.ids.items
  pub within : last.marked ≤ length first.ids.items
  pub made : last.made ≡ None
  pub is : (before : List Batch) (batch : Batch) → IsNewest start before batch → IsMarkAnswer before batch first.ids.items start next last answer

-- ---- turns

-- how many turns are left for this body, and for each later one
abbrev pub stage_left : LookOp → MarkStage → ℕ
stage_left look Looking = 9 + look_left look
stage_left look Outside = 9
stage_left look (Sides words loaded) = 2 + (6 - loaded)
stage_left look (Boxed bounds) = 2
stage_left look (Leaving stripe) = 1
stage_left look (Refusing refused) = 1

abbrev pub turns_each : ℕ
turns_each = 15

-- how many bodies come after this one
abbrev pub bodies_left : ℕ → ℕ → MarkStage → ℕ
bodies_left all marked (Leaving stripe) = all - marked
bodies_left all marked stage = all - suc marked

abbrev pub mark_left : Marking → ℕ
mark_left operation = stage_left operation.look operation.stage + turns_each * bodies_left (length operation.ids.items) operation.marked operation.stage

-- the lock that it takes
abbrev pub takes_at : LookOp → MarkStage → Option TakeOp
takes_at look Looking = look_takes look
takes_at look _ = None

abbrev pub mark_takes : Marking → Option TakeOp
mark_takes operation = takes_at operation.look operation.stage

abbrev pub IsMarkTurn : Turn (Result (Unit {0}) MarkRefused) → Marking → Marking → View → View → Type 0
IsMarkTurn turn before after view next = IsTurn IsMarking (λ first start end answer. HasMadeMarks first start after end answer) mark_left (λ operation. operation.made) mark_takes turn before after view next

-- a body is noted as marked by the pass with this number
pub record Notes (before after : Marking) (number index : ℕ) (bounds : FixBox) (stripe : ℕ) : Type 0 where
  pub layer : after.layer ≡ before.layer
  pub slot : after.slot ≡ before.slot
  pub ids : after.ids ≡ before.ids
  pub bodies : after.bodies.items ≡ slice_set before.bodies.items before.marked (index, bounds)
  pub marked : after.marked ≡ suc before.marked
  pub stage : after.stage ≡ Leaving stripe
  pub made : after.made ≡ Some (record { pass = number; entry = Mark index })
