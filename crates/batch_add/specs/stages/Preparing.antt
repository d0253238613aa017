-- How a batch is prepared, turn by turn.
use Rattle.pass_table.specs.Labels.{IsRefusal, EndsAfter, SaysNew}
use Rattle.pass_table.specs.TakeTurns.{LoadedNone}
use Rattle.std.specs.Prelude.{◌≡◌, ℕ, ◌+◌, ◌*◌, ◌<◌, ◌≤◌, List, [], ◌∷◌, ◌++◌, length, map, All, Option, Some, None, Result, false, option_and_then}
use Rattle.std.specs.List.Sorted.{IsPermutation}
use Rattle.body_ident.specs.Id.{Id}
use Rattle.fixed_box.specs.declared.fix_box.FixBox.{FixBox}
use Rattle.scene_model.specs.declared.entry.Entry.TheVariants.{Mark}
use Rattle.scene_model.specs.declared.entry.Made.{Made}
use Rattle.scene_model.specs.Need.{need}
use Rattle.word_map.specs.declared.name.Name.TheVariants.{Slot, PoolFree}
use Rattle.core_state.specs.declared.view.Batch.{Batch}
use Rattle.core_state.specs.declared.view.View.{View}
use Rattle.core_state.specs.View.{IsPass}
use Rattle.core_state.specs.Encoding.{reserved_by}
use Rattle.core_state.specs.Batches.{new_batch}
use Rattle.pass_table.specs.declared.take_op.TakeOp.{TakeOp}
use Rattle.pass_table.specs.declared.turn.Turn.{Turn}
use Rattle.pass_table.specs.Holding.{IsAtRest}
use Rattle.pass_table.specs.Bodies.{IsCurrent}
use Rattle.pass_table.specs.Calls.{IsTurn}
use Rattle.batch_add.specs.declared.answers.PrepareRefused.{PrepareRefused}
use Rattle.batch_add.specs.declared.answers.PrepareRefused.TheVariants.{NoNodes as FewNodes, Gone as IdGone, Held as IdHeld, AlreadyIn as IdIn, WrongLayer as IdElsewhere}
use Rattle.batch_add.specs.declared.mark_op.MarkRefused.{MarkRefused}
use Rattle.batch_add.specs.declared.mark_op.MarkRefused.TheVariants.{Gone, Held, AlreadyIn, WrongLayer}
use Rattle.batch_add.specs.declared.slot_search.SlotSearch.{SlotSearch}
use Rattle.batch_add.specs.declared.node_taking.NodeTaking.{NodeTaking}
use Rattle.batch_add.specs.declared.mark_op.Marking.{Marking}
use Rattle.batch_add.specs.declared.draw_stage.DrawStage.TheVariants.{Child}
use Rattle.batch_add.specs.declared.tree_drawing.TreeDrawing.{TreeDrawing}
use Rattle.batch_add.specs.declared.giving_up.GivingUp.{GivingUp}
use Rattle.batch_add.specs.declared.kept_batch.KeptBatch.{KeptBatch}
use Rattle.batch_add.specs.declared.prepared.Prepared.{Prepared}
use Rattle.batch_add.specs.declared.prepare_op.Undone.{Undone}
use Rattle.batch_add.specs.declared.prepare_op.Undone.TheVariants.{NoNodes, Mark as NoMark}
use Rattle.batch_add.specs.declared.prepare_op.PrepareStage.{PrepareStage}
use Rattle.batch_add.specs.declared.prepare_op.PrepareStage.TheVariants.{Empty, Searching, TakingNodes, Marking as MarkingStage, Drawing, GivingUp as GivingUpStage}
use Rattle.batch_add.specs.declared.prepare_op.PrepareOp.{PrepareOp}
use Rattle.batch_add.specs.declared.prepare_op.Plans.{Plans}
use Rattle.pass_table.specs.Work.{SparesLocations, Outcome, HasWorked, HasDone, begun, idle}
use Rattle.batch_add.specs.Parts.{stored_as, HasReserved, with_nodes, HasNodes, FoundFewNodes, marked_as, HasMarked, HasMarkedBefore}
use Rattle.batch_add.specs.stages.Searching.{IsSearching, search_left}
use Rattle.batch_add.specs.stages.TakingNodes.{IsTakingNodes, nodes_left, nodes_takes}
use Rattle.batch_add.specs.stages.Marking.{IsMarking, mark_left, mark_takes}
use Rattle.batch_add.specs.stages.DrawStages.{IsDrawing, draw_left}
use Rattle.batch_add.specs.stages.Keeping.{IsBegunFor}
use Rattle.batch_add.specs.stages.GivingUp.{IsGivingUp, give_left, give_takes}
use Rattle.tree_plan.specs.declared.node_count.TheConstants.{MAX_TREE_BODIES}
use Rattle.batch_add.specs.Answers.{IsPrepareAnswer}

-- ---- how far it is

-- the ids for whose bodies it is
abbrev pub ids_of : PrepareOp → List Id
ids_of operation = operation.marking.ids.items

abbrev pub count_of : PrepareOp → ℕ
count_of operation = length (ids_of operation)

-- how many nodes the tree over their bodies needs
abbrev pub need_of : PrepareOp → ℕ
need_of operation = need (count_of operation)

-- there is room to plan so many bodies
abbrev pub CanPlan : ℕ → Option Plans → Type 0
CanPlan count None = ⊥
CanPlan count (Some plans) = (count ≤ plans.planner.most) × (count ≤ plans.bounds.most)

-- what the tree is drawn with is there, and so are the indexes
pub record HasPlans (operation : PrepareOp) : Type 0 where
  pub plans : CanPlan (count_of operation) operation.plans
  pub indexes : operation.indexes.items ≡ map (λ id. id.index) (ids_of operation)

-- and room for the bodies
pub record HasRoom (operation : PrepareOp) : Type 0 where
  pub bodies : length operation.marking.bodies.items ≡ count_of operation
  pub plans : HasPlans operation

-- It was begun for these ids by a pass at rest, which knew the log of a core that stands: they are ids of the world, in a
-- layer of it
pub record IsWanted (operation : PrepareOp) (start : View) : Type 0 where
  pub in_layers : operation.layer < start.config.layers
  pub below : All (λ id. id.index < start.config.bodies) (ids_of operation)
  pub few : count_of operation ≤ MAX_TREE_BODIES
  pub rest : IsAtRest start
  pub current : ∥ IsCurrent start ∥₁

-- ---- parts

-- A part goes on, which was begun when the call had come to a view at rest; this holds of that view and of the part as it was
-- begun
pub record IsInPart {S : Type 0} (under_way : S → View → S → View → Type 0) (came : View → S → Type 0) (part : S) (view : View) : Type 0 where
  pub mid : View
  pub first : S
  pub so : came mid first
  pub goes : under_way first mid part view

-- the same of a part that is there
abbrev pub IsInSome : {S : Type 0} → (S → View → S → View → Type 0) → (View → S → Type 0) → Option S → View → Type 0
IsInSome under_way came None view = ⊥
IsInSome under_way came (Some part) view = IsInPart under_way came part view

-- the batch of the slot once it has its nodes, and once these bodies are marked for it
abbrev pub with_slot_nodes : ℕ → ℕ → List ℕ → Batch
with_slot_nodes layer slot nodes = with_nodes (new_batch layer slot) nodes

abbrev pub with_marks : Batch → List (ℕ × FixBox) → Batch
with_marks batch bodies = record batch { marked = map marked_as bodies }

-- a slot is reserved, and the nodes are taken
pub record HasSlotAndNodes (operation : PrepareOp) (start mid : View) (nodes : List ℕ) : Type 0 where
  pub reserved_at : View
  pub reserved : HasReserved operation.layer start reserved_at operation.slot
  pub taken : HasNodes (need_of operation) start.batches (new_batch operation.layer operation.slot) reserved_at mid nodes

-- ---- stages

-- a slot is looked for from the beginning
pub record CameToSearch (operation : PrepareOp) (start mid : View) (first : SlotSearch) : Type 0 where
  pub here : mid ≡ start
  pub layer : first.layer ≡ operation.layer

-- nodes are taken once a slot is reserved
pub record CameToNodes (operation : PrepareOp) (start mid : View) (first : NodeTaking) : Type 0 where
  pub reserved : HasReserved operation.layer start mid operation.slot
  pub count : first.count ≡ need_of operation

-- bodies are marked once the nodes are taken
pub record CameToMarks (operation : PrepareOp) (start mid : View) (first : Marking) : Type 0 where
  pub has : HasSlotAndNodes operation start mid operation.taking.nodes.items
  pub layer : first.layer ≡ operation.layer
  pub slot : first.slot ≡ operation.slot

-- the tree is drawn once all are marked: over these bodies, in any order, in the nodes
pub record CameToDraw (operation : PrepareOp) (start mid : View) (first : TreeDrawing) : Type 0 where
  pub taken_at : View
  pub bodies : List (ℕ × FixBox)
  pub has : HasSlotAndNodes operation start taken_at first.nodes.items
  pub marked : HasMarked start.batches (with_slot_nodes operation.layer operation.slot first.nodes.items) (ids_of operation) taken_at mid bodies
  pub same : IsPermutation bodies first.bodies.items

-- why it is given up, and the batch that is
abbrev pub HasFailed : PrepareOp → View → View → Batch → Undone → Type 0
HasFailed operation start mid batch (NoNodes free) =
    (reserved_at : View) × HasReserved operation.layer start reserved_at operation.slot × FoundFewNodes (need_of operation) reserved_at mid free
    × (batch ≡ new_batch operation.layer operation.slot)
HasFailed operation start mid batch (NoMark at refused) =
    (taken_at : View) × (nodes : List ℕ) × (bodies : List (ℕ × FixBox)) × HasSlotAndNodes operation start taken_at nodes
    × HasMarkedBefore start.batches (with_slot_nodes operation.layer operation.slot nodes) (ids_of operation) taken_at mid bodies refused × (length bodies ≡ at)
    × (batch ≡ with_marks (with_slot_nodes operation.layer operation.slot nodes) bodies)

pub record CameToGive (operation : PrepareOp) (start : View) (undone : Undone) (mid : View) (first : GivingUp) : Type 0 where
  pub batch : Batch
  pub begun : IsBegunFor first.kept mid start.batches batch []
  pub failed : HasFailed operation start mid batch undone

-- what holds at a stage
abbrev pub AtPrepare : PrepareOp → View → View → PrepareStage → Type 0
AtPrepare operation start view Empty = (ids_of operation ≡ []) × HasWorked start view (begun start)
AtPrepare operation start view Searching =
    (0 < count_of operation) × IsInPart IsSearching (CameToSearch operation start) operation.search view
    × (operation.taking.count ≡ need_of operation) × (length operation.taking.nodes.items ≡ need_of operation) × HasRoom operation
AtPrepare operation start view TakingNodes = (0 < count_of operation) × IsInPart IsTakingNodes (CameToNodes operation start) operation.taking view × HasRoom operation
AtPrepare operation start view MarkingStage =
    (0 < count_of operation) × IsInPart IsMarking (CameToMarks operation start) operation.marking view × HasPlans operation × (operation.taking.count ≡ need_of operation)
AtPrepare operation start view Drawing =
    IsInSome IsDrawing (CameToDraw operation start) operation.drawing view × (operation.indexes.items ≡ map (λ id. id.index) (ids_of operation))
AtPrepare operation start view (GivingUpStage undone) =
    IsInSome IsGivingUp (CameToGive operation start undone) operation.giving view × (operation.taking.count ≡ need_of operation)

-- it is for the bodies with which it was begun
pub record IsPreparing (first : PrepareOp) (start : View) (operation : PrepareOp) (view : View) : Type 0 where
  pub layer : operation.layer ≡ first.layer
  pub ids : ids_of operation ≡ ids_of first
  pub wanted : IsWanted operation start
  pub at : AtPrepare operation start view operation.stage

-- at its end
abbrev pub HasPreparedOr : PrepareOp → View → View → Result Prepared PrepareRefused → Type 0
HasPreparedOr first start next answer = IsPrepareAnswer first.layer (ids_of first) start next answer

-- ---- what comes next

-- taking nodes is begun, for this slot
pub record BeginsNodes (before : PrepareOp) (slot : ℕ) (after : PrepareOp) (view : View) : Type 0 where
  pub taking : NodeTaking
  pub is : after ≡ record before { slot = slot; stage = TakingNodes; taking = taking }
  pub count : taking.count ≡ before.taking.count
  pub goes : IsTakingNodes taking view taking view
  pub unloaded : LoadedNone (nodes_takes taking)

-- marking is begun
pub record BeginsMarks (before after : PrepareOp) (view : View) : Type 0 where
  pub marking : Marking
  pub is : after ≡ record before { stage = MarkingStage; marking = marking }
  pub layer : marking.layer ≡ before.layer
  pub slot : marking.slot ≡ before.slot
  pub ids : marking.ids.items ≡ ids_of before
  pub made : marking.made ≡ None
  pub left : mark_left marking ≤ 15 * count_of before
  pub goes : IsMarking marking view marking view
  pub unloaded : LoadedNone (mark_takes marking)

-- the tree is begun, over the bodies that were marked, in any order
pub record BeginsTree (before after : PrepareOp) (view : View) : Type 0 where
  pub drawing : TreeDrawing
  pub stage : after.stage ≡ Drawing
  pub is : after.drawing ≡ Some drawing
  pub layer : after.layer ≡ before.layer
  pub slot : after.slot ≡ before.slot
  pub ids : ids_of after ≡ ids_of before
  pub indexes : after.indexes ≡ before.indexes
  pub first : drawing.stage ≡ Child 0 0
  pub bodies : IsPermutation before.marking.bodies.items drawing.bodies.items
  pub nodes : drawing.nodes.items ≡ before.taking.nodes.items
  pub goes : IsDrawing drawing view drawing view

-- the tree is to be drawn, and nothing of it is yet
pub record IsToDrawTree (operation : PrepareOp) : Type 0 where
  pub stage : operation.stage ≡ Drawing
  pub drawing : TreeDrawing
  pub is : operation.drawing ≡ Some drawing
  pub first : drawing.stage ≡ Child 0 0

-- what is kept of the batch where it is given up: how many of its bodies are marked, and how many nodes it has
abbrev pub marked_of : Undone → ℕ
marked_of (NoNodes free) = 0
marked_of (NoMark at refused) = at

abbrev pub node_count_of : PrepareOp → Undone → ℕ
node_count_of operation (NoNodes free) = 0
node_count_of operation (NoMark at refused) = operation.taking.count

abbrev pub kept_of : PrepareOp → Undone → KeptBatch
kept_of operation undone = record {
  layer = operation.layer;
  slot = operation.slot;
  indexes = operation.indexes;
  marked = marked_of undone;
  are_placed = false;
  nodes = operation.taking.nodes;
  node_count = node_count_of operation undone;
}

-- the lists of the batch are the operation's no more, and all else is as it was
pub record HasHandedOver (before after : PrepareOp) : Type 0 where
  pub layer : after.layer ≡ before.layer
  pub slot : after.slot ≡ before.slot
  pub ids : ids_of after ≡ ids_of before
  pub count : after.taking.count ≡ before.taking.count

-- undoing is begun
pub record BeginsUndoing (before : PrepareOp) (undone : Undone) (after : PrepareOp) (view : View) : Type 0 where
  pub giving : GivingUp
  pub stage : after.stage ≡ GivingUpStage undone
  pub is : after.giving ≡ Some giving
  pub layer : after.layer ≡ before.layer
  pub slot : after.slot ≡ before.slot
  pub ids : ids_of after ≡ ids_of before
  pub count : after.taking.count ≡ before.taking.count
  pub kept : giving.kept ≡ kept_of before undone
  pub made : giving.made ≡ None
  pub goes : IsGivingUp giving view giving view
  pub unloaded : LoadedNone (give_takes giving)

-- the refusal once all is undone
abbrev pub refusal_of_mark : ℕ → MarkRefused → PrepareRefused
refusal_of_mark at (Gone state) = IdGone at state
refusal_of_mark at (Held slot) = IdHeld at slot
refusal_of_mark at (AlreadyIn phase) = IdIn at phase
refusal_of_mark at (WrongLayer layer) = IdElsewhere at layer

abbrev pub refusal_of : ℕ → Undone → PrepareRefused
refusal_of wanted (NoNodes free) = FewNodes wanted free
refusal_of wanted (NoMark at refused) = refusal_of_mark at refused

-- ---- turns

-- what is left at most once the bodies of a batch are marked or one is refused, of so many bodies and nodes
abbrev pub left_after : ℕ → ℕ → ℕ
left_after bodies nodes = 36 * nodes + 6 * bodies + 9

abbrev pub part_left : {S : Type 0} → (S → ℕ) → Option S → ℕ
part_left left None = 0
part_left left (Some part) = left part

abbrev pub stage_left : PrepareOp → PrepareStage → ℕ
stage_left operation Empty = 1
stage_left operation Searching = search_left operation.search + (3 * need_of operation + 6 + (15 * count_of operation + left_after (count_of operation) (need_of operation)))
stage_left operation TakingNodes = nodes_left operation.taking + (15 * count_of operation + left_after (count_of operation) (need_of operation))
stage_left operation MarkingStage = mark_left operation.marking + left_after (count_of operation) (need_of operation)
stage_left operation Drawing = part_left draw_left operation.drawing
stage_left operation (GivingUpStage undone) = part_left give_left operation.giving

abbrev pub prepare_left : PrepareOp → ℕ
prepare_left operation = stage_left operation operation.stage

-- the label that all bodies are marked
abbrev pub stage_label : PrepareStage → Option ℕ
stage_label Drawing = Some 0
stage_label _ = None

abbrev pub label_of : PrepareOp → Option ℕ
label_of operation = stage_label operation.stage

-- what a preparation leaves once all bodies are marked
abbrev pub marked_outcome : View → ℕ → ℕ → ℕ → List Id → ℕ → List ℕ → List (ℕ × FixBox) → Outcome
marked_outcome start layer slot number ids left nodes bodies = record (idle start) {
  entries = map (λ id. Mark id.index) ids;
  stores = stored_as (Slot layer slot) (reserved_by number) ∷ stored_as PoolFree left ∷ [];
  batches = start.batches ++ with_marks (with_slot_nodes layer slot nodes) bodies ∷ [];
}

-- The label says: the bodies of the ids are marked, in order, by a pass that is at rest again. It has a batch more, of these
-- bodies, with as many nodes of the pool as their tree needs. None of the bodies is placed, no node is drawn, and no location was
-- stored meanwhile, not even one that was taken back
pub record HasAllMarked (layer : ℕ) (ids : List Id) (start next : View) : Type 0 where
  pub number : ℕ
  pub slot : ℕ
  pub left : ℕ
  pub nodes : List ℕ
  pub bodies : List (ℕ × FixBox)
  pub of_pass : IsPass start number
  pub many : length nodes ≡ need (length ids)
  pub indexes : map (λ b. b.0) bodies ≡ map (λ id. id.index) ids
  pub done : HasDone start next (marked_outcome start layer slot number ids left nodes bodies)
  pub spared : SparesLocations start next

abbrev pub label_says : PrepareOp → View → View → ℕ → Type 0
label_says first start next label = HasAllMarked first.layer (ids_of first) start next

-- what a turn owes to the label
pub record KeepsLabel (turn : Turn (Result Prepared PrepareRefused)) (before after : PrepareOp) (view next : View) : Type 0 where
  pub ends : EndsAfter turn IsRefusal (Some 0) (label_of before)
  pub says : (first : PrepareOp) (start : View) → IsPreparing first start before view → SaysNew (label_of before) (label_of after) (label_says first start next)

-- the entry that the last turn made
abbrev pub entry_at : PrepareOp → PrepareStage → Option Made
entry_at operation MarkingStage = operation.marking.made
entry_at operation (GivingUpStage undone) = option_and_then (λ giving. giving.made) operation.giving
entry_at operation _ = None

abbrev pub entry_of : PrepareOp → Option Made
entry_of operation = entry_at operation operation.stage

-- the lock that it takes
abbrev pub takes_at : PrepareOp → PrepareStage → Option TakeOp
takes_at operation TakingNodes = nodes_takes operation.taking
takes_at operation MarkingStage = mark_takes operation.marking
takes_at operation (GivingUpStage undone) = option_and_then give_takes operation.giving
takes_at operation _ = None

abbrev pub prepare_takes : PrepareOp → Option TakeOp
prepare_takes operation = takes_at operation operation.stage

abbrev pub IsPrepareTurn : Turn (Result Prepared PrepareRefused) → PrepareOp → PrepareOp → View → View → Type 0
IsPrepareTurn turn before after view next = IsTurn IsPreparing (λ first start last answer. HasPreparedOr first start last answer) prepare_left entry_of prepare_takes turn before after view next
