-- What others' steps between two turns of a preparation leave as it was.
use Rattle.std.proofs.Common.{Option, Some, None}
use Rattle.core_state.specs.declared.view.View.{View}
use Rattle.pass_table.specs.Knowing.{KnowsMore}
use Rattle.batch_add.specs.declared.prepare_op.PrepareStage.{PrepareStage}
use Rattle.batch_add.specs.declared.prepare_op.PrepareStage.TheVariants.{Empty, Searching, TakingNodes, Marking as MarkingStage, Drawing, GivingUp as GivingUpStage}
use Rattle.batch_add.specs.declared.prepare_op.PrepareOp.{PrepareOp}
use Rattle.pass_table.specs.Work.{begun}
use Rattle.pass_table.proofs.WorkLater.{worked-more}
use Rattle.batch_add.specs.stages.Searching.{IsSearching, searching-later}
use Rattle.batch_add.specs.stages.TakingNodes.{IsTakingNodes, taking_nodes-later}
use Rattle.batch_add.specs.stages.Marking.{IsMarking}
use Rattle.batch_add.specs.stages.MarkLater.{marking-later}
use Rattle.batch_add.specs.stages.DrawStages.{IsDrawing}
use Rattle.batch_add.specs.stages.DrawLater.{drawing-later}
use Rattle.batch_add.specs.stages.GivingUp.{IsGivingUp}
use Rattle.batch_add.specs.stages.GivingLater.{giving-later}
use Rattle.batch_add.specs.stages.Preparing.{IsInPart, IsInSome, CameToSearch, CameToNodes, CameToMarks, CameToDraw, CameToGive, AtPrepare, IsPreparing}

module _ {S : Type 0} (under_way : S → View → S → View → Type 0) (may_look : (first : S) (start : View) (operation : S) (view next : View) → KnowsMore view next → under_way first start operation view → under_way first start operation next)
    (came : View → S → Type 0) (view next : View) (more : KnowsMore view next) where
  -- the part goes on
  pub part-later : (part : S) → IsInPart under_way came part view → IsInPart under_way came part next
  part-later part h = record { mid = h.mid; first = h.first; so = h.so; goes = may_look h.first h.mid part view next more h.goes }

  pub some-later : (part : Option S) → IsInSome under_way came part view → IsInSome under_way came part next
  some-later None h = absurd h
  some-later (Some part) h = part-later part h

module _ (operation : PrepareOp) (start view next : View) (more : KnowsMore view next) where
  pub prepare-later : (stage : PrepareStage) → AtPrepare operation start view stage → AtPrepare operation start next stage
  prepare-later Empty h = (h.0, worked-more start view next (begun start) h.1 more)
  prepare-later Searching h = (h.0, part-later IsSearching searching-later (CameToSearch operation start) view next more operation.search h.1, h.2, h.3, h.4)
  prepare-later TakingNodes h = (h.0, part-later IsTakingNodes taking_nodes-later (CameToNodes operation start) view next more operation.taking h.1, h.2)
  prepare-later MarkingStage h = (h.0, part-later IsMarking marking-later (CameToMarks operation start) view next more operation.marking h.1, h.2, h.3)
  prepare-later Drawing h = (some-later IsDrawing drawing-later (CameToDraw operation start) view next more operation.drawing h.0, h.1)
  prepare-later (GivingUpStage undone) h = (some-later IsGivingUp giving-later (CameToGive operation start undone) view next more operation.giving h.0, h.1)

pub preparing-later : (first : PrepareOp) (start : View) (operation : PrepareOp) (view next : View) → KnowsMore view next → IsPreparing first start operation view → IsPreparing first start operation next
preparing-later first start operation view next more preparing = record {
  layer = preparing.layer;
  ids = preparing.ids;
  wanted = preparing.wanted;
  at = prepare-later operation start view next more operation.stage preparing.at;
}
