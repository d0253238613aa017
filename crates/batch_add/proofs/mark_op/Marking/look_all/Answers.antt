use Rattle.std.proofs.Common.{refl}
use Rattle.core_state.specs.declared.view.Mode.TheVariants.{Write}
use Rattle.pass_table.specs.Passes.{view_of}
use Rattle.body_look.specs.declared.look_op.LookDepth.TheVariants.{Phase as ItsPhase}
use Rattle.body_look.specs.stages.Looking.{looking_of}
use Rattle.batch_add.specs.declared.mark_op.MarkStage.TheVariants.{Looking}
use Rattle.batch_add.specs.stages.Marking.{marks_of, current}
use Rattle.batch_add.proofs.MarkLoads.{looked-at}
use Rattle.batch_add.proofs.MarkEnds.{going-at}
use Rattle.batch_add.proofs.WholeMarks.{looked-on}
use Rattle.batch_add.proofs.mark_op.Marking.look_all.Goals as goal

pub drive-found-requires-clause-under_way : goal.drive-found-requires-clause-under_way
drive-found-requires-clause-under_way g c =
    let operation = c.args.self.now in
    let way = c.requires.under_way in
    let at = going-at operation Looking way.start (view_of c.args.pass.now) way.goes.goes c.requires.stage in
    record { first = looking_of way.start.config (current (marks_of operation)) Write ItsPhase; start = at.mid; goes = at.looking }

pub stage_of-self-requires : goal.stage_of-self-requires
stage_of-self-requires g c =
    let operation = c.args.self.now in
    let way = c.requires.under_way in
    let at = going-at operation Looking way.start (view_of c.args.pass.now) way.goes.goes c.requires.stage in
    record { asked = (c.drive-found.ensures.answers (looking_of way.start.config (current (marks_of operation)) Write ItsPhase) at.mid at.looking).asked }

pub returns-clause-keeps : goal.returns-clause-keeps
returns-clause-keeps g c =
    let operation = c.args.self.now in
    let next = view_of c.drive-found.new.pass in
    looked-on operation _ c.drive-found.new.operation c.drive-found.result c.stage_of-self.result (view_of c.args.pass.now) next refl c.requires.stage c.stage_of-self.ensures
    (λ start before batch begun now.
    looked-at operation.layer operation.slot start before batch (marks_of operation) begun now.mid next now.between c.drive-found.result
    (c.drive-found.ensures.answers (looking_of start.config (current (marks_of operation)) Write ItsPhase) now.mid now.looking))
