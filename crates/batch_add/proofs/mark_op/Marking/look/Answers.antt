use Rattle.std.proofs.Common.{refl}
use Rattle.core_state.specs.declared.view.Mode.TheVariants.{Write}
use Rattle.pass_table.specs.Passes.{view_of}
use Rattle.body_look.specs.declared.look_op.LookDepth.TheVariants.{Phase as ItsPhase}
use Rattle.body_look.specs.stages.Looking.{looking_of}
use Rattle.batch_add.specs.declared.mark_op.MarkStage.TheVariants.{Looking}
use Rattle.batch_add.specs.stages.Marking.{marks_of, current}
use Rattle.batch_add.proofs.MarkTurns.{look-more, look-again, look-done}
use Rattle.batch_add.proofs.MarkLoads.{looked-at}
use Rattle.batch_add.proofs.MarkEnds.{going-at}
use Rattle.batch_add.proofs.mark_op.Marking.look.Goals as goal

pub stage_of-requires : goal.stage_of-requires
stage_of-requires c =
    let operation = c.args.self.now in
    let way = c.requires.under_way in
    let at = going-at operation Looking way.start (view_of c.args.pass.now) way.goes.goes c.requires.stage in
    record { asked = (c.in-Done.ensures.answers (looking_of way.start.config (current (marks_of operation)) Write ItsPhase) at.mid at.looking).asked }

pub returns-in-Done-clause-turn : goal.returns-in-Done-clause-turn
returns-in-Done-clause-turn c =
    let next = view_of c.turn.new.pass in
    let operation = c.args.self.now in
    look-done operation c.go_on.new.self c.turn.new.self c.in-Done.found c.stage_of.result (view_of c.args.pass.now) next c.go_on.result c.go_on.ensures.more c.go_on.ensures.stage c.requires.stage
    c.turn.ensures.step c.turn.ensures.made c.stage_of.ensures
    (λ start before batch begun now.
    looked-at operation.layer operation.slot start before batch (marks_of operation) begun now.mid next now.between c.in-Done.found
    (c.in-Done.ensures.answers (looking_of start.config (current (marks_of operation)) Write ItsPhase) now.mid now.looking))

pub returns-in-More-clause-turn : goal.returns-in-More-clause-turn
returns-in-More-clause-turn c =
    look-more c.args.self.now _ c.turn.new.self (view_of c.args.pass.now) (view_of c.turn.new.pass) refl c.requires.stage c.turn.ensures.step c.turn.ensures.made c.in-More.ensures.loads c.in-More.ensures.keeps
    c.in-More.ensures.turned

pub returns-in-Again-clause-turn : goal.returns-in-Again-clause-turn
returns-in-Again-clause-turn c =
    look-again c.args.self.now _ c.turn.new.self (view_of c.args.pass.now) (view_of c.turn.new.pass) refl c.requires.stage c.turn.ensures.step c.turn.ensures.made c.in-Again.ensures.loads c.in-Again.ensures.keeps
    c.in-Again.lock c.in-Again.word c.in-Again.ensures.turned
