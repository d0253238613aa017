use Rattle.std.proofs.Common.{Some, refl, arith}
use Rattle.pass_table.specs.declared.turn.Turn.TheVariants.{More}
use Rattle.pass_table.specs.Passes.{view_of}
use Rattle.batch_add.specs.declared.giving_up.GiveStage.TheVariants.{Cleared, Unmarked}
use Rattle.batch_add.proofs.GiveTurns.{at_stage, so-far, went-on-made}
use Rattle.batch_add.proofs.giving_up.GivingUp.unmark.Goals as goal

pub unmark-made-requires-clause-so_far : goal.unmark-made-requires-clause-so_far
unmark-made-requires-clause-so_far c = so-far c.args.self.now (Cleared c.args.done) (view_of c.args.pass.now) c.requires.under_way c.requires.stage

pub returns-clause-turn : goal.returns-clause-turn
returns-clause-turn c =
    let operation = c.args.self.now in
    let done = c.args.done in
    let made = Some c.unmark-made.result in
    let step = c.unmark-made.ensures.step in
    went-on-made More operation (at_stage operation (Unmarked done) made) (Cleared done) (Unmarked done) made (view_of c.args.pass.now) (view_of c.unmark-made.new.pass) refl refl c.requires.stage step.step step.made (omega arith) tt step.leads
