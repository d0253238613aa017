use Rattle.std.proofs.Common.{refl, arith}
use Rattle.pass_table.specs.Passes.{view_of}
use Rattle.batch_add.specs.declared.giving_up.GiveStage.TheVariants.{Striped, Cleared}
use Rattle.batch_add.specs.stages.GiveSteps.{AtStage}
use Rattle.batch_add.proofs.GiveTurns.{so-far, went-by}
use Rattle.batch_add.proofs.giving_up.GivingUp.take_back.Goals as goal

pub take_back-requires-clause-so_far : goal.take_back-requires-clause-so_far
take_back-requires-clause-so_far c = so-far c.args.self.now (Striped c.args.done) (view_of c.args.pass.now) c.requires.under_way c.requires.stage

pub returns-clause-turn : goal.returns-clause-turn
returns-clause-turn c =
    let done = c.args.done in
    went-by c.go_on.result c.args.self.now c.go_on.new.self (Striped done) (Cleared done) (view_of c.args.pass.now) (view_of c.take_back.new.pass) c.go_on.ensures.more c.go_on.ensures.stage c.requires.stage (omega arith) refl (AtStage (Cleared done))
    c.take_back.ensures.step (λ start before batch after begun at. at)
