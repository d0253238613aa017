use Rattle.std.proofs.Common.{refl, arith}
use Rattle.pass_table.specs.Passes.{view_of}
use Rattle.batch_add.specs.declared.giving_up.GiveStage.TheVariants.{Given, Counted}
use Rattle.batch_add.specs.stages.GiveSteps.{AtStage}
use Rattle.batch_add.proofs.GiveTurns.{so-far, went-by}
use Rattle.batch_add.proofs.giving_up.GivingUp.store_free.Goals as goal

pub store_free-requires-clause-so_far : goal.store_free-requires-clause-so_far
store_free-requires-clause-so_far c = so-far c.args.self.now (Given c.args.free) (view_of c.args.pass.now) c.requires.under_way c.requires.stage

pub returns-clause-turn : goal.returns-clause-turn
returns-clause-turn c =
    went-by c.go_on.result c.args.self.now c.go_on.new.self (Given c.args.free) Counted (view_of c.args.pass.now) (view_of c.store_free.new.pass) c.go_on.ensures.more c.go_on.ensures.stage c.requires.stage (omega arith) refl (AtStage Counted)
    c.store_free.ensures.step (λ start before batch after begun at. at)
