use Rattle.pass_table.specs.Passes.{view_of}
use Rattle.batch_add.specs.declared.giving_up.GiveStage.TheVariants.{Counted}
use Rattle.batch_add.specs.stages.GiveSteps.{IsGivenUp}
use Rattle.batch_add.proofs.GiveTurns.{so-far, ended}
use Rattle.batch_add.proofs.giving_up.GivingUp.leave_pool.Goals as goal

pub leave_pool-requires-clause-so_far : goal.leave_pool-requires-clause-so_far
leave_pool-requires-clause-so_far c = so-far c.args.self.now Counted (view_of c.args.pass.now) c.requires.under_way c.requires.stage

pub returns-clause-turn : goal.returns-clause-turn
returns-clause-turn c =
    ended c.args.self.now Counted (view_of c.args.pass.now) (view_of c.leave_pool.new.pass) c.requires.stage IsGivenUp c.leave_pool.ensures.step (λ start before batch after begun at. at)
