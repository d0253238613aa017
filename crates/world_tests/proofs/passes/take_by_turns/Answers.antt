use Rattle.pass_table.specs.Passes.{view_of}
use Rattle.pass_table.specs.TakeTurns.{taking_of}
use Rattle.world_tests.proofs.passes.take_by_turns.Goals as goal

pub returns-clause-left : goal.returns-clause-left
returns-clause-left g c =
    (c.drive.ensures.answers (taking_of c.args.lock c.args.mode) (view_of c.args.pass.now) c.new-taking.ensures.under_way).left
