use Rattle.pass_table.specs.Passes.{view_of}
use Rattle.pass_table.proofs.Turning.{goes-on}
use Rattle.batch_add.specs.stages.Preparing.{IsPreparing}
use Rattle.batch_add.proofs.preparing.PrepareOpOperation.turn.Goals as goal

pub returns-clause-goes_on : goal.returns-clause-goes_on
returns-clause-goes_on c =
    goes-on IsPreparing c.next_turn.result c.args.self.now c.next_turn.new.self (view_of c.args.pass.now) (view_of c.next_turn.new.pass) c.next_turn.ensures.turn.keeps c.requires.under_way

pub returns-clause-ends : goal.returns-clause-ends
returns-clause-ends c = c.next_turn.ensures.label.ends

pub returns-clause-says : goal.returns-clause-says
returns-clause-says c = c.next_turn.ensures.label.says
