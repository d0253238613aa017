use Rattle.pass_table.specs.TakeTurns.{IsTaking}
use Rattle.pass_table.specs.Passes.{view_of}
use Rattle.pass_table.proofs.Turning.{goes-on}
use Rattle.pass_table.proofs.take_turns.TakeOpOperation.turn.Goals as goal

pub returns-in-None-clause-goes_on : goal.returns-in-None-clause-goes_on
returns-in-None-clause-goes_on c =
    goes-on IsTaking c.load.result c.args.self.now c.load.new.self (view_of c.args.pass.now) (view_of c.load.new.pass) c.load.ensures.keeps c.requires.under_way

pub returns-in-Some-clause-goes_on : goal.returns-in-Some-clause-goes_on
returns-in-Some-clause-goes_on c =
    goes-on IsTaking c.exchange.result c.args.self.now c.exchange.new.self (view_of c.args.pass.now) (view_of c.exchange.new.pass) c.exchange.ensures.keeps c.requires.under_way
