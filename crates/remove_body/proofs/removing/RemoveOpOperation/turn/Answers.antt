use Rattle.pass_table.specs.Passes.{view_of}
use Rattle.pass_table.proofs.Turning.{goes-on}
use Rattle.remove_body.specs.stages.Removing.{IsRemoving}
use Rattle.remove_body.proofs.removing.RemoveOpOperation.turn.Goals as goal

pub returns-clause-goes_on : goal.returns-clause-goes_on
returns-clause-goes_on c =
    goes-on IsRemoving c.next_turn.result c.args.self.now c.next_turn.new.self (view_of c.args.pass.now) (view_of c.next_turn.new.pass) c.next_turn.ensures.turn.plain.keeps c.requires.under_way
