use Rattle.pass_table.specs.Passes.{view_of}
use Rattle.pass_table.proofs.Turning.{goes-on}
use Rattle.widen_bounds.specs.stages.Moving.{IsMoving}
use Rattle.widen_bounds.proofs.moving.MoveOpOperation.turn.Goals as goal

pub returns-clause-goes_on : goal.returns-clause-goes_on
returns-clause-goes_on c =
    goes-on IsMoving c.next_turn.result c.args.self.now c.next_turn.new.self (view_of c.args.pass.now) (view_of c.next_turn.new.pass) c.next_turn.ensures.turn.plain.keeps c.requires.under_way
