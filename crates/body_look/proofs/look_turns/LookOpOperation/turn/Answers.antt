use Rattle.pass_table.specs.Passes.{view_of}
use Rattle.pass_table.proofs.Turning.{goes-on}
use Rattle.body_look.specs.stages.Looking.{IsLooking}
use Rattle.body_look.proofs.look_turns.LookOpOperation.turn.Goals as goal

pub returns-in-Taking-clause-goes_on : goal.returns-in-Taking-clause-goes_on
returns-in-Taking-clause-goes_on c =
    goes-on IsLooking c.take.result c.args.self.now c.take.new.self (view_of c.args.pass.now) (view_of c.take.new.pass) c.take.ensures.turn.keeps c.requires.under_way

pub returns-in-Striped-clause-goes_on : goal.returns-in-Striped-clause-goes_on
returns-in-Striped-clause-goes_on c =
    goes-on IsLooking c.load_state.result c.args.self.now c.load_state.new.self (view_of c.args.pass.now) (view_of c.load_state.new.pass) c.load_state.ensures.turn.keeps c.requires.under_way

pub returns-in-Live-clause-goes_on : goal.returns-in-Live-clause-goes_on
returns-in-Live-clause-goes_on c =
    goes-on IsLooking c.load_phase.result c.args.self.now c.load_phase.new.self (view_of c.args.pass.now) (view_of c.load_phase.new.pass) c.load_phase.ensures.turn.keeps c.requires.under_way

pub returns-in-Joining-clause-goes_on : goal.returns-in-Joining-clause-goes_on
returns-in-Joining-clause-goes_on c =
    goes-on IsLooking c.load_layer.result c.args.self.now c.load_layer.new.self (view_of c.args.pass.now) (view_of c.load_layer.new.pass) c.load_layer.ensures.turn.keeps c.requires.under_way

pub returns-in-Placed-clause-goes_on : goal.returns-in-Placed-clause-goes_on
returns-in-Placed-clause-goes_on c =
    goes-on IsLooking c.load_slot.result c.args.self.now c.load_slot.new.self (view_of c.args.pass.now) (view_of c.load_slot.new.pass) c.load_slot.ensures.turn.keeps c.requires.under_way
