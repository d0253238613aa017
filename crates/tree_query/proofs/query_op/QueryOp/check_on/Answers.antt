use Rattle.pass_table.specs.Passes.{view_of}
use Rattle.tree_query.proofs.QueryTurns.{keeps-some, check-goes, check-waits, check-hands}
use Rattle.tree_query.proofs.query_op.QueryOp.check_on.Goals as goal

pub hand_out-requires : goal.hand_out-requires
hand_out-requires c = keeps-some c.in-Done.field-0 c.args.self.now c.check_turn.new.self (view_of c.args.pass.now) (view_of c.check_turn.new.pass) c.in-Done.ensures.turn c.requires.under_way

pub returns-in-Done-clause-turn : goal.returns-in-Done-clause-turn
returns-in-Done-clause-turn c =
    check-hands c.args.self.now c.check_turn.new.self (view_of c.args.pass.now) (view_of c.check_turn.new.pass) c.requires.walked c.in-Done.field-0 c.hand_out.result c.hand_out.new.self c.hand_out.ensures.held c.hand_out.ensures.rest c.in-Done.ensures.turn

pub returns-in-More-clause-turn : goal.returns-in-More-clause-turn
returns-in-More-clause-turn c = check-goes c.args.self.now c.check_turn.new.self (view_of c.args.pass.now) (view_of c.check_turn.new.pass) c.requires.walked c.in-More.ensures.turn

pub returns-in-Again-clause-turn : goal.returns-in-Again-clause-turn
returns-in-Again-clause-turn c =
    check-waits c.args.self.now c.check_turn.new.self (view_of c.args.pass.now) (view_of c.check_turn.new.pass) c.requires.walked c.in-Again.lock c.in-Again.word c.in-Again.ensures.turn
