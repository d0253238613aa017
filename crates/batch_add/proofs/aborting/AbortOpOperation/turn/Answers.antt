use Rattle.pass_table.specs.Passes.{view_of}
use Rattle.pass_table.proofs.Turning.{goes-on}
use Rattle.batch_add.specs.stages.Aborting.{IsAborting}
use Rattle.batch_add.proofs.AbortBegun.{aborting-goes, aborting-answers}
use Rattle.batch_add.proofs.aborting.AbortOpOperation.turn.Goals as goal

pub turn-requires-clause-under_way : goal.turn-requires-clause-under_way
turn-requires-clause-under_way c =
    let way = c.requires.under_way in
    record { first = way.first.giving; start = way.start; goes = way.goes.gives }

pub returns-clause-keeps : goal.returns-clause-keeps
returns-clause-keeps c first start aborting =
    aborting-goes c.turn.result first start (record { number = c.args.self.now.number; giving = c.turn.new.self }) (view_of c.turn.new.pass) aborting.current
    (c.turn.ensures.keeps first.giving start aborting.gives)

pub returns-clause-goes_on : goal.returns-clause-goes_on
returns-clause-goes_on c =
    goes-on IsAborting c.turn.result c.args.self.now (record { number = c.args.self.now.number; giving = c.turn.new.self }) (view_of c.args.pass.now) (view_of c.turn.new.pass)
    (returns-clause-keeps c) c.requires.under_way

pub returns-clause-answers : goal.returns-clause-answers
returns-clause-answers c first start aborting =
    aborting-answers c.turn.result first start c.args.self.now (view_of c.args.pass.now) c.turn.new.self (view_of c.turn.new.pass) aborting (c.turn.ensures.answers first.giving start aborting.gives)
