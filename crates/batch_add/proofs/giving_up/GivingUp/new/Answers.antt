use Rattle.std.proofs.Common.{ap}
use Rattle.pass_table.specs.Passes.{view_of}
use Rattle.batch_add.proofs.GiveBodies.{giving-begun}
use Rattle.batch_add.proofs.giving_up.GivingUp.new.Goals as goal

pub returns-clause-under_way : goal.returns-clause-under_way
returns-clause-under_way c =
    giving-begun c.args.kept c.stage_after-stage.result (view_of c.args.pass.now) (view_of c.stage_after-stage.new.pass) c.args.pass.now.number c.args.pass.now.numbered (ap view_of c.stage_after-stage.ensures.pass)
    c.requires.begun c.stage_after-stage.ensures.stage
