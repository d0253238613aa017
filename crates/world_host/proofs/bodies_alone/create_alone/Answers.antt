use Rattle.pass_table.specs.Passes.{view_of}
use Rattle.world_host.proofs.Creating.{was-created, was-full}
use Rattle.world_host.proofs.bodies_alone.create_alone.Goals as goal

pub returns-in-Ok-clause-created : goal.returns-in-Ok-clause-created
returns-in-Ok-clause-created g c =
    was-created c.create.new.pass (view_of c.args.pass.now) c.requires.lone.one c.args.layer c.args.user c.args.bounds c.in-Ok.id c.in-Ok.ensures.created c.create.ensures.tells c.create.ensures.keeps

pub returns-in-Err-clause-created : goal.returns-in-Err-clause-created
returns-in-Err-clause-created g c =
    was-full c.args.pass.now c.create.new.pass c.requires.lone.one c.in-Err.field-0 c.in-Err.ensures.full c.create.ensures.tells c.create.ensures.keeps
