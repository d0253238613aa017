use Rattle.pass_table.specs.Passes.{view_of}
use Rattle.world_host.proofs.Queried.{query-answers}
use Rattle.world_host.proofs.query_alone.query_alone.Goals as goal

pub returns-clause-answers : goal.returns-clause-answers
returns-clause-answers g c =
    query-answers c.args.shape.now c.args.mask c.query.new.pass (view_of c.args.pass.now) c.query.new.finder c.requires.lone.one c.query.ensures.keeps c.query.ensures.queried
