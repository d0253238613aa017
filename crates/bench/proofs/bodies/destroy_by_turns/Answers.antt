use Rattle.pass_table.specs.Passes.{view_of}
use Rattle.bench.proofs.bodies.destroy_by_turns.Goals as goal

pub returns : goal.returns
returns g c = record { idle = record { of = c.drive.ensures.of; rest = (c.drive.ensures.answers c.new-destroying.result (view_of c.args.pass.now) c.new-destroying.ensures.under_way).0.rest } }
