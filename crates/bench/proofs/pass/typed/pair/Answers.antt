use Rattle.std.proofs.Common.{refl}
use Rattle.pass_table.specs.Passes.{view_of}
use Rattle.bench.proofs.Pairs.{may-go-after, rests-after, rests-without}
use Rattle.bench.proofs.pass.typed.pair.Goals as goal

pub step_8-requires-clause-may : goal.step_8-requires-clause-may
step_8-requires-clause-may c =
    (c.args.lock, refl, may-go-after (view_of c.args.pass.now) (view_of c.step_7.new.pass) c.args.lock _ c.requires.rest c.in-Ok.ensures.step)

pub returns-in-Ok-clause-rest : goal.returns-in-Ok-clause-rest
returns-in-Ok-clause-rest c = rests-after _ _ _ _ _ _ c.requires.rest c.in-Ok.ensures.step c.step_8.ensures.step

pub returns-in-Err-clause-rest : goal.returns-in-Err-clause-rest
returns-in-Err-clause-rest c =
    rests-without (view_of c.args.pass.now) (view_of c.step_7.new.pass) c.args.lock _ c.in-Err.found c.requires.rest c.in-Err.ensures.step
