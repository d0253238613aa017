use Rattle.core_state.specs.declared.view.Mode.TheVariants.{Write}
use Rattle.pass_table.specs.Passes.{view_of}
use Rattle.pass_table.proofs.Resting.{taken-may-go, rests-again}
use Rattle.bench.proofs.pass.typed.tried_pair.Goals as goal

pub returns-in-Taken-clause-rest : goal.returns-in-Taken-clause-rest
returns-in-Taken-clause-rest c =
    let a = c.args in
    let gone = c.release.ensures.step in
    rests-again (view_of a.pass.now) (view_of c.try_take.new.pass) a.lock Write c.requires.rest c.in-Taken.ensures.tried.left (view_of c.release.new.pass) gone.0 gone.1

pub release-requires-clause-may : goal.release-requires-clause-may
release-requires-clause-may c =
    let a = c.args in
    taken-may-go (view_of a.pass.now) (view_of c.try_take.new.pass) a.lock Write c.requires.rest c.in-Taken.ensures.tried.left
