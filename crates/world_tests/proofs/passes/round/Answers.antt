use Rattle.pass_table.proofs.Resting.{taken-may-go, rests-again}
use Rattle.world_tests.proofs.passes.round.Goals as goal

pub release-requires-clause-may : goal.release-requires-clause-may
release-requires-clause-may g c = taken-may-go _ _ _ _ c.requires.idle.rest c.take_write.ensures.left

pub returns : goal.returns
returns g c = record {
  idle = record { of = c.release.ensures.of; rest = rests-again _ _ _ _ c.requires.idle.rest c.take_write.ensures.left _ _ c.release.ensures.step.1 };
}
