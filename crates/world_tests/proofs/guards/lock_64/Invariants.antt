use Rattle.std.proofs.Common.{◌≡◌, ◌<◌, length}
use Rattle.std.specs.Prelude.{All}
use Rattle.world_tests.proofs.guards.lock_64.Given as goal

abbrev pub invariant-loop-index : goal.invariant-loop-index
invariant-loop-index g l = All (λ id. id.index < 64) l.ids

abbrev pub invariant-loop-k : goal.invariant-loop-k
invariant-loop-k g l = l.k-end ≡ length l.guard.bodies.items
