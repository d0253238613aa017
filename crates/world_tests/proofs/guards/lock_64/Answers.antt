use Rattle.std.proofs.Common.{◌<◌, arith}
use Rattle.std.proofs.lemmas.List.Elements.{All-replicate}
use Rattle.world_tests.proofs.guards.lock_64.Goals as goal

pub loop-index-init : goal.loop-index-init
loop-index-init g c = let first = c.new-ids.ensures.index in All-replicate (λ id. id.index < 64) 64 c.new-ids.result (omega arith)
