use Rattle.std.proofs.Common.{◌<◌, ◌≤◌, ◌+◌, length}
use Rattle.std.specs.Prelude.{All}
use Rattle.bench.proofs.town.ids_from.Given as goal

abbrev pub invariant-loop-index : goal.invariant-loop-index
invariant-loop-index l = All (λ id. id.index < l.first + l.count) l.ids.items × (l.first + length l.ids.items ≤ l.index)
