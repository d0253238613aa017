use Rattle.std.proofs.Common.{◌≡◌, ℕ, ◌-◌, ◌<◌, ◌≤◌, false}
use Rattle.std.specs.Prelude.{◌==◌}
use Rattle.std.specs.Int.{bit_at}
use Rattle.tree_query.proofs.walk.next_layer.Given as goal

-- the layers passed so far are not asked
abbrev pub invariant-loop-layer : goal.invariant-loop-layer
invariant-loop-layer l =
    (l.initial.layer ≤ l.layer) × (l.layer ≤ l.layers) × ((other : ℕ) → l.initial.layer ≤ other → other < l.layer → (bit_at l.mask other == 1) ≡ false)

abbrev pub decreases-loop-layer : goal.decreases-loop-layer
decreases-loop-layer l = l.layers - l.layer
