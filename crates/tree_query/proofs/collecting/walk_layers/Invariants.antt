use Rattle.std.proofs.Common.{◌≡◌, []}
use Rattle.core_state.specs.Walking.{asked_words}
use Rattle.pass_table.specs.Passes.{view_of, IsOf}
use Rattle.tree_query.specs.Finding.{room_of}
use Rattle.tree_query.specs.Collecting.{Trip, IsCollecting, word_place, layers_from}
use Rattle.tree_query.proofs.collecting.walk_layers.Given as goal

-- the asked layers so far were walked
abbrev pub invariant-loop-layer : goal.invariant-loop-layer
invariant-loop-layer l = record {
  of : IsOf l.world l.pass;
  room : room_of l.finder ≡ room_of l.initial.finder;
  empty : l.stack.items ≡ [];
  on : (trip : Trip) → IsCollecting trip l.shape l.initial.finder (view_of l.initial.pass) (word_place (asked_words l.world.map l.mask))
      → IsCollecting trip l.shape l.finder (view_of l.pass) (word_place (layers_from l.world.map l.mask l.layer));
}
