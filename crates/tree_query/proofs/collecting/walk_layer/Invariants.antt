use Rattle.std.proofs.Common.{◌≡◌, ◌++◌, List, []}
use Rattle.word_map.specs.declared.name.Name.{Name}
use Rattle.core_state.specs.Walking.{words_of_layer}
use Rattle.pass_table.specs.Passes.{view_of, IsOf}
use Rattle.tree_query.specs.Finding.{room_of}
use Rattle.tree_query.specs.Collecting.{Trip, IsCollecting, word_place, words_from}
use Rattle.tree_query.proofs.collecting.walk_layer.Given as goal

-- the slots so far were read, and their trees walked
abbrev pub invariant-loop-slot : goal.invariant-loop-slot
invariant-loop-slot l = record {
  of : IsOf l.world l.pass;
  room : room_of l.finder ≡ room_of l.initial.finder;
  empty : l.stack.items ≡ [];
  on : (trip : Trip) (rest : List Name) → IsCollecting trip l.shape l.initial.finder (view_of l.initial.pass) (word_place (words_of_layer l.world.map l.layer ++ rest))
      → IsCollecting trip l.shape l.finder (view_of l.pass) (word_place (words_from l.world.map l.layer l.slot ++ rest));
}
