use Rattle.std.proofs.Common.{◌≡◌, ◌-◌, ◌^◌, List}
use Rattle.word_map.specs.declared.name.Name.{Name}
use Rattle.pass_table.specs.Passes.{view_of, IsOf}
use Rattle.tree_query.specs.Finding.{room_of}
use Rattle.tree_query.specs.Collecting.{Trip, IsAtNodes}
use Rattle.tree_query.proofs.nodes.walk_tree.Given as goal

-- the nodes that were taken off the stack so far were walked
abbrev pub invariant-loop-node : goal.invariant-loop-node
invariant-loop-node l = record {
  of : IsOf l.world l.pass;
  room : room_of l.finder ≡ room_of l.initial.finder;
  on : (trip : Trip) (rest : List Name) → IsAtNodes trip rest l.shape l.initial.finder l.initial.stack.items (view_of l.initial.pass)
      → IsAtNodes trip rest l.shape l.finder l.stack.items (view_of l.pass);
}

-- each node takes loads, and a walk has less than 2^32
abbrev pub decreases-loop-node : goal.decreases-loop-node
decreases-loop-node l = 2 ^ 32 - l.finder.loads
