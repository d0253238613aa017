use Rattle.std.proofs.Common.{◌≡◌, ◌+◌, ◌≤◌, List}
use Rattle.word_map.specs.declared.name.Name.{Name}
use Rattle.pass_table.specs.Passes.{view_of, IsOf}
use Rattle.tree_query.specs.Finding.{room_of}
use Rattle.tree_query.specs.Collecting.{Trip, IsAtChild}
use Rattle.tree_query.proofs.nodes.walk_node.Given as goal

-- the children so far were read
abbrev pub invariant-loop-child : goal.invariant-loop-child
invariant-loop-child l = record {
  of : IsOf l.world l.pass;
  room : room_of l.finder ≡ room_of l.initial.finder;
  more : l.initial.finder.loads + l.child ≤ l.finder.loads;
  on : (trip : Trip) (rest : List Name) → IsAtChild trip rest l.shape l.initial.finder l.initial.stack.items (view_of l.initial.pass) l.node 0
      → IsAtChild trip rest l.shape l.finder l.stack.items (view_of l.pass) l.node l.child;
}
