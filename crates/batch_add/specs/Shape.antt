-- The tree that the child words of nodes say.
use Rattle.std.specs.Prelude.{ℕ, zero, suc, ◌/◌, ◌%◌, ◌==◌, if◌then◌else◌}
use Rattle.scene_model.specs.Tree.{Tree, nothing, body, node}
use Rattle.word_map.specs.declared.name.Name.{Name}
use Rattle.word_map.specs.declared.name.Name.TheVariants.{Child}

-- what a child word says: 0 nothing, 1 + 2 * index the body at an index, and 2 + 2 * n the tree of the node n
abbrev pub tree_below : (ℕ → Tree) → ℕ → Tree
tree_below tree zero = nothing
tree_below tree (suc w) = if w % 2 == 0 then body (w / 2) else tree (w / 2)

-- the tree that is read from the child words of a node, as far as so many levels reach
abbrev pub tree_at : (Name → ℕ) → ℕ → ℕ → Tree
tree_at word zero n = nothing
tree_at word (suc levels) n =
    let below = λ (k : ℕ). tree_below (tree_at word levels) (word (Child n k)) in
    node (below 0) (below 1) (below 2) (below 3)
