-- The tree over a list of bodies, each an index and its bounds.
use Rattle.std.specs.Prelude.{ℕ, zero, suc, ◌+◌, ◌-◌, ◌/◌, Bool, ◌&&◌, ◌||◌, nat_lt, List, [], ◌∷◌, ◌++◌, length, max, map, fold, take, drop, ℤ, pos, ◌+ℤ◌, ◌-ℤ◌, int_lt, int_le, if◌then◌else◌}
use Rattle.std.specs.Int.{int_max, int_min}
use Rattle.fixed_box.specs.Corner.{on_axis}
use Rattle.fixed_box.specs.declared.fix_box.FixBox.{FixBox}

-- nothing, the entry of a body, or a node with four children
pub data Tree : Type 0 where
  nothing : Tree
  body : ℕ → Tree
  node : Tree → Tree → Tree → Tree → Tree

-- the doubled centre of a body on an axis: 0 is x, 1 is y, 2 is z
abbrev pub centre : ℕ → ℕ × FixBox → ℤ
centre axis b = on_axis b.1.lo axis +ℤ on_axis b.1.hi axis

-- the greatest doubled centre less the least
abbrev pub spread : ℕ → List (ℕ × FixBox) → ℤ
spread axis [] = pos 0
spread axis (b ∷ bs) =
    fold int_max (centre axis b) (map (centre axis) bs) -ℤ fold int_min (centre axis b) (map (centre axis) bs)

-- the second of two axes only where it is spread wider
abbrev pub wider : List (ℕ × FixBox) → ℕ → ℕ → ℕ
wider bodies first second = if int_lt (spread first bodies) (spread second bodies) then second else first

-- the axis on which the bodies are spread widest, the first where equal
abbrev pub widest : List (ℕ × FixBox) → ℕ
widest bodies = wider bodies (wider bodies 0 1) 2

-- by doubled centre on an axis, then by index
abbrev pub comes_before : ℕ → ℕ × FixBox → ℕ × FixBox → Bool
comes_before axis a b = int_lt (centre axis a) (centre axis b) || (int_le (centre axis a) (centre axis b) && nat_lt a.0 b.0)

abbrev pub insert_in_order : ℕ → ℕ × FixBox → List (ℕ × FixBox) → List (ℕ × FixBox)
insert_in_order axis b [] = b ∷ []
insert_in_order axis b (x ∷ xs) = if comes_before axis b x then b ∷ x ∷ xs else x ∷ insert_in_order axis b xs

abbrev pub in_order : ℕ → List (ℕ × FixBox) → List (ℕ × FixBox)
in_order axis [] = []
in_order axis (b ∷ bs) = insert_in_order axis b (in_order axis bs)

-- the bodies in order on their widest axis; the first half has one more where they are odd
abbrev pub sorted : List (ℕ × FixBox) → List (ℕ × FixBox)
sorted bodies = in_order (widest bodies) bodies

abbrev pub front_half : List (ℕ × FixBox) → List (ℕ × FixBox)
front_half bodies = take (length bodies - length bodies / 2) (sorted bodies)

abbrev pub back_half : List (ℕ × FixBox) → List (ℕ × FixBox)
back_half bodies = drop (length bodies - length bodies / 2) (sorted bodies)

-- what a run is as a child: nothing, its only body, or its own tree
abbrev pub child_of : (List (ℕ × FixBox) → Tree) → List (ℕ × FixBox) → Tree
child_of tree [] = nothing
child_of tree (b ∷ []) = body b.0
child_of tree (b ∷ c ∷ rest) = tree (b ∷ c ∷ rest)

-- the bodies are halved, and each half again: the four runs are the children
abbrev pub node_over : (List (ℕ × FixBox) → Tree) → List (ℕ × FixBox) → Tree
node_over tree bodies =
    let front = front_half bodies in
    let back = back_half bodies in
    node (child_of tree (front_half front)) (child_of tree (back_half front)) (child_of tree (front_half back)) (child_of tree (back_half back))

-- the tree over bodies, as far as so many levels reach
abbrev pub tree_within : ℕ → List (ℕ × FixBox) → Tree
tree_within zero bodies = nothing
tree_within (suc levels) bodies = node_over (tree_within levels) bodies

-- the tree over bodies: it never has more levels than bodies
abbrev pub tree : List (ℕ × FixBox) → Tree
tree bodies = tree_within (length bodies) bodies

-- how many nodes a tree has, how many levels of them, and which bodies stand in it, from left to right
abbrev pub nodes_of : Tree → ℕ
nodes_of nothing = 0
nodes_of (body index) = 0
nodes_of (node a b c d) = 1 + (nodes_of a + nodes_of b + nodes_of c + nodes_of d)

abbrev pub height_of : Tree → ℕ
height_of nothing = 0
height_of (body index) = 0
height_of (node a b c d) = 1 + max (max (height_of a) (height_of b)) (max (height_of c) (height_of d))

abbrev pub indexes_of : Tree → List ℕ
indexes_of nothing = []
indexes_of (body index) = index ∷ []
indexes_of (node a b c d) = indexes_of a ++ indexes_of b ++ (indexes_of c ++ indexes_of d)
