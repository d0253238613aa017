-- How words name bodies, nodes, places and trees, and boxes as six words.
use Rattle.std.specs.Prelude.{◌≡◌, ℕ, suc, ◌+◌, ◌*◌, ◌<◌, ◌≤◌, List, slice_index, Option, Some, None}
use Rattle.word_map.specs.declared.config.Config.{Config}
use Rattle.word_map.specs.declared.name.Name.{Name}
use Rattle.word_map.specs.declared.name.Name.TheVariants.{Bound, Main, Slot}
use Rattle.word_map.specs.Names.{arena_nodes}

-- a child word: a body, or a node below; 0 is neither
abbrev pub body_child : ℕ → ℕ
body_child index = 1 + 2 * index

abbrev pub node_child : ℕ → ℕ
node_child node = 2 + 2 * node

-- a place in a tree: a child of a node; 0 is none
abbrev pub place : ℕ → ℕ → ℕ
place node child = 1 + (4 * node + child)

-- a slot word: 0 is empty
abbrev pub reserved_by : ℕ → ℕ
reserved_by pass = suc pass

abbrev pub slot_tree : ℕ → ℕ
slot_tree root = 1024 + root

-- a phase word
abbrev pub phase_out : ℕ
phase_out = 0

abbrev pub phase_in : ℕ
phase_in = 1

abbrev pub phase_join : ℕ → ℕ
phase_join slot = 2 + slot

-- the word names the root of a tree with this value; only main words and slots do
abbrev pub NamesRoot : Name → ℕ → ℕ → Type 0
NamesRoot (Main l) value root = value ≡ suc root
NamesRoot (Slot l t) value root = value ≡ slot_tree root
NamesRoot _ value root = ⊥

-- the layer of a main word or a slot
abbrev pub layer_of : Name → Option ℕ
layer_of (Main l) = Some l
layer_of (Slot l t) = Some l
layer_of _ = None

-- the nodes of an arena
abbrev pub IsInArena : Config → ℕ → ℕ → Type 0
IsInArena c arena node = (c.nodes + arena * arena_nodes c ≤ node) × (node < c.nodes + suc arena * arena_nodes c)

-- a box as its six words: lo x, y, z and hi x, y, z
abbrev pub Sides : Type 0
Sides = ℕ → ℕ

abbrev pub sides_of : List ℕ → Sides
sides_of words = slice_index words

-- the words are a box of coordinates
abbrev pub IsBox : Sides → Type 0
IsBox b = (q : ℕ) → q < 3 → (1 ≤ b q) × (b q ≤ b (3 + q)) × (b (3 + q) ≤ 16777216)

-- a box lies in another
abbrev pub Covers : Sides → Sides → Type 0
Covers outer inner = (q : ℕ) → q < 3 → (outer q ≤ inner q) × (inner (3 + q) ≤ outer (3 + q))

-- the bound of a child
abbrev pub bound_in : (Name → ℕ) → ℕ → ℕ → Sides
bound_in word n k = λ q. word (Bound n k q)
