-- What the words of a world say: each encoding, once.
use Rattle.std.specs.Prelude.{◌≢◌, ⊤, ℕ, suc, ◌+◌, ◌*◌, ◌<◌, nat_lt, if◌then◌else◌}
use Rattle.word_map.specs.declared.body_words.StateWord.{StateWord}
use Rattle.word_map.specs.declared.body_words.StateWord.TheVariants.{Live, Free}
use Rattle.word_map.specs.declared.body_words.PhaseWord.{PhaseWord}
use Rattle.word_map.specs.declared.body_words.PhaseWord.TheVariants.{Out, In, Joined}
use Rattle.word_map.specs.declared.tree_words.SlotWord.{SlotWord}
use Rattle.word_map.specs.declared.tree_words.SlotWord.TheVariants.{Empty as NoBatch, Reserved, Tree}
use Rattle.word_map.specs.declared.tree_words.ChildWord.{ChildWord}
use Rattle.word_map.specs.declared.tree_words.ChildWord.TheVariants.{Empty as NoChild, Body, Node}
use Rattle.word_map.specs.declared.tree_words.LocationWord.{LocationWord}
use Rattle.word_map.specs.declared.tree_words.LocationWord.TheVariants.{Nowhere, At as AtPlace}
use Rattle.word_map.specs.declared.tree_words.BoundWord.{BoundWord}
use Rattle.word_map.specs.declared.tree_words.BoundWord.TheVariants.{Empty as NoBox, At as AtCoordinate}
use Rattle.word_map.specs.declared.list_words.ListWord.{ListWord}
use Rattle.word_map.specs.declared.list_words.ListWord.TheVariants.{End, Next}

-- of an index: the sequence number of the last creation, and 256 more while its body is live
abbrev pub word_of_state : StateWord → ℕ
word_of_state (Live sequence) = 256 + sequence
word_of_state (Free sequence) = sequence

-- a sequence number has eight bits
abbrev pub IsStateWord : StateWord → Type 0
IsStateWord (Live sequence) = sequence < 256
IsStateWord (Free sequence) = sequence < 256

-- of a body: whether it is in the broad phase, or the slot that says so
abbrev pub word_of_phase : PhaseWord → ℕ
word_of_phase Out = 0
word_of_phase In = 1
word_of_phase (Joined slot) = 2 + slot

-- of a slot: empty, reserved by a pass, or the root of its tree
abbrev pub word_of_slot : SlotWord → ℕ
word_of_slot NoBatch = 0
word_of_slot (Reserved pass) = suc pass
word_of_slot (Tree root) = 1024 + root

-- the numbers of passes stay below the roots of trees
abbrev pub IsSlotWord : SlotWord → Type 0
IsSlotWord (Reserved pass) = pass < 1023
IsSlotWord _ = ⊤

-- of a child of a node: nothing, a body, or a node below
abbrev pub word_of_child : ChildWord → ℕ
word_of_child NoChild = 0
word_of_child (Body index) = 1 + 2 * index
word_of_child (Node node) = 2 + 2 * node

-- of a place in a tree: none, or a child of a node
abbrev pub word_of_location : LocationWord → ℕ
word_of_location Nowhere = 0
word_of_location (AtPlace node child) = 1 + (4 * node + child)

-- a node has four children
abbrev pub IsLocationWord : LocationWord → Type 0
IsLocationWord Nowhere = ⊤
IsLocationWord (AtPlace node child) = child < 4

-- of a side of the bound of a child that is not there: no box reaches it
abbrev pub no_side : ℕ → ℕ
no_side side = if nat_lt side 3 then 33554432 else 0

-- of a side of a bound: none, or a coordinate
abbrev pub word_of_bound : ℕ → BoundWord → ℕ
word_of_bound side NoBox = no_side side
word_of_bound side (AtCoordinate coordinate) = coordinate

-- a coordinate is not taken for none
abbrev pub IsBoundWord : ℕ → BoundWord → Type 0
IsBoundWord side NoBox = ⊤
IsBoundWord side (AtCoordinate coordinate) = coordinate ≢ no_side side

-- of the head of a list, or of a place on it: the end, or the next place
abbrev pub word_of_link : ListWord → ℕ
word_of_link End = 0
word_of_link (Next place) = suc place
