-- The words of a row, in order.
use Rattle.std.specs.Prelude.{ℕ, zero, suc, ◌/◌, ◌%◌, List, [], ◌∷◌, nat_lt, if◌then◌else◌, slice_index_or}
use Rattle.word_map.specs.declared.name.Name.{Name}
use Rattle.word_map.specs.declared.name.Name.TheVariants.{SlotHead, SlotNext, State, Phase, Layer, User, BoxWord, LocA, LocB, Child, Bound, Parent, PoolHead, PoolFree, Main, Slot, Update, Arena}
use Rattle.word_map.specs.declared.row.TheConstants.{CHILD_WORDS, PARENT}

-- the words of which a world has one each
abbrev pub head_words : List Name
head_words = SlotHead ∷ PoolHead ∷ PoolFree ∷ Update ∷ Arena ∷ []

-- the words of a body: what an exact query reads comes first
abbrev pub body_words : ℕ → List Name
body_words i =
    State i ∷ Phase i ∷ Layer i ∷ User i ∷ BoxWord i 0 ∷ BoxWord i 1 ∷ BoxWord i 2 ∷ BoxWord i 3 ∷ BoxWord i 4 ∷
    BoxWord i 5 ∷ LocA i ∷ LocB i ∷ SlotNext i ∷ []

-- the word of a body at an offset
unfoldable pub body_word : ℕ → ℕ → Name
body_word i k = slice_index_or (body_words i) k Update

-- the word of a layer at an offset: its main tree, then its slots
abbrev pub layer_word : ℕ → ℕ → Name
layer_word l zero = Main l
layer_word l (suc t) = Slot l t

-- the word of a child at an offset: the child, then its bound
abbrev pub child_word : ℕ → ℕ → ℕ → Name
child_word n b zero = Child n b
child_word n b (suc k) = Bound n b k

-- the word of a node at an offset: the four children, then the parent
abbrev pub node_word : ℕ → ℕ → Name
node_word n k = if nat_lt k PARENT then child_word n (k / CHILD_WORDS) (k % CHILD_WORDS) else Parent n
