-- The places of words. The table is stretches in a row, and each stretch is rows of words.
use Rattle.std.specs.Prelude.{ℕ, ◌+◌, ◌-◌, ◌*◌, ◌/◌, ◌%◌, List, [], ◌∷◌, nat_lt, if◌then◌else◌, min, slice_index_or}
use Rattle.word_map.specs.declared.config.Config.{Config}
use Rattle.word_map.specs.declared.config.TheConstants.{MAX_BODIES, MAX_LAYERS, MAX_SLOTS, MAX_NODES, MAX_PASSES}
use Rattle.word_map.specs.declared.row.TheConstants.{BODY_WORDS, CHILD_WORDS, NODE_WORDS, PARENT, HEAD_WORDS, POOL_RUN, GROUP_WORDS}
use Rattle.word_map.specs.declared.name.Name.{Name}
use Rattle.word_map.specs.declared.name.Name.TheVariants.{Lock, SlotHead, SlotNext, State, Phase, Layer, User, BoxWord, LocA, LocB, Child, Bound, Parent, PoolHead, PoolNext, PoolFree, Main, Slot, Reader, Update, Arena}
use Rattle.word_map.specs.Names.{lock_count, node_count}
use Rattle.word_map.specs.Row.{head_words, body_word, layer_word, node_word}

-- ---- how many words there are

-- 13 words for each body, 29 for each node and one more for each batch node, a word for each lock and each pass,
-- a word for each layer and each of its slots, and five more
abbrev pub word_count : Config → ℕ
word_count c =
    BODY_WORDS * c.bodies + NODE_WORDS * node_count c + c.nodes + lock_count c + (c.slots + 1) * c.layers + c.passes + HEAD_WORDS

-- the largest world
abbrev pub largest : Config
largest = record {
  bodies = MAX_BODIES;
  stripes = 64;
  layers = MAX_LAYERS;
  slots = MAX_SLOTS;
  nodes = MAX_NODES;
  passes = MAX_PASSES;
}

-- ---- where each word is

-- after the locks: the words of which a world has one each
abbrev pub heads_start : Config → ℕ
heads_start c = lock_count c

-- then a row for each body
abbrev pub bodies_start : Config → ℕ
bodies_start c = heads_start c + HEAD_WORDS

-- then a row for each layer: its main tree and its slots
abbrev pub layers_start : Config → ℕ
layers_start c = bodies_start c + BODY_WORDS * c.bodies

-- then a row for each node
abbrev pub nodes_start : Config → ℕ
nodes_start c = layers_start c + (c.slots + 1) * c.layers

-- then the links of the pool, most of them one after the other
abbrev pub pool_start : Config → ℕ
pool_start c = nodes_start c + NODE_WORDS * node_count c

-- how many reader words stand apart, each after sixteen pool words of its own
abbrev pub apart_readers : Config → ℕ
apart_readers c = min c.passes (c.nodes / POOL_RUN)

-- how many pool words come before those groups
abbrev pub plain_pool : Config → ℕ
plain_pool c = c.nodes - POOL_RUN * apart_readers c

-- where the groups of pool words and a reader word begin
abbrev pub groups_start : Config → ℕ
groups_start c = pool_start c + plain_pool c

-- where the readers begin for which there were not enough pool words
abbrev pub readers_start : Config → ℕ
readers_start c = groups_start c + GROUP_WORDS * apart_readers c

-- the place of a link of the pool
abbrev pub pool_place : Config → ℕ → ℕ
pool_place c n =
    let later = n - plain_pool c in
    if nat_lt n (plain_pool c) then pool_start c + n else groups_start c + GROUP_WORDS * (later / POOL_RUN) + later % POOL_RUN

-- the place of a reader word
abbrev pub reader_place : Config → ℕ → ℕ
reader_place c p =
    if nat_lt p (apart_readers c) then groups_start c + GROUP_WORDS * p + POOL_RUN else readers_start c + (p - apart_readers c)

-- the place of each word
unfoldable pub place_of : Config → Name → ℕ
place_of c (Lock i) = i
place_of c SlotHead = heads_start c
place_of c PoolHead = heads_start c + 1
place_of c PoolFree = heads_start c + 2
place_of c Update = heads_start c + 3
place_of c Arena = heads_start c + 4
place_of c (State i) = bodies_start c + BODY_WORDS * i
place_of c (Phase i) = bodies_start c + BODY_WORDS * i + 1
place_of c (Layer i) = bodies_start c + BODY_WORDS * i + 2
place_of c (User i) = bodies_start c + BODY_WORDS * i + 3
place_of c (BoxWord i k) = bodies_start c + BODY_WORDS * i + 4 + k
place_of c (LocA i) = bodies_start c + BODY_WORDS * i + 10
place_of c (LocB i) = bodies_start c + BODY_WORDS * i + 11
place_of c (SlotNext i) = bodies_start c + BODY_WORDS * i + 12
place_of c (Main l) = layers_start c + (c.slots + 1) * l
place_of c (Slot l t) = layers_start c + (c.slots + 1) * l + 1 + t
place_of c (Child n b) = nodes_start c + NODE_WORDS * n + CHILD_WORDS * b
place_of c (Bound n b k) = nodes_start c + NODE_WORDS * n + CHILD_WORDS * b + 1 + k
place_of c (Parent n) = nodes_start c + NODE_WORDS * n + PARENT
place_of c (PoolNext n) = pool_place c n
place_of c (Reader p) = reader_place c p

-- ---- the name of each place

-- rows of words of one width, with the name of the word at each offset of each row
pub record Stretch : Type 0 where
  pub rows : ℕ
  pub width : ℕ
  pub name : ℕ → ℕ → Name

-- the word of a group at an offset: sixteen pool words, then a reader word
abbrev pub group_word : Config → ℕ → ℕ → Name
group_word c p k = if nat_lt k POOL_RUN then PoolNext (plain_pool c + POOL_RUN * p + k) else Reader p

-- the whole table, in order
abbrev pub stretches : Config → List Stretch
stretches c =
    record { rows = lock_count c; width = 1; name = λ i _. Lock i } ∷
    record { rows = 1; width = HEAD_WORDS; name = λ _ k. slice_index_or head_words k Update } ∷
    record { rows = c.bodies; width = BODY_WORDS; name = body_word } ∷
    record { rows = c.layers; width = c.slots + 1; name = layer_word } ∷
    record { rows = node_count c; width = NODE_WORDS; name = node_word } ∷
    record { rows = plain_pool c; width = 1; name = λ n _. PoolNext n } ∷
    record { rows = apart_readers c; width = GROUP_WORDS; name = group_word c } ∷
    record { rows = c.passes - apart_readers c; width = 1; name = λ p _. Reader (apart_readers c + p) } ∷ []

-- the name at a place of stretches in a row; past their end it says nothing
abbrev pub name_in : List Stretch → ℕ → Name
name_in [] place = Update
name_in (s ∷ rest) place =
    if nat_lt place (s.width * s.rows) then s.name (place / s.width) (place % s.width)
    else name_in rest (place - s.width * s.rows)

-- the name of the word at a place
unfoldable pub name_of : Config → ℕ → Name
name_of c place = name_in (stretches c) place
