-- The names of words, and the counts that they are bounded by.
use Rattle.std.specs.Prelude.{ℕ, ◌+◌, ◌*◌, ◌%◌, ◌<◌}
use Rattle.word_map.specs.declared.config.Config.{Config}
use Rattle.word_map.specs.declared.name.Name.{Name}
use Rattle.word_map.specs.declared.name.Name.TheVariants.{Lock, SlotHead, SlotNext, State, Phase, Layer, User, BoxWord, LocA, LocB, Child, Bound, Parent, PoolHead, PoolNext, PoolFree, Main, Slot, Reader, Update, Arena}

-- the stripes, then the lock of the list of free indexes, then that of the pool of batch nodes
abbrev pub lock_count : Config → ℕ
lock_count c = c.stripes + 2

-- the lock of the list of free indexes
abbrev pub index_lock : Config → ℕ
index_lock c = c.stripes

-- the lock of the pool of batch nodes
abbrev pub pool_lock : Config → ℕ
pool_lock c = c.stripes + 1

-- the stripe of the body at an index
abbrev pub stripe_of : Config → ℕ → ℕ
stripe_of c index = index % c.stripes

-- an arena has a node for each body and one for each layer
abbrev pub arena_nodes : Config → ℕ
arena_nodes c = c.bodies + c.layers

-- the batch nodes and those of two arenas
abbrev pub node_count : Config → ℕ
node_count c = c.nodes + 2 * arena_nodes c

-- the attach slots of all layers
abbrev pub slot_count : Config → ℕ
slot_count c = c.layers * c.slots

-- each number of a name is one that a world of these sizes has
abbrev pub IsName : Config → Name → Type 0
IsName c (Lock i) = i < lock_count c
IsName c SlotHead = Unit {0}
IsName c (SlotNext i) = i < c.bodies
IsName c (State i) = i < c.bodies
IsName c (Phase i) = i < c.bodies
IsName c (Layer i) = i < c.bodies
IsName c (User i) = i < c.bodies
IsName c (BoxWord i k) = (i < c.bodies) × (k < 6)
IsName c (LocA i) = i < c.bodies
IsName c (LocB i) = i < c.bodies
IsName c (Child n b) = (n < node_count c) × (b < 4)
IsName c (Bound n b k) = (n < node_count c) × (b < 4) × (k < 6)
IsName c (Parent n) = n < node_count c
IsName c PoolHead = Unit {0}
IsName c (PoolNext n) = n < c.nodes
IsName c PoolFree = Unit {0}
IsName c (Main l) = l < c.layers
IsName c (Slot l t) = (l < c.layers) × (t < c.slots)
IsName c (Reader p) = p < c.passes
IsName c Update = Unit {0}
IsName c Arena = Unit {0}
