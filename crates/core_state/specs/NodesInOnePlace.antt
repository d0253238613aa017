-- Each node is in one place: free, owned by one pass, in a published tree, superseded, or spare.
use Rattle.std.specs.Prelude.{◌≡◌, ◌≢◌, ◌↔◌, ℕ, suc, ◌+◌, ◌-◌, ◌<◌, ◌≤◌, Bool, true, false, if◌then◌else◌, List, length, Contains, option_map, IsSome, IfSome, IsSomeAnd, IsNone, ⊤}
use Rattle.word_map.specs.declared.config.Config.{Config}
use Rattle.word_map.specs.declared.name.Name.{Name}
use Rattle.word_map.specs.declared.name.Name.TheVariants.{PoolHead, PoolNext, PoolFree, Main, Slot, Update, Arena}
use Rattle.word_map.specs.Names.{node_count, pool_lock}
use Rattle.core_state.specs.declared.view.Mode.TheVariants.{Write}
use Rattle.core_state.specs.declared.view.Task.{Task}
use Rattle.core_state.specs.declared.view.Task.TheVariants.{Pooling}
use Rattle.core_state.specs.declared.view.View.{View}
use Rattle.core_state.specs.declared.view.Rebuild.{Rebuild}
use Rattle.core_state.specs.declared.view.Batch.{Batch}
use Rattle.core_state.specs.View.{Holds}
use Rattle.core_state.specs.Core.{Core}
use Rattle.core_state.specs.Scope.{Scope, Sight, sight, IsOnce, HasPass, EachPass}
use Rattle.core_state.specs.Encoding.{IsInArena}
use Rattle.core_state.specs.Parts.{call_at, task_on_pool, update_on_nodes}
use Rattle.core_state.specs.Nodes.{Nodes, free, spare, made, under, superseded, returning, IsOwnedBy, nodes_of}
use Rattle.core_state.specs.Bodies.{IsChain, all_batches}
use Rattle.core_state.specs.Updates.{EachUpdate, HasUpdate, IsMadeIn, arena_of}

abbrev pub is_pool_word : Name → Bool
is_pool_word PoolHead = true
is_pool_word (PoolNext n) = true
is_pool_word PoolFree = true
is_pool_word Update = true
is_pool_word Arena = true
is_pool_word _ = false

-- it reads those words, and of each view the locks, what it changes in the pool, the nodes that it owns, and where the
-- nodes of its update are
abbrev pub node_scope : Scope
node_scope = record {
  names = is_pool_word;
  reads_history = false;
  part = λ bare view. record bare {
    locks = view.locks;
    call = call_at (task_on_pool view.call.task);
    batches = view.batches;
    loose = view.loose;
    rebuild = option_map update_on_nodes view.rebuild;
  };
}

-- no update has loaded the number of the arena since it began
abbrev pub IsArenaUnread : Sight → Type 0
IsArenaUnread s = EachUpdate s (λ number view r. IsNone r.arena)

-- what the update of a pass says of arenas: the word is the number that it loaded, and after its own store the other
abbrev pub NamesArena : Sight → Rebuild → Type 0
NamesArena s r = IfSome r.arena (λ old. (old < 2) × (s.word Arena ≡ (if r.is_switched then 1 - old else old)))

-- the pass is changing the pool
abbrev pub IsPooling : Task → Type 0
IsPooling (Pooling taken given) = ⊤
IsPooling _ = ⊥

-- it does so under the pool's lock, and the count differs from the number of free nodes by what it took and gave
abbrev pub PoolsUnder : Sight → View → Task → ℕ → Type 0
PoolsUnder s view (Pooling taken given) many = Holds view (pool_lock s.config) Write × (s.word PoolFree + given ≡ many + taken)
PoolsUnder s view _ many = ⊤

-- a node of a tree that this word named before the update: of a slot a batch node, of a main tree one of the old arena
abbrev pub IsOfReplaced : Config → Rebuild → Name → ℕ → Type 0
IsOfReplaced c r (Slot l t) n = n < c.nodes
IsOfReplaced c r (Main l) n = IsSomeAnd r.arena (λ old. IsInArena c old n)
IsOfReplaced c r _ n = ⊥

pub record NodesInOnePlaceIn (nodes : Nodes) (s : Sight) : Type 0 where
  -- a node has one home; only nodes of the world are in use, and only those of arenas are spare
  pub in_use : (n : ℕ) → node_count s.config ≤ n → nodes.home n ≡ spare
  pub arenas : (n : ℕ) → n < s.config.nodes → nodes.home n ≢ spare
  -- the list of free nodes
  pub chain : List ℕ
  pub linked : IsChain (λ n. s.word (PoolNext n)) (s.word PoolHead) chain
  pub once : IsOnce chain
  pub free_nodes : (n : ℕ) → Contains chain n ↔ (nodes.home n ≡ free)
  pub batch_nodes : (n : ℕ) → nodes.home n ≡ free → n < s.config.nodes
  -- its count; while a pass that holds the pool's lock has taken nodes off or put nodes on since, that is another
  pub count : EachPass s (λ number view. ¬ IsPooling view.call.task) → s.word PoolFree ≡ length chain
  pub pool : EachPass s (λ number view. PoolsUnder s view view.call.task (length chain))
  -- a pass owns the nodes of its batches and those that it is to give back, which are batch nodes, and those of its update
  pub owned : (n number : ℕ) → IsOwnedBy number (nodes.home n) ↔ HasPass s number (λ view. Contains (nodes_of view) n)
  pub owned_once : EachPass s (λ number view. IsOnce (nodes_of view))
  pub batches : (batch : Batch) (n : ℕ) → Contains (all_batches s) batch → Contains batch.nodes n → n < s.config.nodes
  pub loose : EachPass s (λ number view. (n : ℕ) → Contains view.loose n → n < s.config.nodes)
  -- trees of slots are of batch nodes, main trees of nodes of one arena
  pub slot_trees : (n l t : ℕ) → nodes.home n ≡ under (Slot l t) → n < s.config.nodes
  pub main_trees : (n l : ℕ) → nodes.home n ≡ under (Main l) → IsInArena s.config (arena_of s (s.word Arena) l) n
  -- and so are those that updates make: their nodes are just those in which the update has made them. All nodes that it
  -- owns are of the arena that its trees are to be in
  pub made_trees : (n number l : ℕ) → nodes.home n ≡ made number l → s.config.nodes ≤ n
  pub made_by : (n number l : ℕ) → (nodes.home n ≡ made number l) ↔ HasPass s number (λ view. HasUpdate view (λ r. IsMadeIn s.config r l n))
  pub in_arena : EachUpdate s (λ number view r. (n : ℕ) → Contains r.nodes n → IsSomeAnd r.arena (λ old. IsInArena s.config (1 - old) n))
  -- the word of the update names the pass that has one under way
  pub update : (number : ℕ) → (s.word Update ≡ suc number) ↔ HasPass s number (λ view. IsSome view.rebuild)
  -- only until no reader is left in them are nodes superseded; from then on those of merged trees are to be given back
  pub superseded_by : (n number : ℕ) (name : Name) → nodes.home n ≡ superseded number name
      → HasPass s number (λ view. HasUpdate view (λ r. (r.is_reclaimed ≡ false) × IsOfReplaced s.config r name n))
  pub returning_by : (n number : ℕ) → nodes.home n ≡ returning number
      → (n < s.config.nodes) × HasPass s number (λ view. HasUpdate view (λ r. r.is_reclaimed ≡ true))
  -- while no update has begun to use it, the arena that the main trees are not in is spare
  pub arena : s.word Arena < 2
  pub named : EachUpdate s (λ number view r. NamesArena s r)
  pub idle : IsArenaUnread s → (n : ℕ) → IsInArena s.config (1 - s.word Arena) n → nodes.home n ≡ spare

abbrev pub NodesInOnePlace : Nodes → Core → Type 0
NodesInOnePlace nodes core = NodesInOnePlaceIn nodes (sight node_scope core)
