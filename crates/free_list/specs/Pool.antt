-- What the steps on the pool of free batch nodes tell.
use Rattle.std.specs.Prelude.{◌≡◌, ◌≢◌, ℕ, suc, ◌+◌, ◌<◌, ◌≤◌, Contains}
use Rattle.word_map.specs.declared.name.Name.TheVariants.{PoolHead, PoolNext, PoolFree}
use Rattle.core_state.specs.declared.view.Task.{Task}
use Rattle.core_state.specs.declared.view.Task.TheVariants.{Nothing, Pooling}
use Rattle.core_state.specs.declared.view.View.{View}
use Rattle.core_state.specs.View.{known_word}
use Rattle.core_state.specs.Lists.{MayLoadList, load_list, with_task}
use Rattle.core_state.specs.Pool.{MayStorePoolLink, store_pool_link, MayStorePoolHead, store_pool_head, node_taken, node_given, MayStorePoolCount, store_pool_count}
use Rattle.pass_table.specs.Stepping.{Stepped, Stored}
use Rattle.pass_table.specs.Knowing.{KnowsMore}
use Rattle.pass_table.specs.Calls.{StoresWord}
use Rattle.free_list.specs.Since.{IsNow}

-- how many nodes were taken off the pool, and how many put on it, since its count was stored
abbrev pub taken_in : Task → ℕ
taken_in (Pooling taken given) = taken
taken_in _ = 0

abbrev pub given_in : Task → ℕ
given_in (Pooling taken given) = given
given_in _ = 0

-- ---- loads

-- The head was loaded, under the lock. Where it names a node, this is a batch node, and it does name one while the pass
-- has taken fewer nodes than the count says. Where it is 0, the pass has taken all that were free
pub record LoadedPoolHead (view next : View) (head : ℕ) : Type 0 where
  pub step : Stepped MayLoadList load_list view PoolHead 0 0 head next
  pub more : KnowsMore view next
  pub is : known_word next PoolHead ≡ head
  pub some : (node : ℕ) → head ≡ suc node → node < view.config.nodes
  pub left : taken_in view.call.task < known_word view PoolFree → head ≢ 0
  pub none : head ≡ 0 → known_word view PoolFree + given_in view.call.task ≡ taken_in view.call.task
  -- the nodes that the pass is to give back are batch nodes
  pub loose : (node : ℕ) → Contains view.loose node → node < view.config.nodes

-- the link of a node was loaded
pub record LoadedPoolLink (view next : View) (node link : ℕ) : Type 0 where
  pub step : Stepped MayLoadList load_list view (PoolNext node) 0 0 link next
  pub more : KnowsMore view next
  pub is : known_word next (PoolNext node) ≡ link

-- the count was loaded: it is how many nodes are free, but for what the pass took and gave since it was stored
pub record LoadedCount (view next : View) (count : ℕ) : Type 0 where
  pub step : Stepped MayLoadList load_list view PoolFree 0 0 count next
  pub more : KnowsMore view next
  pub is : known_word next PoolFree ≡ count
  pub many : ℕ
  pub counts : count + given_in view.call.task ≡ many + taken_in view.call.task
  pub most : many ≤ view.config.nodes

-- ---- stores

-- the first node was taken off: the head is its link, and the newest batch of the pass has the node
pub record TookNode (view next : View) (node link : ℕ) : Type 0 where
  pub step : Stored MayStorePoolHead store_pool_head view PoolHead link next
  pub stores : StoresWord view next PoolHead link
  pub now : IsNow (node_taken view node) next

-- the link of a node was stored
pub record LinkedNode (view next : View) (node head : ℕ) : Type 0 where
  pub step : Stored MayStorePoolLink store_pool_link view (PoolNext node) head next
  pub stores : StoresWord view next (PoolNext node) head
  pub now : IsNow view next

-- a node was put in front, and is no longer to be given back
pub record GaveNode (view next : View) (node : ℕ) : Type 0 where
  pub step : Stored MayStorePoolHead store_pool_head view PoolHead (suc node) next
  pub stores : StoresWord view next PoolHead (suc node)
  pub now : IsNow (node_given view node) next

-- the count was stored, and nothing is half done
pub record StoredCount (view next : View) (count : ℕ) : Type 0 where
  pub step : Stored MayStorePoolCount store_pool_count view PoolFree count next
  pub stores : StoresWord view next PoolFree count
  pub now : IsNow (with_task view Nothing) next
