-- The steps on the pool of free batch nodes, under its lock: nodes are taken for the newest batch, and given back.
use Rattle.std.specs.Prelude.{◌≡◌, ◌≢◌, ℕ, zero, suc, ◌+◌, ◌-◌, ◌==◌, not, if◌then◌else◌, [], ◌∷◌, ◌++◌, filter, Contains, None, ⊤}
use Rattle.std.specs.List.{list_any}
use Rattle.word_map.specs.declared.name.Name.{Name}
use Rattle.word_map.specs.declared.name.Name.TheVariants.{PoolHead, PoolNext, PoolFree}
use Rattle.word_map.specs.Names.{pool_lock}
use Rattle.core_state.specs.declared.view.Mode.TheVariants.{Write}
use Rattle.core_state.specs.declared.view.Task.{Task}
use Rattle.core_state.specs.declared.view.Task.TheVariants.{Nothing, Pooling}
use Rattle.core_state.specs.declared.view.View.{View}
use Rattle.core_state.specs.View.{Holds, known_word}
use Rattle.core_state.specs.Operation.{store}
use Rattle.core_state.specs.Kind.{Kind}
use Rattle.core_state.specs.Lists.{with_task}
use Rattle.core_state.specs.Batches.{change_newest, written_outside}

-- nothing is half done, or just that the pool is being changed
abbrev pub IsPoolTask : Task → Type 0
IsPoolTask Nothing = ⊤
IsPoolTask (Pooling taken given) = ⊤
IsPoolTask _ = ⊥

-- the pass has the pool's lock, and changes nothing but the pool
pub record HasPool (view : View) : Type 0 where
  pub lock : Holds view (pool_lock view.config) Write
  pub idle : IsPoolTask view.call.task

-- storing a link asks for a node that the pass is to give back; the link is the head
pub record MayStorePoolLink (view : View) (name : Name) (value second : ℕ) : Type 0 where
  pub node : ℕ
  pub names : name ≡ PoolNext node
  pub pool : HasPool view
  pub owns : Contains view.loose node
  pub link : value ≡ known_word view PoolHead

-- Kind 10, store a link of the pool
abbrev pub store_pool_link : Kind
store_pool_link = record {
  operation = store;
  entry = λ view name value. None;
  leaves = λ view name found first second. view;
}

-- taking the first node off: the head becomes its link, and the newest batch has the node
pub record TakesNode (view : View) (value : ℕ) : Type 0 where
  pub node : ℕ
  pub head : known_word view PoolHead ≡ suc node
  pub next : value ≡ known_word view (PoolNext node)
  pub preparing : view.batches ≢ []

-- giving a node back: its link is the head
pub record GivesNode (view : View) (value : ℕ) : Type 0 where
  pub node : ℕ
  pub owns : Contains view.loose node
  pub link : known_word view (PoolNext node) ≡ known_word view PoolHead
  pub head : value ≡ suc node

pub data ChangesPool (view : View) (value : ℕ) : Type 0 where
  takes_node : TakesNode view value → ChangesPool view value
  gives_node : GivesNode view value → ChangesPool view value

pub record MayStorePoolHead (view : View) (name : Name) (value second : ℕ) : Type 0 where
  pub names : name ≡ PoolHead
  pub pool : HasPool view
  pub change : ChangesPool view value

-- one node more was taken, or given
abbrev pub one_taken : Task → Task
one_taken (Pooling taken given) = Pooling (suc taken) given
one_taken _ = Pooling 1 0

abbrev pub one_given : Task → Task
one_given (Pooling taken given) = Pooling taken (suc given)
one_given _ = Pooling 0 1

abbrev pub node_taken : View → ℕ → View
node_taken view node = record (with_task view (one_taken view.call.task)) { batches = change_newest (λ b. record b { nodes = b.nodes ++ node ∷ [] }) view.batches }

abbrev pub node_given : View → ℕ → View
node_given view node = record (with_task view (one_given view.call.task)) { loose = filter (λ n. not (n == node)) view.loose; written = written_outside (node ∷ []) view.written }

-- where the new head names a node that the pass is to give back, this was given; else the one that was first was taken
abbrev pub pool_by_head : View → ℕ → ℕ → View
pool_by_head view found zero = node_taken view (found - 1)
pool_by_head view found (suc node) = if list_any (λ n. n == node) view.loose then node_given view node else node_taken view (found - 1)

-- Kind 11, store the head of the pool
abbrev pub store_pool_head : Kind
store_pool_head = record {
  operation = store;
  entry = λ view name value. None;
  leaves = λ view name found value second. pool_by_head view found value;
}

-- the count is what it was, less what was taken and more by what was given; where nothing was, it is stored again
pub data CountsPool (view : View) (value : ℕ) : Type 0 where
  counts_changes : (taken given : ℕ) → view.call.task ≡ Pooling taken given → value + taken ≡ known_word view PoolFree + given → CountsPool view value
  counts_again : view.call.task ≡ Nothing → value ≡ known_word view PoolFree → CountsPool view value

-- storing the count of free nodes asks for the pool's lock
pub record MayStorePoolCount (view : View) (name : Name) (value second : ℕ) : Type 0 where
  pub names : name ≡ PoolFree
  pub lock : Holds view (pool_lock view.config) Write
  pub count : CountsPool view value

-- Kind 11, store the number of free nodes
abbrev pub store_pool_count : Kind
store_pool_count = record {
  operation = store;
  entry = λ view name value. None;
  leaves = λ view name found first second. with_task view Nothing;
}
