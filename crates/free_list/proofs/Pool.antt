-- What the steps on the pool of free batch nodes tell.
use Rattle.std.proofs.Common.{◌≡◌, ◌≢◌, ℕ, zero, suc, ◌+◌, ◌-◌, ◌<◌, ◌≤◌, List, [], Bool, true, false, Contains, None, cond, length, get_or, eqb, refl, ap, sym, ◌∙◌, subst, arith}
use Rattle.std.specs.Prelude.{◌==◌, flat_map}
use Rattle.std.proofs.lemmas.Bool.{eq-eqb, ne_eqb, eqb-true}
use Rattle.std.proofs.lemmas.List.Elements.{Contains-get_or, Contains-append_right}
use Rattle.std.proofs.lemmas.List.Folds.{list_any_at, list_any_none}
use Rattle.std.proofs.lemmas.Map.Made.{IsDistinct-from_AllPairs}
use Rattle.std.proofs.lemmas.Map.Steps.{length-le_from_distinct_below}
use Rattle.std.proofs.lemmas.Map.Views.{Contains-from_any}
use Rattle.word_map.specs.declared.config.Config.{Config}
use Rattle.word_map.specs.declared.name.Name.{Name}
use Rattle.word_map.specs.declared.name.Name.TheVariants.{PoolHead, PoolNext, PoolFree}
use Rattle.word_map.specs.Names.{pool_lock}
use Rattle.core_state.specs.declared.view.Mode.TheVariants.{Write}
use Rattle.core_state.specs.declared.view.Task.{Task}
use Rattle.core_state.specs.declared.view.Task.TheVariants.{Pooling}
use Rattle.core_state.specs.declared.view.Batch.{Batch}
use Rattle.core_state.specs.declared.view.View.{View}
use Rattle.core_state.specs.View.{Holds, known_word}
use Rattle.core_state.specs.Core.{Core, word_of}
use Rattle.core_state.specs.Kind.{Kind, Asking, Step}
use Rattle.core_state.specs.Parts.{task_on_pool}
use Rattle.core_state.specs.Scope.{Sight, sight}
use Rattle.core_state.specs.Bodies.{IsChain}
use Rattle.core_state.specs.NodesInOnePlace.{NodesInOnePlace, node_scope, IsPooling, PoolsUnder}
use Rattle.core_state.specs.Lists.{MayLoadList, load_list}
use Rattle.core_state.specs.Pool.{HasPool, MayStorePoolLink, store_pool_link, TakesNode, node_taken, node_given, pool_by_head, MayStorePoolHead, store_pool_head, MayStorePoolCount, counts_changes, store_pool_count}
use Rattle.core_state.proofs.Beginning.{contains_first}
use Rattle.core_guard.proofs.Chains.{chain-end, chain-first}
use Rattle.core_guard.proofs.Leaving.{Acts}
use Rattle.core_guard.proofs.NodesLeft.{pool-own, pool-idle}
use Rattle.core_guard.proofs.Seats.{seen_of}
use Rattle.core_batch.proofs.Lists.{contains_later}
use Rattle.core_batch.proofs.Owning.{batch-below, batch-home}
use Rattle.core_batch.proofs.PoolSteps.{IsPoolWord, world-pool, pool-now}
use Rattle.core_batch.proofs.Rehome.{free_owned}
use Rattle.pass_table.specs.Stepping.{step_by, Stepped, Stored}
use Rattle.pass_table.specs.Knowing.{KnowsMore}
use Rattle.pass_table.specs.Calls.{StoresWord}
use Rattle.pass_table.proofs.Knowing.{knows-more}
use Rattle.pass_table.proofs.Calling.{loaded-word, stepped-sizes, stores-word}
use Rattle.free_list.specs.Pool.{taken_in, given_in, LoadedPoolHead, LoadedPoolLink, LoadedCount, TookNode, LinkedNode, GaveNode, StoredCount}

-- ---- loads

module _ (view next : View) (name : Name) (found : ℕ) (stepped : Stepped MayLoadList load_list view name 0 0 found next) where
  list-more : KnowsMore view next
  list-more = knows-more MayLoadList load_list view next name 0 0 found stepped (λ v n f a b. refl) (λ w operand. refl)

  list-word : known_word next name ≡ found
  list-word = loaded-word MayLoadList load_list view next name 0 0 found stepped (λ w operand. refl)

-- the step was made where all holds
acts-by : (asks : Asking) (kind : Kind) (view next : View) (name : Name) (first second found : ℕ) (stepped : Stepped asks kind view name first second found next)
    → Acts stepped.before (step_by stepped.seat view stepped.number name first second)
acts-by asks kind view next name first second found stepped =
    let allowed = stepped.allowed in
    let stands = stepped.stands in
    record { at = allowed.at; pass = allowed.pass; named = allowed.named; formed = stands.formed; guards = stands.guards; laws = stands.laws }

-- the count is the number of free nodes, but for what the own task took and gave
count-under : (s : Sight) (view : View) (task : Task) (many : ℕ) → PoolsUnder s view (task_on_pool task) many → (¬ IsPooling (task_on_pool task) → s.word PoolFree ≡ many)
    → s.word PoolFree + given_in task ≡ many + taken_in task
count-under s view (Pooling taken given) many own idle = own.1
count-under s view _ many own idle = ap (λ (n : ℕ). n + 0) (idle (λ none. none))

same_numbers : (a b : ℕ) → (eqb a b ≡ true → a ≡ b) × (a ≡ b → eqb a b ≡ true)
same_numbers a b = (eqb-true a b, eq-eqb a b)

-- under the lock of the pool
module _ (view next : View) (name : Name) (found : ℕ) (pool : HasPool view) (stepped : Stepped MayLoadList load_list view name 0 0 found next)
  where
    core : Core
    core = stepped.before

    abbrev loading : Step
    loading = step_by stepped.seat view stepped.number name 0 0

    sizes : view.config ≡ stepped.before.config
    sizes = stepped-sizes MayLoadList load_list view next name 0 0 found stepped

    places : NodesInOnePlace stepped.stands.laws.nodes stepped.before
    places = stepped.stands.laws.places

    acts : Acts stepped.before loading
    acts = acts-by MayLoadList load_list view next name 0 0 found stepped

    lock : Holds view (pool_lock stepped.before.config) Write
    lock = world-pool stepped.before loading acts pool.lock

    -- how many nodes are free
    abbrev free_nodes : ℕ
    free_nodes = length places.chain

    free-count : word_of stepped.before PoolFree + given_in view.call.task ≡ free_nodes + taken_in view.call.task
    unfolding places acts acts-by
    free-count =
        count-under (sight node_scope stepped.before) (seen_of node_scope stepped.number view) view.call.task (length places.chain)
        (pool-own load_list stepped.before loading acts lock) (pool-idle load_list stepped.before loading acts lock)

    free-most : free_nodes ≤ view.config.nodes
    free-most =
        subst (λ (c : Config). length places.chain ≤ c.nodes) (sym sizes)
        (length-le_from_distinct_below places.chain stepped.before.config.nodes (IsDistinct-from_AllPairs same_numbers places.chain places.once)
        (λ q any. places.batch_nodes q ((places.free_nodes q).0 (Contains-from_any eqb-true q places.chain any))))

    -- a word of the pool is the one that was known
    known-free : word_of stepped.before PoolFree ≡ known_word view PoolFree
    known-free = pool-now stepped.before loading acts pool.lock PoolFree tt

    -- what the pass is to give back is a batch node
    loose-below : (node : ℕ) → Contains view.loose node → node < view.config.nodes
    loose-below node loose =
        subst (λ (c : Config). node < c.nodes) (sym sizes)
        (batch-below stepped.before stepped.stands.laws.nodes places stepped.seat stepped.number view stepped.allowed.at stepped.allowed.pass node
        (Contains-append_right (flat_map (λ (b : Batch). b.nodes) view.batches) view.loose node loose))

    -- the head
    module _ (head : word_of stepped.before PoolHead ≡ found) where
      abbrev link : ℕ → ℕ
      link n = word_of stepped.before (PoolNext n)

      linked : IsChain link found places.chain
      linked = subst (λ (n : ℕ). IsChain link n places.chain) head places.linked

      head-below : (node : ℕ) → found ≡ suc node → node < view.config.nodes
      head-below node names =
          let first = chain-first link node places.chain (subst (λ (k : ℕ). IsChain link k places.chain) names linked) in
          let among : Contains places.chain node = subst (λ (l : List ℕ). Contains l node) (sym first.1) (contains_first node first.0) in
          subst (λ (c : Config). node < c.nodes) (sym sizes) (places.batch_nodes node ((places.free_nodes node).0 among))

      head-none : found ≡ 0 → known_word view PoolFree + given_in view.call.task ≡ taken_in view.call.task
      head-none none =
          let empty : places.chain ≡ [] = chain-end link places.chain (subst (λ (n : ℕ). IsChain link n places.chain) none linked) in
          let no_length : length places.chain ≡ 0 = ap (λ (l : List ℕ). length l) empty in
          let known = known-free in
          let count = free-count in
          omega arith

      head-left : taken_in view.call.task < known_word view PoolFree → found ≢ 0
      head-left less none = let all = head-none none in omega arith

pub loaded-head : (view next : View) (head : ℕ) → HasPool view → Stepped MayLoadList load_list view PoolHead 0 0 head next → LoadedPoolHead view next head
loaded-head view next head pool stepped = record {
  step = stepped;
  more = list-more view next PoolHead head stepped;
  is = list-word view next PoolHead head stepped;
  some = head-below view next PoolHead head pool stepped (sym stepped.finds);
  left = head-left view next PoolHead head pool stepped (sym stepped.finds);
  none = head-none view next PoolHead head pool stepped (sym stepped.finds);
  loose = loose-below view next PoolHead head pool stepped;
}

pub loaded-link : (view next : View) (node link : ℕ) → Stepped MayLoadList load_list view (PoolNext node) 0 0 link next → LoadedPoolLink view next node link
loaded-link view next node link stepped = record {
  step = stepped;
  more = list-more view next (PoolNext node) link stepped;
  is = list-word view next (PoolNext node) link stepped;
}

pub loaded-count : (view next : View) (count : ℕ) → HasPool view → Stepped MayLoadList load_list view PoolFree 0 0 count next → LoadedCount view next count
loaded-count view next count pool stepped = record {
  step = stepped;
  more = list-more view next PoolFree count stepped;
  is = list-word view next PoolFree count stepped;
  many = free_nodes view next PoolFree count pool stepped;
  counts = ap (λ (n : ℕ). n + given_in view.call.task) stepped.finds ∙ free-count view next PoolFree count pool stepped;
  most = free-most view next PoolFree count pool stepped;
}

-- ---- stores

-- what a step leaves, by the word that it found
pub now-by : (asks : Asking) (kind : Kind) (view next : View) (name : Name) (first second found : ℕ) (stepped : Stepped asks kind view name first second found next)
    → next ≡ record (kind.leaves (record view { known = stepped.before.log }) name found first second) { config = view.config; role = view.role; known = next.known; joined = None }
now-by asks kind view next name first second found stepped =
    stepped.leaves
    ∙ (λ i. record (kind.leaves (record view { known = stepped.before.log }) name (sym stepped.finds i) first second) {
      config = view.config;
      role = view.role;
      known = sym (ap (λ (v : View). v.known) stepped.leaves) i;
      joined = None;
    })

pub linked-node : (view next : View) (node head : ℕ) → Stored MayStorePoolLink store_pool_link view (PoolNext node) head next → LinkedNode view next node head
linked-node view next node head stored = record {
  step = stored;
  stores = stores-word MayStorePoolLink store_pool_link view next (PoolNext node) head refl stored;
  now = now-by MayStorePoolLink store_pool_link view next (PoolNext node) head 0 stored.0 stored.1;
}

-- what storing the count asks, by the task
pub may-count : (view : View) (count : ℕ) → HasPool view → (task : Task) → view.call.task ≡ task → IsPooling task → count + taken_in task ≡ known_word view PoolFree + given_in task → MayStorePoolCount view PoolFree count 0
may-count view count pool (Pooling taken given) same pooling counts = record { names = refl; lock = pool.lock; count = counts_changes taken given same counts }
may-count view count pool _ same pooling counts = absurd pooling

pub stored-count : (view next : View) (count : ℕ) → Stored MayStorePoolCount store_pool_count view PoolFree count next → StoredCount view next count
stored-count view next count stored = record {
  step = stored;
  stores = stores-word MayStorePoolCount store_pool_count view next PoolFree count refl stored;
  now = now-by MayStorePoolCount store_pool_count view next PoolFree count 0 stored.0 stored.1;
}

-- the head is stored: the first node is taken, where the new head is no node that the pass is to give back
by-taking : (view : View) (found node value : ℕ) → found ≡ suc node → ((y : ℕ) → value ≡ suc y → ¬ Contains view.loose y) → pool_by_head view found value ≡ node_taken view node
by-taking view found node zero first none = let is : found - 1 ≡ node = omega arith in ap (λ (k : ℕ). node_taken view k) is
by-taking view found node (suc y) first none =
    let is : found - 1 ≡ node = omega arith in
    ap (λ (t : Bool). cond t (node_given view y) (node_taken view (found - 1)))
    (list_any_none (λ n. n == y) view.loose (λ k d below. ne_eqb (get_or view.loose k d) y (λ same. none y refl (subst (λ (z : ℕ). Contains view.loose z) same (Contains-get_or view.loose k d below)))))
    ∙ ap (λ (k : ℕ). node_taken view k) is

-- and else that one is given
by-giving : (view : View) (found node : ℕ) → Contains view.loose node → pool_by_head view found (suc node) ≡ node_given view node
by-giving view found node among =
    ap (λ (t : Bool). cond t (node_given view node) (node_taken view (found - 1))) (list_any_at (λ n. n == node) view.loose among.0 node among.1 (eq-eqb (get_or view.loose among.0 node) node among.2))

module _ (view next : View) (value : ℕ) (pool : HasPool view) (stored : Stored MayStorePoolHead store_pool_head view PoolHead value next) where
  abbrev storing : Step
  storing = step_by stored.1.seat view stored.1.number PoolHead value 0

  -- a word of the pool is the one that was known
  known-pool : (name : Name) → IsPoolWord name → word_of stored.1.before name ≡ known_word view name
  known-pool name of_pool =
      pool-now stored.1.before storing (acts-by MayStorePoolHead store_pool_head view next PoolHead value 0 stored.0 stored.1) pool.lock name of_pool

  store-places : NodesInOnePlace stored.1.stands.laws.nodes stored.1.before
  store-places = stored.1.stands.laws.places

  left : next ≡ record (pool_by_head (record view { known = stored.1.before.log }) stored.0 value) { config = view.config; role = view.role; known = next.known; joined = None }
  left = now-by MayStorePoolHead store_pool_head view next PoolHead value 0 stored.0 stored.1

  -- the second node of the pool is not loose
  second-free : (takes : TakesNode view value) (y : ℕ) → value ≡ suc y → ¬ Contains view.loose y
  second-free takes y is among =
      let next_of = λ (n : ℕ). word_of stored.1.before (PoolNext n) in
      let head : word_of stored.1.before PoolHead ≡ suc takes.node = known-pool PoolHead tt ∙ takes.head in
      let one = chain-first next_of takes.node store-places.chain (subst (λ (k : ℕ). IsChain next_of k store-places.chain) head store-places.linked) in
      let second : word_of stored.1.before (PoolNext takes.node) ≡ suc y = known-pool (PoolNext takes.node) tt ∙ (sym takes.next ∙ is) in
      let two = chain-first next_of y one.0 (subst (λ (k : ℕ). IsChain next_of k one.0) second one.2) in
      let rest : Contains one.0 y = subst (λ (l : List ℕ). Contains l y) (sym two.1) (contains_first y two.0) in
      let is_free = (store-places.free_nodes y).0 (subst (λ (l : List ℕ). Contains l y) (sym one.1) (contains_later takes.node one.0 y rest)) in
      free_owned stored.1.number
      (sym is_free
      ∙ batch-home stored.1.before stored.1.stands.laws.nodes store-places stored.1.seat stored.1.number view stored.1.allowed.at stored.1.allowed.pass y
      (Contains-append_right (flat_map (λ (b : Batch). b.nodes) view.batches) view.loose y among))

  pub took-node : TakesNode view value → (node : ℕ) → known_word view PoolHead ≡ suc node → TookNode view next node value
  took-node takes node names = record {
    step = stored;
    stores = stores-word MayStorePoolHead store_pool_head view next PoolHead value refl stored;
    now =
        left
        ∙ ap (λ (v : View). record v { config = view.config; role = view.role; known = next.known; joined = None })
        (by-taking (record view { known = stored.1.before.log }) stored.0 node value (stored.1.finds ∙ (known-pool PoolHead tt ∙ names)) (second-free takes));
  }

  pub gave-node : (node : ℕ) → Contains view.loose node → value ≡ suc node → GaveNode view next node
  gave-node node loose front = record {
    step = subst (λ (n : ℕ). Stored MayStorePoolHead store_pool_head view PoolHead n next) front stored;
    stores = subst (λ (n : ℕ). StoresWord view next PoolHead n) front (stores-word MayStorePoolHead store_pool_head view next PoolHead value refl stored);
    now =
        left
        ∙ ap (λ (v : View). record v { config = view.config; role = view.role; known = next.known; joined = None })
        (ap (pool_by_head (record view { known = stored.1.before.log }) stored.0) front ∙ by-giving (record view { known = stored.1.before.log }) stored.0 node loose);
  }
