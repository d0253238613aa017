-- The nodes are in one place after a link of the pool, or its count, is stored.
use Rattle.std.proofs.Common.{◌≡◌, ◌≢◌, ℕ, ◌+◌, length, Some, Contains, refl, ap, sym, ◌∙◌, subst, arith}
use Rattle.std.specs.Prelude.{⊤, flat_map}
use Rattle.std.proofs.lemmas.List.Elements.{Contains-append_right}
use Rattle.word_map.specs.declared.config.Config.{Config}
use Rattle.word_map.specs.declared.name.Name.{Name}
use Rattle.word_map.specs.declared.name.Name.TheVariants.{PoolHead, PoolNext, PoolFree}
use Rattle.word_map.specs.Names.{pool_lock}
use Rattle.core_state.specs.declared.view.Mode.TheVariants.{Write}
use Rattle.core_state.specs.declared.view.Task.{Task}
use Rattle.core_state.specs.declared.view.Task.TheVariants.{Pooling}
use Rattle.core_state.specs.declared.view.View.{View}
use Rattle.core_state.specs.View.{Holds, known_word}
use Rattle.core_state.specs.Core.{Core, word_of}
use Rattle.core_state.specs.Kind.{Step, after_step}
use Rattle.core_state.specs.Nodes.{free, owned}
use Rattle.core_state.specs.Parts.{task_on_pool}
use Rattle.core_state.specs.Guards.{by_lock, guard_of}
use Rattle.core_state.specs.NodesInOnePlace.{NodesInOnePlace, node_scope, IsPooling, PoolsUnder}
use Rattle.core_state.specs.Pool.{IsPoolTask, MayStorePoolLink, store_pool_link, CountsPool, counts_changes, counts_again, MayStorePoolCount, store_pool_count}
use Rattle.core_state.specs.Scope.{Sight, sight}
use Rattle.core_state.proofs.Steps.{word-step, word-step-other}
use Rattle.core_guard.proofs.BodiesStep.{sound, known-now}
use Rattle.core_guard.proofs.Chains.{chain-kept}
use Rattle.core_guard.proofs.Leaving.{Acts, lawful}
use Rattle.core_guard.proofs.NodesLeft.{same-homes, same-nodes, tree-part, pool-part, pool-own, pool-idle, owner-stays, together}
use Rattle.core_guard.proofs.Seats.{seen_of}
use Rattle.core_batch.proofs.Owning.{batch-home}
use Rattle.core_batch.proofs.Rehome.{free_owned}

-- a word of the pool
abbrev pub IsPoolWord : Name → Type 0
IsPoolWord PoolHead = ⊤
IsPoolWord (PoolNext n) = ⊤
IsPoolWord PoolFree = ⊤
IsPoolWord _ = ⊥

pool_guard : (c : Config) (name : Name) → IsPoolWord name → guard_of c name ≡ Some (pool_lock c)
pool_guard c PoolHead h = refl
pool_guard c (PoolNext n) h = refl
pool_guard c PoolFree h = refl
pool_guard c _ h = absurd h

-- the node whose link it is
abbrev linked_node : Name → ℕ
linked_node (PoolNext n) = n
linked_node _ = 0

module _ (core : Core) (step : Step) (a : Acts core step) (lock : Holds step.view (pool_lock step.view.config) Write) where
  -- the lock of the pool, by the sizes of the world
  pub world-pool : Holds step.view (pool_lock core.config) Write
  world-pool = subst (λ (c : Config). Holds step.view (pool_lock c) Write) (sound store_pool_link core step a.at a.pass a.formed).config lock

  -- a word of the pool is the one that was known
  pub pool-now : (name : Name) → IsPoolWord name → word_of core name ≡ known_word step.view name
  pool-now name word = known-now store_pool_link core step a.at a.pass name a.formed a.guards (by_lock (pool_lock core.config) Write world-pool (pool_guard core.config name word))

-- ---- the count

-- the task is just that the pool is being changed
count-done : (s : Sight) (view : View) (task : Task) (taken given many value : ℕ) → task ≡ Pooling taken given → PoolsUnder s view (task_on_pool task) many → value + taken ≡ s.word PoolFree + given → value ≡ many
count-done s view task taken given many value is own count =
    let under = subst (λ (t : Task). PoolsUnder s view (task_on_pool t) many) is own in
    let now = under.1 in
    omega arith

-- it is stored between steps on the pool, or by a pass that does nothing
pub counting-pool : (view : View) (value : ℕ) → CountsPool view value → IsPoolTask view.call.task
counting-pool view value (counts_changes taken given task count) = subst IsPoolTask (sym task) tt
counting-pool view value (counts_again task same) = subst IsPoolTask (sym task) tt

pub NodesInOnePlace-store_pool_count : (core : Core) (step : Step) (a : Acts core step) → MayStorePoolCount step.view step.name step.first step.second → NodesInOnePlace a.laws.nodes (after_step store_pool_count core step)
NodesInOnePlace-store_pool_count core step a asked =
    let h = a.laws.places in
    let lock = world-pool core step a asked.lock in
    let old = sight node_scope core in
    let new = sight node_scope (after_step store_pool_count core step) in
    let now = pool-now core step a asked.lock PoolFree tt in
    let done : step.first ≡ length h.chain =
    elim (asked.count) [
      | counts_changes taken given task count ↦
          count-done old (seen_of node_scope step.number step.view) step.view.call.task taken given (length h.chain) step.first task (pool-own store_pool_count core step a lock) (omega arith)
      | counts_again task same ↦
          same ∙ (sym now ∙ pool-idle store_pool_count core step a lock (λ pooling. subst (λ (t : Task). IsPooling (task_on_pool t)) task pooling))
    ]
    in
    let stored : new.word PoolFree ≡ step.first = ap (λ (n : Name). word_of (after_step store_pool_count core step) n) (sym asked.names) ∙ word-step store_pool_count core step in
    let head : new.word PoolHead ≡ old.word PoolHead = word-step-other store_pool_count core step PoolHead (λ same. let e = same ∙ asked.names in absurd cc) in
    let next : (n : ℕ) → new.word (PoolNext n) ≡ old.word (PoolNext n) = λ n. word-step-other store_pool_count core step (PoolNext n) (λ same. let e = same ∙ asked.names in absurd cc) in
    together (after_step store_pool_count core step) a.laws.nodes
    (pool-part store_pool_count core step a lock a.laws.nodes h.chain
    (rw head (chain-kept (λ n. old.word (PoolNext n)) (λ n. new.word (PoolNext n)) (old.word PoolHead) h.chain (λ n c. next n) h.linked)) h.once h.free_nodes h.batch_nodes
    (λ quiet. stored ∙ done) tt)
    (owner-stays store_pool_count core step (lawful a) (same-nodes store_pool_count core step refl refl refl))
    (tree-part store_pool_count core step (lawful a) (record { rebuild = refl; update = λ same. let e = same ∙ asked.names in absurd cc; arena = λ same. let e = same ∙ asked.names in absurd cc })
    a.laws.nodes (same-homes core a.laws.nodes))

-- ---- a link

-- what a task says of the pool, where the count is the same
pools-same : (s t : Sight) (view : View) (task : Task) (many : ℕ) → t.config ≡ s.config → t.word PoolFree ≡ s.word PoolFree → PoolsUnder s view task many → PoolsUnder t view task many
pools-same s t view (Pooling taken given) many config same h = (subst (λ (c : Config). Holds view (pool_lock c) Write) (sym config) h.0, ap (λ (k : ℕ). k + given) same ∙ h.1)
pools-same s t view _ many config same h = tt

-- the node whose link is stored is in no list of the pool
pub NodesInOnePlace-linked : (core : Core) (step : Step) (a : Acts core step) (node : ℕ) → step.name ≡ PoolNext node → Holds step.view (pool_lock core.config) Write → a.laws.nodes.home node ≢ free
    → NodesInOnePlace a.laws.nodes (after_step store_pool_link core step)
NodesInOnePlace-linked core step a node names lock elsewhere =
    let h = a.laws.places in
    let old = sight node_scope core in
    let new = sight node_scope (after_step store_pool_link core step) in
    let head : new.word PoolHead ≡ old.word PoolHead = word-step-other store_pool_link core step PoolHead (λ same. let e = same ∙ names in absurd cc) in
    let count : new.word PoolFree ≡ old.word PoolFree = word-step-other store_pool_link core step PoolFree (λ same. let e = same ∙ names in absurd cc) in
    let next : (n : ℕ) → Contains h.chain n → new.word (PoolNext n) ≡ old.word (PoolNext n) = λ n c.
    word-step-other store_pool_link core step (PoolNext n)
    (λ same.
    let one : n ≡ node = ap linked_node (same ∙ names) in
    elsewhere (ap a.laws.nodes.home (sym one) ∙ (h.free_nodes n).0 c))
    in
    together (after_step store_pool_link core step) a.laws.nodes
    (pool-part store_pool_link core step a lock a.laws.nodes h.chain
    (rw head (chain-kept (λ n. old.word (PoolNext n)) (λ n. new.word (PoolNext n)) (old.word PoolHead) h.chain next h.linked)) h.once h.free_nodes h.batch_nodes
    (λ quiet. count ∙ pool-idle store_pool_link core step a lock quiet)
    (pools-same old new (seen_of node_scope step.number step.view) (task_on_pool step.view.call.task) (length h.chain) refl count (pool-own store_pool_link core step a lock)))
    (owner-stays store_pool_link core step (lawful a) (same-nodes store_pool_link core step refl refl refl))
    (tree-part store_pool_link core step (lawful a) (record { rebuild = refl; update = λ same. let e = same ∙ names in absurd cc; arena = λ same. let e = same ∙ names in absurd cc })
    a.laws.nodes (same-homes core a.laws.nodes))

pub NodesInOnePlace-store_pool_link : (core : Core) (step : Step) (a : Acts core step) → MayStorePoolLink step.view step.name step.first step.second → NodesInOnePlace a.laws.nodes (after_step store_pool_link core step)
NodesInOnePlace-store_pool_link core step a asked =
    let among = Contains-append_right (flat_map (λ b. b.nodes) step.view.batches) step.view.loose asked.node asked.owns in
    let home : a.laws.nodes.home asked.node ≡ owned step.number = batch-home core a.laws.nodes a.laws.places step.seat step.number step.view a.at a.pass asked.node among in
    NodesInOnePlace-linked core step a asked.node asked.names (world-pool core step a asked.pool.lock) (λ e. free_owned step.number (sym e ∙ home))
