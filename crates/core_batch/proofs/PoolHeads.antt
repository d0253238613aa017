-- The head of the pool is stored: a node is taken, or given back. What each is, and where the nodes are afterwards.
use Rattle.std.proofs.Common.{◌≡◌, ◌≢◌, ℕ, zero, suc, ◌-◌, List, [], Bool, cond, get_or, Contains, refl, ap, sym, ◌∙◌, subst, arith}
use Rattle.std.specs.Prelude.{◌==◌, flat_map}
use Rattle.std.proofs.lemmas.Bool.{eq-eqb, ne_eqb}
use Rattle.std.proofs.lemmas.List.Elements.{Contains-get_or, Contains-append_right}
use Rattle.std.proofs.lemmas.List.Folds.{list_any_at, list_any_none}
use Rattle.word_map.specs.declared.name.Name.TheVariants.{PoolHead, PoolNext}
use Rattle.core_state.specs.Core.{Core, word_of}
use Rattle.core_state.specs.Kind.{Step, learned, found_by}
use Rattle.core_state.specs.Nodes.{Nodes, free, owned}
use Rattle.core_state.specs.Bodies.{IsChain}
use Rattle.core_state.specs.Pool.{ChangesPool, takes_node, gives_node, node_taken, node_given, pool_by_head, MayStorePoolHead}
use Rattle.core_state.proofs.Beginning.{contains_first}
use Rattle.core_guard.proofs.Chains.{chain-first}
use Rattle.core_guard.proofs.Leaving.{Acts}
use Rattle.core_batch.proofs.Lists.{contains_later}
use Rattle.core_batch.proofs.Owning.{batch-home}
use Rattle.core_batch.proofs.PoolSteps.{pool-now}
use Rattle.core_batch.proofs.Rehome.{free_owned, rehome}

-- the node x is taken: it was the first one, and is now one of the newest batch
pub record IsTaking (core : Core) (step : Step) (x : ℕ) : Type 0 where
  pub head : word_of core PoolHead ≡ suc x
  pub next : step.first ≡ word_of core (PoolNext x)
  pub preparing : step.view.batches ≢ []
  pub left : pool_by_head (learned core step) (found_by core step) step.first ≡ node_taken (learned core step) x

-- the node x is given back: it was to be, and is now the first one
pub record IsGiving (core : Core) (step : Step) (x : ℕ) : Type 0 where
  pub loose : Contains step.view.loose x
  pub link : word_of core (PoolNext x) ≡ word_of core PoolHead
  pub value : step.first ≡ suc x
  pub left : pool_by_head (learned core step) (found_by core step) step.first ≡ node_given (learned core step) x

pub data HeadStep (core : Core) (step : Step) : Type 0 where
  taking : (x : ℕ) → IsTaking core step x → HeadStep core step
  giving : (x : ℕ) → IsGiving core step x → HeadStep core step

-- where the nodes are afterwards
abbrev pub home_later : (core : Core) (step : Step) → Nodes → HeadStep core step → Nodes
home_later core step nodes (taking x t) = rehome nodes x (owned step.number)
home_later core step nodes (giving x g) = rehome nodes x free

module _ (core : Core) (step : Step) (a : Acts core step) (asked : MayStorePoolHead step.view step.name step.first step.second) where
  -- where the new head is no loose node, the first one is taken
  takes : (x value : ℕ) → word_of core step.name ≡ suc x → ((y : ℕ) → value ≡ suc y → ¬ Contains step.view.loose y) → pool_by_head (learned core step) (found_by core step) value ≡ node_taken (learned core step) x
  takes x zero first none =
      let is : found_by core step - 1 ≡ x = omega arith in
      ap (λ (k : ℕ). node_taken (learned core step) k) is
  takes x (suc y) first none =
      let is : found_by core step - 1 ≡ x = omega arith in
      ap (λ (t : Bool). cond t (node_given (learned core step) y) (node_taken (learned core step) (found_by core step - 1)))
      (list_any_none (λ n. n == y) step.view.loose (λ k d below. ne_eqb (get_or step.view.loose k d) y (λ same. none y refl (subst (λ (z : ℕ). Contains step.view.loose z) same (Contains-get_or step.view.loose k d below)))))
      ∙ ap (λ (k : ℕ). node_taken (learned core step) k) is

  gives : (x : ℕ) → Contains step.view.loose x → pool_by_head (learned core step) (found_by core step) (suc x) ≡ node_given (learned core step) x
  gives x among =
      ap (λ (t : Bool). cond t (node_given (learned core step) x) (node_taken (learned core step) (found_by core step - 1)))
      (list_any_at (λ n. n == x) step.view.loose among.0 x among.1 (eq-eqb (get_or step.view.loose among.0 x) x among.2))

  -- the one behind the first is free
  free_next : (x : ℕ) → word_of core PoolHead ≡ suc x → step.first ≡ word_of core (PoolNext x) → (y : ℕ) → step.first ≡ suc y → a.laws.nodes.home y ≡ free
  free_next x head next y is =
      let h = a.laws.places in
      let link = λ (n : ℕ). word_of core (PoolNext n) in
      let one = chain-first link x h.chain (subst (λ (k : ℕ). IsChain link k h.chain) head h.linked) in
      let two = chain-first link y one.0 (subst (λ (k : ℕ). IsChain link k one.0) (sym next ∙ is) one.2) in
      let among : Contains one.0 y = subst (λ (l : List ℕ). Contains l y) (sym two.1) (contains_first y two.0) in
      (h.free_nodes y).0 (subst (λ (l : List ℕ). Contains l y) (sym one.1) (contains_later x one.0 y among))

  head_step : ChangesPool step.view step.first → HeadStep core step
  head_step (takes_node t) =
      let head = pool-now core step a asked.pool.lock PoolHead tt ∙ t.head in
      let next = t.next ∙ sym (pool-now core step a asked.pool.lock (PoolNext t.node) tt) in
      taking t.node
      (record {
        head = head;
        next = next;
        preparing = t.preparing;
        left = takes t.node step.first (ap (word_of core) asked.names ∙ head)
            (λ y is among.
            free_owned step.number
            (sym (free_next t.node head next y is)
            ∙ batch-home core a.laws.nodes a.laws.places step.seat step.number step.view a.at a.pass y (Contains-append_right (flat_map (λ b. b.nodes) step.view.batches) step.view.loose y among)));
      })
  head_step (gives_node g) =
      giving g.node
      (record {
        loose = g.owns;
        link = pool-now core step a asked.pool.lock (PoolNext g.node) tt ∙ (g.link ∙ sym (pool-now core step a asked.pool.lock PoolHead tt));
        value = g.head;
        left = subst (λ (v : ℕ). pool_by_head (learned core step) (found_by core step) v ≡ node_given (learned core step) g.node) (sym g.head) (gives g.node g.owns);
      })

  pub head-step : HeadStep core step
  head-step = head_step asked.change

  -- the map that goes with the step
  abbrev pub pool_later : Nodes
  pool_later = home_later core step a.laws.nodes head-step
