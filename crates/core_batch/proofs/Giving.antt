-- A node is given back to the pool: the nodes are in one place. And so they are wherever the head of the pool is stored.
use Rattle.std.proofs.Common.{◌≡◌, ◌≢◌, ℕ, suc, ◌<◌, List, ◌∷◌, ◌++◌, length, Contains, refl, ap, sym, ◌∙◌, subst, inl, inr, arith}
use Rattle.std.specs.Prelude.{◌==◌, not, filter, flat_map}
use Rattle.std.proofs.lemmas.Bool.{cases_eq, eq-eqb, ne_eqb, false≢true}
use Rattle.std.proofs.lemmas.List.Elements.{Contains-append_left, Contains-append_right, Contains-append_cases}
use Rattle.std.proofs.lemmas.List.Kept.{AllPairs-filter}
use Rattle.word_map.specs.declared.name.Name.{Name}
use Rattle.word_map.specs.declared.name.Name.TheVariants.{PoolHead, PoolNext, PoolFree}
use Rattle.word_map.specs.Names.{pool_lock}
use Rattle.core_state.specs.declared.view.Mode.TheVariants.{Write}
use Rattle.core_state.specs.declared.view.Task.{Task}
use Rattle.core_state.specs.declared.view.Task.TheVariants.{Nothing, Pooling}
use Rattle.core_state.specs.declared.view.View.{View}
use Rattle.core_state.specs.View.{Holds}
use Rattle.core_state.specs.Core.{Core, word_of}
use Rattle.core_state.specs.Kind.{Kind, Step, view_after, after_step}
use Rattle.core_state.specs.Nodes.{Nodes, free, owned, IsInTree, IsOwnedBy, nodes_in, nodes_of}
use Rattle.core_state.specs.Parts.{task_on_pool}
use Rattle.core_state.specs.Batches.{batch_nodes_of}
use Rattle.core_state.specs.NodesInOnePlace.{NodesInOnePlace, node_scope, IsPooling, PoolsUnder}
use Rattle.core_state.specs.Pool.{IsPoolTask, one_given, MayStorePoolHead, store_pool_head}
use Rattle.core_state.specs.Scope.{Sight, sight, IsOnce}
use Rattle.core_state.proofs.Beginning.{cases_cons, contains_filter, contains_first}
use Rattle.core_state.proofs.Steps.{word-step, word-step-other}
use Rattle.core_guard.proofs.Chains.{chain-kept, chain-front}
use Rattle.core_guard.proofs.Leaving.{Acts, lawful}
use Rattle.core_guard.proofs.NodesLeft.{PoolPart, KeepsHomes, LeavesUpdate, tree-part, pool-part, pool-own, pool-idle, together, seen-nodes}
use Rattle.core_guard.proofs.Seats.{seen_of, each-seat}
use Rattle.core_batch.proofs.Lists.{contains_later, filter_from, pairs-cons, pairs-left, pairs-right, pairs-across, pairs-append}
use Rattle.core_batch.proofs.NodesStep.{OwnsAfter, owner-part}
use Rattle.core_batch.proofs.Owning.{owner_one, owned-by, owner-has, batch-below, batch-home}
use Rattle.core_batch.proofs.PoolHeads.{IsGiving, HeadStep, taking, giving, home_later, head-step, pool_later}
use Rattle.core_batch.proofs.PoolSteps.{world-pool}
use Rattle.core_batch.proofs.Rehome.{free_spare, owned_spare, free_owned, rehome, rehome-at, rehome-other, rehome-keeps}
use Rattle.core_batch.proofs.Taking.{NodesInOnePlace-taken}

-- the pool has one node more
given-under : (s t : Sight) (v w : View) (task : Task) (many : ℕ) → IsPoolTask task → Holds w (pool_lock t.config) Write → t.word PoolFree ≡ s.word PoolFree
    → PoolsUnder s v (task_on_pool task) many → (¬ IsPooling (task_on_pool task) → s.word PoolFree ≡ many) → PoolsUnder t w (task_on_pool (one_given task)) (suc many)
given-under s t v w Nothing many h lock same own idle = let now = idle (λ none. none) in (lock, omega arith)
given-under s t v w (Pooling taken given) many h lock same own idle = let now = own.1 in (lock, omega arith)
given-under s t v w _ many h lock same own idle = absurd h

given_pools : (task : Task) → IsPoolTask task → IsPooling (task_on_pool (one_given task))
given_pools Nothing h = tt
given_pools (Pooling taken given) h = tt
given_pools _ h = absurd h

-- ---- a node that was in another place, and is then the first one of the pool

module _ (kind : Kind) (core : Core) (step : Step) (a : Acts core step) (x : ℕ) where
  abbrev Given : Nodes
  Given = rehome a.laws.nodes x free

  abbrev Before : Sight
  Before = sight node_scope core

  abbrev Since : Sight
  Since = sight node_scope (after_step kind core step)

  -- the step stores the head, under the lock of the pool
  pub record GivesToPool : Type 0 where
    pub names : step.name ≡ PoolHead
    pub lock : Holds step.view (pool_lock core.config) Write
    pub idle : IsPoolTask step.view.call.task
    pub task : (view_after kind core step).call.task ≡ one_given step.view.call.task
    pub locks : (view_after kind core step).locks ≡ step.view.locks
    pub stored : word_of (after_step kind core step) PoolHead ≡ suc x
    pub link : word_of core (PoolNext x) ≡ word_of core PoolHead
    pub elsewhere : a.laws.nodes.home x ≢ free
    pub batch_node : x < core.config.nodes

  pub pool-given : GivesToPool → PoolPart Given Since
  pool-given g =
      let h = a.laws.places in
      let nodes = a.laws.nodes in
      let chain = h.chain in
      let links : (n : ℕ) → Since.word (PoolNext n) ≡ Before.word (PoolNext n) = λ n. word-step-other kind core step (PoolNext n) (λ same. let e = same ∙ g.names in absurd cc) in
      let count : Since.word PoolFree ≡ Before.word PoolFree = word-step-other kind core step PoolFree (λ same. let e = same ∙ g.names in absurd cc) in
      let not_x : (n : ℕ) → Contains chain n → n ≢ x = λ n c same. g.elsewhere (sym (ap nodes.home same) ∙ (h.free_nodes n).0 c) in
      pool-part kind core step a g.lock Given (x ∷ chain)
      (rw (g.stored) (chain-front (λ n. Since.word (PoolNext n)) (Before.word PoolHead) x chain (links x ∙ g.link)
      (chain-kept (λ n. Before.word (PoolNext n)) (λ n. Since.word (PoolNext n)) (Before.word PoolHead) chain (λ n c. links n) h.linked)))
      (pairs-cons (λ a b. a ≢ b) x chain (λ n c same. not_x n c (sym same)) h.once)
      (λ n. (
        λ c.
            elim (cases_cons x chain n c) [
              | inl same ↦ subst (λ (k : ℕ). Given.home k ≡ free) same (rehome-at nodes x free)
              | inr rest ↦ rehome-other nodes x free n (not_x n rest) ∙ (h.free_nodes n).0 rest
            ],
        λ e.
            elim (cases_eq n x) [
              | inl same ↦ subst (λ (k : ℕ). Contains (x ∷ chain) k) (sym same) (contains_first x chain)
              | inr else ↦ contains_later x chain n ((h.free_nodes n).1 (sym (rehome-other nodes x free n else) ∙ e))
            ],
      ))
      (λ n e.
      elim (cases_eq n x) [
        | inl same ↦ subst (λ (k : ℕ). k < core.config.nodes) (sym same) g.batch_node
        | inr else ↦ h.batch_nodes n (sym (rehome-other nodes x free n else) ∙ e)
      ])
      (λ quiet. absurd (quiet (subst (λ (k : Task). IsPooling (task_on_pool k)) (sym g.task) (given_pools step.view.call.task g.idle))))
      (subst (λ (k : Task). PoolsUnder Since (seen_of node_scope step.number (view_after kind core step)) (task_on_pool k) (suc (length chain))) (sym g.task)
      (given-under Before Since (seen_of node_scope step.number step.view) (seen_of node_scope step.number (view_after kind core step)) step.view.call.task (length chain) g.idle
      (subst (λ l. Holds (record (view_after kind core step) { locks = l }) (pool_lock core.config) Write) (sym g.locks) g.lock) count
      (pool-own kind core step a g.lock) (λ quiet. pool-idle kind core step a g.lock quiet)))

-- ---- a node of a batch is given back

module _ (core : Core) (step : Step) (a : Acts core step) (asked : MayStorePoolHead step.view step.name step.first step.second) (x : ℕ) (g : IsGiving core step x) where
  abbrev nodes : Nodes
  nodes = a.laws.nodes

  abbrev p : ℕ
  p = step.number

  abbrev After : Core
  After = after_step store_pool_head core step

  abbrev Last : View
  Last = view_after store_pool_head core step

  abbrev Old : Sight
  Old = sight node_scope core

  abbrev New : Sight
  New = sight node_scope After

  abbrev later : Nodes
  later = rehome nodes x free

  abbrev front : List ℕ
  front = flat_map (λ b. b.nodes) step.view.batches

  abbrev updated : List ℕ
  updated = nodes_in step.view.rebuild

  abbrev left : List ℕ
  left = filter (λ n. not (n == x)) step.view.loose

  pub given-home : nodes.home x ≡ owned p
  given-home = batch-home core nodes a.laws.places step.seat p step.view a.at a.pass x (Contains-append_right front step.view.loose x g.loose)

  pub given-keeps : KeepsHomes core nodes later
  given-keeps = rehome-keeps nodes x free core (λ inside. subst IsInTree given-home inside) (λ inside. inside) (λ e. owned_spare p (sym given-home ∙ e)) free_spare

  -- nobody else owns it
  pub given-other : (number n : ℕ) → number ≢ p → IsOwnedBy number (nodes.home n) → n ≢ x
  given-other number n apart owns same = apart (owner_one number p (nodes.home n) owns (subst (IsOwnedBy p) (sym (ap nodes.home same ∙ given-home)) refl))

  -- ---- owners: the pass has all but that node

  nodes_after : nodes_of Last ≡ front ++ (left ++ updated)
  nodes_after = λ i. flat_map (λ b. b.nodes) (g.left i).batches ++ ((g.left i).loose ++ nodes_in (g.left i).rebuild)

  own_after : batch_nodes_of Last ≡ front ++ left
  own_after = λ i. flat_map (λ b. b.nodes) (g.left i).batches ++ (g.left i).loose

  all_once : IsOnce (front ++ (step.view.loose ++ updated))
  all_once =
      subst IsOnce (seen-nodes p step.view) (each-seat node_scope (λ k v. refl) core (λ number view. IsOnce (nodes_of view)) a.laws.places.owned_once step.seat p step.view a.at a.pass)

  -- the node is nothing else that the pass has
  not_front : (n : ℕ) → Contains front n → n ≢ x
  not_front n among = pairs-across (λ a b. a ≢ b) front (step.view.loose ++ updated) all_once n x among (Contains-append_left step.view.loose updated x g.loose)

  not_updated : (n : ℕ) → Contains updated n → n ≢ x
  not_updated n among same =
      pairs-across (λ a b. a ≢ b) step.view.loose updated (pairs-right (λ a b. a ≢ b) front (step.view.loose ++ updated) all_once) x n g.loose among (sym same)

  not_left : (n : ℕ) → Contains left n → n ≢ x
  not_left n among same =
      let t = filter_from (λ m. not (m == x)) step.view.loose n among in
      false≢true (sym (ap not (eq-eqb n x same)) ∙ t.1)

  left_has : (n : ℕ) → Contains step.view.loose n → n ≢ x → Contains left n
  left_has n among else = contains_filter (λ m. not (m == x)) step.view.loose n among (ap not (ne_eqb n x else))

  less_other : (n : ℕ) → Contains (front ++ (left ++ updated)) n → n ≢ x
  less_other n among =
      elim (Contains-append_cases front (left ++ updated) n among) [
        | inl first ↦ not_front n first
        | inr rest ↦ elim (Contains-append_cases left updated n rest) [
          | inl own ↦ not_left n own
          | inr last ↦ not_updated n last
        ]
      ]

  less_among : (n : ℕ) → Contains (front ++ (left ++ updated)) n → Contains (nodes_of step.view) n
  less_among n among =
      elim (Contains-append_cases front (left ++ updated) n among) [
        | inl first ↦ Contains-append_left front (step.view.loose ++ updated) n first
        | inr rest ↦ elim (Contains-append_cases left updated n rest) [
          | inl own ↦
              Contains-append_right front (step.view.loose ++ updated) n
              (Contains-append_left step.view.loose updated n (filter_from (λ m. not (m == x)) step.view.loose n own).0)
          | inr last ↦ Contains-append_right front (step.view.loose ++ updated) n (Contains-append_right step.view.loose updated n last)
        ]
      ]

  among_less : (n : ℕ) → Contains (nodes_of step.view) n → n ≢ x → Contains (front ++ (left ++ updated)) n
  among_less n among else =
      elim (Contains-append_cases front (step.view.loose ++ updated) n among) [
        | inl first ↦ Contains-append_left front (left ++ updated) n first
        | inr rest ↦ elim (Contains-append_cases step.view.loose updated n rest) [
          | inl own ↦ Contains-append_right front (left ++ updated) n (Contains-append_left left updated n (left_has n own else))
          | inr last ↦ Contains-append_right front (left ++ updated) n (Contains-append_right left updated n last)
        ]
      ]

  pub given-owns : OwnsAfter store_pool_head core step a later
  given-owns = record {
    others = λ n number apart. (
      λ owns. subst (IsOwnedBy number) (sym (rehome-other nodes x free n (given-other number n apart owns))) owns,
      λ owns.
          elim (cases_eq n x) [
            | inl same ↦ absurd (subst (IsOwnedBy number) (ap later.home same ∙ rehome-at nodes x free) owns)
            | inr else ↦ subst (IsOwnedBy number) (rehome-other nodes x free n else) owns
          ],
    );
    own = λ n. (
      λ owns.
          elim (cases_eq n x) [
            | inl same ↦ absurd (subst (IsOwnedBy p) (ap later.home same ∙ rehome-at nodes x free) owns)
            | inr else ↦
                subst (λ (l : List ℕ). Contains l n) (sym nodes_after)
                (among_less n (owner-has core nodes a.laws.places a.formed step.seat p step.view a.at a.pass n (subst (IsOwnedBy p) (rehome-other nodes x free n else) owns)) else)
          ],
      λ among.
          let less = subst (λ (l : List ℕ). Contains l n) nodes_after among in
          subst (IsOwnedBy p) (sym (rehome-other nodes x free n (less_other n less))) (owned-by core nodes a.laws.places step.seat p step.view a.at a.pass n (less_among n less)),
    );
    once =
        let R : ℕ → ℕ → Type 0 = (λ a b. a ≢ b) in
        let tail = pairs-right R front (step.view.loose ++ updated) all_once in
        subst IsOnce (sym nodes_after)
        (pairs-append R front (left ++ updated) (pairs-left R front (step.view.loose ++ updated) all_once)
        (pairs-append R left updated (AllPairs-filter R (λ n. not (n == x)) step.view.loose (pairs-left R step.view.loose updated tail)) (pairs-right R step.view.loose updated tail)
        (λ a b own last. pairs-across R step.view.loose updated tail a b (filter_from (λ m. not (m == x)) step.view.loose a own).0 last))
        (λ a b first rest.
        pairs-across R front (step.view.loose ++ updated) all_once a b first
        (elim (Contains-append_cases left updated b rest) [
          | inl own ↦ Contains-append_left step.view.loose updated b (filter_from (λ m. not (m == x)) step.view.loose b own).0
          | inr last ↦ Contains-append_right step.view.loose updated b last
        ])));
    below = λ n among.
        elim (Contains-append_cases front left n (subst (λ (l : List ℕ). Contains l n) own_after among)) [
          | inl first ↦ batch-below core nodes a.laws.places step.seat p step.view a.at a.pass n (Contains-append_left front step.view.loose n first)
          | inr own ↦
              batch-below core nodes a.laws.places step.seat p step.view a.at a.pass n
              (Contains-append_right front step.view.loose n (filter_from (λ m. not (m == x)) step.view.loose n own).0)
        ];
  }

  -- ---- the pool

  pool : PoolPart later New
  pool =
      pool-given store_pool_head core step a x
      (record {
        names = asked.names;
        lock = world-pool core step a asked.pool.lock;
        idle = asked.pool.idle;
        task = ap (λ (v : View). v.call.task) g.left;
        locks = ap (λ (v : View). v.locks) g.left;
        stored = ap (λ (n : Name). word_of After n) (sym asked.names) ∙ (word-step store_pool_head core step ∙ g.value);
        link = g.link;
        elsewhere = λ e. free_owned p (sym e ∙ given-home);
        batch_node = batch-below core nodes a.laws.places step.seat p step.view a.at a.pass x (Contains-append_right front step.view.loose x g.loose);
      })

  -- ---- all of it

  update : LeavesUpdate store_pool_head core step
  update = record {
    rebuild = λ i. (seen_of node_scope p (g.left i)).rebuild;
    update = λ same. let e = same ∙ asked.names in absurd cc;
    arena = λ same. let e = same ∙ asked.names in absurd cc;
  }

  pub NodesInOnePlace-given : NodesInOnePlace later After
  NodesInOnePlace-given = together After later pool (owner-part store_pool_head core step a later given-owns) (tree-part store_pool_head core step (lawful a) update later given-keeps)

-- ---- both

module _ (core : Core) (step : Step) (a : Acts core step) (asked : MayStorePoolHead step.view step.name step.first step.second) where
  pub NodesInOnePlace-store_pool_head : NodesInOnePlace (pool_later core step a asked) (after_step store_pool_head core step)
  NodesInOnePlace-store_pool_head = go (head-step core step a asked)
    where
      go : (h : HeadStep core step) → NodesInOnePlace (home_later core step a.laws.nodes h) (after_step store_pool_head core step)
      go (taking x t) = NodesInOnePlace-taken core step a asked x t
      go (giving x g) = NodesInOnePlace-given core step a asked x g
