-- A node is taken off the pool: the nodes are in one place.
use Rattle.std.proofs.Common.{◌≡◌, ◌≢◌, ◌⊎◌, ℕ, suc, ◌<◌, List, [], ◌∷◌, ◌++◌, length, Contains, refl, ap, sym, ◌∙◌, subst, inl, inr, arith}
use Rattle.std.specs.Prelude.{flat_map}
use Rattle.std.proofs.lemmas.Bool.{cases_eq}
use Rattle.std.proofs.lemmas.List.Elements.{Contains-append_left, Contains-append_right, Contains-append_cases}
use Rattle.word_map.specs.declared.name.Name.{Name}
use Rattle.word_map.specs.declared.name.Name.TheVariants.{PoolHead, PoolNext, PoolFree}
use Rattle.word_map.specs.Names.{pool_lock}
use Rattle.core_state.specs.declared.view.Mode.TheVariants.{Write}
use Rattle.core_state.specs.declared.view.Task.{Task}
use Rattle.core_state.specs.declared.view.Task.TheVariants.{Nothing, Pooling}
use Rattle.core_state.specs.declared.view.View.{View}
use Rattle.core_state.specs.View.{Holds}
use Rattle.core_state.specs.Core.{Core, word_of}
use Rattle.core_state.specs.Kind.{Step, view_after, after_step}
use Rattle.core_state.specs.Nodes.{Nodes, free, owned, IsInTree, IsOwnedBy, nodes_in, nodes_of}
use Rattle.core_state.specs.Parts.{task_on_pool}
use Rattle.core_state.specs.Batches.{batch_nodes_of}
use Rattle.core_state.specs.Bodies.{IsChain}
use Rattle.core_state.specs.NodesInOnePlace.{NodesInOnePlace, node_scope, IsPooling, PoolsUnder}
use Rattle.core_state.specs.Pool.{IsPoolTask, one_taken, MayStorePoolHead, store_pool_head}
use Rattle.core_state.specs.Scope.{Sight, sight, IsOnce}
use Rattle.core_state.proofs.Beginning.{cases_cons, contains_first}
use Rattle.core_state.proofs.Opening.{none_in, only}
use Rattle.core_state.proofs.Steps.{word-step, word-step-other}
use Rattle.core_guard.proofs.Chains.{chain-kept, chain-first}
use Rattle.core_guard.proofs.Leaving.{Acts, lawful}
use Rattle.core_guard.proofs.NodesLeft.{PoolPart, KeepsHomes, LeavesUpdate, tree-part, pool-part, pool-own, pool-idle, together, seen-nodes}
use Rattle.core_guard.proofs.Seats.{seen_of, each-seat}
use Rattle.core_batch.proofs.Lists.{contains_later, pairs-first, pairs-rest, pairs-cons, pairs-none, pairs-left, pairs-right, pairs-across, pairs-append}
use Rattle.core_batch.proofs.Newest.{newest-nodes}
use Rattle.core_batch.proofs.NodesStep.{OwnsAfter, owner-part}
use Rattle.core_batch.proofs.Owning.{owned-by, owner-has, batch-below}
use Rattle.core_batch.proofs.PoolHeads.{IsTaking}
use Rattle.core_batch.proofs.PoolSteps.{world-pool}
use Rattle.core_batch.proofs.Rehome.{free_spare, owned_spare, free_owned, rehome, rehome-at, rehome-other, rehome-keeps}

-- of the pool one node less is left
taken-under : (s t : Sight) (v w : View) (task : Task) (many : ℕ) → IsPoolTask task → Holds w (pool_lock t.config) Write → t.word PoolFree ≡ s.word PoolFree
    → PoolsUnder s v (task_on_pool task) (suc many) → (¬ IsPooling (task_on_pool task) → s.word PoolFree ≡ suc many) → PoolsUnder t w (task_on_pool (one_taken task)) many
taken-under s t v w Nothing many h lock same own idle = let now = idle (λ none. none) in (lock, omega arith)
taken-under s t v w (Pooling taken given) many h lock same own idle = let now = own.1 in (lock, omega arith)
taken-under s t v w _ many h lock same own idle = absurd h

taken_pools : (task : Task) → IsPoolTask task → IsPooling (task_on_pool (one_taken task))
taken_pools Nothing h = tt
taken_pools (Pooling taken given) h = tt
taken_pools _ h = absurd h

module _ (core : Core) (step : Step) (a : Acts core step) (asked : MayStorePoolHead step.view step.name step.first step.second) (x : ℕ) (t : IsTaking core step x) where
  abbrev nodes : Nodes
  nodes = a.laws.nodes

  abbrev p : ℕ
  p = step.number

  abbrev After : Core
  After = after_step store_pool_head core step

  abbrev Last : View
  Last = view_after store_pool_head core step

  abbrev Old : Sight
  Old = sight node_scope core

  abbrev New : Sight
  New = sight node_scope After

  abbrev later : Nodes
  later = rehome nodes x (owned p)

  -- the list without it
  cut : (rest : List ℕ) × (a.laws.places.chain ≡ x ∷ rest) × IsChain (λ n. Old.word (PoolNext n)) (Old.word (PoolNext x)) rest
  cut = chain-first (λ n. Old.word (PoolNext n)) x a.laws.places.chain (subst (λ (k : ℕ). IsChain (λ n. Old.word (PoolNext n)) k a.laws.places.chain) t.head a.laws.places.linked)

  pub taken-home : nodes.home x ≡ free
  taken-home = (a.laws.places.free_nodes x).0 (subst (λ (l : List ℕ). Contains l x) (sym cut.1) (contains_first x cut.0))

  -- an owned node is another
  pub taken-other : (number n : ℕ) → IsOwnedBy number (nodes.home n) → n ≢ x
  taken-other number n owns same = subst (IsOwnedBy number) (ap nodes.home same ∙ taken-home) owns

  pub taken-keeps : KeepsHomes core nodes later
  taken-keeps =
      rehome-keeps nodes x (owned p) core (λ inside. subst IsInTree taken-home inside) (λ inside. inside) (λ e. free_spare (sym taken-home ∙ e)) (owned_spare p)

  -- ---- owners: the node stands behind the nodes of batches

  abbrev flat : List ℕ
  flat = flat_map (λ b. b.nodes) step.view.batches

  abbrev behind : List ℕ
  behind = step.view.loose ++ nodes_in step.view.rebuild

  flat_after : flat_map (λ b. b.nodes) Last.batches ≡ flat ++ x ∷ []
  flat_after = ap (λ (v : View). flat_map (λ b. b.nodes) v.batches) t.left ∙ newest-nodes x step.view.batches t.preparing

  nodes_after : nodes_of Last ≡ (flat ++ x ∷ []) ++ behind
  nodes_after = λ i. flat_after i ++ ((t.left i).loose ++ nodes_in (t.left i).rebuild)

  own_after : batch_nodes_of Last ≡ (flat ++ x ∷ []) ++ step.view.loose
  own_after = λ i. flat_after i ++ (t.left i).loose

  among_before : (n : ℕ) → Contains (nodes_of Last) n → (x ≡ n) ⊎ Contains (nodes_of step.view) n
  among_before n among =
      elim (Contains-append_cases (flat ++ x ∷ []) behind n (subst (λ (l : List ℕ). Contains l n) nodes_after among)) [
        | inl front ↦ elim (Contains-append_cases flat (x ∷ []) n front) [
          | inl own ↦ inr (Contains-append_left flat behind n own)
          | inr last ↦ inl (only x n last)
        ]
        | inr back ↦ inr (Contains-append_right flat behind n back)
      ]

  among_after : (n : ℕ) → (x ≡ n) ⊎ Contains (nodes_of step.view) n → Contains (nodes_of Last) n
  among_after n (inl same) =
      subst (λ (l : List ℕ). Contains l n) (sym nodes_after)
      (Contains-append_left (flat ++ x ∷ []) behind n (Contains-append_right flat (x ∷ []) n (subst (λ (k : ℕ). Contains (x ∷ []) k) same (contains_first x []))))
  among_after n (inr old) =
      elim (Contains-append_cases flat behind n old) [
        | inl own ↦ subst (λ (l : List ℕ). Contains l n) (sym nodes_after) (Contains-append_left (flat ++ x ∷ []) behind n (Contains-append_left flat (x ∷ []) n own))
        | inr back ↦ subst (λ (l : List ℕ). Contains l n) (sym nodes_after) (Contains-append_right (flat ++ x ∷ []) behind n back)
      ]

  owned_now : (n : ℕ) → Contains (nodes_of step.view) n → IsOwnedBy p (nodes.home n)
  owned_now n among = owned-by core nodes a.laws.places step.seat p step.view a.at a.pass n among

  old_other : (n : ℕ) → Contains (nodes_of step.view) n → n ≢ x
  old_other n among = taken-other p n (owned_now n among)

  once_before : IsOnce (flat ++ behind)
  once_before =
      subst IsOnce (seen-nodes p step.view) (each-seat node_scope (λ k v. refl) core (λ number view. IsOnce (nodes_of view)) a.laws.places.owned_once step.seat p step.view a.at a.pass)

  pub taken-owns : OwnsAfter store_pool_head core step a later
  taken-owns = record {
    others = λ n number apart. (
      λ owns. subst (IsOwnedBy number) (sym (rehome-other nodes x (owned p) n (taken-other number n owns))) owns,
      λ owns.
          elim (cases_eq n x) [
            | inl same ↦ absurd (apart (sym (subst (IsOwnedBy number) (ap later.home same ∙ rehome-at nodes x (owned p)) owns)))
            | inr else ↦ subst (IsOwnedBy number) (rehome-other nodes x (owned p) n else) owns
          ],
    );
    own = λ n. (
      λ owns.
          elim (cases_eq n x) [
            | inl same ↦ among_after n (inl (sym same))
            | inr else ↦
                among_after n
                (inr (owner-has core nodes a.laws.places a.formed step.seat p step.view a.at a.pass n (subst (IsOwnedBy p) (rehome-other nodes x (owned p) n else) owns)))
          ],
      λ among.
          elim (among_before n among) [
            | inl same ↦ subst (λ (k : ℕ). IsOwnedBy p (later.home k)) same (subst (IsOwnedBy p) (sym (rehome-at nodes x (owned p))) refl)
            | inr old ↦ subst (IsOwnedBy p) (sym (rehome-other nodes x (owned p) n (old_other n old))) (owned_now n old)
          ],
    );
    once =
        let once = once_before in
        let R : ℕ → ℕ → Type 0 = (λ a b. a ≢ b) in
        subst IsOnce (sym nodes_after)
        (pairs-append R (flat ++ x ∷ []) behind
        (pairs-append R flat (x ∷ []) (pairs-left R flat behind once) (pairs-cons R x [] (λ y c. absurd (none_in _ c)) (pairs-none R))
        (λ a b front last same. old_other a (Contains-append_left flat behind a front) (same ∙ sym (only x b last))))
        (pairs-right R flat behind once)
        (λ a b front back.
        elim (Contains-append_cases flat (x ∷ []) a front) [
          | inl own ↦ pairs-across R flat behind once a b own back
          | inr last ↦ λ same. old_other b (Contains-append_right flat behind b back) (sym same ∙ sym (only x a last))
        ]));
    below = λ n among.
        elim (Contains-append_cases (flat ++ x ∷ []) step.view.loose n (subst (λ (l : List ℕ). Contains l n) own_after among)) [
          | inl front ↦ elim (Contains-append_cases flat (x ∷ []) n front) [
            | inl own ↦ batch-below core nodes a.laws.places step.seat p step.view a.at a.pass n (Contains-append_left flat step.view.loose n own)
            | inr last ↦ subst (λ (k : ℕ). k < core.config.nodes) (only x n last) (a.laws.places.batch_nodes x taken-home)
          ]
          | inr loose ↦ batch-below core nodes a.laws.places step.seat p step.view a.at a.pass n (Contains-append_right flat step.view.loose n loose)
        ];
  }

  -- ---- the pool

  pool : PoolPart later New
  pool =
      let h = a.laws.places in
      let world = world-pool core step a asked.pool.lock in
      let once = subst IsOnce cut.1 h.once in
      let stored : New.word PoolHead ≡ step.first = ap (λ (n : Name). word_of After n) (sym asked.names) ∙ word-step store_pool_head core step in
      let links : (n : ℕ) → New.word (PoolNext n) ≡ Old.word (PoolNext n) = λ n. word-step-other store_pool_head core step (PoolNext n) (λ same. let e = same ∙ asked.names in absurd cc) in
      let count : New.word PoolFree ≡ Old.word PoolFree = word-step-other store_pool_head core step PoolFree (λ same. let e = same ∙ asked.names in absurd cc) in
      let long : length h.chain ≡ suc (length cut.0) = ap (λ (l : List ℕ). length l) cut.1 in
      let not_x : (n : ℕ) → Contains cut.0 n → n ≢ x = λ n c same. pairs-first (λ a b. a ≢ b) x cut.0 once n c (sym same) in
      let task : Last.call.task ≡ one_taken step.view.call.task = ap (λ (v : View). v.call.task) t.left in
      pool-part store_pool_head core step a world later cut.0
      (rw (stored ∙ t.next) (chain-kept (λ n. Old.word (PoolNext n)) (λ n. New.word (PoolNext n)) (Old.word (PoolNext x)) cut.0 (λ n c. links n) cut.2))
      (pairs-rest (λ a b. a ≢ b) x cut.0 once)
      (λ n. (
        λ c. rehome-other nodes x (owned p) n (not_x n c) ∙ (h.free_nodes n).0 (subst (λ (l : List ℕ). Contains l n) (sym cut.1) (contains_later x cut.0 n c)),
        λ e.
            elim (cases_eq n x) [
              | inl same ↦ absurd (free_owned p (sym e ∙ (ap later.home same ∙ rehome-at nodes x (owned p))))
              | inr else ↦
                  elim (cases_cons x cut.0 n (subst (λ (l : List ℕ). Contains l n) cut.1 ((h.free_nodes n).1 (sym (rehome-other nodes x (owned p) n else) ∙ e)))) [
                    | inl same ↦ absurd (else (sym same))
                    | inr rest ↦ rest
                  ]
            ],
      ))
      (λ n e.
      elim (cases_eq n x) [
        | inl same ↦ absurd (free_owned p (sym e ∙ (ap later.home same ∙ rehome-at nodes x (owned p))))
        | inr else ↦ h.batch_nodes n (sym (rehome-other nodes x (owned p) n else) ∙ e)
      ])
      (λ quiet. absurd (quiet (subst (λ (k : Task). IsPooling (task_on_pool k)) (sym task) (taken_pools step.view.call.task asked.pool.idle))))
      (subst (λ (k : Task). PoolsUnder New (seen_of node_scope p Last) (task_on_pool k) (length cut.0)) (sym task)
      (taken-under Old New (seen_of node_scope p step.view) (seen_of node_scope p Last) step.view.call.task (length cut.0) asked.pool.idle
      (subst (λ l. Holds (record Last { locks = l }) (pool_lock core.config) Write) (sym (ap (λ (v : View). v.locks) t.left)) world) count
      (subst (λ (k : ℕ). PoolsUnder Old (seen_of node_scope p step.view) (task_on_pool step.view.call.task) k) long (pool-own store_pool_head core step a world))
      (λ quiet. pool-idle store_pool_head core step a world quiet ∙ long)))

  -- ---- all of it

  update : LeavesUpdate store_pool_head core step
  update = record {
    rebuild = λ i. (seen_of node_scope p (t.left i)).rebuild;
    update = λ same. let e = same ∙ asked.names in absurd cc;
    arena = λ same. let e = same ∙ asked.names in absurd cc;
  }

  pub NodesInOnePlace-taken : NodesInOnePlace later After
  NodesInOnePlace-taken = together After later pool (owner-part store_pool_head core step a later taken-owns) (tree-part store_pool_head core step (lawful a) update later taken-keeps)
