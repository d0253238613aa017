-- What a step leaves of where nodes are. The law has three parts, the pool, who owns nodes, trees and arenas; of each a
-- step touches something or nothing.
use Rattle.std.proofs.Common.{◌≡◌, ◌≢◌, ◌⊎◌, ◌↔◌, ℕ, suc, ◌+◌, ◌-◌, ◌<◌, ◌≤◌, List, [], ◌∷◌, ◌++◌, Option, Some, None, false, true, length, Contains, IsSome, IsNone, refl, ap, sym, ◌∙◌, subst, inl, inr, arith, option_map}
use Rattle.std.specs.Prelude.{⊤, IfSome, IsSomeAnd, flat_map}
use Rattle.std.proofs.lemmas.Bool.{cases_eq, false≢true}
use Rattle.std.proofs.lemmas.Option.{none-some}
use Rattle.std.proofs.lemmas.List.Elements.{Contains-append_left, Contains-append_right, Contains-append_cases}
use Rattle.word_map.specs.declared.name.Name.{Name}
use Rattle.word_map.specs.declared.name.Name.TheVariants.{PoolHead, PoolNext, PoolFree, Main, Slot, Update, Arena}
use Rattle.word_map.specs.Names.{node_count, pool_lock}
use Rattle.core_state.specs.declared.view.Mode.TheVariants.{Write}
use Rattle.core_state.specs.declared.view.Task.{Task}
use Rattle.core_state.specs.declared.view.Task.TheVariants.{Pooling}
use Rattle.core_state.specs.declared.view.Batch.{Batch}
use Rattle.core_state.specs.declared.view.Call.{Call}
use Rattle.core_state.specs.declared.view.Rebuild.{Rebuild}
use Rattle.core_state.specs.declared.view.View.{View}
use Rattle.core_state.specs.View.{IsPass, Holds, HoldsNot}
use Rattle.core_state.specs.Core.{Core, IsViewAt}
use Rattle.core_state.specs.Kind.{Kind, Step, view_after, after_step}
use Rattle.core_state.specs.Encoding.{IsInArena}
use Rattle.core_state.specs.Nodes.{Nodes, Home, free, spare, made, under, superseded, returning, IsOwnedBy, IsInTree, nodes_of, nodes_in}
use Rattle.core_state.specs.Parts.{task_on_pool, update_on_nodes}
use Rattle.core_state.specs.Batches.{batch_nodes_of}
use Rattle.core_state.specs.Bodies.{IsChain, all_batches}
use Rattle.core_state.specs.NodesInOnePlace.{NodesInOnePlace, node_scope, IsArenaUnread, NamesArena, IsPooling, PoolsUnder, IsOfReplaced}
use Rattle.core_state.specs.Scope.{Sight, sight, IsOnce, HasPass, EachPass}
use Rattle.core_state.specs.Updates.{EachUpdate, HasUpdate, IsMadeIn, arena_after, arena_of}
use Rattle.core_state.proofs.Beginning.{contains_flat}
use Rattle.core_state.proofs.Guarding.{writer-alone}
use Rattle.core_state.proofs.Lookups.{at_one}
use Rattle.core_state.proofs.Opening.{none_in}
use Rattle.core_state.proofs.Steps.{view-step, word-step-other}
use Rattle.core_guard.proofs.Chains.{chain-kept}
use Rattle.core_guard.proofs.Leaving.{Acts, Lawful, if_some_map}
use Rattle.core_guard.proofs.Seats.{seen_of, seen_at, each-seat, each-seats, each-step, each-unstep, has-step, has-unstep, fold-step}

-- ---- the parts

-- the pool of free nodes
pub record PoolPart (nodes : Nodes) (s : Sight) : Type 0 where
  pub chain : List ℕ
  pub linked : IsChain (λ n. s.word (PoolNext n)) (s.word PoolHead) chain
  pub once : IsOnce chain
  pub free_nodes : (n : ℕ) → Contains chain n ↔ (nodes.home n ≡ free)
  pub batch_nodes : (n : ℕ) → nodes.home n ≡ free → n < s.config.nodes
  pub count : EachPass s (λ number view. ¬ IsPooling view.call.task) → s.word PoolFree ≡ length chain
  pub pool : EachPass s (λ number view. PoolsUnder s view view.call.task (length chain))

-- the nodes that passes own
pub record OwnerPart (nodes : Nodes) (s : Sight) : Type 0 where
  pub owned : (n number : ℕ) → IsOwnedBy number (nodes.home n) ↔ HasPass s number (λ view. Contains (nodes_of view) n)
  pub owned_once : EachPass s (λ number view. IsOnce (nodes_of view))
  pub below : EachPass s (λ number view. (n : ℕ) → Contains (batch_nodes_of view) n → n < s.config.nodes)

-- trees, arenas and updates
pub record TreePart (nodes : Nodes) (s : Sight) : Type 0 where
  pub in_use : (n : ℕ) → node_count s.config ≤ n → nodes.home n ≡ spare
  pub arenas : (n : ℕ) → n < s.config.nodes → nodes.home n ≢ spare
  pub slot_trees : (n l t : ℕ) → nodes.home n ≡ under (Slot l t) → n < s.config.nodes
  pub main_trees : (n l : ℕ) → nodes.home n ≡ under (Main l) → IsInArena s.config (arena_of s (s.word Arena) l) n
  pub made_trees : (n number l : ℕ) → nodes.home n ≡ made number l → s.config.nodes ≤ n
  pub made_by : (n number l : ℕ) → (nodes.home n ≡ made number l) ↔ HasPass s number (λ view. HasUpdate view (λ r. IsMadeIn s.config r l n))
  pub in_arena : EachUpdate s (λ number view r. (n : ℕ) → Contains r.nodes n → IsSomeAnd r.arena (λ old. IsInArena s.config (1 - old) n))
  pub update : (number : ℕ) → (s.word Update ≡ suc number) ↔ HasPass s number (λ view. IsSome view.rebuild)
  pub superseded_by : (n number : ℕ) (name : Name) → nodes.home n ≡ superseded number name
      → HasPass s number (λ view. HasUpdate view (λ r. (r.is_reclaimed ≡ false) × IsOfReplaced s.config r name n))
  pub returning_by : (n number : ℕ) → nodes.home n ≡ returning number → (n < s.config.nodes) × HasPass s number (λ view. HasUpdate view (λ r. r.is_reclaimed ≡ true))
  pub arena : s.word Arena < 2
  pub named : EachUpdate s (λ number view r. NamesArena s r)
  pub idle : IsArenaUnread s → (n : ℕ) → IsInArena s.config (1 - s.word Arena) n → nodes.home n ≡ spare

-- what is collected comes from one of the list
pub flat_from : {X Y : Type 0} (f : X → List Y) (xs : List X) (y : Y) → Contains (flat_map f xs) y → (x : X) × Contains xs x × Contains (f x) y
flat_from f [] y h = absurd (none_in y h)
flat_from f (x ∷ xs) y h =
    elim (Contains-append_cases (f x) (flat_map f xs) y h) [
      | inl own ↦ (x, (0, omega arith, refl), own)
      | inr later ↦
          let t = flat_from f xs y later in
          let below = t.1.1 in
          (t.0, (suc t.1.0, omega arith, t.1.2), t.2)
    ]

pub together : (core : Core) (nodes : Nodes) → PoolPart nodes (sight node_scope core) → OwnerPart nodes (sight node_scope core) → TreePart nodes (sight node_scope core) → NodesInOnePlace nodes core
together core nodes pool owners trees =
    record {
      in_use = trees.in_use;
      arenas = trees.arenas;
      chain = pool.chain;
      linked = pool.linked;
      once = pool.once;
      free_nodes = pool.free_nodes;
      batch_nodes = pool.batch_nodes;
      count = pool.count;
      pool = pool.pool;
      owned = owners.owned;
      owned_once = owners.owned_once;
      batches = batches-below;
      loose = λ number view among pass n loose. owners.below number view among pass n (Contains-append_right (flat_map (λ b. b.nodes) view.batches) view.loose n loose);
      slot_trees = trees.slot_trees;
      main_trees = trees.main_trees;
      made_trees = trees.made_trees;
      made_by = trees.made_by;
      in_arena = trees.in_arena;
      update = trees.update;
      superseded_by = trees.superseded_by;
      returning_by = trees.returning_by;
      arena = trees.arena;
      named = trees.named;
      idle = trees.idle;
    }
  where
    batches-below : (batch : Batch) (n : ℕ) → Contains (all_batches (sight node_scope core)) batch → Contains batch.nodes n → n < core.config.nodes
    batches-below batch n among inside =
        let s = sight node_scope core in
        let t = flat_from (λ (v : View). v.batches) s.passes batch among in
        let from = seen_at node_scope core t.0 t.1 in
        each-seat node_scope (λ k v. refl) core _ owners.below from.seat from.number from.view from.at from.pass n
        (Contains-append_left (flat_map (λ (b : Batch). b.nodes) from.view.batches) from.view.loose n
        (contains_flat (λ (b : Batch). b.nodes) from.view.batches batch n (subst (λ (v : View). Contains v.batches batch) (sym from.is) t.2) inside))

-- ---- what a view has

-- a law sees all nodes of a pass
pub seen-nodes : (number : ℕ) (view : View) → nodes_of (seen_of node_scope number view) ≡ nodes_of view
seen-nodes number view = ap (λ (l : List ℕ). flat_map (λ b. b.nodes) view.batches ++ (view.loose ++ l)) (go view.rebuild)
  where
    go : (o : Option Rebuild) → nodes_in (option_map update_on_nodes o) ≡ nodes_in o
    go None = refl
    go (Some r) = refl

-- a task that does not change the pool needs nothing of it
pub unpooled : (s : Sight) (view : View) (t : Task) (many : ℕ) → ¬ IsPooling t → PoolsUnder s view t many
unpooled s view (Pooling taken given) many none = absurd (none tt)
unpooled s view _ many none = tt

-- a pass that changes it has its lock
pools_lock : (s : Sight) (view : View) (task : Task) (many : ℕ) → PoolsUnder s view task many → IsPooling task → Holds view (pool_lock s.config) Write
pools_lock s view (Pooling taken given) many h pooling = h.0
pools_lock s view _ many h pooling = absurd pooling

-- ---- the step

-- how the homes may change: nodes in trees keep theirs, and one that comes to stand in one is a batch node in a slot's
pub record KeepsHomes (core : Core) (nodes later : Nodes) : Type 0 where
  pub stays : (n : ℕ) → IsInTree (nodes.home n) → later.home n ≡ nodes.home n
  pub stood : (n : ℕ) → IsInTree (later.home n) → (later.home n ≡ nodes.home n) ⊎ ((l : ℕ) × (t : ℕ) × (later.home n ≡ under (Slot l t)) × (n < core.config.nodes))
  pub spares : (n : ℕ) → (nodes.home n ≡ spare) ↔ (later.home n ≡ spare)

pub same-homes : (core : Core) (nodes : Nodes) → KeepsHomes core nodes nodes
same-homes core nodes = record { stays = λ n inside. refl; stood = λ n inside. inl refl; spares = λ n. (λ e. e, λ e. e) }

module _ (kind : Kind) (core : Core) (step : Step) where
  abbrev Last : View
  Last = view_after kind core step

  abbrev Old : Sight
  Old = sight node_scope core

  abbrev New : Sight
  New = sight node_scope (after_step kind core step)

  -- the update is as it was, and nobody says otherwise
  pub record LeavesUpdate : Type 0 where
    pub rebuild : option_map update_on_nodes Last.rebuild ≡ option_map update_on_nodes step.view.rebuild
    pub update : Update ≢ step.name
    pub arena : Arena ≢ step.name

  -- the pool is as it was, and so is who changes it
  pub record LeavesPool : Type 0 where
    pub head : PoolHead ≢ step.name
    pub next : (n : ℕ) → PoolNext n ≢ step.name
    pub count : PoolFree ≢ step.name
    pub task : task_on_pool Last.call.task ≡ task_on_pool step.view.call.task
    pub lock : IsPooling (task_on_pool Last.call.task) → Holds step.view (pool_lock core.config) Write → Holds Last (pool_lock core.config) Write

  -- the pass has the nodes that it had
  pub record KeepsNodes : Type 0 where
    pub forth : (n : ℕ) → Contains (nodes_of step.view) n → Contains (nodes_of Last) n
    pub back : (n : ℕ) → Contains (nodes_of Last) n → Contains (nodes_of step.view) n
    pub once : IsOnce (nodes_of step.view) → IsOnce (nodes_of Last)
    pub batch : (n : ℕ) → Contains (batch_nodes_of Last) n → Contains (batch_nodes_of step.view) n

  -- a step that stores none of these words
  pub unseen-update : node_scope.names step.name ≡ false → option_map update_on_nodes Last.rebuild ≡ option_map update_on_nodes step.view.rebuild → LeavesUpdate
  unseen-update none rebuild = record {
    rebuild = rebuild;
    update = λ same. false≢true (sym none ∙ ap node_scope.names (sym same));
    arena = λ same. false≢true (sym none ∙ ap node_scope.names (sym same));
  }

  pub unseen-pool : node_scope.names step.name ≡ false → task_on_pool Last.call.task ≡ task_on_pool step.view.call.task
      → (IsPooling (task_on_pool Last.call.task) → Holds step.view (pool_lock core.config) Write → Holds Last (pool_lock core.config) Write) → LeavesPool
  unseen-pool none task lock = record {
    head = λ same. false≢true (sym none ∙ ap node_scope.names (sym same));
    next = λ n same. false≢true (sym none ∙ ap node_scope.names (sym same));
    count = λ same. false≢true (sym none ∙ ap node_scope.names (sym same));
    task = task;
    lock = lock;
  }

  -- the same lists of nodes are the same nodes
  pub same-nodes : flat_map (λ (b : Batch). b.nodes) Last.batches ≡ flat_map (λ (b : Batch). b.nodes) step.view.batches → Last.loose ≡ step.view.loose → nodes_in Last.rebuild ≡ nodes_in step.view.rebuild → KeepsNodes
  same-nodes batches loose update =
      let all : nodes_of Last ≡ nodes_of step.view = (λ i. batches i ++ (loose i ++ update i)) in
      let own : batch_nodes_of Last ≡ batch_nodes_of step.view = (λ i. batches i ++ loose i) in
      record {
        forth = λ n among. subst (λ (l : List ℕ). Contains l n) (sym all) among;
        back = λ n among. subst (λ (l : List ℕ). Contains l n) all among;
        once = λ once. subst IsOnce (sym all) once;
        batch = λ n among. subst (λ (l : List ℕ). Contains l n) own among;
      }

  module _ (a : Lawful core step) where
    abbrev nodes : Nodes
    nodes = a.laws.nodes

    -- ---- updates

    module _ (leaves : LeavesUpdate) where
      arena-same : (named layer : ℕ) → arena_of New named layer ≡ arena_of Old named layer
      arena-same named layer =
          fold-step node_scope (λ k v. refl) kind core step a.at a.pass (λ arena view. arena_after layer arena view.rebuild) (λ n. ap (λ (o : Option Rebuild). arena_after layer n o) leaves.rebuild) named

      -- of some update
      has-forth : (number : ℕ) (P : Option Rebuild → Type 0) → HasPass Old number (λ view. P view.rebuild) → HasPass New number (λ view. P view.rebuild)
      has-forth number P h =
          has-step node_scope (λ k v. refl) kind core step a.at a.pass number (λ view. P view.rebuild) (λ view. P view.rebuild) h
          (λ seat view apart found own has. has) (λ same has. subst P (sym leaves.rebuild) has)

      has-back : (number : ℕ) (P : Option Rebuild → Type 0) → HasPass New number (λ view. P view.rebuild) → HasPass Old number (λ view. P view.rebuild)
      has-back number P h =
          has-unstep node_scope (λ k v. refl) kind core step a.at a.pass number (λ view. P view.rebuild) (λ view. P view.rebuild) h
          (λ seat view apart found own has. has) (λ same has. subst P leaves.rebuild has)

      -- of each
      each-forth : (P Q : Rebuild → Type 0) → ((r : Rebuild) → P r → Q r) → EachUpdate Old (λ number view r. P r) → EachUpdate New (λ number view r. Q r)
      each-forth P Q more h =
          each-step node_scope (λ k v. refl) kind core step a.at a.pass (λ number view. IfSome view.rebuild P) (λ number view. IfSome view.rebuild Q) h
          (λ seat number view apart found own old. if_some_map _ P Q more old)
          (λ old. subst (λ (o : Option Rebuild). IfSome o Q) (sym leaves.rebuild) (if_some_map _ P Q more old))

      each-back : (P : Rebuild → Type 0) → EachUpdate New (λ number view r. P r) → EachUpdate Old (λ number view r. P r)
      each-back P h =
          each-unstep node_scope (λ k v. refl) kind core step a.at a.pass (λ number view. IfSome view.rebuild P) (λ number view. IfSome view.rebuild P) h
          (λ seat number view apart found own old. old) (λ old. subst (λ (o : Option Rebuild). IfSome o P) leaves.rebuild old)

      -- trees and arenas
      pub tree-part : (later : Nodes) → KeepsHomes core nodes later → TreePart later New
      tree-part later k =
          let h = a.laws.places in
          let update : New.word Update ≡ Old.word Update = word-step-other kind core step Update leaves.update in
          let arena : New.word Arena ≡ Old.word Arena = word-step-other kind core step Arena leaves.arena in
          let forth : (n : ℕ) (home : Home) → IsInTree home → nodes.home n ≡ home → later.home n ≡ home = λ n home inside e. k.stays n (subst IsInTree (sym e) inside) ∙ e in
          record {
            in_use = λ n above. (k.spares n).0 (h.in_use n above);
            arenas = λ n below e. h.arenas n below ((k.spares n).1 e);
            slot_trees = λ n l t e.
                elim (k.stood n (subst IsInTree (sym e) tt)) [
                  | inl same ↦ h.slot_trees n l t (sym same ∙ e)
                  | inr new ↦ new.3
                ];
            main_trees = λ n l e.
                subst (λ (x : ℕ). IsInArena core.config x n) (sym (arena-same (New.word Arena) l ∙ ap (λ (x : ℕ). arena_of Old x l) arena))
                (h.main_trees n l (old later k n (under (Main l)) tt (λ l t same. absurd cc) e));
            made_trees = λ n number l e. h.made_trees n number l (old later k n (made number l) tt (λ l t same. absurd cc) e);
            made_by = λ n number l. (
              λ e. has-forth number (λ o. IsSomeAnd o (λ r. IsMadeIn core.config r l n)) ((h.made_by n number l).0 (old later k n (made number l) tt (λ l t same. absurd cc) e)),
              λ has. forth n (made number l) tt ((h.made_by n number l).1 (has-back number (λ o. IsSomeAnd o (λ r. IsMadeIn core.config r l n)) has)),
            );
            in_arena = each-forth _ _ (λ r inside. inside) h.in_arena;
            update = λ number. (
              λ e. has-forth number (λ o. IsSome o) ((h.update number).0 (sym update ∙ e)),
              λ has. update ∙ (h.update number).1 (has-back number (λ o. IsSome o) has),
            );
            superseded_by = λ n number name e.
                has-forth number (λ o. IsSomeAnd o (λ r. (r.is_reclaimed ≡ false) × IsOfReplaced core.config r name n))
                (h.superseded_by n number name (old later k n (superseded number name) tt (λ l t same. absurd cc) e));
            returning_by = λ n number e.
                let was = h.returning_by n number (old later k n (returning number) tt (λ l t same. absurd cc) e) in
                (was.0, has-forth number (λ o. IsSomeAnd o (λ r. r.is_reclaimed ≡ true)) was.1);
            arena = subst (λ (x : ℕ). x < 2) (sym arena) h.arena;
            named = each-forth (NamesArena Old) (NamesArena New) (λ r names. if_some_map r.arena _ _ (λ number t. (t.0, arena ∙ t.1)) names) h.named;
            idle = λ unread n inside.
                (k.spares n).0 (h.idle (each-back (λ r. IsNone r.arena) unread) n (subst (λ (x : ℕ). IsInArena core.config (1 - x) n) arena inside));
          }
        where
          -- a home that is in no tree of a slot is not new
          old : (later : Nodes) → KeepsHomes core nodes later → (n : ℕ) (home : Home) → IsInTree home → ((l t : ℕ) → home ≢ under (Slot l t)) → later.home n ≡ home → nodes.home n ≡ home
          old later k n home inside other e =
              elim (k.stood n (subst IsInTree (sym e) inside)) [
                | inl same ↦ sym same ∙ e
                | inr new ↦ absurd (other new.0 new.1 (sym e ∙ new.2))
              ]

    -- ---- the pool

    pool-moved : (v w : View) (task : Task) (many : ℕ) → New.word PoolFree ≡ Old.word PoolFree → (IsPooling task → Holds v (pool_lock core.config) Write → Holds w (pool_lock core.config) Write)
        → PoolsUnder Old v task many → PoolsUnder New w task many
    pool-moved v w (Pooling taken given) many same locks h = (locks tt h.0, ap (λ (k : ℕ). k + given) same ∙ h.1)
    pool-moved v w _ many same locks h = tt

    -- a step that leaves the pool, whoever is changing it
    pub pool-stays : (later : Nodes) → ((n : ℕ) → (nodes.home n ≡ free) ↔ (later.home n ≡ free)) → LeavesPool → PoolPart later New
    pool-stays later frees leaves =
        let h = a.laws.places in
        let head : New.word PoolHead ≡ Old.word PoolHead = word-step-other kind core step PoolHead leaves.head in
        let next : (n : ℕ) → New.word (PoolNext n) ≡ Old.word (PoolNext n) = λ n. word-step-other kind core step (PoolNext n) (leaves.next n) in
        let count : New.word PoolFree ≡ Old.word PoolFree = word-step-other kind core step PoolFree leaves.count in
        record {
          chain = h.chain;
          linked = rw head (chain-kept (λ n. Old.word (PoolNext n)) (λ n. New.word (PoolNext n)) (Old.word PoolHead) h.chain (λ n c. next n) h.linked);
          once = h.once;
          free_nodes = λ n. (λ among. (frees n).0 ((h.free_nodes n).0 among), λ e. (h.free_nodes n).1 ((frees n).1 e));
          batch_nodes = λ n e. h.batch_nodes n ((frees n).1 e);
          count = λ quiet.
              count ∙
              h.count
              (each-unstep node_scope (λ k v. refl) kind core step a.at a.pass (λ number view. ¬ IsPooling view.call.task) (λ number view. ¬ IsPooling view.call.task) quiet
              (λ seat number view apart found own none. none) (λ none. subst (λ (t : Task). ¬ IsPooling t) leaves.task none));
          pool = each-step node_scope (λ k v. refl) kind core step a.at a.pass (λ number view. PoolsUnder Old view view.call.task (length h.chain)) (λ number view. PoolsUnder New view view.call.task (length h.chain)) h.pool
              (λ seat number view apart found own old.
              pool-moved (seen_of node_scope number view) (seen_of node_scope number view) (task_on_pool view.call.task) (length h.chain) count (λ pooling holds. holds) old)
              (λ old.
              pool-moved (seen_of node_scope step.number step.view) (seen_of node_scope step.number Last) (task_on_pool Last.call.task) (length h.chain) count leaves.lock
              (subst (λ (t : Task). PoolsUnder Old (seen_of node_scope step.number step.view) t (length h.chain)) (sym leaves.task) old));
        }

    -- ---- owners

    -- where each has the nodes that it had
    pub owner-stays : KeepsNodes → OwnerPart nodes New
    owner-stays keeps =
        let h = a.laws.places in
        let seen : (n : ℕ) (view : View) → Contains (nodes_of (seen_of node_scope step.number view)) n → Contains (nodes_of view) n = λ n view c. subst (λ (l : List ℕ). Contains l n) (seen-nodes step.number view) c in
        let unseen : (n : ℕ) (view : View) → Contains (nodes_of view) n → Contains (nodes_of (seen_of node_scope step.number view)) n = λ n view c. subst (λ (l : List ℕ). Contains l n) (sym (seen-nodes step.number view)) c in
        record {
          owned = λ n number. (
            λ owns.
                has-step node_scope (λ k v. refl) kind core step a.at a.pass number (λ v. Contains (nodes_of v) n) (λ v. Contains (nodes_of v) n) ((h.owned n number).0 owns)
                (λ seat view apart found own has. has) (λ same has. unseen n Last (keeps.forth n (seen n step.view has))),
            λ has.
                (h.owned n number).1
                (has-unstep node_scope (λ k v. refl) kind core step a.at a.pass number (λ v. Contains (nodes_of v) n) (λ v. Contains (nodes_of v) n) has
                (λ seat view apart found own one. one) (λ same one. unseen n step.view (keeps.back n (seen n Last one)))),
          );
          owned_once = each-step node_scope (λ k v. refl) kind core step a.at a.pass (λ number view. IsOnce (nodes_of view)) (λ number view. IsOnce (nodes_of view)) h.owned_once
              (λ seat number view apart found own once. once)
              (λ once. subst IsOnce (sym (seen-nodes step.number Last)) (keeps.once (subst IsOnce (seen-nodes step.number step.view) once)));
          below = each-step node_scope (λ k v. refl) kind core step a.at a.pass (λ number view. (n : ℕ) → Contains (batch_nodes_of view) n → n < core.config.nodes)
              (λ number view. (n : ℕ) → Contains (batch_nodes_of view) n → n < core.config.nodes) below-before
              (λ seat number view apart found own old. old) (λ old n among. old n (keeps.batch n among));
        }
      where
        below-before : EachPass Old (λ number view. (n : ℕ) → Contains (batch_nodes_of view) n → n < core.config.nodes)
        below-before number view among own n inside =
            elim (Contains-append_cases (flat_map (λ b. b.nodes) view.batches) view.loose n inside) [
              | inl batches ↦
                  let t = flat_from (λ b. b.nodes) view.batches n batches in
                  a.laws.places.batches t.0 n (contains_flat (λ v. v.batches) Old.passes view t.0 among t.1) t.2
              | inr loose ↦ a.laws.places.loose number view among own n loose
            ]

    -- ---- all of it, where no node changes its home

    pub NodesInOnePlace-stays : LeavesPool → KeepsNodes → LeavesUpdate → NodesInOnePlace nodes (after_step kind core step)
    NodesInOnePlace-stays pool keeps update =
        together (after_step kind core step) nodes (pool-stays nodes (λ n. (λ e. e, λ e. e)) pool) (owner-stays keeps) (tree-part update nodes (same-homes core nodes))

    -- a step that changes batches, but not their nodes
    pub NodesInOnePlace-rebatched : node_scope.names step.name ≡ false → Last.locks ≡ step.view.locks → Last.call ≡ step.view.call
        → flat_map (λ (b : Batch). b.nodes) Last.batches ≡ flat_map (λ (b : Batch). b.nodes) step.view.batches → Last.loose ≡ step.view.loose → Last.rebuild ≡ step.view.rebuild
        → NodesInOnePlace nodes (after_step kind core step)
    NodesInOnePlace-rebatched none locks call batches loose rebuild =
        NodesInOnePlace-stays
        (unseen-pool none (ap (λ (c : Call). task_on_pool c.task) call) (λ pooling holds. subst (λ l. Holds (record Last { locks = l }) (pool_lock core.config) Write) (sym locks) holds))
        (same-nodes batches loose (ap nodes_in rebuild)) (unseen-update none (ap (option_map update_on_nodes) rebuild))

  -- ---- the pool, under its lock

  -- while a pass writes under its lock, no other one changes it
  module _ (a : Acts core step) (lock : Holds step.view (pool_lock core.config) Write) where
    pub others-unpooled : (seat number : ℕ) (view : View) → seat ≢ step.seat → IsViewAt core seat view → IsPass view number → ¬ IsPooling (task_on_pool view.call.task)
    others-unpooled seat number view apart found own pooling =
        let h = a.laws.places in
        let holds : Holds view (pool_lock core.config) Write =
        pools_lock Old (seen_of node_scope number view) (task_on_pool view.call.task) (length h.chain)
        (each-seat node_scope (λ k v. refl) core (λ k v. PoolsUnder Old v v.call.task (length h.chain)) h.pool seat number view found own) pooling in
        let none : HoldsNot view (pool_lock core.config) = writer-alone core (pool_lock core.config) step.seat seat step.number number step.view view a.laws.locks a.at a.pass lock apart found own in
        none-some Write (sym none ∙ holds)

    -- so it is as the own task says
    pub pool-own : PoolsUnder Old (seen_of node_scope step.number step.view) (task_on_pool step.view.call.task) (length a.laws.places.chain)
    pool-own = each-seat node_scope (λ k v. refl) core (λ k v. PoolsUnder Old v v.call.task (length a.laws.places.chain)) a.laws.places.pool step.seat step.number step.view a.at a.pass

    pub pool-idle : ¬ IsPooling (task_on_pool step.view.call.task) → Old.word PoolFree ≡ length a.laws.places.chain
    pool-idle idle =
        a.laws.places.count
        (each-seats node_scope (λ k v. refl) core (λ k v. ¬ IsPooling v.call.task)
        (λ seat number view found own.
        elim (cases_eq seat step.seat) [
          | inl same ↦
              let one : step.view ≡ view = at_one core.views step.seat step.view view a.at (subst (λ (k : ℕ). IsViewAt core k view) same found) in
              subst (λ (v : View). ¬ IsPooling (task_on_pool v.call.task)) one idle
          | inr apart ↦ others-unpooled seat number view apart found own
        ]))

    -- a step under it
    pub pool-part : (later : Nodes) (chain : List ℕ) → IsChain (λ n. New.word (PoolNext n)) (New.word PoolHead) chain → IsOnce chain → ((n : ℕ) → Contains chain n ↔ (later.home n ≡ free))
        → ((n : ℕ) → later.home n ≡ free → n < core.config.nodes) → (¬ IsPooling (task_on_pool Last.call.task) → New.word PoolFree ≡ length chain)
        → PoolsUnder New (seen_of node_scope step.number Last) (task_on_pool Last.call.task) (length chain) → PoolPart later New
    pool-part later chain linked once frees below count own_pool = record {
      chain = chain;
      linked = linked;
      once = once;
      free_nodes = frees;
      batch_nodes = below;
      count = λ quiet. count (each-seat node_scope (λ k v. refl) (after_step kind core step) (λ k v. ¬ IsPooling v.call.task) quiet step.seat step.number Last (view-step kind core step a.at) a.pass);
      pool = each-step node_scope (λ k v. refl) kind core step a.at a.pass (λ number view. ⊤) (λ number view. PoolsUnder New view view.call.task (length chain)) (λ number view among own. tt)
          (λ seat number view apart found own old. unpooled New (seen_of node_scope number view) (task_on_pool view.call.task) (length chain) (others-unpooled seat number view apart found own)) (λ old. own_pool);
    }
