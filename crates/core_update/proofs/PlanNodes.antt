-- A store with which the update of the pass notes nodes of its new trees, or that they stand: each node is in one place still.
-- Nodes of its own may come to stand in new trees, which are just those in which the update then has them.
use Rattle.std.proofs.Common.{◌≡◌, ◌≢◌, ◌⊎◌, ◌↔◌, ℕ, ◌+◌, ◌<◌, ◌≤◌, List, ◌++◌, Bool, true, false, length, Contains, Option, Some, None, refl, ap, sym, ◌∙◌, subst, inl, inr, arith}
use Rattle.std.specs.Prelude.{IfSome, IsSome, IsSomeAnd, IsNone, option_map, flat_map, ◌-◌}
use Rattle.std.proofs.lemmas.Bool.{cases_eq}
use Rattle.word_map.specs.declared.name.Name.{Name}
use Rattle.word_map.specs.declared.name.Name.TheVariants.{Main, Slot, Arena, PoolFree}
use Rattle.word_map.specs.declared.config.Config.{Config}
use Rattle.core_state.specs.declared.view.Batch.{Batch}
use Rattle.core_state.specs.declared.view.LockStep.{LockStep}
use Rattle.core_state.specs.declared.view.NewNode.{NewNode}
use Rattle.core_state.specs.declared.view.Rebuild.{Rebuild}
use Rattle.core_state.specs.declared.view.Task.{Task}
use Rattle.core_state.specs.declared.view.Task.TheVariants.{Pooling}
use Rattle.core_state.specs.declared.view.View.{View}
use Rattle.word_map.specs.Names.{pool_lock}
use Rattle.core_state.specs.declared.view.Mode.TheVariants.{Write}
use Rattle.core_state.specs.View.{IsPass, Holds, mode_of}
use Rattle.core_state.specs.Batches.{store_node}
use Rattle.core_state.specs.Core.{Core, IsViewAt}
use Rattle.core_state.specs.Encoding.{IsInArena}
use Rattle.core_state.specs.Kind.{Kind, Step, after_step}
use Rattle.core_state.specs.Nodes.{Nodes, Home, free, spare, owned, made, under, superseded, returning, IsOwnedBy, nodes_in, nodes_of}
use Rattle.core_state.specs.Noting.{with_update, with_written}
use Rattle.core_state.specs.Operation.{store}
use Rattle.core_state.specs.Parts.{task_on_pool, update_on_nodes}
use Rattle.core_state.specs.Scope.{Sight, sight, HasPass, IsOnce}
use Rattle.core_state.specs.Updates.{EachUpdate, HasUpdate, IsMadeIn, arena_of, arena_after}
use Rattle.core_state.specs.NodesInOnePlace.{NodesInOnePlace, node_scope, IsPooling, PoolsUnder, IsOfReplaced, NamesArena}
use Rattle.core_guard.proofs.Leaving.{Acts, Last, other-number}
use Rattle.core_guard.proofs.Seats.{has-seat, seat-has, each-seat, seat-after, stepped, stayed, seen_of}
use Rattle.core_update.proofs.PlacingWidens.{made-once}
use Rattle.core_update.proofs.Swapped.{each-swap, has-swap, flat-swap, fold-swap}
use Rattle.core_state.proofs.Steps.{view-step}

-- a store in an own node, with which the update changes so
abbrev pub planning : (Name → ℕ → Rebuild → Rebuild) → Kind
planning change = record {
  operation = store;
  entry = λ view name value. None;
  leaves = λ view name found value second. with_update (change name value) (with_written name value view);
}

-- a home that such a step neither takes nor gives
abbrev pub IsKeptHome : Home → Type 0
IsKeptHome (owned p) = ⊥
IsKeptHome (made p l) = ⊥
IsKeptHome _ = Unit {0}

-- the nodes of trees that were replaced are of the same arena
replaced-same : (config : Config) (r u : Rebuild) (name : Name) (n : ℕ) → u.arena ≡ r.arena → IsOfReplaced config r name n → IsOfReplaced config u name n
replaced-same config r u (Slot l t) n same h = h
replaced-same config r u (Main l) n same h = subst (λ (o : Option ℕ). IsSomeAnd o (λ old. IsInArena config old n)) (sym same) h
replaced-same config r u _ n same h = absurd h

-- who changes the pool does so under its lock, by the words that there are
pools-again : (s t : Sight) (v w : View) (task : Task) (many : ℕ) → t.config ≡ s.config → t.word ≡ s.word → w.locks ≡ v.locks → PoolsUnder s v task many → PoolsUnder t w task many
pools-again s t v w (Pooling taken given) many config word locks h = (
  subst (λ (l : List LockStep). mode_of l (pool_lock t.config) ≡ Some Write) (sym locks) (subst (λ (c : Config). Holds v (pool_lock c) Write) (sym config) h.0),
  ap (λ (f : Name → ℕ). f PoolFree + given) word ∙ h.1,
)
pools-again s t v w _ many config word locks h = tt

-- a node of an arena is no batch node
in-other : (config : Config) (o : Option ℕ) (n : ℕ) → IsSomeAnd o (λ old. IsInArena config (1 - old) n) → config.nodes ≤ n
in-other config None n t = absurd t
in-other config (Some old) n t = let low = t.0 in omega arith

pub owned-made : (p q l : ℕ) → owned p ≢ made q l
owned-made p q l e = absurd cc

module _ (change : Name → ℕ → Rebuild → Rebuild) (core : Core) (step : Step) (a : Acts core step) (r : Rebuild) (has : step.view.rebuild ≡ Some r) (early : r.is_planned ≡ false) (M : List NewNode) (R : List ℕ) (planned : Bool)
    (two : option_map (change step.name step.first) step.view.rebuild ≡ Some (record r { made = M; roots = R; is_planned = planned })) (later : Nodes) where
  abbrev kind : Kind
  kind = planning change

  abbrev nodes : Nodes
  nodes = a.laws.nodes

  abbrev u : Rebuild
  u = record r { made = M; roots = R; is_planned = planned }

  abbrev First : Sight
  First = sight node_scope (after_step store_node core step)

  abbrev Second : Sight
  Second = sight node_scope (after_step (planning change) core step)

  -- nodes of the update come to stand in its new trees, those in which it then has them
  pub record MakesHomes : Type 0 where
    pub homes : (n : ℕ) → (later.home n ≡ nodes.home n) ⊎ (Contains r.nodes n × (nodes.home n ≡ owned step.number) × ((l : ℕ) × (later.home n ≡ made step.number l)))
    pub own_made : (n l : ℕ) → (later.home n ≡ made step.number l) ↔ IsMadeIn core.config (record r { made = M; roots = R; is_planned = planned }) l n

  module _ (g : MakesHomes) where
    pub home-forth : (n : ℕ) (home : Home) → IsKeptHome home → nodes.home n ≡ home → later.home n ≡ home
    home-forth n home kept e = elim (g.homes n) [ inl same ↦ same ∙ e | inr new ↦ absurd (subst IsKeptHome (sym e ∙ new.1) kept) ]

    pub home-back : (n : ℕ) (home : Home) → IsKeptHome home → later.home n ≡ home → nodes.home n ≡ home
    home-back n home kept e = elim (g.homes n) [ inl same ↦ sym same ∙ e | inr new ↦ absurd (subst IsKeptHome (sym e ∙ new.2.1) kept) ]

    -- who owns a node owns it
    owns-forth : (n number : ℕ) → IsOwnedBy number (nodes.home n) → IsOwnedBy number (later.home n)
    owns-forth n number owns = elim (g.homes n) [ inl same ↦ subst (IsOwnedBy number) (sym same) owns | inr new ↦ subst (IsOwnedBy number) (sym new.2.1) (subst (IsOwnedBy number) new.1 owns) ]

    owns-back : (n number : ℕ) → IsOwnedBy number (later.home n) → IsOwnedBy number (nodes.home n)
    owns-back n number owns = elim (g.homes n) [ inl same ↦ subst (IsOwnedBy number) same owns | inr new ↦ subst (IsOwnedBy number) (sym new.1) (subst (IsOwnedBy number) new.2.1 owns) ]

    -- ---- passes

    -- what is so of the one view is so of the other, where it is of their updates
    forth : (number : ℕ) (P Q : View → Type 0) → ((seat : ℕ) (view : View) → seat ≢ step.seat → IsViewAt core seat view → IsPass view number → P (seen_of node_scope number view) → Q (seen_of node_scope number view))
        → (step.number ≡ number → P (seen_of node_scope step.number (Last store_node core step)) → Q (seen_of node_scope step.number (Last (planning change) core step))) → HasPass First number P → HasPass Second number Q
    forth number P Q others own h = has-swap node_scope (λ k v. refl) (planning change) store_node.leaves core step a.at a.pass number P Q h others own

    back : (number : ℕ) (P Q : View → Type 0) → ((seat : ℕ) (view : View) → seat ≢ step.seat → IsViewAt core seat view → IsPass view number → Q (seen_of node_scope number view) → P (seen_of node_scope number view))
        → (step.number ≡ number → Q (seen_of node_scope step.number (Last (planning change) core step)) → P (seen_of node_scope step.number (Last store_node core step))) → HasPass Second number Q → HasPass First number P
    back number P Q others own h = has-swap node_scope (λ k v. refl) store_node (planning change).leaves core step a.at a.pass number Q P h others own

    -- of updates
    update-forth : (P : Rebuild → Type 0) → (P (update_on_nodes r) → P (update_on_nodes u)) → IsSomeAnd (option_map update_on_nodes step.view.rebuild) P → IsSomeAnd (option_map update_on_nodes (option_map (change step.name step.first) step.view.rebuild)) P
    update-forth P more h = subst (λ (o : Option Rebuild). IsSomeAnd (option_map update_on_nodes o) P) (sym two) (more (subst (λ (o : Option Rebuild). IsSomeAnd (option_map update_on_nodes o) P) has h))

    update-back : (P : Rebuild → Type 0) → (P (update_on_nodes u) → P (update_on_nodes r)) → IsSomeAnd (option_map update_on_nodes (option_map (change step.name step.first) step.view.rebuild)) P → IsSomeAnd (option_map update_on_nodes step.view.rebuild) P
    update-back P more h = subst (λ (o : Option Rebuild). IsSomeAnd (option_map update_on_nodes o) P) (sym has) (more (subst (λ (o : Option Rebuild). IsSomeAnd (option_map update_on_nodes o) P) two h))

    each-forth : (P : Rebuild → Type 0) → (P (update_on_nodes r) → P (update_on_nodes u)) → EachUpdate First (λ number v x. P x) → EachUpdate Second (λ number v x. P x)
    each-forth P more h =
        each-swap node_scope (λ k v. refl) (planning change) store_node.leaves core step a.at a.pass (λ number v. IfSome v.rebuild P) (λ number v. IfSome v.rebuild P) h (λ seat number view apart found is old. old)
        (λ old. subst (λ (o : Option Rebuild). IfSome (option_map update_on_nodes o) P) (sym two) (more (subst (λ (o : Option Rebuild). IfSome (option_map update_on_nodes o) P) has old)))

    each-back : (P : Rebuild → Type 0) → (P (update_on_nodes u) → P (update_on_nodes r)) → EachUpdate Second (λ number v x. P x) → EachUpdate First (λ number v x. P x)
    each-back P more h =
        each-swap node_scope (λ k v. refl) store_node (planning change).leaves core step a.at a.pass (λ number v. IfSome v.rebuild P) (λ number v. IfSome v.rebuild P) h (λ seat number view apart found is old. old)
        (λ old. subst (λ (o : Option Rebuild). IfSome (option_map update_on_nodes o) P) (sym has) (more (subst (λ (o : Option Rebuild). IfSome (option_map update_on_nodes o) P) two old)))

    same-nodes : nodes_in (option_map update_on_nodes step.view.rebuild) ≡ nodes_in (option_map update_on_nodes (option_map (change step.name step.first) step.view.rebuild))
    same-nodes = ap (λ (o : Option Rebuild). nodes_in (option_map update_on_nodes o)) has ∙ sym (ap (λ (o : Option Rebuild). nodes_in (option_map update_on_nodes o)) two)

    same-all : nodes_of (seen_of node_scope step.number (Last store_node core step)) ≡ nodes_of (seen_of node_scope step.number (Last (planning change) core step))
    same-all = ap (λ (l : List ℕ). flat_map (λ b. b.nodes) step.view.batches ++ (step.view.loose ++ l)) same-nodes

    same-arena : (layer start : ℕ) → arena_after layer start (option_map update_on_nodes (option_map (change step.name step.first) step.view.rebuild)) ≡ arena_after layer start (option_map update_on_nodes step.view.rebuild)
    same-arena layer start = ap (λ (o : Option Rebuild). arena_after layer start (option_map update_on_nodes o)) two ∙ sym (ap (λ (o : Option Rebuild). arena_after layer start (option_map update_on_nodes o)) has)

    arena-same : (named layer : ℕ) → arena_of Second named layer ≡ arena_of First named layer
    arena-same named layer = fold-swap node_scope (λ k v. refl) (planning change) store_node.leaves core step a.at a.pass (λ arena view. arena_after layer arena view.rebuild) (λ start. same-arena layer start) named

    -- ---- new trees

    unplanned : (n number l : ℕ) → number ≢ step.number → (later.home n ≡ made number l) → nodes.home n ≡ made number l
    unplanned n number l apart e = elim (g.homes n) [ inl same ↦ sym same ∙ e | inr new ↦ absurd (apart (sym (made-once step.number number new.2.0 l (sym new.2.1 ∙ e)))) ]

    made-forth : (n number l : ℕ) → number ≢ step.number → nodes.home n ≡ made number l → later.home n ≡ made number l
    made-forth n number l apart e = elim (g.homes n) [ inl same ↦ same ∙ e | inr new ↦ absurd (owned-made step.number number l (sym new.1 ∙ e)) ]

    abbrev MadeIn : ℕ → ℕ → View → Type 0
    MadeIn n l v = HasUpdate v (λ x. IsMadeIn core.config x l n)

    made_by-later : ((n number l : ℕ) → (nodes.home n ≡ made number l) ↔ HasPass First number (MadeIn n l)) → (n number l : ℕ) → (later.home n ≡ made number l) ↔ HasPass Second number (MadeIn n l)
    made_by-later h n number l =
        elim (cases_eq number step.number) [
          | inl same ↦
              subst (λ (x : ℕ). (later.home n ≡ made x l) ↔ HasPass Second x (MadeIn n l)) (sym same) (
                λ e. seat-has node_scope (λ k v. refl) (after_step (planning change) core step) step.number (MadeIn n l) (record {
                  seat = step.seat;
                  view = Last (planning change) core step;
                  at = view-step (planning change) core step a.at;
                  pass = a.pass;
                  holds = subst (λ (o : Option Rebuild). IsSomeAnd (option_map update_on_nodes o) (λ x. IsMadeIn core.config x l n)) (sym two) ((g.own_made n l).0 e);
                }),
                λ has_made.
                    let from = has-seat node_scope (λ k v. refl) (after_step (planning change) core step) step.number (MadeIn n l) has_made in
                    (g.own_made n l).1 (own-has n l from.seat from.view from.at from.pass from.holds),
              )
          | inr apart ↦ (
            λ e. forth number (MadeIn n l) (MadeIn n l) (λ seat view other found is made_there. made_there) (λ same. absurd (apart (sym same))) ((h n number l).0 (unplanned n number l apart e)),
            λ has_made. made-forth n number l apart ((h n number l).1 (back number (MadeIn n l) (MadeIn n l) (λ seat view other found is made_there. made_there) (λ same. absurd (apart (sym same))) has_made)),
          )
        ]
      where
        own-has : (n l seat : ℕ) (view : View) → IsViewAt (after_step (planning change) core step) seat view → IsPass view step.number → MadeIn n l (seen_of node_scope step.number view) → IsMadeIn core.config u l n
        own-has n l seat view found is holds =
            elim (seat-after node_scope (λ k v. refl) (planning change) core step a.at a.pass seat step.number view found is) [
              | stepped here one number_same ↦
                  subst (λ (o : Option Rebuild). IsSomeAnd (option_map update_on_nodes o) (λ x. IsMadeIn core.config x l n)) two
                  (subst (λ (v : View). MadeIn n l (seen_of node_scope step.number v)) (sym one) holds)
              | stayed apart old ↦ absurd (other-number core step a seat step.number view apart old is refl)
            ]

    -- ---- the law

    abbrev Replaced : ℕ → Name → Rebuild → Type 0
    Replaced n name x = (x.is_reclaimed ≡ false) × IsOfReplaced core.config x name n

    own-arena : (n : ℕ) → Contains r.nodes n → IsSomeAnd r.arena (λ old. IsInArena core.config (1 - old) n)
    own-arena =
        subst (λ (o : Option Rebuild). IfSome (option_map update_on_nodes o) (λ x. (n : ℕ) → Contains x.nodes n → IsSomeAnd x.arena (λ old. IsInArena core.config (1 - old) n))) has
        (each-seat node_scope (λ k v. refl) core (λ number v. IfSome v.rebuild (λ x. (n : ℕ) → Contains x.nodes n → IsSomeAnd x.arena (λ old. IsInArena core.config (1 - old) n))) a.laws.places.in_arena step.seat step.number step.view a.at a.pass)

    pub NodesInOnePlace-plan : NodesInOnePlace nodes (after_step store_node core step) → NodesInOnePlace later (after_step (planning change) core step)
    NodesInOnePlace-plan h = record {
      in_use = λ n above. home-forth n spare tt (h.in_use n above);
      arenas = λ n below e. h.arenas n below (home-back n spare tt e);
      chain = h.chain;
      linked = h.linked;
      once = h.once;
      free_nodes = λ n. (λ among. home-forth n free tt ((h.free_nodes n).0 among), λ e. (h.free_nodes n).1 (home-back n free tt e));
      batch_nodes = λ n e. h.batch_nodes n (home-back n free tt e);
      count = λ none. h.count
          (each-swap node_scope (λ k v. refl) store_node (planning change).leaves core step a.at a.pass (λ number v. ¬ IsPooling v.call.task) (λ number v. ¬ IsPooling v.call.task) none (λ seat number view apart found is old. old)
          (λ old. old));
      pool =
          each-swap node_scope (λ k v. refl) (planning change) store_node.leaves core step a.at a.pass (λ number v. PoolsUnder First v v.call.task (length h.chain)) (λ number v. PoolsUnder Second v v.call.task (length h.chain)) h.pool
          (λ seat number view apart found is old. let v = seen_of node_scope number view in pools-again First Second v v v.call.task (length h.chain) refl refl refl old)
          (λ old.
          pools-again First Second (seen_of node_scope step.number (Last store_node core step)) (seen_of node_scope step.number (Last (planning change) core step)) (task_on_pool step.view.call.task) (length h.chain) refl refl refl old);
      owned = λ n number. (
        λ owns. forth number (λ v. Contains (nodes_of v) n) (λ v. Contains (nodes_of v) n) (λ seat view apart found is among. among) (λ same. subst (λ (l : List ℕ). Contains l n) same-all) ((h.owned n number).0 (owns-back n number owns)),
        λ all. owns-forth n number ((h.owned n number).1 (back number (λ v. Contains (nodes_of v) n) (λ v. Contains (nodes_of v) n) (λ seat view apart found is among. among) (λ same. subst (λ (l : List ℕ). Contains l n) (sym same-all)) all)),
      );
      owned_once =
          each-swap node_scope (λ k v. refl) (planning change) store_node.leaves core step a.at a.pass (λ number v. IsOnce (nodes_of v)) (λ number v. IsOnce (nodes_of v)) h.owned_once (λ seat number view apart found is old. old) (λ old. subst IsOnce same-all old);
      batches = λ batch n among inside.
          h.batches batch n (subst (λ (l : List Batch). Contains l batch) (flat-swap node_scope (λ k v. refl) (planning change) store_node.leaves core step a.at a.pass (λ v. v.batches) refl) among) inside;
      loose =
          each-swap node_scope (λ k v. refl) (planning change) store_node.leaves core step a.at a.pass (λ number v. (n : ℕ) → Contains v.loose n → n < core.config.nodes) (λ number v. (n : ℕ) → Contains v.loose n → n < core.config.nodes) h.loose
          (λ seat number view apart found is old. old) (λ old. old);
      slot_trees = λ n l t e. h.slot_trees n l t (home-back n (under (Slot l t)) tt e);
      main_trees = λ n l e. subst (λ (x : ℕ). IsInArena core.config x n) (sym (arena-same (First.word Arena) l)) (h.main_trees n l (home-back n (under (Main l)) tt e));
      made_trees = λ n number l e.
          elim (g.homes n) [
            | inl same ↦ h.made_trees n number l (sym same ∙ e)
            | inr new ↦ in-other core.config r.arena n (own-arena n new.0)
          ];
      made_by = made_by-later h.made_by;
      in_arena = each-forth (λ x. (n : ℕ) → Contains x.nodes n → IsSomeAnd x.arena (λ old. IsInArena core.config (1 - old) n)) (λ t. t) h.in_arena;
      update = λ number. (
        λ e. forth number (λ v. IsSome v.rebuild) (λ v. IsSome v.rebuild) (λ seat view apart found is some. some) (λ same some. subst (λ (o : Option Rebuild). IsSome (option_map update_on_nodes o)) (sym two) refl) ((h.update number).0 e),
        λ some. (h.update number).1 (back number (λ v. IsSome v.rebuild) (λ v. IsSome v.rebuild) (λ seat view apart found is there. there) (λ same there. subst (λ (o : Option Rebuild). IsSome (option_map update_on_nodes o)) (sym has) refl) some),
      );
      superseded_by = λ n number name e.
          forth number (λ v. HasUpdate v (Replaced n name)) (λ v. HasUpdate v (Replaced n name)) (λ seat view apart found is t. t)
          (λ same. update-forth (Replaced n name) (λ t. (t.0, replaced-same core.config (update_on_nodes r) (update_on_nodes u) name n refl t.1))) (h.superseded_by n number name (home-back n (superseded number name) tt e));
      returning_by = λ n number e.
          let t = h.returning_by n number (home-back n (returning number) tt e) in
          (t.0, forth number (λ v. HasUpdate v (λ x. x.is_reclaimed ≡ true)) (λ v. HasUpdate v (λ x. x.is_reclaimed ≡ true)) (λ seat view apart found is x. x) (λ same. update-forth (λ x. x.is_reclaimed ≡ true) (λ x. x)) t.1);
      arena = h.arena;
      named = each-forth (NamesArena First) (λ t. t) h.named;
      idle = λ unread n inside. home-forth n spare tt (h.idle (each-back (λ x. IsNone x.arena) (λ t. t) unread) n inside);
    }
