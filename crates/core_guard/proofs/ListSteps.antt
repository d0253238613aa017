-- Steps that the laws of places do not see: those on locks and on lists. The steps on the list of free indexes keep all.
use Rattle.std.proofs.Common.{◌≡◌, ◌⊎◌, ℕ, zero, suc, ◌-◌, Bool, true, false, cond, None, option_map, refl, ap, sym, ◌∙◌, subst, inl, inr}
use Rattle.std.specs.Prelude.{⊤}
use Rattle.std.proofs.lemmas.Bool.{false≢true}
use Rattle.word_map.specs.declared.name.Name.{Name}
use Rattle.word_map.specs.declared.name.Name.TheVariants.{Lock, SlotHead, SlotNext, State, PoolHead, PoolNext, PoolFree}
use Rattle.core_state.specs.declared.view.Task.{Task}
use Rattle.core_state.specs.declared.view.Task.TheVariants.{Nothing, Creating, Destroying, Pooling}
use Rattle.core_state.specs.declared.view.Call.{Call}
use Rattle.core_state.specs.declared.view.View.{View}
use Rattle.core_state.specs.View.{known_word}
use Rattle.core_state.specs.Core.{Core}
use Rattle.core_state.specs.Kind.{Kind, Step, Steps, learned, found_by, view_after, after_step}
use Rattle.core_state.specs.Formed.{IsFormed}
use Rattle.core_state.specs.Frame.{IsOutside}
use Rattle.core_state.specs.Guards.{GuardsHold}
use Rattle.core_state.specs.Scope.{Scope, bare_view}
use Rattle.core_state.specs.Parts.{call_at, call_on_places, task_on_pool, task_on_cover, task_at_place, update_on_nodes, update_on_trees, update_on_places, update_on_cover, update_on_readers}
use Rattle.core_state.specs.LocksAgree.{LocksAgree, lock_scope}
use Rattle.core_state.specs.BodiesAgree.{BodiesAgree}
use Rattle.core_state.specs.NodesInOnePlace.{NodesInOnePlaceIn, NodesInOnePlace, node_scope}
use Rattle.core_state.specs.TreesSound.{TreesSoundIn, tree_scope}
use Rattle.core_state.specs.LocationsHold.{LocationsHoldIn, location_scope}
use Rattle.core_state.specs.BodiesCovered.{BodiesCoveredIn, cover_scope}
use Rattle.core_state.specs.WalksLead.{WalksLeadIn, walk_scope}
use Rattle.core_state.specs.ReadersCounted.{ReadersCountedIn, reader_scope}
use Rattle.core_state.specs.Invariants.{Invariants}
use Rattle.core_state.specs.Lists.{MayStoreLink, store_link, MayStoreHead, store_head, task_by_head, is_live}
use Rattle.core_state.proofs.Frames.{frame, step-same}
use Rattle.core_guard.proofs.ListsAgree.{BodiesAgree-store_link, BodiesAgree-store_head}
use Rattle.core_guard.proofs.LockSteps.{LocksAgree-other}
use Rattle.core_guard.proofs.Leaving.{Acts, acts-of, Lawful, lawful, IsIdle, idle-places, idle-cover, idle-at_place}

-- ---- the laws of places

-- a word that none of them reads: of a lock or of a list
abbrev pub IsAsideWord : Name → Type 0
IsAsideWord (Lock lock) = ⊤
IsAsideWord SlotHead = ⊤
IsAsideWord (SlotNext i) = ⊤
IsAsideWord PoolHead = ⊤
IsAsideWord (PoolNext n) = ⊤
IsAsideWord PoolFree = ⊤
IsAsideWord _ = ⊥

record IsHidden (name : Name) : Type 0 where
  trees : tree_scope.names name ≡ false
  locations : location_scope.names name ≡ false
  cover : cover_scope.names name ≡ false
  walks : walk_scope.names name ≡ false
  readers : reader_scope.names name ≡ false

aside-hidden : (name : Name) → IsAsideWord name → IsHidden name
aside-hidden (Lock lock) h = record { trees = refl; locations = refl; cover = refl; walks = refl; readers = refl }
aside-hidden SlotHead h = record { trees = refl; locations = refl; cover = refl; walks = refl; readers = refl }
aside-hidden (SlotNext i) h = record { trees = refl; locations = refl; cover = refl; walks = refl; readers = refl }
aside-hidden PoolHead h = record { trees = refl; locations = refl; cover = refl; walks = refl; readers = refl }
aside-hidden (PoolNext n) h = record { trees = refl; locations = refl; cover = refl; walks = refl; readers = refl }
aside-hidden PoolFree h = record { trees = refl; locations = refl; cover = refl; walks = refl; readers = refl }
aside-hidden _ h = absurd h

-- what they read of a call is the same where that is the same, or idle before and after
module _ {X : Type 0} (f : Call → X) (none : X) (idle : (c : Call) → IsIdle c.task → f c ≡ none) where
  same-part : (before after : Call) → (after ≡ before) ⊎ (IsIdle before.task × IsIdle after.task) → f after ≡ f before
  same-part before after (inl same) = ap f same
  same-part before after (inr t) = idle after t.1 ∙ sym (idle before t.0)

module _ (kind : Kind) (core : Core) (step : Step) where
  -- a step that makes no entry and changes of the view no more than locks, nodes that are to be given back, and a task that
  -- handles no body
  pub record KeepsPlaces : Type 0 where
    pub aside : IsAsideWord step.name
    pub entry : (value : ℕ) → kind.entry step.view step.name value ≡ None
    pub batches : (view_after kind core step).batches ≡ step.view.batches
    pub written : (view_after kind core step).written ≡ step.view.written
    pub walk : (view_after kind core step).walk ≡ step.view.walk
    pub rebuild : (view_after kind core step).rebuild ≡ step.view.rebuild
    pub call : ((view_after kind core step).call ≡ step.view.call) ⊎ (IsIdle step.view.call.task × IsIdle (view_after kind core step).call.task)

  outside : (scope : Scope) → KeepsPlaces → scope.names step.name ≡ false → scope.part (bare_view step.number) (view_after kind core step) ≡ scope.part (bare_view step.number) step.view
      → IsOutside scope kind core step
  outside scope k hidden part = record { name = λ stored. hidden; entry = λ reads. k.entry; part = part }

  -- leaves them all, so that the other three are what is to be shown
  pub Invariants-aside : (a : Lawful core step) → KeepsPlaces → LocksAgree (after_step kind core step) → BodiesAgree (after_step kind core step) → NodesInOnePlace a.laws.nodes (after_step kind core step)
      → Invariants (after_step kind core step)
  Invariants-aside a k locks bodies nodes =
      let bare = bare_view step.number in
      let h = a.laws in
      let last = view_after kind core step in
      let hidden = aside-hidden step.name k.aside in
      let places : call_on_places last.call ≡ call_on_places step.view.call = same-part call_on_places _ idle-places step.view.call last.call k.call in
      let covers : call_at (task_on_cover last.call.task) ≡ call_at (task_on_cover step.view.call.task) =
      same-part (λ c. call_at (task_on_cover c.task)) _ (λ c calm. ap call_at (idle-cover c.task calm)) step.view.call last.call k.call
      in
      let stands : call_at (task_at_place last.call.task) ≡ call_at (task_at_place step.view.call.task) =
      same-part (λ c. call_at (task_at_place c.task)) _ (λ c calm. ap call_at (idle-at_place c.task calm)) step.view.call last.call k.call
      in
      let same = λ (scope : Scope) (o : IsOutside scope kind core step). step-same scope kind core step a.at a.pass o in
      record {
        nodes = h.nodes;
        locks = locks;
        bodies = bodies;
        places = nodes;
        trees =
            frame tree_scope (TreesSoundIn h.nodes) core (after_step kind core step)
            (same tree_scope (outside tree_scope k hidden.trees (λ i. record bare { written = k.written i; rebuild = option_map update_on_trees (k.rebuild i) }))) h.trees;
        locations =
            frame location_scope (LocationsHoldIn h.nodes) core (after_step kind core step)
            (same location_scope (outside location_scope k hidden.locations (λ i. record bare { call = places i; batches = k.batches i; rebuild = option_map update_on_places (k.rebuild i) })))
            h.locations;
        cover =
            frame cover_scope (BodiesCoveredIn h.nodes) core (after_step kind core step)
            (same cover_scope (outside cover_scope k hidden.cover (λ i. record bare { call = covers i; rebuild = option_map update_on_cover (k.rebuild i) }))) h.cover;
        walks =
            frame walk_scope WalksLeadIn core (after_step kind core step)
            (same walk_scope (outside walk_scope k hidden.walks (λ i. record bare { walk = k.walk i }))) h.walks;
        readers =
            frame reader_scope (ReadersCountedIn h.nodes) core (after_step kind core step)
            (same reader_scope (outside reader_scope k hidden.readers (λ i. record bare { walk = k.walk i; call = stands i; rebuild = option_map update_on_readers (k.rebuild i) })))
            h.readers;
      }

-- ---- the steps on the list of free indexes

-- a task that does nothing with the pool
abbrev IsOffPool : Task → Type 0
IsOffPool (Pooling taken given) = ⊥
IsOffPool _ = ⊤

off-pool : (task : Task) → IsOffPool task → task_on_pool task ≡ Nothing
off-pool (Pooling taken given) h = absurd h
off-pool _ h = refl

-- a head leaves a task on the list
head-task : (P : Task → Type 0) → ((index : ℕ) → P (Creating index)) → ((index : ℕ) → P (Destroying index)) → (view : View) (found value : ℕ) → P (task_by_head view found value)
head-task P creates destroys view found zero = creates (found - 1)
head-task P creates destroys view found (suc index) = go (is_live (known_word view (State index)))
  where
    go : (live : Bool) → P (cond live (Destroying index) (Creating (found - 1)))
    go true = destroys index
    go false = creates (found - 1)

-- the law of nodes where a step stores no word of the pool and leaves locks, nodes and updates, and does nothing with the pool
pub record KeepsPool (kind : Kind) (core : Core) (step : Step) : Type 0 where
  pub hidden : node_scope.names step.name ≡ false
  pub locks : (view_after kind core step).locks ≡ step.view.locks
  pub batches : (view_after kind core step).batches ≡ step.view.batches
  pub loose : (view_after kind core step).loose ≡ step.view.loose
  pub rebuild : (view_after kind core step).rebuild ≡ step.view.rebuild
  pub pool : task_on_pool (view_after kind core step).call.task ≡ task_on_pool step.view.call.task

pub NodesInOnePlace-other : (kind : Kind) (core : Core) (step : Step) (a : Acts core step) → KeepsPool kind core step → NodesInOnePlace a.laws.nodes (after_step kind core step)
NodesInOnePlace-other kind core step a k =
    let bare = bare_view step.number in
    let aside : IsOutside node_scope kind core step = record {
      name = λ stored. k.hidden;
      entry = λ reads. absurd (false≢true reads);
      part = λ i. record bare { locks = k.locks i; call = call_at (k.pool i); batches = k.batches i; loose = k.loose i; rebuild = option_map update_on_nodes (k.rebuild i) };
    } in
    frame node_scope (NodesInOnePlaceIn a.laws.nodes) core (after_step kind core step) (step-same node_scope kind core step a.at a.pass aside) a.laws.places

pub Invariants-store_link : (before after : Core) → Steps MayStoreLink store_link before after → IsFormed before → GuardsHold before → Invariants before → Invariants after
Invariants-store_link before after steps formed guards h =
    let step = steps.step in
    let asked = steps.allowed.asked in
    let a = acts-of MayStoreLink store_link before after steps formed guards h in
    let bodies = subst BodiesAgree steps.result (BodiesAgree-store_link before after steps formed guards h.locks h.bodies) in
    let hidden : lock_scope.names step.name ≡ false = ap (λ (n : Name). lock_scope.names n) asked.names in
    let pooled : node_scope.names step.name ≡ false = ap (λ (n : Name). node_scope.names n) asked.names in
    let keeps : KeepsPlaces store_link before step = record {
      aside = subst IsAsideWord (sym asked.names) tt;
      entry = λ value. refl;
      batches = refl;
      written = refl;
      walk = refl;
      rebuild = refl;
      call = inl refl;
    } in
    let pool : KeepsPool store_link before step = record { hidden = pooled; locks = refl; batches = refl; loose = refl; rebuild = refl; pool = refl } in
    subst Invariants (sym steps.result) (Invariants-aside store_link before step (lawful a) keeps (LocksAgree-other before step (lawful a) store_link hidden refl) bodies (NodesInOnePlace-other store_link before step a pool))

pub Invariants-store_head : (before after : Core) → Steps MayStoreHead store_head before after → IsFormed before → GuardsHold before → Invariants before → Invariants after
Invariants-store_head before after steps formed guards h =
    let step = steps.step in
    let asked = steps.allowed.asked in
    let a = acts-of MayStoreHead store_head before after steps formed guards h in
    let bodies = subst BodiesAgree steps.result (BodiesAgree-store_head before after steps formed guards h.locks h.bodies) in
    let hidden : lock_scope.names step.name ≡ false = ap (λ (n : Name). lock_scope.names n) asked.names in
    let pooled : node_scope.names step.name ≡ false = ap (λ (n : Name). node_scope.names n) asked.names in
    let calm : IsIdle (view_after store_head before step).call.task = head-task IsIdle (λ i. tt) (λ i. tt) (learned before step) (found_by before step) step.first in
    let off : IsOffPool (view_after store_head before step).call.task = head-task IsOffPool (λ i. tt) (λ i. tt) (learned before step) (found_by before step) step.first in
    let keeps : KeepsPlaces store_head before step = record {
      aside = subst IsAsideWord (sym asked.names) tt;
      entry = λ value. refl;
      batches = refl;
      written = refl;
      walk = refl;
      rebuild = refl;
      call = inr (subst IsIdle (sym asked.list.idle) tt, calm);
    } in
    let pool : KeepsPool store_head before step = record {
      hidden = pooled;
      locks = refl;
      batches = refl;
      loose = refl;
      rebuild = refl;
      pool = off-pool (view_after store_head before step).call.task off ∙ sym (ap task_on_pool asked.list.idle);
    } in
    subst Invariants (sym steps.result) (Invariants-aside store_head before step (lawful a) keeps (LocksAgree-other before step (lawful a) store_head hidden refl) bodies (NodesInOnePlace-other store_head before step a pool))
