-- What the steps on slots, on the pool and on own nodes touch: no body, no tree, no walk.
use Rattle.std.proofs.Common.{◌≡◌, ◌≢◌, ◌⊎◌, ◌↔◌, ℕ, List, Bool, true, false, Option, Some, None, Contains, refl, ap, sym, ◌∙◌, subst, inl, inr, arith}
use Rattle.std.specs.Prelude.{not, filter, IfSome, ◌||◌, ◌∷◌, []}
use Rattle.std.proofs.lemmas.Bool.{eq-eqb, false≢true}
use Rattle.std.proofs.lemmas.Option.{none-some, same_Some}
use Rattle.std.proofs.lemmas.List.Elements.{Contains-push_cases}
use Rattle.word_map.specs.declared.name.Name.{Name}
use Rattle.word_map.specs.declared.name.Name.TheVariants.{State, Phase, Layer, BoxWord, LocA, LocB, Child, Bound, Parent, Main, Slot, Reader}
use Rattle.core_state.specs.declared.item.Store.{Store}
use Rattle.core_state.specs.declared.view.Task.{Task}
use Rattle.core_state.specs.declared.view.Task.TheVariants.{Nothing, Pooling}
use Rattle.core_state.specs.declared.view.Call.{Call}
use Rattle.core_state.specs.declared.view.Marked.{Marked}
use Rattle.core_state.specs.declared.view.Batch.{Batch}
use Rattle.core_state.specs.declared.view.View.{View}
use Rattle.core_state.specs.Names.{same_name}
use Rattle.core_state.specs.Core.{Core, word_of}
use Rattle.core_state.specs.Kind.{Kind, Step, view_after, after_step}
use Rattle.core_state.specs.Encoding.{NamesRoot, slot_tree, layer_of}
use Rattle.core_state.specs.Nodes.{Nodes, Home, free, owned, IsInTree, IsOwnedBy, node_in}
use Rattle.core_state.specs.Batches.{MayReserve, reserve, MayStoreNode, store_node, MayLetSlotGo, let_slot_go, is_in_nodes}
use Rattle.core_state.specs.Bodies.{all_batches}
use Rattle.core_state.specs.BodiesAgree.{body_scope}
use Rattle.core_state.specs.LocationsHold.{location_scope, Removes, IsPlannedIn}
use Rattle.core_state.specs.Pool.{IsPoolTask, MayStorePoolHead, store_pool_head}
use Rattle.core_state.specs.Scope.{sight, word_in}
use Rattle.core_state.specs.TreesSound.{tree_scope, IsAsStored}
use Rattle.core_state.specs.Updates.{IsPlacing}
use Rattle.core_state.proofs.SameNames.{same_name-refl, cases_name}
use Rattle.core_state.proofs.Steps.{word-step, word-step-other}
use Rattle.core_guard.proofs.Leaving.{Acts, if_some_with, IsIdle, leaves-aside, roots-other, Touches, as_before-same, scene-plain, stands-in_tree}
use Rattle.core_guard.proofs.Seats.{each-seat}
use Rattle.core_guard.proofs.TreesLeft.{stored-same, node-word}
use Rattle.core_batch.proofs.BatchesStep.{ChangesBatches, marked-was}
use Rattle.core_batch.proofs.FreeBodies.{freed-low, freed-old, freed-new, freed-changes}
use Rattle.core_batch.proofs.Giving.{given-home, given-other}
use Rattle.core_batch.proofs.Lists.{filter_from}
use Rattle.core_batch.proofs.Owning.{batch-home}
use Rattle.core_batch.proofs.PoolBodies.{same-batches, taken_task, given_task, taken-changes, given-changes}
use Rattle.core_batch.proofs.PoolHeads.{IsTaking, IsGiving, HeadStep, taking, giving, home_later, head-step, pool_later}
use Rattle.core_batch.proofs.Rehome.{rehome, rehome-other, rehome-stays, rehome-stood}
use Rattle.core_batch.proofs.ReserveBodies.{reserved-new, reserved-low, reserved-changes, missed-word}
use Rattle.core_batch.proofs.SlotSteps.{IsReserving, IsMissing, reserving, missing, reserve-step, freed-left}
use Rattle.core_batch.proofs.Taking.{taken-home, taken-other}

-- ---- names

-- a word of a body or of a reader
abbrev pub is_of_body : Name → Bool
is_of_body (State i) = true
is_of_body (Phase i) = true
is_of_body (Layer i) = true
is_of_body (BoxWord i q) = true
is_of_body (LocA i) = true
is_of_body (LocB i) = true
is_of_body (Reader p) = true
is_of_body _ = false

-- a word of a node
record IsNodeWord (name : Name) : Type 0 where
  body : is_of_body name ≡ false
  layer : layer_of name ≡ None

node_word : (name : Name) (n : ℕ) → node_in name ≡ Some n → IsNodeWord name
node_word (Child m k) n e = record { body = refl; layer = refl }
node_word (Bound m k q) n e = record { body = refl; layer = refl }
node_word (Parent m) n e = record { body = refl; layer = refl }
node_word _ n e = absurd (none-some n e)

-- ---- tasks on the pool

pub pool_idle : (t : Task) → IsPoolTask t → IsIdle t
pool_idle Nothing h = tt
pool_idle (Pooling taken given) h = tt
pool_idle _ h = absurd h

pool_removes : (t : Task) (i : ℕ) → IsPoolTask t → ¬ Removes t i
pool_removes Nothing i h removes = removes
pool_removes (Pooling taken given) i h removes = removes
pool_removes _ i h removes = absurd h

pool_places : (t : Task) (i : ℕ) → IsPoolTask t → ¬ IsPlacing t i
pool_places Nothing i h places = places
pool_places (Pooling taken given) i h places = places
pool_places _ i h places = absurd h

-- ---- a step beside bodies and trees

module _ (kind : Kind) (core : Core) (step : Step) (a : Acts core step) where
  abbrev nodes : Nodes
  nodes = a.laws.nodes

  abbrev After : Core
  After = after_step kind core step

  abbrev Last : View
  Last = view_after kind core step

  -- a word that was stored is in a node of the pass, and stands there
  abbrev StandsIn : Nodes → Store → Type 0
  StandsIn later store = IfSome (node_in store.name) (λ n. IsOwnedBy step.number (later.home n) × IsAsStored (word_of After) (later.home n) store.name store.value)

  -- the step names no body and no root; nodes in trees stay, and those of others; the rest is said of what it leaves
  record IsBeside (later : Nodes) : Type 0 where
    plain : (value : ℕ) → kind.entry step.view step.name value ≡ None
    hidden : is_of_body step.name ≡ false
    roots : (name : Name) (root : ℕ) → (NamesRoot name (word_of core name) root → NamesRoot name (word_of After name) root) × (NamesRoot name (word_of After name) root → NamesRoot name (word_of core name) root)
    apart : (n : ℕ) → IsInTree (nodes.home n) → node_in step.name ≢ Some n
    stays : (n : ℕ) → IsInTree (nodes.home n) → later.home n ≡ nodes.home n
    stood : (n : ℕ) → IsInTree (later.home n) → later.home n ≡ nodes.home n
    depth : (n : ℕ) → later.depth n ≡ nodes.depth n
    others : (n number : ℕ) → number ≢ step.number → IsOwnedBy number (nodes.home n) → (later.home n ≡ nodes.home n) × (node_in step.name ≢ Some n)
    rebuild : Last.rebuild ≡ step.view.rebuild
    walk : Last.walk ≡ step.view.walk
    call : (Last.call ≡ step.view.call) ⊎ (IsPoolTask step.view.call.task × IsPoolTask Last.call.task)
    written : (store : Store) → Contains Last.written store → StandsIn later store
    batches : ChangesBatches (all_batches (sight body_scope core)) step.view.batches Last.batches

  -- a word that stood stands, where its node stays with the pass
  stands-on : (later : Nodes) (store : Store) → Contains step.view.written store → ((n : ℕ) → node_in store.name ≡ Some n → store.name ≢ step.name)
      → ((n : ℕ) → node_in store.name ≡ Some n → IsOwnedBy step.number (nodes.home n) → later.home n ≡ nodes.home n) → StandsIn later store
  stands-on later store among other homes =
      if_some_with (node_in store.name) _ _
      (λ n some both.
      subst (λ (home : Home). IsOwnedBy step.number home × IsAsStored (word_of After) home store.name store.value) (sym (homes n some both.0))
      (both.0, stored-same (word_in tree_scope core) (word_of After) (nodes.home n) store.name store.value (word-step-other kind core step store.name (other n some) ∙ sym (node-word core store.name n some)) both.1))
      (each-seat tree_scope (λ k v. refl) core _ a.laws.trees.stored step.seat step.number step.view a.at a.pass store among)

  module _ (later : Nodes) (b : IsBeside later) where
    -- a word of a body is as it was
    same : (name : Name) → is_of_body name ≡ true → word_of After name ≡ word_of core name
    same name of_body = word-step-other kind core step name (λ e. false≢true (sym b.hidden ∙ (ap is_of_body (sym e) ∙ of_body)))

    -- what is said of no task on the pool is said of the own task as before
    task-same : (P : Task → Type 0) → ((t : Task) → IsPoolTask t → ¬ P t) → P step.view.call.task ↔ P Last.call.task
    task-same P none =
        elim b.call [
          | inl e ↦ (λ h. subst (λ (c : Call). P c.task) (sym e) h, λ h. subst (λ (c : Call). P c.task) e h)
          | inr t ↦ (λ h. absurd (none step.view.call.task t.0 h), λ h. absurd (none Last.call.task t.1 h))
        ]

    -- bodies that batches have marked stand where they stood
    held : (batch : Batch) (m : Marked) → Contains (all_batches (sight location_scope After)) batch → Contains batch.marked m → IsPlannedIn (sight location_scope After) batch m × (word_of After (LocB m.index) ≡ 0)
    held batch m among marked =
        let t = marked-was kind core step a b.batches batch m among marked in
        let old = a.laws.locations.held t.0 m t.1 t.2 in (
          elim (old.0) [
            | inl e ↦ inl (e.0, same (LocA m.index) refl ∙ e.1)
            | inr e ↦ inr (e.0, same (LocA m.index) refl ∙ e.1, (e.2.0, e.2.1, e.2.2, e.2.3, t.3 e.2.0 e.2.4))
          ],
          same (LocB m.index) refl ∙ old.1,
        )

    touches-beside : Touches kind core step nodes later
    touches-beside = record {
      leaves = leaves-aside kind core step nodes later b.apart b.stays (λ n inside. b.depth n) b.stood b.roots b.rebuild;
      bounds = λ n k q stands. word-step-other kind core step (Bound n k q) (λ e. b.apart n (stands-in_tree (nodes.home n) stands) (ap node_in (sym e)));
      bodies = λ i. inl (record {
        body = as_before-same _ _ (scene-plain kind core step b.plain i);
        loc_a = same (LocA i) refl;
        loc_b = same (LocB i) refl;
        phase = same (Phase i) refl;
        box = λ q. same (BoxWord i q) refl;
        state = same (State i) refl;
        layer = same (Layer i) refl;
        removes = task-same (λ task. Removes task i) (λ task pool. pool_removes task i pool);
        places = task-same (λ task. IsPlacing task i) (λ task pool. pool_places task i pool);
      });
      call = elim b.call [
        | inl e ↦ inl e
        | inr t ↦ inr (pool_idle step.view.call.task t.0, pool_idle Last.call.task t.1)
      ];
      walk = b.walk;
      reader = λ p. same (Reader p) refl;
      others = b.others;
      written = b.written;
      held = held;
    }

-- ---- slots

module _ (kind : Kind) (core : Core) (step : Step) (a : Acts core step) (l t : ℕ) (names : step.name ≡ Slot l t) where
  -- a slot that named no root and names none
  slot-roots : ((root : ℕ) → word_of core step.name ≢ slot_tree root) → ((root : ℕ) → word_of (after_step kind core step) step.name ≢ slot_tree root) → (name : Name) (root : ℕ)
      → (NamesRoot name (word_of core name) root → NamesRoot name (word_of (after_step kind core step) name) root)
      × (NamesRoot name (word_of (after_step kind core step) name) root → NamesRoot name (word_of core name) root)
  slot-roots old new (Main k) root =
      let same = word-step-other kind core step (Main k) (λ same. let e = same ∙ names in absurd cc) in
      (λ e. same ∙ e, λ e. sym same ∙ e)
  slot-roots old new (Slot k n) root =
      elim (cases_name (Slot k n) step.name) [
        | inl is ↦ (
          λ e. absurd (old root (ap (word_of core) (sym is) ∙ e)),
          λ e. absurd (new root (ap (word_of (after_step kind core step)) (sym is) ∙ e)),
        )
        | inr other ↦ let same = word-step-other kind core step (Slot k n) other in (λ e. same ∙ e, λ e. sym same ∙ e)
      ]
  slot-roots old new _ root = (λ h. h, λ h. h)

  -- a step on a slot
  touches-slot : (left : View) → kind.leaves (record step.view { known = core.log }) step.name (word_of core step.name) step.first step.second ≡ left → left.rebuild ≡ step.view.rebuild → left.walk ≡ step.view.walk
      → left.call ≡ step.view.call → left.written ≡ step.view.written → ((value : ℕ) → kind.entry step.view step.name value ≡ None)
      → ((name : Name) (root : ℕ) → (NamesRoot name (word_of core name) root → NamesRoot name (word_of (after_step kind core step) name) root)
      × (NamesRoot name (word_of (after_step kind core step) name) root → NamesRoot name (word_of core name) root))
      → ChangesBatches (all_batches (sight body_scope core)) step.view.batches (view_after kind core step).batches → Touches kind core step a.laws.nodes a.laws.nodes
  touches-slot left is rebuild walk call written plain roots batches =
      let none : node_in step.name ≡ None = ap node_in names in
      touches-beside kind core step a a.laws.nodes
      (record {
        plain = plain;
        hidden = ap is_of_body names;
        roots = roots;
        apart = λ n inside e. none-some n (sym none ∙ e);
        stays = λ n inside. refl;
        stood = λ n inside. refl;
        depth = λ n. refl;
        others = λ n number apart owns. (refl, λ e. none-some n (sym none ∙ e));
        rebuild = ap (λ (v : View). v.rebuild) is ∙ rebuild;
        walk = ap (λ (v : View). v.walk) is ∙ walk;
        call = inl (ap (λ (v : View). v.call) is ∙ call);
        written = λ store among.
            stands-on kind core step a a.laws.nodes store (subst (λ (xs : List Store). Contains xs store) (ap (λ (v : View). v.written) is ∙ written) among)
            (λ n some same. none-some n (sym none ∙ (ap node_in (sym same) ∙ some))) (λ n some owns. refl);
        batches = batches;
      })

module _ (core : Core) (step : Step) (a : Acts core step) where
  reserved-touches : (l t : ℕ) → IsReserving core step l t → Touches reserve core step a.laws.nodes a.laws.nodes
  reserved-touches l t r =
      touches-slot reserve core step a l t r.names _ r.left refl refl refl refl (λ value. refl)
      (slot-roots reserve core step a l t r.names (λ root e. let empty = r.empty in absurd (omega arith))
      (λ root e. let new = reserved-new core step a l t r in let low = reserved-low core step a l t r in absurd (omega arith)))
      (reserved-changes core step a l t r)

  missed-roots : IsMissing core step → (name : Name) (root : ℕ) → (NamesRoot name (word_of core name) root → NamesRoot name (word_of (after_step reserve core step) name) root)
      × (NamesRoot name (word_of (after_step reserve core step) name) root → NamesRoot name (word_of core name) root)
  missed-roots m name root =
      let same = missed-word core step a m name in
      (λ h. subst (λ (w : ℕ). NamesRoot name w root) (sym same) h, λ h. subst (λ (w : ℕ). NamesRoot name w root) same h)

  pub touches-reserve : MayReserve step.view step.name step.first step.second → Touches reserve core step a.laws.nodes a.laws.nodes
  touches-reserve asked =
      elim (reserve-step core step a asked) [
        | reserving l t r ↦ reserved-touches l t r
        | missing m ↦
            touches-slot reserve core step a asked.layer asked.slot asked.names _ m.left refl refl refl refl (λ value. refl) (missed-roots m)
            (subst (λ (xs : List Batch). ChangesBatches (all_batches (sight body_scope core)) step.view.batches xs) (sym (ap (λ (v : View). v.batches) m.left))
            (same-batches (all_batches (sight body_scope core)) step.view.batches))
      ]

  pub touches-let_slot_go : MayLetSlotGo step.view step.name step.first step.second → Touches let_slot_go core step a.laws.nodes a.laws.nodes
  touches-let_slot_go asked =
      touches-slot let_slot_go core step a asked.layer asked.slot asked.names _ (freed-left core step asked) refl refl refl refl (λ value. refl)
      (slot-roots let_slot_go core step a asked.layer asked.slot asked.names
      (λ root e. let old = ap (word_of core) asked.names ∙ freed-old core step a asked in let low = freed-low core step a asked in absurd (omega arith))
      (λ root e. let new = freed-new core step a asked in absurd (omega arith)))
      (freed-changes core step a asked)

  -- ---- own nodes

  pub touches-store_node : MayStoreNode step.view step.name step.first step.second → Touches store_node core step a.laws.nodes a.laws.nodes
  touches-store_node asked =
      let words = node_word step.name asked.node asked.of_node in
      let home : a.laws.nodes.home asked.node ≡ owned step.number = batch-home core a.laws.nodes a.laws.places step.seat step.number step.view a.at a.pass asked.node asked.owns in
      let the_node : (n : ℕ) → node_in step.name ≡ Some n → n ≡ asked.node = λ n e. same_Some n asked.node (sym e ∙ asked.of_node) in
      touches-beside store_node core step a a.laws.nodes
      (record {
        plain = λ value. refl;
        hidden = words.body;
        roots = roots-other store_node core step words.layer;
        apart = λ n inside e. subst IsInTree (ap a.laws.nodes.home (the_node n e) ∙ home) inside;
        stays = λ n inside. refl;
        stood = λ n inside. refl;
        depth = λ n. refl;
        others = λ n number apart owns. (refl, λ e. apart (sym (subst (IsOwnedBy number) (ap a.laws.nodes.home (the_node n e) ∙ home) owns)));
        rebuild = refl;
        walk = refl;
        call = inl refl;
        written = λ store among.
            elim (Contains-push_cases (filter (λ s. not (same_name s.name step.name)) step.view.written) (record { name = step.name; value = step.first }) store among) [
              | inl early ↦
                  let t = filter_from (λ (s : Store). not (same_name s.name step.name)) step.view.written store early in
                  stands-on store_node core step a a.laws.nodes store t.0
                  (λ n some same. false≢true (sym (ap not (ap (λ (x : Name). same_name x step.name) same ∙ same_name-refl step.name)) ∙ t.1)) (λ n some owns. refl)
              | inr last ↦ subst (λ (s : Store). StandsIn store_node core step a a.laws.nodes s) last (stored_now asked home)
            ];
        batches = same-batches (all_batches (sight body_scope core)) step.view.batches;
      })
    where
      -- the word that was stored
      stored_now : (asked : MayStoreNode step.view step.name step.first step.second) → a.laws.nodes.home asked.node ≡ owned step.number
          → StandsIn store_node core step a a.laws.nodes (record { name = step.name; value = step.first })
      stored_now asked home =
          subst (λ (o : Option ℕ). IfSome o (λ n. IsOwnedBy step.number (a.laws.nodes.home n) × IsAsStored (word_of (after_step store_node core step)) (a.laws.nodes.home n) step.name step.first)) (sym asked.of_node)
          (subst (λ (x : Home). IsOwnedBy step.number x × IsAsStored (word_of (after_step store_node core step)) x step.name step.first) (sym home) (refl, word-step store_node core step))

-- ---- the pool

module _ (kind : Kind) (core : Core) (step : Step) (a : Acts core step) (later : Nodes) where
  -- a step on the pool
  record IsOfPool : Type 0 where
    plain : (value : ℕ) → kind.entry step.view step.name value ≡ None
    hidden : is_of_body step.name ≡ false
    no_node : node_in step.name ≡ None
    no_layer : layer_of step.name ≡ None
    stays : (n : ℕ) → IsInTree (a.laws.nodes.home n) → later.home n ≡ a.laws.nodes.home n
    stood : (n : ℕ) → IsInTree (later.home n) → later.home n ≡ a.laws.nodes.home n
    depth : (n : ℕ) → later.depth n ≡ a.laws.nodes.depth n
    others : (n number : ℕ) → number ≢ step.number → IsOwnedBy number (a.laws.nodes.home n) → later.home n ≡ a.laws.nodes.home n
    rebuild : (view_after kind core step).rebuild ≡ step.view.rebuild
    walk : (view_after kind core step).walk ≡ step.view.walk
    call : IsPoolTask step.view.call.task × IsPoolTask (view_after kind core step).call.task
    written : (store : Store) → Contains (view_after kind core step).written store
        → Contains step.view.written store × ((n : ℕ) → node_in store.name ≡ Some n → IsOwnedBy step.number (a.laws.nodes.home n) → later.home n ≡ a.laws.nodes.home n)
    batches : ChangesBatches (all_batches (sight body_scope core)) step.view.batches (view_after kind core step).batches

  touches-pool : IsOfPool → Touches kind core step a.laws.nodes later
  touches-pool b =
      touches-beside kind core step a later
      (record {
        plain = b.plain;
        hidden = b.hidden;
        roots = roots-other kind core step b.no_layer;
        apart = λ n inside e. none-some n (sym b.no_node ∙ e);
        stays = b.stays;
        stood = b.stood;
        depth = b.depth;
        others = λ n number apart owns. (b.others n number apart owns, λ e. none-some n (sym b.no_node ∙ e));
        rebuild = b.rebuild;
        walk = b.walk;
        call = inr b.call;
        written = λ store among.
            let t = b.written store among in
            stands-on kind core step a later store t.0 (λ n some same. none-some n (sym b.no_node ∙ (ap node_in (sym same) ∙ some))) t.1;
        batches = b.batches;
      })

module _ (core : Core) (step : Step) (a : Acts core step) where
  module _ (asked : MayStorePoolHead step.view step.name step.first step.second) where
    taken-touches : (x : ℕ) → IsTaking core step x → Touches store_pool_head core step a.laws.nodes (rehome a.laws.nodes x (owned step.number))
    taken-touches x t =
        let low : ¬ IsInTree (a.laws.nodes.home x) = λ inside. subst IsInTree (taken-home core step a asked x t) inside in
        touches-pool store_pool_head core step a (rehome a.laws.nodes x (owned step.number))
        (record {
          plain = λ value. refl;
          hidden = ap is_of_body asked.names;
          no_node = ap node_in asked.names;
          no_layer = ap layer_of asked.names;
          stays = rehome-stays a.laws.nodes x (owned step.number) low (λ inside. inside);
          stood = rehome-stood a.laws.nodes x (owned step.number) low (λ inside. inside);
          depth = λ n. refl;
          others = λ n number apart owns. rehome-other a.laws.nodes x (owned step.number) n (taken-other core step a asked x t number n owns);
          rebuild = ap (λ (v : View). v.rebuild) t.left;
          walk = ap (λ (v : View). v.walk) t.left;
          call = (asked.pool.idle, (subst IsPoolTask (sym (ap (λ (v : View). v.call.task) t.left)) (taken_task step.view.call.task asked.pool.idle)));
          written = λ store among. (
            subst (λ (xs : List Store). Contains xs store) (ap (λ (v : View). v.written) t.left) among,
            λ n some owns. rehome-other a.laws.nodes x (owned step.number) n (taken-other core step a asked x t step.number n owns),
          );
          batches = taken-changes core step a asked x t;
        })

    given-touches : (x : ℕ) → IsGiving core step x → Touches store_pool_head core step a.laws.nodes (rehome a.laws.nodes x free)
    given-touches x g =
        let low : ¬ IsInTree (a.laws.nodes.home x) = λ inside. subst IsInTree (given-home core step a asked x g) inside in
        touches-pool store_pool_head core step a (rehome a.laws.nodes x free)
        (record {
          plain = λ value. refl;
          hidden = ap is_of_body asked.names;
          no_node = ap node_in asked.names;
          no_layer = ap layer_of asked.names;
          stays = rehome-stays a.laws.nodes x free low (λ inside. inside);
          stood = rehome-stood a.laws.nodes x free low (λ inside. inside);
          depth = λ n. refl;
          others = λ n number apart owns. rehome-other a.laws.nodes x free n (given-other core step a asked x g number n apart owns);
          rebuild = ap (λ (v : View). v.rebuild) g.left;
          walk = ap (λ (v : View). v.walk) g.left;
          call = (asked.pool.idle, (subst IsPoolTask (sym (ap (λ (v : View). v.call.task) g.left)) (given_task step.view.call.task asked.pool.idle)));
          written = λ store among.
              let t =
              filter_from (λ (s : Store). not (is_in_nodes (x ∷ []) (node_in s.name))) step.view.written store (subst (λ (xs : List Store). Contains xs store) (ap (λ (v : View). v.written) g.left) among)
              in
              (t.0, λ n some owns. rehome-other a.laws.nodes x free n (outside x store.name n some t.1));
          batches = given-changes core step a asked x g;
        })
      where
        outside : (x : ℕ) (name : Name) (n : ℕ) → node_in name ≡ Some n → not (is_in_nodes (x ∷ []) (node_in name)) ≡ true → n ≢ x
        outside x name n some test same =
            let passes = subst (λ o. not (is_in_nodes (x ∷ []) o) ≡ true) some test in
            false≢true (sym (ap (λ (t : Bool). not (t || false)) (eq-eqb x n (sym same))) ∙ passes)

    pub touches-store_pool_head : Touches store_pool_head core step a.laws.nodes (pool_later core step a asked)
    touches-store_pool_head = go (head-step core step a asked)
      where
        go : (h : HeadStep core step) → Touches store_pool_head core step a.laws.nodes (home_later core step a.laws.nodes h)
        go (taking x t) = taken-touches x t
        go (giving x g) = given-touches x g
