-- Clearing the slot of a merged tree: the next of those in which one was found, once all main words are exchanged.
use Rattle.std.proofs.Common.{◌≡◌, ◌≢◌, ◌⊎◌, ◌↔◌, ℕ, ◌+◌, ◌<◌, ◌≤◌, List, length, Option, option_map, Some, None, false, refl, ap, sym, ◌∙◌, subst, inl, inr, arith}
use Rattle.std.specs.Prelude.{Contains, AllPairs, slice_index_or, get_or}
use Rattle.std.proofs.lemmas.Bool.{cases_eq, cases_lt}
use Rattle.std.proofs.lemmas.Option.{same_Some}
use Rattle.std.proofs.lemmas.List.{get_or_default}
use Rattle.word_map.specs.declared.config.Config.{Config}
use Rattle.word_map.specs.declared.name.Name.{Name}
use Rattle.word_map.specs.declared.name.Name.TheVariants.{Main, Slot}
use Rattle.word_map.specs.Names.{IsName}
use Rattle.core_state.specs.declared.view.Merged.{Merged}
use Rattle.core_state.specs.declared.view.Noted.{Noted}
use Rattle.core_state.specs.declared.view.Rebuild.{Rebuild}
use Rattle.core_state.specs.declared.view.Task.{Task}
use Rattle.core_state.specs.declared.view.Task.TheVariants.{Placing}
use Rattle.core_state.specs.declared.view.View.{View}
use Rattle.core_state.specs.Core.{Core, word_of}
use Rattle.core_state.specs.Kind.{Step, log_after, after_step}
use Rattle.core_state.specs.Encoding.{NamesRoot, layer_of, slot_tree}
use Rattle.core_state.specs.Exchanging.{MayClearSlot, clear_slot}
use Rattle.core_state.specs.Nodes.{Nodes, Home, free, spare, made, under, superseded, returning, IsOwnedBy}
use Rattle.core_state.specs.NodesInOnePlace.{NodesInOnePlaceIn, node_scope, IsOfReplaced}
use Rattle.core_state.specs.Parts.{update_on_cover, update_on_nodes, task_on_cover}
use Rattle.core_state.specs.Scope.{Sight, sight, HasPass}
use Rattle.core_state.specs.TreesSound.{IsSupersededRoot, of_main, of_slot}
use Rattle.core_state.specs.Updates.{IsOldTree, IsStillMerged, IsDone, IsPlacing, HasUpdate, merged_tree}
use Rattle.core_state.specs.BodiesCovered.{cover_scope, KeepsMerged, ExchangesDone}
use Rattle.core_state.specs.Invariants.{Invariants}
use Rattle.core_state.proofs.Opening.{none_in}
use Rattle.core_state.proofs.Steps.{word-step}
use Rattle.core_guard.proofs.Leaving.{Acts, After, Last}
use Rattle.core_guard.proofs.Settled.{sound}
use Rattle.core_guard.proofs.Touched.{IsKept, kept as kept_by}
use Rattle.core_update.proofs.Beside.{law-beside}
use Rattle.core_update.proofs.OwnUpdate.{each-own, holds-own}
use Rattle.core_update.proofs.Publishing.{Published, Publishes, homes_after, is_tree_name}
use Rattle.core_update.proofs.PublishKeeps.{Invariants-published}
use Rattle.core_update.proofs.Turning.{turn, turns, Turns, kept, taken, shown, other-back, other-forth, under-back, superseded-back, made-back, made-forth}

abbrev layer_of_slot : Name → ℕ
layer_of_slot (Slot l t) = l
layer_of_slot _ = 0

abbrev slot_in : Name → ℕ
slot_in (Slot l t) = t
slot_in _ = 0

-- who places a body is seen to
places-seen : (task : Task) (i : ℕ) → IsPlacing task i → IsPlacing (task_on_cover task) i
places-seen (Placing index) i h = h
places-seen _ i h = absurd h

-- two merged trees of one slot are one
pub one-merged : (xs : List Merged) → AllPairs (λ y z. ¬ ((y.layer ≡ z.layer) × (y.slot ≡ z.slot))) xs → (i j l t root other : ℕ) → i < length xs → j < length xs → slice_index_or xs i (merged_tree l t root) ≡ merged_tree l t root
    → slice_index_or xs j (merged_tree l t other) ≡ merged_tree l t other → i ≡ j
one-merged xs once i j l t root other low high one two = go (cases_lt i j) (cases_lt j i)
  where
    d : Merged
    d = merged_tree l t root

    at-j : get_or xs j d ≡ merged_tree l t other
    at-j = get_or_default xs j d (merged_tree l t other) high ∙ two

    go : (i < j) ⊎ (j ≤ i) → (j < i) ⊎ (i ≤ j) → i ≡ j
    go (inl less) other_way = absurd (once i j d less high (ap (λ (m : Merged). m.layer) (one ∙ sym (λ k. record { layer = l; slot = t; root = root })) ∙ ap (λ (m : Merged). m.layer) (sym at-j), ap (λ (m : Merged). m.slot) one ∙ ap (λ (m : Merged). m.slot) (sym at-j)))
    go (inr more) (inl less) = absurd (once j i d less low (ap (λ (m : Merged). m.layer) at-j ∙ ap (λ (m : Merged). m.layer) (sym one), ap (λ (m : Merged). m.slot) at-j ∙ ap (λ (m : Merged). m.slot) (sym one)))
    go (inr more) (inr less) = omega arith

module _ (core : Core) (step : Step) (a : Acts core step) (asked : MayClearSlot step.view step.name step.first step.second) where
  abbrev r : Rebuild
  r = asked.r

  abbrev x : Name
  x = Slot asked.layer asked.slot

  abbrev q : Published
  q = record { swapped = r.swapped; cleared = r.cleared + 1; nodes = r.nodes; made = r.made }

  abbrev change : Rebuild → Rebuild
  change y = record y { cleared = y.cleared + 1 }

  last : Last clear_slot core step ≡ record step.view { rebuild = Some (change r); known = log_after clear_slot core step; joined = None }
  last = ap (λ (o : Option Rebuild). record step.view { rebuild = option_map change o; known = log_after clear_slot core step; joined = None }) asked.update

  merged-kept : KeepsMerged (sight cover_scope core) (update_on_cover r)
  merged-kept = each-own clear_slot core step a r asked.update cover_scope (λ k v. refl) update_on_cover (λ bare v. refl) (λ number v y. KeepsMerged (sight cover_scope core) y) a.laws.cover.merged

  all-swapped : length r.swapped ≡ core.config.layers
  all-swapped = asked.all_swapped ∙ ap (λ (c : Config). c.layers) (sound core step a).config

  below-layers : asked.layer < core.config.layers
  below-layers = (subst (IsName core.config) asked.names a.named).0

  -- the next one
  next : IsStillMerged r asked.layer asked.slot asked.root
  next = (r.cleared, omega arith, asked.some_left, asked.next)

  slot-word : word_of core x ≡ slot_tree asked.root
  slot-word = merged-kept.stand asked.layer asked.slot asked.root next

  not-main : (l : ℕ) → Main l ≢ step.name
  not-main l e = apart (e ∙ asked.names)
    where
      apart : Main l ≡ x → ⊥
      apart e = absurd cc

  done : (n : Noted) → Contains r.noted n → IsDone step.view r n.index
  done n among =
      let some = below-layers in
      let all = all-swapped in
      let h =
      each-own clear_slot core step a r asked.update cover_scope (λ k v. refl) update_on_cover (λ bare v. refl) (λ number v y. ExchangesDone v y) a.laws.cover.exchanged (omega arith) n among
      in
      elim h [ inl t ↦ inl (t.0, λ places. t.1 (places-seen step.view.call.task n.index places)) | inr given ↦ inr given ]

  -- of the merged trees that are left it is the first
  left-merged : (l t root k : ℕ) → r.cleared ≤ k → k < length r.merged → slice_index_or r.merged k (merged_tree l t root) ≡ merged_tree l t root → Slot l t ≡ step.name → k ≡ r.cleared
  left-merged l t root k above below e one =
      let same = one ∙ asked.names in
      let layer : l ≡ asked.layer = ap layer_of_slot same in
      let slot : t ≡ asked.slot = ap slot_in same in
      one-merged r.merged merged-kept.each_once k r.cleared l t root asked.root below asked.some_left e
      (subst (λ (m : ℕ). slice_index_or r.merged r.cleared (merged_tree l m asked.root) ≡ merged_tree l m asked.root) (sym slot)
      (subst (λ (m : ℕ). slice_index_or r.merged r.cleared (merged_tree m asked.slot asked.root) ≡ merged_tree m asked.slot asked.root) (sym layer) asked.next))

  -- what stands there is the tree of that slot
  first-merged : (l t root : ℕ) → slice_index_or r.merged r.cleared (merged_tree l t root) ≡ merged_tree l t root → (Slot l t ≡ step.name) × (root ≡ asked.root)
  first-merged l t root e =
      let same : merged_tree l t root ≡ merged_tree asked.layer asked.slot asked.root = sym e ∙ (get_or_default r.merged r.cleared (merged_tree l t root) (merged_tree asked.layer asked.slot asked.root) asked.some_left ∙ asked.next) in
      ((λ i. Slot (same i).layer (same i).slot) ∙ sym asked.names, ap (λ (m : Merged). m.root) same)

  gone-before : (name : Name) (root : ℕ) → IsSupersededRoot (change r) name root → IsSupersededRoot r name root ⊎ ((name ≡ step.name) × NamesRoot step.name (word_of core step.name) root)
  gone-before name root (of_main l m below e) = inl (of_main l m below e)
  gone-before name root (of_slot l t m k below inside e) =
      elim (cases_eq k r.cleared) [
        | inr apart ↦ inl (of_slot l t m k (omega arith) inside e)
        | inl same ↦
            let one = first-merged l t m (subst (λ (j : ℕ). slice_index_or r.merged j (merged_tree l t m) ≡ merged_tree l t m) same e) in
            inr (one.0, subst (λ (name : Name). NamesRoot name (word_of core name) m) (sym asked.names) (slot-word ∙ ap slot_tree (sym one.1)))
      ]

  gone : (name : Name) (root : ℕ) → IsSupersededRoot r name root → IsSupersededRoot (change r) name root
  gone name root (of_main l m below e) = of_main l m below e
  gone name root (of_slot l t m k below inside e) = of_slot l t m k (omega arith) inside e

  cleared-now : word_of (After clear_slot core step) step.name ≡ 0
  cleared-now = word-step clear_slot core step ∙ asked.none

  publishes : Publishes clear_slot core step a r q
  publishes = record {
    update = asked.update;
    tree_word = ap is_tree_name asked.names;
    plain = λ value. refl;
    rebuild = ap (λ (v : View). v.rebuild) last;
    call = ap (λ (v : View). v.call) last;
    batches = ap (λ (v : View). v.batches) last;
    loose = ap (λ (v : View). v.loose) last;
    locks = ap (λ (v : View). v.locks) last;
    walk = ap (λ (v : View). v.walk) last;
    all_bodies = asked.all_bodies ∙ ap (λ (c : Config). c.bodies) (sound core step a).config;
    planned = λ n among. elim (asked.planned) [ inl is ↦ is | inr none ↦ absurd (none_in n (subst (λ (l : List Noted). Contains l n) none among)) ];
    done = done;
    unread = asked.unread;
    unreclaimed = asked.unreclaimed;
    old = subst (λ (name : Name). IsOldTree r (under name)) (sym asked.names) (asked.root, next);
    longer = omega arith;
    left = λ l above. (above, not-main l);
    still_left = λ l above other. above;
    exchanged = λ l below. not-main l;
    now = λ l below. inl below;
    layer = λ l of.
        let same : asked.layer ≡ l = same_Some asked.layer l (ap layer_of (sym asked.names) ∙ of) in
        let below = below-layers in
        let all = all-swapped in
        omega arith;
    merged = λ l t root still. ((still.0, omega (arith, still.1), still.2, still.3), λ one. let same = left-merged l t root still.0 (omega (arith, still.1)) still.2 still.3 one in absurd (omega (arith, still.1)));
    still_merged = λ l t root still other.
        (still.0, beyond still.0 still.1 (λ same. other (first-merged l t root (subst (λ (j : ℕ). slice_index_or r.merged j (merged_tree l t root) ≡ merged_tree l t root) same still.3)).0), still.2, still.3);
    taken = λ root names.
        let word : word_of core x ≡ slot_tree root = subst (λ (name : Name). NamesRoot name (word_of core name) root) asked.names names in
        let mine = slot-word in
        let same : root ≡ asked.root = omega arith in
        subst (λ (name : Name). IsSupersededRoot (change r) name root) (sym asked.names)
        (subst (IsSupersededRoot (change r) x) (sym same) (of_slot asked.layer asked.slot asked.root r.cleared (omega arith) asked.some_left asked.next));
    gone = gone;
    gone_before = gone-before;
    named = λ root names.
        let zero = ap (word_of (After clear_slot core step)) (sym asked.names) ∙ cleared-now in
        let tree : word_of (After clear_slot core step) x ≡ slot_tree root = subst (λ (name : Name). NamesRoot name (word_of (After clear_slot core step) name) root) asked.names names in
        absurd (omega arith);
    emptied = λ l t one. cleared-now;
    names = λ l root is. absurd (not-main l is);
    written = λ store among. (subst (λ (v : View). Contains v.written store) last among, λ n l of home. not-main l);
  }
    where
      beyond : (k : ℕ) → r.cleared ≤ k → k ≢ r.cleared → r.cleared + 1 ≤ k
      beyond k above apart = omega arith

  -- ---- nodes

  abbrev nodes : Nodes
  nodes = a.laws.nodes

  abbrev later : Nodes
  later = homes_after clear_slot core step a r q

  abbrev s : Sight
  s = sight node_scope core

  abbrev me : ℕ
  me = step.number

  owned-same : (number : ℕ) (home : Home) → IsOwnedBy number (turn me step.name home) ↔ IsOwnedBy number home
  owned-same number home = go (turn me step.name home) (turns me step.name home)
    where
      go : (then : Home) → Turns me step.name home then → IsOwnedBy number then ↔ IsOwnedBy number home
      go then (kept other unmade) = (λ h. h, λ h. h)
      go then (taken is) = (λ h. absurd h, λ h. absurd (subst (IsOwnedBy number) is h))
      go then (shown l is e) = absurd (not-main l is)

  forth : (n : ℕ) (target : Home) → ((name : Name) → target ≢ under name) → ((m l : ℕ) → target ≢ made m l) → nodes.home n ≡ target → later.home n ≡ target
  forth n target = other-forth me step.name (nodes.home n) target

  back : (n : ℕ) (target : Home) → ((name : Name) → target ≢ under name) → ((m : ℕ) (name : Name) → target ≢ superseded m name) → later.home n ≡ target → nodes.home n ≡ target
  back n target = other-back me step.name (nodes.home n) target

  under-was : (n : ℕ) (name : Name) → later.home n ≡ under name → nodes.home n ≡ under name
  under-was n name e = elim (under-back me step.name (nodes.home n) name e) [ inl was ↦ was.0 | inr new ↦ absurd (not-main new.1.0 new.1.1) ]

  placed : NodesInOnePlaceIn later s
  placed =
      let h = a.laws.places in
      record {
        in_use = λ n above. forth n spare (λ name e. absurd cc) (λ m l e. absurd cc) (h.in_use n above);
        arenas = λ n below e. h.arenas n below (back n spare (λ name e. absurd cc) (λ m name e. absurd cc) e);
        chain = h.chain;
        linked = h.linked;
        once = h.once;
        free_nodes = λ n. (
          λ among. forth n free (λ name e. absurd cc) (λ m l e. absurd cc) ((h.free_nodes n).0 among),
          λ e. (h.free_nodes n).1 (back n free (λ name e. absurd cc) (λ m name e. absurd cc) e),
        );
        batch_nodes = λ n e. h.batch_nodes n (back n free (λ name e. absurd cc) (λ m name e. absurd cc) e);
        count = h.count;
        pool = h.pool;
        owned = λ n number. (λ owns. (h.owned n number).0 ((owned-same number (nodes.home n)).0 owns), λ has. (owned-same number (nodes.home n)).1 ((h.owned n number).1 has));
        owned_once = h.owned_once;
        batches = h.batches;
        loose = h.loose;
        slot_trees = λ n l t e. h.slot_trees n l t (under-was n (Slot l t) e);
        main_trees = λ n l e. h.main_trees n l (under-was n (Main l) e);
        made_trees = λ n number l e. h.made_trees n number l (made-back me step.name (nodes.home n) number l e);
        made_by = λ n number l. (
          λ e. (h.made_by n number l).0 (made-back me step.name (nodes.home n) number l e),
          λ has. made-forth me step.name (nodes.home n) number l (λ both. not-main l both.1) ((h.made_by n number l).1 has),
        );
        in_arena = h.in_arena;
        update = h.update;
        superseded_by = λ n number name e.
            elim (superseded-back me step.name (nodes.home n) number name e) [
              | inl was ↦ h.superseded_by n number name was
              | inr new ↦
                  let low = h.slot_trees n asked.layer asked.slot (new.2 ∙ ap under asked.names) in
                  let P = λ (name : Name) (y : Rebuild). (y.is_reclaimed ≡ false) × IsOfReplaced core.config y name n in
                  subst (λ (m : ℕ). HasPass s m (λ v. HasUpdate v (P name))) (sym new.0)
                  (subst (λ (name : Name). HasPass s me (λ v. HasUpdate v (P name))) (sym (new.1 ∙ asked.names))
                  (holds-own clear_slot core step a r asked.update node_scope (λ k v. refl) update_on_nodes (λ bare v. refl) (P x) (asked.unreclaimed, low)))
            ];
        returning_by = λ n number e. h.returning_by n number (back n (returning number) (λ name e. absurd cc) (λ m name e. absurd cc) e);
        arena = h.arena;
        named = h.named;
        idle = λ unread n inside. forth n spare (λ name e. absurd cc) (λ m l e. absurd cc) (h.idle unread n inside);
      }

  pub Invariants-slot_cleared : Invariants (after_step clear_slot core step)
  Invariants-slot_cleared =
      Invariants-published clear_slot core step a r q publishes
      (law-beside clear_slot core step a r change asked.update last node_scope (NodesInOnePlaceIn later) (λ bare view y known joined. refl) (λ stored. ap node_scope.names asked.names) (λ value. refl) placed)

-- ---- kind 48

pub Invariants-clear_slot : IsKept MayClearSlot clear_slot
Invariants-clear_slot = kept_by MayClearSlot clear_slot (λ core step a asked. Invariants-slot_cleared core step a asked)
