-- A step by which an update takes the tree of a word out of sight, once it has done with all bodies that it noted: a main word
-- is exchanged, or the slot of a merged tree cleared. What is to be shown of the word and of the update, and what follows.
use Rattle.std.proofs.Common.{◌≡◌, ◌≢◌, ◌⊎◌, ℕ, suc, ◌<◌, ◌≤◌, Bool, true, false, List, [], length, Some, None, refl, ap, sym, ◌∙◌, inl, inr}
use Rattle.std.specs.Prelude.{Contains, slice_index}
use Rattle.word_map.specs.declared.name.Name.{Name}
use Rattle.word_map.specs.declared.name.Name.TheVariants.{LocA, LocB, Main, Slot}
use Rattle.core_state.specs.declared.item.Store.{Store}
use Rattle.core_state.specs.declared.view.NewNode.{NewNode}
use Rattle.core_state.specs.declared.view.Noted.{Noted}
use Rattle.core_state.specs.declared.view.Rebuild.{Rebuild}
use Rattle.core_state.specs.Core.{Core, word_of}
use Rattle.core_state.specs.Kind.{Kind, Step}
use Rattle.core_state.specs.Encoding.{NamesRoot, layer_of}
use Rattle.core_state.specs.Nodes.{Nodes, under, made, node_in}
use Rattle.core_state.specs.TreesSound.{IsSupersededRoot}
use Rattle.core_state.specs.Updates.{IsOldTree, IsStillMerged, IsDone}
use Rattle.core_state.proofs.Steps.{word-step-other}
use Rattle.core_guard.proofs.Leaving.{Acts, After, Last}
use Rattle.core_update.proofs.Turning.{turned, turn-stands, turn-live}
use Rattle.core_update.proofs.Unmoved.{Unmoved, is_aside}

-- the word is a main word or a slot
abbrev pub is_tree_name : Name → Bool
is_tree_name (Main l) = true
is_tree_name (Slot l t) = true
is_tree_name _ = false

-- what the update says then of trees and nodes
pub record Published : Type 0 where
  pub swapped : List ℕ
  pub cleared : ℕ
  pub nodes : List ℕ
  pub made : List NewNode

module _ (kind : Kind) (core : Core) (step : Step) (a : Acts core step) (r : Rebuild) (q : Published) where
  abbrev pub before : Nodes
  before = a.laws.nodes

  abbrev pub homes_after : Nodes
  homes_after = turned step.number step.name before

  abbrev pub update_after : Rebuild
  update_after = record r { swapped = q.swapped; cleared = q.cleared; nodes = q.nodes; made = q.made }

  pub record Publishes : Type 0 where
    pub update : step.view.rebuild ≡ Some r
    pub tree_word : is_tree_name step.name ≡ true
    pub plain : (value : ℕ) → kind.entry step.view step.name value ≡ None
    pub rebuild : (Last kind core step).rebuild ≡ Some update_after
    pub call : (Last kind core step).call ≡ step.view.call
    pub batches : (Last kind core step).batches ≡ step.view.batches
    pub loose : (Last kind core step).loose ≡ step.view.loose
    pub locks : (Last kind core step).locks ≡ step.view.locks
    pub walk : (Last kind core step).walk ≡ step.view.walk
    -- the update has looked at all bodies, and done with those that it noted; no reader is loaded yet
    pub all_bodies : r.passed ≡ core.config.bodies
    pub planned : (n : Noted) → Contains r.noted n → r.is_planned ≡ true
    pub done : (n : Noted) → Contains r.noted n → IsDone step.view r n.index
    pub unread : r.readers ≡ []
    pub unreclaimed : r.is_reclaimed ≡ false
    -- the tree is one that it replaces, and none is from then on but the others that were
    pub old : IsOldTree r (under step.name)
    pub longer : length r.swapped ≤ length q.swapped
    pub left : (l : ℕ) → length q.swapped ≤ l → (length r.swapped ≤ l) × (Main l ≢ step.name)
    pub still_left : (l : ℕ) → length r.swapped ≤ l → Main l ≢ step.name → length q.swapped ≤ l
    pub exchanged : (l : ℕ) → l < length r.swapped → Main l ≢ step.name
    pub now : (l : ℕ) → l < length q.swapped → (l < length r.swapped) ⊎ (Main l ≡ step.name)
    pub layer : (l : ℕ) → layer_of step.name ≡ Some l → l < length q.swapped
    pub merged : (l t root : ℕ) → IsStillMerged update_after l t root → IsStillMerged r l t root × (Slot l t ≢ step.name)
    pub still_merged : (l t root : ℕ) → IsStillMerged r l t root → Slot l t ≢ step.name → IsStillMerged update_after l t root
    -- the roots of trees that are out of sight are those that were, and that of this one
    pub taken : (root : ℕ) → NamesRoot step.name (word_of core step.name) root → IsSupersededRoot update_after step.name root
    pub gone : (name : Name) (root : ℕ) → IsSupersededRoot r name root → IsSupersededRoot update_after name root
    pub gone_before : (name : Name) (root : ℕ) → IsSupersededRoot update_after name root → IsSupersededRoot r name root ⊎ ((name ≡ step.name) × NamesRoot step.name (word_of core step.name) root)
    -- the word then names the root of the new tree of the layer, or none
    pub named : (root : ℕ) → NamesRoot step.name (word_of (After kind core step) step.name) root
        → (l : ℕ) × (Main l ≡ step.name) × (r.is_planned ≡ true) × (length r.swapped ≤ l) × (slice_index r.roots l ≡ suc root)
    pub emptied : (l t : ℕ) → Slot l t ≡ step.name → word_of (After kind core step) step.name ≡ 0
    pub names : (l root : ℕ) → Main l ≡ step.name → slice_index r.roots l ≡ suc root → NamesRoot step.name (word_of (After kind core step) step.name) root
    -- what is still known to be stored was stored in other nodes
    pub written : (store : Store) → Contains (Last kind core step).written store
        → Contains step.view.written store × ((n l : ℕ) → node_in store.name ≡ Some n → before.home n ≡ made step.number l → Main l ≢ step.name)

  aside-name : (name : Name) → is_tree_name name ≡ true → is_aside name ≡ true
  aside-name (Main l) e = refl
  aside-name (Slot l t) e = refl
  aside-name _ e = absurd cc

  pub tree-word : (name one : Name) → is_tree_name name ≡ false → is_tree_name one ≡ true → name ≢ one
  tree-word name one none is_tree same = absurd (false-true (sym none ∙ (ap is_tree_name same ∙ is_tree)))
    where
      false-true : false ≡ true → ⊥
      false-true e = absurd cc

  module _ (p : Publishes) where
    pub other-word : (name : Name) → is_tree_name name ≡ false → word_of (After kind core step) name ≡ word_of core name
    other-word name none = word-step-other kind core step name (tree-word name step.name none p.tree_word)

    pub unmoved : Unmoved kind core step a r update_after homes_after
    unmoved = record {
      update = p.update;
      rebuild = p.rebuild;
      aside = aside-name step.name p.tree_word;
      plain = p.plain;
      call = p.call;
      batches = p.batches;
      noted = refl;
      second = λ i. inl (other-word (LocB i) refl);
      location = λ i n k h. (h.0, elim (h.1) [ inl e ↦ inl (other-word (LocA i) refl ∙ e) | inr e ↦ inr (other-word (LocB i) refl ∙ e) ]);
      stands = λ n stands. turn-stands step.number step.name (before.home n) stands;
      live = λ n live. turn-live step.number step.name (before.home n) live;
    }
