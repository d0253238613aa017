-- The trees are sound once what an update took out of sight is to be given back: the roots of the merged trees are the tops, and
-- each other node of them stands below another.
use Rattle.std.proofs.Common.{◌≡◌, ◌≢◌, ℕ, ◌<◌, List, length, true, Some, IfSome, option_map, refl, ap, sym, ◌∙◌, subst, inl, inr, arith}
use Rattle.std.specs.Prelude.{Contains, get_or, map}
use Rattle.std.proofs.lemmas.List.{get_or-map, length-map}
use Rattle.std.proofs.lemmas.Simd.{map-map}
use Rattle.std.proofs.lemmas.List.Elements.{Contains-get_or}
use Rattle.std.proofs.lemmas.Bool.{true≢false}
use Rattle.word_map.specs.declared.name.Name.TheVariants.{Parent, Slot}
use Rattle.core_state.specs.declared.item.Store.{Store}
use Rattle.core_state.specs.declared.view.Merged.{Merged}
use Rattle.core_state.specs.declared.view.Rebuild.{Rebuild}
use Rattle.core_state.specs.declared.view.View.{View}
use Rattle.core_state.specs.declared.view.Waiting.{Waiting}
use Rattle.core_state.specs.BodiesCovered.{KeepsMerged, cover_scope}
use Rattle.core_state.specs.Core.{Core}
use Rattle.core_state.specs.Kind.{Step, after_step}
use Rattle.core_state.specs.Nodes.{Nodes, Home, made, under, superseded, returning, Stands, IsOwnedBy, node_in}
use Rattle.core_state.specs.Parts.{update_on_cover, update_on_trees}
use Rattle.core_state.specs.Retiring.{MayLoadReader, is_unreached, load_reader}
use Rattle.core_state.specs.Scope.{HasPass, Sight, sight, IsOnce}
use Rattle.core_state.specs.TreesSound.{TreesSound, TreesSoundIn, tree_scope, IsChild, nothing, a_body, a_node, IsPlaced, as_root, at_place, IsRootOf, IsSupersededRoot, of_slot, IsSoundNode, IsAsStored, IsLeft, as_top, below, IsLeftNode, IsTop, RootsMade, RootsSuperseded, AreTops}
use Rattle.core_state.specs.Updates.{EachUpdate, HasUpdate, merged_tree}
use Rattle.core_state.specs.Walking.{waiting}
use Rattle.core_guard.proofs.Leaving.{Acts, if_some_with}
use Rattle.core_guard.proofs.Seats.{seen_of}
use Rattle.core_batch.proofs.Lists.{contains_map, map_from}
use Rattle.core_update.proofs.AtRest.{none-made}
use Rattle.core_update.proofs.LastReader.{last, left-last, none-returning, rebuilds-last, superseded-own, quiet}
use Rattle.core_update.proofs.OtherUpdate.{ChangesUpdate, each-update}
use Rattle.core_update.proofs.OwnUpdate.{each-own, has-own, own-has}
use Rattle.core_update.proofs.ReaderLoads.{alone, loaded}
use Rattle.core_update.proofs.Rebuilt.{changes, moved}
use Rattle.core_update.proofs.Reclaiming.{all-in-sight, reclaim, reclaimed, reclaim-forth, stands-back, returning-back}

abbrev slot_of : Home → ℕ × ℕ
slot_of (superseded p (Slot l t)) = (l, t)
slot_of _ = (0, 0)

-- what a cleared slot named is the root of a merged tree
merged-of : (r : Rebuild) (root l t : ℕ) → IsSupersededRoot r (Slot l t) root → Contains r.merged (merged_tree l t root)
merged-of r root l t (of_slot k u n j low inside at) = (j, inside, at)

-- images stand once where those of two places are apart
once-map : {X : Type 0} (f : X → ℕ) (xs : List X) (d : X) → ((i j : ℕ) → i < j → j < length xs → f (get_or xs i d) ≢ f (get_or xs j d)) → IsOnce (map f xs)
once-map f xs d apart i j e less low same =
    let long = length-map xs f in
    apart i j less (omega arith) (sym (get_or-map f xs i d e (omega arith)) ∙ (same ∙ get_or-map f xs j d e (omega arith)))

module _ (core : Core) (step : Step) (a : Acts core step) (asked : MayLoadReader step.view step.name step.first step.second) (unreached : is_unreached step.view.config (loaded core step a asked) ≡ true) where
  abbrev nodes : Nodes
  nodes = a.laws.nodes

  abbrev later : Nodes
  later = reclaimed nodes

  abbrev r : Rebuild
  r = asked.r

  abbrev now : Rebuild
  now = last core step a asked unreached

  abbrev me : ℕ
  me = step.number

  abbrev s : Sight
  s = sight tree_scope core

  abbrev Later : List View
  Later = (sight tree_scope (after_step load_reader core step)).passes

  abbrev Now : Sight
  Now = record s { passes = Later }

  abbrev mine : View
  mine = seen_of tree_scope me step.view

  changed : ChangesUpdate s Later me mine (Some (update_on_trees now))
  changed = changes load_reader core step a (Some now) (rebuilds-last core step a asked unreached) (alone core step a asked) tree_scope (λ k v. refl) update_on_trees refl (λ number view e. ap (option_map update_on_trees) e)

  own-before : (P : ℕ → View → Rebuild → Type 0) → EachUpdate s P → P me mine (update_on_trees r)
  own-before = each-own load_reader core step a r asked.update tree_scope (λ k v. refl) update_on_trees (λ bare v. refl)

  own-after : (P : ℕ → View → Rebuild → Type 0) → P me (record mine { rebuild = Some (update_on_trees now) }) (update_on_trees now) → EachUpdate Now P
  own-after P own = each-update nodes s Later me mine (Some (update_on_trees now)) changed P own

  has-after : (number : ℕ) (P : Rebuild → Type 0) → me ≡ number → P (update_on_trees now) → HasPass Now number (λ v. HasUpdate v P)
  has-after number P same h =
      subst (λ (n : ℕ). HasPass Now n (λ v. HasUpdate v P)) same
      (own-has load_reader core step a r asked.update tree_scope (λ k v. refl) update_on_trees (λ bare v. refl) now (left-last core step a asked unreached) P h)

  -- ---- nodes that stand

  child-later : (n k : ℕ) → IsChild nodes s n k → IsChild later Now n k
  child-later n k (nothing e) = nothing e
  child-later n k (a_body i low e) = a_body i low e
  child-later n k (a_node m e home parent depth) = a_node m e (ap reclaim home) parent depth

  root-later : (n : ℕ) (home : Home) → nodes.home n ≡ home → Stands home → reclaim home ≡ home → IsRootOf s home n → IsRootOf Now home n
  root-later n (under name) at stands same root = root
  root-later n (made number l) at stands same root = absurd (none-made core a.laws (quiet core step a asked unreached) n number l at)
  root-later n (superseded number name) at stands same root = absurd (all-in-sight (superseded number name) number name same)
  root-later n _ at stands same root = absurd root

  placed-later : (n : ℕ) → Stands (nodes.home n) → later.home n ≡ nodes.home n → IsPlaced nodes s n → IsPlaced later Now n
  placed-later n stands same (as_root none root) = as_root none (subst (λ (home : Home). IsRootOf Now home n) (sym same) (root-later n (nodes.home n) refl stands same root))
  placed-later n stands same (at_place m k low parent child home) = at_place m k low parent child (ap reclaim home)

  sound-later : (n : ℕ) → Stands (later.home n) → IsSoundNode later Now n
  sound-later n stands =
      let same = stands-back (nodes.home n) stands in
      let was = subst Stands same stands in
      let h = a.laws.trees.sound n was in
      record { children = λ k low. child-later n k (h.children k low); placed = placed-later n was same h.placed; height = h.height; bounds = h.bounds }

  -- ---- what is left of the merged trees

  -- a merged tree's root is out of sight
  merged-root : (m : Merged) → Contains r.merged m → (nodes.home m.root ≡ superseded me (Slot m.layer m.slot)) × (s.word (Parent m.root) ≡ 0)
  merged-root m among =
      own-before (λ number v y. RootsSuperseded nodes s number y) a.laws.trees.superseded_roots (Slot m.layer m.slot) m.root asked.unreclaimed
      (of_slot m.layer m.slot m.root among.0 (let all = asked.published.all_cleared in let few = among.1 in omega arith) among.1 among.2)

  left : (n l t : ℕ) → nodes.home n ≡ superseded me (Slot l t) → IsPlaced nodes s n → IsLeft later Now me (update_on_trees now) n
  left n l t home (as_root none root) =
      let seen =
      (has-own load_reader core step a r asked.update tree_scope (λ k v. refl) update_on_trees (λ bare v. refl) me (λ y. IsSupersededRoot y (Slot l t) n) (subst (λ (h : Home). IsRootOf s h n) home root)).1
      in
      as_top 1 (contains_map (λ (m : Merged). waiting m.root 1) r.merged (merged_tree l t n) (merged-of (update_on_trees r) n l t seen))
  left n l t home (at_place m k low parent child up) = below m k low parent child (ap reclaim (up ∙ home))

  left-later : (n number : ℕ) → later.home n ≡ returning number → HasPass Now number (λ view. HasUpdate view (λ y. IsLeftNode later Now number y n))
  left-later n number e =
      elim (returning-back (nodes.home n) number e) [
        | inl was ↦ absurd (none-returning core step a asked n number was)
        | inr gone ↦
            let own = superseded-own core step a asked n number (Slot gone.0 gone.1) gone.2 in
            let h = a.laws.trees.sound n (subst Stands (sym gone.2) tt) in
            let mine : nodes.home n ≡ superseded me (Slot gone.0 gone.1) = subst (λ (k : ℕ). nodes.home n ≡ superseded k (Slot gone.0 gone.1)) (sym own.0) gone.2 in
            has-after number (λ y. IsLeftNode later Now number y n) own.0
            (subst (λ (k : ℕ). IsLeftNode later Now k (update_on_trees now) n) own.0
            (record { children = λ k low. child-later n k (h.children k low); left = left n gone.0 gone.1 mine h.placed; height = h.height }))
      ]

  -- ---- the tops

  top-later : (m : Merged) → Contains r.merged m → IsTop later Now me (waiting m.root 1)
  top-later m among =
      let t = merged-root m among in
      record { owned = ap reclaim t.0; alone = λ n k low parent up. let none = t.1 in absurd (omega arith); low = omega arith }

  -- each slot was noted once, so no root is that of two
  apart-roots : (i j : ℕ) → i < j → j < length r.merged → (get_or r.merged i (merged_tree 0 0 0)).root ≢ (get_or r.merged j (merged_tree 0 0 0)).root
  apart-roots i j less low same =
      let m = get_or r.merged i (merged_tree 0 0 0) in
      let n = get_or r.merged j (merged_tree 0 0 0) in
      let kept = each-own load_reader core step a r asked.update cover_scope (λ k v. refl) update_on_cover (λ bare v. refl) (λ number v y. KeepsMerged (sight cover_scope core) y) a.laws.cover.merged in
      let one = merged-root m (Contains-get_or r.merged i (merged_tree 0 0 0) (omega arith)) in
      let two = merged-root n (Contains-get_or r.merged j (merged_tree 0 0 0) low) in
      let slots = ap slot_of (sym one.0 ∙ (ap nodes.home same ∙ two.0)) in
      kept.each_once i j (merged_tree 0 0 0) less low (ap (λ (x : ℕ × ℕ). x.0) slots, ap (λ (x : ℕ × ℕ). x.1) slots)

  tops-later : AreTops later Now me (update_on_trees now)
  tops-later = record {
    tops = λ top among. let t = map_from (λ (m : Merged). waiting m.root 1) r.merged top among in subst (IsTop later Now me) t.2 (top-later t.0 t.1);
    once = subst IsOnce (sym (map-map (λ (w : Waiting). w.node) (λ (m : Merged). waiting m.root 1) r.merged)) (once-map (λ (m : Merged). m.root) r.merged (merged_tree 0 0 0) apart-roots);
  }

  -- ---- the law

  stored-later : (number : ℕ) (store : Store) → IfSome (node_in store.name) (λ n. IsOwnedBy number (nodes.home n) × IsAsStored s.word (nodes.home n) store.name store.value)
      → IfSome (node_in store.name) (λ n. IsOwnedBy number (later.home n) × IsAsStored s.word (later.home n) store.name store.value)
  stored-later number store h =
      if_some_with (node_in store.name) _ _
      (λ n e t.
      subst (λ (home : Home). IsOwnedBy number home × IsAsStored s.word home store.name store.value) (sym (reclaim-forth (IsOwnedBy number) (λ p name none. none) (nodes.home n) t.0)) t) h

  trees : TreesSoundIn later Now
  trees = record {
    sound = sound-later;
    roots = λ name root names. let t = a.laws.trees.roots name root names in (ap reclaim t.0, t.1);
    stored = changed.each _ _ a.laws.trees.stored (λ n u other was store among. stored-later n store (was store among)) (λ was store among. stored-later me store (was store among));
    made_roots = own-after (λ number v y. RootsMade later Now number y)
        (λ l root planned above e. let t = own-before (λ number v y. RootsMade nodes s number y) a.laws.trees.made_roots l root planned above e in (ap reclaim t.0, t.1));
    superseded_roots = own-after (λ number v y. RootsSuperseded later Now number y) (λ name root unread out. absurd (true≢false unread));
    left_nodes = left-later;
    tops = own-after (λ number v y. AreTops later Now number y) tops-later;
  }

  pub TreesSound-reclaimed : TreesSound later (after_step load_reader core step)
  TreesSound-reclaimed = subst (TreesSoundIn later) (sym (moved load_reader core step a (Some now) (rebuilds-last core step a asked unreached) tree_scope (refl, refl))) trees
