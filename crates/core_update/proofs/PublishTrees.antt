-- The trees are sound once the tree of a word is taken out of sight.
use Rattle.std.proofs.Common.{◌≡◌, ◌≢◌, ℕ, suc, true, false, Some, None, IfSome, refl, ap, sym, ◌∙◌, subst, inl, inr}
use Rattle.std.specs.Prelude.{Contains, slice_index}
use Rattle.std.proofs.lemmas.Bool.{false≢true}
use Rattle.std.proofs.lemmas.Option.{none-some}
use Rattle.word_map.specs.declared.name.Name.{Name}
use Rattle.word_map.specs.declared.name.Name.TheVariants.{Child, Bound, Parent, Main, Slot}
use Rattle.core_state.specs.declared.item.Store.{Store}
use Rattle.core_state.specs.declared.view.Rebuild.{Rebuild}
use Rattle.core_state.specs.declared.view.View.{View}
use Rattle.core_state.specs.Core.{Core, word_of}
use Rattle.core_state.specs.Kind.{Kind, Step, after_step}
use Rattle.core_state.specs.Encoding.{NamesRoot, Sides, IsBox}
use Rattle.core_state.specs.Nodes.{Nodes, Home, owned, made, under, superseded, returning, Stands, IsOwnedBy, node_in}
use Rattle.core_state.specs.NodesInOnePlace.{node_scope}
use Rattle.core_state.specs.Parts.{update_on_trees, update_on_nodes}
use Rattle.core_state.specs.Scope.{Sight, sight, HasPass}
use Rattle.core_state.specs.Updates.{EachUpdate, HasUpdate}
use Rattle.core_state.specs.TreesSound.{TreesSound, tree_scope, IsChild, nothing, a_body, a_node, IsPlaced, as_root, at_place, IsRootOf, IsSupersededRoot, of_main, of_slot, IsSoundNode, IsAsStored, RootsMade, RootsSuperseded, AreTops}
use Rattle.core_state.proofs.SameNames.{cases_name}
use Rattle.core_state.proofs.Steps.{word-step-other}
use Rattle.core_guard.proofs.Leaving.{Acts, After, if_some_with, other-number}
use Rattle.core_guard.proofs.Seats.{each-step, seen_of}
use Rattle.core_guard.proofs.TreesLeft.{stored-same, node-word}
use Rattle.core_update.proofs.OwnUpdate.{each-own, has-own, own-each, own-has}
use Rattle.core_update.proofs.Publishing.{Published, Publishes, homes_after, update_after, is_tree_name, other-word}
use Rattle.core_update.proofs.Turning.{turn, turns, Turns, kept, taken, shown, stands-back, turn-taken, turn-shown, other-back, other-forth, made-forth, under-forth, superseded-forth}

module _ (kind : Kind) (core : Core) (step : Step) (a : Acts core step) (r : Rebuild) (q : Published) (p : Publishes kind core step a r q) where
  abbrev nodes : Nodes
  nodes = a.laws.nodes

  abbrev later : Nodes
  later = homes_after kind core step a r q

  abbrev after : Rebuild
  after = update_after kind core step a r q

  abbrev Old : Sight
  Old = sight tree_scope core

  abbrev Now : Sight
  Now = sight tree_scope (After kind core step)

  abbrev x : Name
  x = step.name

  abbrev me : ℕ
  me = step.number

  same : (name : Name) → is_tree_name name ≡ false → word_of (After kind core step) name ≡ word_of core name
  same = other-word kind core step a r q p

  -- ---- what is said of the update

  has-before : (number : ℕ) (P : Rebuild → Type 0) → HasPass Old number (λ v. HasUpdate v P) → (me ≡ number) × P (update_on_trees r)
  has-before = has-own kind core step a r p.update tree_scope (λ k v. refl) update_on_trees (λ bare v. refl)

  has-now : (number : ℕ) (P : Rebuild → Type 0) → me ≡ number → P (update_on_trees after) → HasPass Now number (λ v. HasUpdate v P)
  has-now number P one h = subst (λ (n : ℕ). HasPass Now n (λ v. HasUpdate v P)) one (own-has kind core step a r p.update tree_scope (λ k v. refl) update_on_trees (λ bare v. refl) after p.rebuild P h)

  each-before : (P : ℕ → View → Rebuild → Type 0) → EachUpdate Old P → P me (seen_of tree_scope me step.view) (update_on_trees r)
  each-before = each-own kind core step a r p.update tree_scope (λ k v. refl) update_on_trees (λ bare v. refl)

  -- nothing is to be given back before the update has reclaimed its trees
  none-returning : (n number : ℕ) → nodes.home n ≢ returning number
  none-returning n number e =
      let t = has-own kind core step a r p.update node_scope (λ k v. refl) update_on_nodes (λ bare v. refl) number (λ y. y.is_reclaimed ≡ true) (a.laws.places.returning_by n number e).1 in
      false≢true (sym p.unreclaimed ∙ t.1)

  -- ---- roots

  seen : (y : Rebuild) (name : Name) (root : ℕ) → IsSupersededRoot y name root → IsSupersededRoot (update_on_trees y) name root
  seen y name root (of_main l b below e) = of_main l b below e
  seen y name root (of_slot l t b k below inside e) = of_slot l t b k below inside e

  unseen : (y : Rebuild) (name : Name) (root : ℕ) → IsSupersededRoot (update_on_trees y) name root → IsSupersededRoot y name root
  unseen y name root (of_main l b below e) = of_main l b below e
  unseen y name root (of_slot l t b k below inside e) = of_slot l t b k below inside e

  word-seen : (c : Core) (name : Name) → is_tree_name name ≡ true → (sight tree_scope c).word name ≡ word_of c name
  word-seen c (Main l) e = refl
  word-seen c (Slot l t) e = refl
  word-seen c _ e = absurd cc

  names-forth : (name : Name) (root : ℕ) → name ≢ x → NamesRoot name (Old.word name) root → NamesRoot name (Now.word name) root
  names-forth (Main l) root other h = word-step-other kind core step (Main l) other ∙ h
  names-forth (Slot l t) root other h = word-step-other kind core step (Slot l t) other ∙ h
  names-forth _ root other h = h

  names-back : (name : Name) (root : ℕ) → name ≢ x → NamesRoot name (Now.word name) root → NamesRoot name (Old.word name) root
  names-back (Main l) root other h = sym (word-step-other kind core step (Main l) other) ∙ h
  names-back (Slot l t) root other h = sym (word-step-other kind core step (Slot l t) other) ∙ h
  names-back _ root other h = h

  root-kept : (home : Home) (root : ℕ) → home ≢ under x → IsRootOf Old home root → IsRootOf Now home root
  root-kept (under name) root other h = names-forth name root (λ e. other (ap under e)) h
  root-kept (made number l) root other h =
      let t = has-before number (λ y. slice_index y.roots l ≡ suc root) h in
      has-now number (λ y. slice_index y.roots l ≡ suc root) t.0 t.1
  root-kept (superseded number name) root other h =
      let t = has-before number (λ y. IsSupersededRoot y name root) h in
      has-now number (λ y. IsSupersededRoot y name root) t.0 (seen after name root (p.gone name root (unseen r name root t.1)))
  root-kept _ root other h = absurd h

  root-forth : (home : Home) (root : ℕ) → IsRootOf Old home root → IsRootOf Now (turn me x home) root
  root-forth home root h = go (turn me x home) (turns me x home)
    where
      go : (then : Home) → Turns me x home then → IsRootOf Now then root
      go then (kept other unmade) = root-kept home root other h
      go then (taken is) =
          let names = subst (λ (home : Home). IsRootOf Old home root) is h in
          has-now me (λ y. IsSupersededRoot y x root) refl (seen after x root (p.taken root (subst (λ (value : ℕ). NamesRoot x value root) (word-seen core x p.tree_word) names)))
      go then (shown l is e) =
          let t = has-before me (λ y. slice_index y.roots l ≡ suc root) (subst (λ (home : Home). IsRootOf Old home root) e h) in
          subst (λ (value : ℕ). NamesRoot x value root) (sym (word-seen (After kind core step) x p.tree_word)) (p.names l root is t.1)

  roots-later : (name : Name) (root : ℕ) → NamesRoot name (Now.word name) root → (later.home root ≡ under name) × (Now.word (Parent root) ≡ 0)
  roots-later name root h =
      elim (cases_name name x) [
        | inr other ↦
            let t = a.laws.trees.roots name root (names-back name root other h) in
            (under-forth me x (nodes.home root) name other t.0, same (Parent root) refl ∙ t.1)
        | inl one ↦
            let names = subst (λ (value : ℕ). NamesRoot x value root) (word-seen (After kind core step) x p.tree_word) (subst (λ (y : Name). NamesRoot y (Now.word y) root) one h) in
            let n = p.named root names in
            let t = each-before (λ number v y. RootsMade nodes Old number y) a.laws.trees.made_roots n.0 root n.2 n.3 n.4 in
            (turn-shown me x (nodes.home root) n.0 n.1 t.0 ∙ ap under (sym one), same (Parent root) refl ∙ t.1)
      ]

  -- ---- nodes

  child-forth : (n k : ℕ) → IsChild nodes Old n k → IsChild later Now n k
  child-forth n k (nothing e) = nothing (same (Child n k) refl ∙ e)
  child-forth n k (a_body i below e) = a_body i below (same (Child n k) refl ∙ e)
  child-forth n k (a_node m e home parent depth) = a_node m (same (Child n k) refl ∙ e) (ap (turn me x) home) (same (Parent m) refl ∙ parent) depth

  placed-forth : (m : ℕ) → IsPlaced nodes Old m → IsPlaced later Now m
  placed-forth m (as_root e root) = as_root (same (Parent m) refl ∙ e) (root-forth (nodes.home m) m root)
  placed-forth m (at_place n k low parent child home) = at_place n k low (same (Parent m) refl ∙ parent) (same (Child n k) refl ∙ child) (ap (turn me x) home)

  sound-later : (n : ℕ) → Stands (later.home n) → IsSoundNode later Now n
  sound-later n stands =
      let h = a.laws.trees.sound n (stands-back me x (nodes.home n) stands) in
      record {
        children = λ k low. child-forth n k (h.children k low);
        placed = placed-forth n h.placed;
        height = h.height;
        bounds = λ k low some. subst (λ (b : Sides). IsBox b) (λ j c. sym (same (Bound n k c) refl) j) (h.bounds k low (λ none. some (same (Child n k) refl ∙ none)));
      }

  -- ---- what passes stored

  abbrev Says : Nodes → (Name → ℕ) → ℕ → Store → Type 0
  Says places word number store = IfSome (node_in store.name) (λ n. IsOwnedBy number (places.home n) × IsAsStored word (places.home n) store.name store.value)

  node-same : (name : Name) (n : ℕ) → node_in name ≡ Some n → Now.word name ≡ Old.word name
  node-same name n e = node-word (After kind core step) name n e ∙ (word-step-other kind core step name (λ one. none-some n (sym (treeless step.name p.tree_word) ∙ (ap node_in (sym one) ∙ e))) ∙ sym (node-word core name n e))
    where
      treeless : (name : Name) → is_tree_name name ≡ true → node_in name ≡ None
      treeless (Main l) e = refl
      treeless (Slot l t) e = refl
      treeless _ e = absurd cc

  -- an owned node that is not of the new tree keeps its home
  owned-kept : (number n : ℕ) (home : Home) → nodes.home n ≡ home → IsOwnedBy number home → ((l : ℕ) → nodes.home n ≡ made number l → number ≡ me → Main l ≢ x) → later.home n ≡ home
  owned-kept number n (owned q) e owns apart = other-forth me x (nodes.home n) (owned q) (λ name f. absurd cc) (λ m l f. absurd cc) e
  owned-kept number n (made q l) e owns apart = made-forth me x (nodes.home n) q l (λ both. apart l (e ∙ (λ i. made (owns i) l)) (sym owns ∙ both.0) both.1) e
  owned-kept number n _ e owns apart = absurd owns

  stored-forth : (number : ℕ) (store : Store) → ((n l : ℕ) → node_in store.name ≡ Some n → nodes.home n ≡ made number l → number ≡ me → Main l ≢ x) → Says nodes Old.word number store → Says later Now.word number store
  stored-forth number store apart h =
      if_some_with (node_in store.name) _ _
      (λ n e t.
      let home = owned-kept number n (nodes.home n) refl t.0 (λ l. apart n l e) in
      subst (λ (home : Home). IsOwnedBy number home × IsAsStored Now.word home store.name store.value) (sym home)
      (t.0, stored-same Old.word Now.word (nodes.home n) store.name store.value (node-same store.name n e) t.1)) h

  -- ---- the law

  pub TreesSound-published : TreesSound later (after_step kind core step)
  TreesSound-published = record {
    sound = sound-later;
    roots = roots-later;
    stored =
        each-step tree_scope (λ k v. refl) kind core step a.at a.pass (λ number view. (store : Store) → Contains view.written store → Says nodes Old.word number store)
        (λ number view. (store : Store) → Contains view.written store → Says later Now.word number store) a.laws.trees.stored
        (λ seat number view apart found own was store among.
        stored-forth number store (λ n l e made_there mine. absurd (other-number core step a seat number view apart found own mine)) (was store among))
        (λ was store among. let t = p.written store among in stored-forth me store (λ n l e made_there mine. t.1 n l e made_there) (was store t.0));
    made_roots =
        own-each kind core step a r p.update tree_scope (λ k v. refl) update_on_trees (λ bare v. refl) after p.rebuild (λ number v y. RootsMade later Now number y)
        (λ l root planned above e.
        let left = p.left l above in
        let t = each-before (λ number v y. RootsMade nodes Old number y) a.laws.trees.made_roots l root planned left.0 e in
        (made-forth me x (nodes.home root) me l (λ both. left.1 both.1) t.0, same (Parent root) refl ∙ t.1));
    superseded_roots =
        own-each kind core step a r p.update tree_scope (λ k v. refl) update_on_trees (λ bare v. refl) after p.rebuild (λ number v y. RootsSuperseded later Now number y)
        (λ name root unread is.
        elim (p.gone_before name root (unseen after name root is)) [
          | inl was ↦
              let t = each-before (λ number v y. RootsSuperseded nodes Old number y) a.laws.trees.superseded_roots name root unread (seen r name root was) in
              (superseded-forth me x (nodes.home root) me name t.0, same (Parent root) refl ∙ t.1)
          | inr new ↦
              let t = a.laws.trees.roots x root (subst (λ (value : ℕ). NamesRoot x value root) (sym (word-seen core x p.tree_word)) new.1) in
              (turn-taken me x (nodes.home root) t.0 ∙ ap (superseded me) (sym new.0), same (Parent root) refl ∙ t.1)
        ]);
    left_nodes = λ n number e. absurd (none-returning n number (other-back me x (nodes.home n) (returning number) (λ name f. absurd cc) (λ m name f. absurd cc) e));
    tops =
        own-each kind core step a r p.update tree_scope (λ k v. refl) update_on_trees (λ bare v. refl) after p.rebuild (λ number v y. AreTops later Now number y)
        (let t = each-before (λ number v y. AreTops nodes Old number y) a.laws.trees.tops in
        record { tops = λ top among. absurd (none-returning top.node me (t.tops top among).owned); once = t.once });
  }
