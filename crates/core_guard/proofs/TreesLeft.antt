-- The trees are sound after a step that leaves trees: nodes in them stay where they are, and new ones are shown sound.
use Rattle.std.proofs.Common.{◌≡◌, ◌≢◌, ◌⊎◌, ℕ, suc, ◌<◌, ◌≤◌, Some, refl, ap, sym, ◌∙◌, subst, inl, inr, arith}
use Rattle.std.specs.Prelude.{Contains, IfSome, slice_index}
use Rattle.std.proofs.lemmas.Option.{none-some, same_Some}
use Rattle.word_map.specs.declared.name.Name.{Name}
use Rattle.word_map.specs.declared.name.Name.TheVariants.{Main, Slot, Child, Bound, Parent}
use Rattle.core_state.specs.declared.item.Store.{Store}
use Rattle.core_state.specs.declared.view.Rebuild.{Rebuild}
use Rattle.core_state.specs.declared.view.Waiting.{Waiting}
use Rattle.core_state.specs.Core.{Core, word_of}
use Rattle.core_state.specs.Kind.{Kind, Step}
use Rattle.core_state.specs.Encoding.{node_child, NamesRoot, IsBox, Sides, bound_in}
use Rattle.core_state.specs.Nodes.{Nodes, Home, owned, made, under, superseded, returning, Stands, IsInTree, IsOwnedBy, node_in}
use Rattle.core_state.specs.Parts.{update_on_trees}
use Rattle.core_state.specs.Scope.{Sight, sight, word_in, HasPass}
use Rattle.core_state.specs.Updates.{EachUpdate, HasUpdate}
use Rattle.core_state.specs.TreesSound.{TreesSound, tree_scope, IsRootOf, IsSupersededRoot, IsChild, nothing, a_body, a_node, IsPlaced, as_root, at_place, IsSoundNode, IsAsStored, IsLeft, as_top, below, IsLeftNode, IsTop, AreTops, RootsMade, RootsSuperseded}
use Rattle.core_state.proofs.Steps.{word-step-other}
use Rattle.core_guard.proofs.Seats.{each-seat, each-step}
use Rattle.core_guard.proofs.Leaving.{Acts, After, Last, Leaves, Touches, if_some_with, stands-in_tree, home-forth, home-back, has_update, each_update, other-number, none-kept, node-kept}

-- ---- what passes stored in their own nodes

-- it stands in the same word
pub stored-same : (v w : Name → ℕ) (home : Home) (name : Name) (value : ℕ) → w name ≡ v name → IsAsStored v home name value → IsAsStored w home name value
stored-same v w (owned number) name value same h = same ∙ h
stored-same v w (made number l) (Parent n) value same h = same ∙ h
stored-same v w (made number l) (Child n k) value same h = elim h [ inl e ↦ inl (same ∙ e) | inr t ↦ inr (same ∙ t.0, t.1) ]
stored-same v w (made number l) (Bound n k q) value same h = subst (λ (x : ℕ). (q < 3 → x ≤ value) × (3 ≤ q → value ≤ x)) (sym same) h
stored-same v w (made number l) _ value same h = absurd h
stored-same v w _ name value same h = absurd h

-- the word of a node is one that the law reads
pub node-word : (core : Core) (name : Name) (n : ℕ) → node_in name ≡ Some n → word_in tree_scope core name ≡ word_of core name
node-word core (Child m k) n e = refl
node-word core (Bound m k q) n e = refl
node-word core (Parent m) n e = refl
node-word core _ n e = absurd (none-some n e)

module _ (kind : Kind) (core : Core) (step : Step) (nodes later : Nodes) where
  -- bounds that are boxes are so afterwards
  abbrev pub KeepsBoxes : Type 0
  KeepsBoxes = (n k : ℕ) → Stands (nodes.home n) → IsBox (bound_in (word_of core) n k) → IsBox (bound_in (word_of (After kind core step)) n k)

  -- a node that this pass owns, and that stands in no tree, keeps its home and its words
  abbrev pub LeavesNode : ℕ → ℕ → Type 0
  LeavesNode number n = nodes.home n ≡ owned number → (later.home n ≡ nodes.home n) × (node_in step.name ≢ Some n)

  -- what the stepping pass has stored in its own nodes stands there
  abbrev pub HasStored : Type 0
  HasStored = (store : Store) → Contains (Last kind core step).written store
      → IfSome (node_in store.name) (λ n. IsOwnedBy step.number (later.home n) × IsAsStored (word_of (After kind core step)) (later.home n) store.name store.value)

  -- a node that comes to stand is sound, and so is a root that comes to be named
  pub record ComeSound (New : ℕ → Type 0) : Type 0 where
    pub stands : (n : ℕ) → New n → Stands (later.home n)
    pub sound : (n : ℕ) → New n → IsSoundNode later (sight tree_scope (After kind core step)) n
    pub roots : (name : Name) (root : ℕ) → New root → NamesRoot name (word_of (After kind core step) name) root
        → (later.home root ≡ under name) × (word_of (After kind core step) (Parent root) ≡ 0)

  -- none does
  pub come-none : ComeSound (λ n. ⊥)
  come-none = record { stands = λ n none. absurd none; sound = λ n none. absurd none; roots = λ name root none. absurd none }

module _ (kind : Kind) (core : Core) (step : Step) (a : Acts core step) (later : Nodes) (New : ℕ → Type 0) (m : Leaves kind core step a.laws.nodes later New) where
  abbrev nodes : Nodes
  nodes = a.laws.nodes

  abbrev Old : Sight
  Old = sight tree_scope core

  abbrev Now : Sight
  Now = sight tree_scope (After kind core step)

  -- ---- roots

  names-back : (name : Name) (root : ℕ) → NamesRoot name (Now.word name) root → NamesRoot name (Old.word name) root ⊎ New root
  names-back (Main l) root h = m.named (Main l) root h
  names-back (Slot l t) root h = m.named (Slot l t) root h
  names-back _ root h = absurd h

  names-forth : (name : Name) (root : ℕ) → NamesRoot name (Old.word name) root → NamesRoot name (Now.word name) root
  names-forth (Main l) root h = m.names (Main l) root h
  names-forth (Slot l t) root h = m.names (Slot l t) root h
  names-forth _ root h = absurd h

  names-seen : (name : Name) (root : ℕ) → NamesRoot name (Now.word name) root → NamesRoot name (word_of (After kind core step) name) root
  names-seen (Main l) root h = h
  names-seen (Slot l t) root h = h
  names-seen _ root h = absurd h

  has-forth : (number : ℕ) (P Q : Rebuild → Type 0) → ((r : Rebuild) → P r → Q r) → HasPass Old number (λ view. HasUpdate view P) → HasPass Now number (λ view. HasUpdate view Q)
  has-forth number P Q more h = has_update kind core step a nodes later New m tree_scope (λ k v. refl) update_on_trees (λ b v. refl) number P Q more h

  each-forth : (P Q : ℕ → Rebuild → Type 0) → EachUpdate Old (λ number view r. P number r) → ((number : ℕ) (r : Rebuild) → P number r → Q number r) → EachUpdate Now (λ number view r. Q number r)
  each-forth P Q h more =
      each_update kind core step a nodes later New m tree_scope (λ k v. refl) update_on_trees (λ b v. refl) (λ number view r. P number r) (λ number view r. Q number r) h
      (λ number view r p. more number r p) (λ r some p. more step.number r p)

  root-forth : (home : Home) (root : ℕ) → IsRootOf Old home root → IsRootOf Now home root
  root-forth (under name) root h = names-forth name root h
  root-forth (made number l) root h = has-forth number (λ r. slice_index r.roots l ≡ suc root) (λ r. slice_index r.roots l ≡ suc root) (λ r e. e) h
  root-forth (superseded number name) root h = has-forth number (λ r. IsSupersededRoot r name root) (λ r. IsSupersededRoot r name root) (λ r e. e) h
  root-forth _ root h = absurd h

  -- a root that has a home in a tree, and no parent, keeps it
  bare-forth : (root : ℕ) (home : Home) → IsInTree home → (nodes.home root ≡ home) × (Old.word (Parent root) ≡ 0) → (later.home root ≡ home) × (Now.word (Parent root) ≡ 0)
  bare-forth root home inside t = (home-forth kind core step a nodes later New m root home inside t.0, m.parent root (subst IsInTree (sym t.0) inside) ∙ t.1)

  -- ---- nodes in trees

  none_kept : (n k : ℕ) → IsInTree (nodes.home n) → Old.word (Child n k) ≡ 0 → Now.word (Child n k) ≡ 0
  none_kept = none-kept kind core step a nodes later New m

  node_kept : (n k x : ℕ) → IsInTree (nodes.home n) → Old.word (Child n k) ≡ node_child x → Now.word (Child n k) ≡ node_child x
  node_kept = node-kept kind core step a nodes later New m

  child-forth : (n k : ℕ) → IsInTree (nodes.home n) → IsChild nodes Old n k → IsChild later Now n k
  child-forth n k inside (nothing e) = nothing (none_kept n k inside e)
  child-forth n k inside (a_body i low e) = elim (m.child n k inside) [ inl same ↦ a_body i low (same ∙ e) | inr c ↦ nothing c.none ]
  child-forth n k inside (a_node x e home parent depth) =
      let same : IsInTree (nodes.home x) = subst IsInTree (sym home) inside in
      a_node x (node_kept n k x inside e) (m.stays x same ∙ (home ∙ sym (m.stays n inside))) (m.parent x same ∙ parent) (m.depth x same ∙ (depth ∙ ap suc (sym (m.depth n inside))))

  placed-forth : (x : ℕ) → IsInTree (nodes.home x) → IsPlaced nodes Old x → IsPlaced later Now x
  placed-forth x inside (as_root e root) = as_root (m.parent x inside ∙ e) (subst (λ (home : Home). IsRootOf Now home x) (sym (m.stays x inside)) (root-forth (nodes.home x) x root))
  placed-forth x inside (at_place n k low e child home) =
      let same : IsInTree (nodes.home n) = subst IsInTree (sym home) inside in
      at_place n k low (m.parent x inside ∙ e) (node_kept n k x same child) (m.stays n same ∙ (home ∙ sym (m.stays x inside)))

  height-forth : (n : ℕ) → IsInTree (nodes.home n) → nodes.depth n < 10 → later.depth n < 10
  height-forth n inside low = subst (λ (d : ℕ). d < 10) (sym (m.depth n inside)) low

  sound-forth : KeepsBoxes kind core step nodes later → (n : ℕ) → Stands (nodes.home n) → IsSoundNode later Now n
  sound-forth boxes n stands =
      let node = a.laws.trees.sound n stands in
      let inside = stands-in_tree (nodes.home n) stands in
      record {
        children = λ k low. child-forth n k inside (node.children k low);
        placed = placed-forth n inside node.placed;
        height = height-forth n inside node.height;
        bounds = λ k low some. boxes n k stands (node.bounds k low (λ none. some (none_kept n k inside none)));
      }

  -- ---- what is left of trees that are given back

  left-forth : (number : ℕ) (r : Rebuild) (n : ℕ) → nodes.home n ≡ returning number → IsLeftNode nodes Old number r n → IsLeftNode later Now number r n
  left-forth number r n home h =
      let inside : IsInTree (nodes.home n) = subst IsInTree (sym home) tt in
      record { children = λ k low. child-forth n k inside (h.children k low); left = go inside h.left; height = height-forth n inside h.height }
    where
      go : IsInTree (nodes.home n) → IsLeft nodes Old number r n → IsLeft later Now number r n
      go inside (as_top level among) = as_top level among
      go inside (below x k low parent child at) =
          below x k low (m.parent n inside ∙ parent) (node_kept x k n (subst IsInTree (sym at) tt) child) (home-forth kind core step a nodes later New m x (returning number) tt at)

  module _ (come : ComeSound kind core step nodes later New) where
    was-returning : (n number : ℕ) → later.home n ≡ returning number → nodes.home n ≡ returning number
    was-returning n number e =
        elim (home-back kind core step a nodes later New m n (returning number) tt e) [
          | inl same ↦ same
          | inr new ↦ absurd (subst Stands e (come.stands n new))
        ]

    top-forth : (number : ℕ) (top : Waiting) → IsTop nodes Old number top → IsTop later Now number top
    top-forth number top h =
        let inside : IsInTree (nodes.home top.node) = subst IsInTree (sym h.owned) tt in
        record {
          owned = home-forth kind core step a nodes later New m top.node (returning number) tt h.owned;
          alone = λ n k low e again. h.alone n k low (sym (m.parent top.node inside) ∙ e) (was-returning n number again);
          low = subst (λ (d : ℕ). top.level ≤ suc d) (sym (m.depth top.node inside)) h.low;
        }

    sound-later : KeepsBoxes kind core step nodes later → (n : ℕ) → Stands (later.home n) → IsSoundNode later Now n
    sound-later boxes n stands =
        elim (m.stood n (stands-in_tree (later.home n) stands)) [
          | inl same ↦ sound-forth boxes n (subst Stands same stands)
          | inr new ↦ come.sound n new
        ]

    roots-later : (name : Name) (root : ℕ) → NamesRoot name (Now.word name) root → (later.home root ≡ under name) × (Now.word (Parent root) ≡ 0)
    roots-later name root names =
        elim (names-back name root names) [
          | inl was ↦ bare-forth root (under name) tt (a.laws.trees.roots name root was)
          | inr new ↦ come.roots name root new (names-seen name root names)
        ]

  -- ---- what passes stored

  -- a store of a pass whose own nodes the step leaves
  home-stored : (number : ℕ) (store : Store) (n : ℕ) (home : Home) → LeavesNode kind core step nodes later number n → node_in store.name ≡ Some n → nodes.home n ≡ home → IsOwnedBy number home
      → IsAsStored (word_of core) home store.name store.value → (later.home n ≡ home) × IsAsStored (word_of (After kind core step)) home store.name store.value
  home-stored number store n (owned p) leaves of_node at owns h =
      let left = leaves (at ∙ ap owned owns) in
      (left.0 ∙ at, word-step-other kind core step store.name (λ e. left.1 (ap node_in (sym e) ∙ of_node)) ∙ h)
  home-stored number store n (made p l) leaves of_node at owns h = (m.stays n (subst IsInTree (sym at) tt) ∙ at, go store.name of_node h)
    where
      there : (x : ℕ) → Some x ≡ Some n → Stands (nodes.home x)
      there x same = subst (λ (y : ℕ). Stands (nodes.home y)) (sym (same_Some x n same)) (subst Stands (sym at) tt)

      go : (name : Name) → node_in name ≡ Some n → IsAsStored (word_of core) (made p l) name store.value → IsAsStored (word_of (After kind core step)) (made p l) name store.value
      go (Parent x) of is = m.parent x (stands-in_tree (nodes.home x) (there x of)) ∙ is
      go (Child x k) of is =
          let same = m.child x k (stands-in_tree (nodes.home x) (there x of)) in
          elim same [
            | inl same ↦ elim is [ inl e ↦ inl (same ∙ e) | inr t ↦ inr (same ∙ t.0, t.1) ]
            | inr c ↦ elim is [ inl e ↦ inr (c.none, (c.index, sym e ∙ c.was)) | inr t ↦ inr (c.none, t.1) ]
          ]
      go (Bound x k q) of is =
          let wide = m.wide x k q (there x of) in
          (λ low. let one = wide.0 low in let two = is.0 low in omega arith, λ high. let one = wide.1 high in let two = is.1 high in omega arith)
      go _ of is = absurd (none-some n of)
  home-stored number store n _ leaves of_node at owns h = absurd owns

  -- what is said of one store, by the words as they are, and as the law reads them
  abbrev Says : Nodes → (Name → ℕ) → ℕ → Store → Type 0
  Says places word number store = IfSome (node_in store.name) (λ n. IsOwnedBy number (places.home n) × IsAsStored word (places.home n) store.name store.value)

  seen-stored : (number : ℕ) (store : Store) → Says later (word_of (After kind core step)) number store → Says later Now.word number store
  seen-stored number store h =
      if_some_with (node_in store.name) _ _
      (λ n e t. (t.0, stored-same (word_of (After kind core step)) Now.word (later.home n) store.name store.value (node-word (After kind core step) store.name n e) t.1)) h

  left-stored : (number : ℕ) (store : Store) → ((n : ℕ) → node_in store.name ≡ Some n → LeavesNode kind core step nodes later number n) → Says nodes Old.word number store → Says later (word_of (After kind core step)) number store
  left-stored number store leaves h =
      if_some_with (node_in store.name) _ _
      (λ n e t.
      let left = home-stored number store n (nodes.home n) (leaves n e) e refl t.0 (stored-same Old.word (word_of core) (nodes.home n) store.name store.value (sym (node-word core store.name n e)) t.1) in
      subst (λ (home : Home). IsOwnedBy number home × IsAsStored (word_of (After kind core step)) home store.name store.value) (sym left.0) (t.0, left.1)) h

  -- what the stepping pass still knows to have stored stands, where the step leaves the nodes of it
  pub stored-left : ((store : Store) → Contains (Last kind core step).written store → Contains step.view.written store × ((n : ℕ) → node_in store.name ≡ Some n → LeavesNode kind core step nodes later step.number n))
      → HasStored kind core step nodes later
  stored-left fewer store among =
      let t = fewer store among in
      left-stored step.number store t.1 (each-seat tree_scope (λ k v. refl) core _ a.laws.trees.stored step.seat step.number step.view a.at a.pass store t.0)

  -- ---- the law

  pub TreesSound-leaves : ComeSound kind core step nodes later New → KeepsBoxes kind core step nodes later → ((n number : ℕ) → number ≢ step.number → LeavesNode kind core step nodes later number n)
      → HasStored kind core step nodes later → TreesSound later (After kind core step)
  TreesSound-leaves come boxes others stored =
      let h = a.laws.trees in
      record {
        sound = sound-later come boxes;
        roots = roots-later come;
        stored =
            each-step tree_scope (λ k v. refl) kind core step a.at a.pass (λ number view. (store : Store) → Contains view.written store → Says nodes Old.word number store)
            (λ number view. (store : Store) → Contains view.written store → Says later Now.word number store) h.stored
            (λ seat number view apart at pass was store among. seen-stored number store (left-stored number store (λ n e. others n number (other-number core step a seat number view apart at pass)) (was store among)))
            (λ was store among. seen-stored step.number store (stored store among));
        made_roots = each-forth (λ number r. RootsMade nodes Old number r) (λ number r. RootsMade later Now number r) h.made_roots
            (λ number r old l root planned from e. bare-forth root (made number l) tt (old l root planned from e));
        superseded_roots = each-forth (λ number r. RootsSuperseded nodes Old number r) (λ number r. RootsSuperseded later Now number r) h.superseded_roots
            (λ number r old name root unread is. bare-forth root (superseded number name) tt (old name root unread is));
        left_nodes = λ n number e.
            let was = was-returning come n number e in
            has-forth number (λ r. IsLeftNode nodes Old number r n) (λ r. IsLeftNode later Now number r n) (λ r old. left-forth number r n was old) (h.left_nodes n number was);
        tops = each-forth (λ number r. AreTops nodes Old number r) (λ number r. AreTops later Now number r) h.tops
            (λ number r old. record { tops = λ top among. top-forth come number top (old.tops top among); once = old.once });
      }

-- a step beside the trees
module _ (kind : Kind) (core : Core) (step : Step) (a : Acts core step) (later : Nodes) (t : Touches kind core step a.laws.nodes later) where
  pub boxes-touched : KeepsBoxes kind core step a.laws.nodes later
  boxes-touched n k stands box = subst (λ (b : Sides). IsBox b) (sym (λ i q. t.bounds n k q stands i)) box

  pub TreesSound-touches : TreesSound later (After kind core step)
  TreesSound-touches =
      TreesSound-leaves kind core step a later (λ n. ⊥) t.leaves (come-none kind core step a.laws.nodes later) boxes-touched
      (λ n number other e. t.others n number other (subst (IsOwnedBy number) (sym e) refl)) t.written
