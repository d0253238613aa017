-- A store with which the update of the pass notes nodes of its new trees, or that they stand: the trees are sound still, where
-- the nodes that come to stand are.
use Rattle.std.proofs.Common.{◌≡◌, ℕ, suc, ◌<◌, ◌≤◌, List, Bool, length, map, Contains, Option, Some, refl, ap, sym, ◌∙◌, subst, inl, inr, arith}
use Rattle.std.specs.Prelude.{IfSome, IsSomeAnd, option_map, slice_index, slice_index_or}
use Rattle.std.proofs.lemmas.Option.{none-some}
use Rattle.word_map.specs.declared.name.Name.{Name}
use Rattle.word_map.specs.declared.name.Name.TheVariants.{Child, Bound, Parent}
use Rattle.core_state.specs.declared.item.Store.{Store}
use Rattle.core_state.specs.declared.view.Merged.{Merged}
use Rattle.core_state.specs.declared.view.NewNode.{NewNode}
use Rattle.core_state.specs.declared.view.Rebuild.{Rebuild}
use Rattle.core_state.specs.declared.view.Waiting.{Waiting}
use Rattle.core_state.specs.Batches.{store_node}
use Rattle.core_state.specs.Core.{Core}
use Rattle.core_state.specs.Kind.{Step, after_step}
use Rattle.core_state.specs.Nodes.{Nodes, Home, node_in, owned, made, under, superseded, returning, IsOwnedBy, Stands, IsInTree}
use Rattle.core_state.specs.Noting.{IsEarly}
use Rattle.core_state.specs.Parts.{update_on_trees}
use Rattle.core_state.specs.Scope.{Sight, sight, HasPass, IsOnce}
use Rattle.core_state.specs.Updates.{EachUpdate, HasUpdate, merged_tree}
use Rattle.core_state.specs.TreesSound.{TreesSound, tree_scope, IsSupersededRoot, of_main, of_slot, IsRootOf, IsChild, nothing, a_body, a_node, IsPlaced, as_root, at_place, IsSoundNode, IsAsStored, IsLeft, as_top, below, IsLeftNode, AreTops, RootsMade, RootsSuperseded}
use Rattle.core_guard.proofs.Leaving.{Acts, if_some_map, if_some_with, some_and_map, stands-in_tree}
use Rattle.core_update.proofs.EarlyUpdate.{unmade}
use Rattle.core_update.proofs.PlanNodes.{planning, MakesHomes, home-back}
use Rattle.core_update.proofs.Swapped.{each-swap, has-swap}

-- what stands in an own node stands in one of a new tree
stored-made : (word : Name → ℕ) (number other l value n : ℕ) (name : Name) → node_in name ≡ Some n → IsAsStored word (owned number) name value → IsAsStored word (made other l) name value
stored-made word number other l value n (Child m k) e h = inl h
stored-made word number other l value n (Bound m k q) e h = (λ low. omega arith, λ high. omega arith)
stored-made word number other l value n (Parent m) e h = h
stored-made word number other l value n _ e h = absurd (none-some n e)

module _ (change : Name → ℕ → Rebuild → Rebuild) (core : Core) (step : Step) (a : Acts core step) (r : Rebuild) (has : step.view.rebuild ≡ Some r) (early : IsEarly r) (M : List NewNode) (R : List ℕ) (planned : Bool)
    (two : option_map (change step.name step.first) step.view.rebuild ≡ Some (record r { made = M; roots = R; is_planned = planned })) (later : Nodes)
    (g : MakesHomes change core step a r has early.unplanned M R planned two later) where
  abbrev nodes : Nodes
  nodes = a.laws.nodes

  abbrev u : Rebuild
  u = record r { made = M; roots = R; is_planned = planned }

  abbrev First : Sight
  First = sight tree_scope (after_step store_node core step)

  abbrev pub Second : Sight
  Second = sight tree_scope (after_step (planning change) core step)

  stays : (n : ℕ) → IsInTree (nodes.home n) → later.home n ≡ nodes.home n
  stays n inside = elim (g.homes n) [ inl same ↦ same | inr new ↦ absurd (subst IsInTree new.1 inside) ]

  tree-forth : (n : ℕ) (home : Home) → IsInTree home → nodes.home n ≡ home → later.home n ≡ home
  tree-forth n home inside e = stays n (subst IsInTree (sym e) inside) ∙ e

  -- what is to be shown of the nodes that come to stand, and of the roots
  pub record PlansTrees : Type 0 where
    pub depth : (n : ℕ) → IsInTree (nodes.home n) → later.depth n ≡ nodes.depth n
    pub sound : (n l : ℕ) → nodes.home n ≡ owned step.number → later.home n ≡ made step.number l → IsSoundNode later Second n
    pub roots : RootsMade later Second step.number (update_on_trees (record r { made = M; roots = R; is_planned = planned }))

  -- roots that were taken out of sight, and what is left of merged trees, are the same
  superseded-same : (x y : Rebuild) (name : Name) (root : ℕ) → y.swapped ≡ x.swapped → y.cleared ≡ x.cleared → y.merged ≡ x.merged → IsSupersededRoot x name root → IsSupersededRoot y name root
  superseded-same x y name root swapped cleared merged (of_main l n low e) =
      of_main l root (subst (λ (xs : List ℕ). l < length xs) (sym swapped) low) (subst (λ (xs : List ℕ). slice_index xs l ≡ suc root) (sym swapped) e)
  superseded-same x y name root swapped cleared merged (of_slot l t n k low inside e) =
      of_slot l t root k (subst (λ (m : ℕ). k < m) (sym cleared) low) (subst (λ (xs : List Merged). k < length xs) (sym merged) inside)
      (subst (λ (xs : List Merged). slice_index_or xs k (merged_tree l t root) ≡ merged_tree l t root) (sym merged) e)

  module _ (p : PlansTrees) where
    -- ---- of updates

    own-forth : (P Q : Rebuild → Type 0) → (P (update_on_trees r) → Q (update_on_trees u)) → IsSomeAnd (option_map update_on_trees step.view.rebuild) P → IsSomeAnd (option_map update_on_trees (option_map (change step.name step.first) step.view.rebuild)) Q
    own-forth P Q more h = subst (λ (o : Option Rebuild). IsSomeAnd (option_map update_on_trees o) Q) (sym two) (more (subst (λ (o : Option Rebuild). IsSomeAnd (option_map update_on_trees o) P) has h))

    has-forth : (number : ℕ) (P Q : Rebuild → Type 0) → ((x : Rebuild) → P x → Q x) → (number ≡ step.number → P (update_on_trees r) → Q (update_on_trees u)) → HasPass First number (λ v. HasUpdate v P) → HasPass Second number (λ v. HasUpdate v Q)
    has-forth number P Q more own h =
        has-swap tree_scope (λ k v. refl) (planning change) store_node.leaves core step a.at a.pass number (λ v. HasUpdate v P) (λ v. HasUpdate v Q) h
        (λ seat view apart found is old. some_and_map (option_map update_on_trees view.rebuild) P Q more old) (λ same. own-forth P Q (own (sym same)))

    each-forth : (P Q : ℕ → Rebuild → Type 0) → ((number : ℕ) (x : Rebuild) → P number x → Q number x) → (P step.number (update_on_trees r) → Q step.number (update_on_trees u)) → EachUpdate First (λ number v x. P number x) → EachUpdate Second (λ number v x. Q number x)
    each-forth P Q more own h =
        each-swap tree_scope (λ k v. refl) (planning change) store_node.leaves core step a.at a.pass (λ number v. IfSome v.rebuild (P number)) (λ number v. IfSome v.rebuild (Q number)) h
        (λ seat number view apart found is old. if_some_map (option_map update_on_trees view.rebuild) (P number) (Q number) (more number) old)
        (λ old. subst (λ (o : Option Rebuild). IfSome (option_map update_on_trees o) (Q step.number)) (sym two) (own (subst (λ (o : Option Rebuild). IfSome (option_map update_on_trees o) (P step.number)) has old)))

    -- ---- nodes that stood

    root-forth : (root : ℕ) (home : Home) → nodes.home root ≡ home → IsRootOf First home root → IsRootOf Second home root
    root-forth root (under name) e h = h
    root-forth root (made number l) e h =
        has-forth number (λ x. slice_index x.roots l ≡ suc root) (λ x. slice_index x.roots l ≡ suc root) (λ x t. t) (λ own t. absurd (unmade core step a r has early root l (e ∙ ap (λ (q : ℕ). made q l) own))) h
    root-forth root (superseded number name) e h =
        has-forth number (λ x. IsSupersededRoot x name root) (λ x. IsSupersededRoot x name root) (λ x t. t) (λ own t. superseded-same (update_on_trees r) (update_on_trees u) name root refl refl refl t) h
    root-forth root _ e h = absurd h

    child-forth : (n k : ℕ) → IsInTree (nodes.home n) → IsChild nodes First n k → IsChild later Second n k
    child-forth n k inside (nothing e) = nothing e
    child-forth n k inside (a_body j low e) = a_body j low e
    child-forth n k inside (a_node m e home parent deeper) =
        let same : IsInTree (nodes.home m) = subst IsInTree (sym home) inside in
        a_node m e (stays m same ∙ (home ∙ sym (stays n inside))) parent (p.depth m same ∙ (deeper ∙ ap suc (sym (p.depth n inside))))

    placed-forth : (m : ℕ) → IsInTree (nodes.home m) → IsPlaced nodes First m → IsPlaced later Second m
    placed-forth m inside (as_root e root) = as_root e (subst (λ (home : Home). IsRootOf Second home m) (sym (stays m inside)) (root-forth m (nodes.home m) refl root))
    placed-forth m inside (at_place n k low e child home) =
        let same : IsInTree (nodes.home n) = subst IsInTree (sym home) inside in
        at_place n k low e child (stays n same ∙ (home ∙ sym (stays m inside)))

    sound-forth : (n : ℕ) → Stands (nodes.home n) → IsSoundNode nodes First n → IsSoundNode later Second n
    sound-forth n stands h =
        let inside = stands-in_tree (nodes.home n) stands in
        record { children = λ k low. child-forth n k inside (h.children k low); placed = placed-forth n inside h.placed; height = subst (λ (d : ℕ). d < 10) (sym (p.depth n inside)) h.height; bounds = h.bounds }

    -- ---- what was stored, and what is left of merged trees

    abbrev Says : Nodes → Sight → ℕ → Store → Type 0
    Says places s number store = IfSome (node_in store.name) (λ n. IsOwnedBy number (places.home n) × IsAsStored s.word (places.home n) store.name store.value)

    stored-forth : (number : ℕ) (store : Store) → Says nodes First number store → Says later Second number store
    stored-forth number store h =
        if_some_with (node_in store.name) (λ n. IsOwnedBy number (nodes.home n) × IsAsStored First.word (nodes.home n) store.name store.value) (λ n. IsOwnedBy number (later.home n) × IsAsStored Second.word (later.home n) store.name store.value)
        (λ n of t.
        elim (g.homes n) [
          | inl same ↦ subst (λ (home : Home). IsOwnedBy number home × IsAsStored First.word home store.name store.value) (sym same) t
          | inr new ↦
              let was = subst (λ (home : Home). IsOwnedBy number home × IsAsStored First.word home store.name store.value) new.1 t in
              subst (λ (home : Home). IsOwnedBy number home × IsAsStored First.word home store.name store.value) (sym new.2.1) (was.0, stored-made First.word step.number step.number new.2.0 store.value n store.name of was.1)
        ]) h

    left-forth : (number : ℕ) (x y : Rebuild) (n : ℕ) → y.returning ≡ x.returning → nodes.home n ≡ returning number → IsLeftNode nodes First number x n → IsLeftNode later Second number y n
    left-forth number x y n same home h =
        let inside : IsInTree (nodes.home n) = subst IsInTree (sym home) tt in
        record { children = λ k low. child-forth n k inside (h.children k low); left = go h.left; height = subst (λ (d : ℕ). d < 10) (sym (p.depth n inside)) h.height }
      where
        go : IsLeft nodes First number x n → IsLeft later Second number y n
        go (as_top level among) = as_top level (subst (λ (xs : List Waiting). Contains xs (record { node = n; level = level })) (sym same) among)
        go (below m k low e child at) = below m k low e child (tree-forth m (returning number) tt at)

    tops-forth : (number : ℕ) (x y : Rebuild) → y.returning ≡ x.returning → AreTops nodes First number x → AreTops later Second number y
    tops-forth number x y same h = record {
      tops = λ top among.
          let t = h.tops top (subst (λ (xs : List Waiting). Contains xs top) same among) in
          let inside : IsInTree (nodes.home top.node) = subst IsInTree (sym t.owned) tt in
          record {
            owned = tree-forth top.node (returning number) tt t.owned;
            alone = λ n k low e again. t.alone n k low e (home-back change core step a r has early.unplanned M R planned two later g n (returning number) tt again);
            low = subst (λ (d : ℕ). top.level ≤ suc d) (sym (p.depth top.node inside)) t.low;
          };
      once = subst (λ (xs : List Waiting). IsOnce (map (λ w. w.node) xs)) (sym same) h.once;
    }

    -- ---- the law

    pub TreesSound-plan : TreesSound nodes (after_step store_node core step) → TreesSound later (after_step (planning change) core step)
    TreesSound-plan h = record {
      sound = λ n stands.
          elim (g.homes n) [
            | inl same ↦ let old = subst Stands same stands in sound-forth n old (h.sound n old)
            | inr new ↦ p.sound n new.2.0 new.1 new.2.1
          ];
      roots = λ name root names. let t = h.roots name root names in (tree-forth root (under name) tt t.0, t.1);
      stored =
          each-swap tree_scope (λ k v. refl) (planning change) store_node.leaves core step a.at a.pass (λ number v. (store : Store) → Contains v.written store → Says nodes First number store)
          (λ number v. (store : Store) → Contains v.written store → Says later Second number store) h.stored (λ seat number view apart found is old store among. stored-forth number store (old store among))
          (λ old store among. stored-forth step.number store (old store among));
      made_roots = each-forth (λ number x. RootsMade nodes First number x) (λ number x. RootsMade later Second number x)
          (λ number x old l root is from e. let t = old l root is from e in (tree-forth root (made number l) tt t.0, t.1)) (λ old. p.roots) h.made_roots;
      superseded_roots = each-forth (λ number x. RootsSuperseded nodes First number x) (λ number x. RootsSuperseded later Second number x)
          (λ number x old name root unread is. let t = old name root unread is in (tree-forth root (superseded number name) tt t.0, t.1))
          (λ old name root unread is.
          let t = old name root unread (superseded-same (update_on_trees u) (update_on_trees r) name root refl refl refl is) in
          (tree-forth root (superseded step.number name) tt t.0, t.1)) h.superseded_roots;
      left_nodes = λ n number e.
          let was = home-back change core step a r has early.unplanned M R planned two later g n (returning number) tt e in
          has-forth number (λ x. IsLeftNode nodes First number x n) (λ x. IsLeftNode later Second number x n) (λ x old. left-forth number x x n refl was old) (λ own old. left-forth number (update_on_trees r) (update_on_trees u) n refl was old) (h.left_nodes n number was);
      tops = each-forth (λ number x. AreTops nodes First number x) (λ number x. AreTops later Second number x) (λ number x old. tops-forth number x x refl old) (λ old. tops-forth step.number (update_on_trees r) (update_on_trees u) refl old) h.tops;
    }
