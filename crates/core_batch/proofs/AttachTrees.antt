-- The trees are sound where a batch was attached, and the walks lead on: the slot named no tree before.
use Rattle.std.proofs.Common.{◌≡◌, ◌≢◌, ℕ, zero, suc, ◌<◌, List, true, not, Some, Contains, refl, ap, sym, ◌∙◌, subst, inl, inr, arith}
use Rattle.std.proofs.lemmas.Bool.{false≢true}
use Rattle.std.proofs.lemmas.Option.{none-some}
use Rattle.scene_model.specs.Scene.{record_at}
use Rattle.scene_model.proofs.Histories.{IsConsistent-scene_after}
use Rattle.word_map.specs.declared.name.Name.{Name}
use Rattle.word_map.specs.declared.name.Name.TheVariants.{Child, Bound, Parent, Main, Slot}
use Rattle.core_state.specs.declared.item.Store.{Store}
use Rattle.core_state.specs.declared.view.Marked.{Marked}
use Rattle.core_state.specs.declared.view.Batch.{Batch}
use Rattle.core_state.specs.Log.{history}
use Rattle.core_state.specs.Core.{Core, word_of, scene_of}
use Rattle.core_state.specs.Encoding.{node_child, slot_tree, NamesRoot, IsBox, bound_in}
use Rattle.core_state.specs.Nodes.{Nodes, Home, owned, under, Stands, IsInTree, IsOwnedBy, node_in}
use Rattle.core_state.specs.Scope.{Sight, sight}
use Rattle.core_state.specs.TreesSound.{TreesSound, tree_scope, IsRootOf, IsChild, nothing, a_body, a_node, IsPlaced, as_root, at_place, IsSoundNode}
use Rattle.core_state.specs.WalksLead.{WalksLead}
use Rattle.core_state.specs.Batches.{IsPart, nothing as part_nothing, a_body as part_body, a_node as part_node, IsWholeTree, nodes_for, batch_for, is_in_nodes, written_outside, attach}
use Rattle.core_state.proofs.SameNames.{cases_name}
use Rattle.core_guard.proofs.Scenes.{record_live, live_below, bodies-after}
use Rattle.core_guard.proofs.Leaving.{Acts, Last}
use Rattle.core_guard.proofs.TreesLeft.{KeepsBoxes, ComeSound, TreesSound-leaves, stored-left}
use Rattle.core_guard.proofs.WalksLeft.{WalksLead-leaves}
use Rattle.core_batch.proofs.Lists.{filter_from}
use Rattle.core_batch.proofs.Attaching.{Attaching, step_of, found, was_home, whole_now, joining}
use Rattle.core_batch.proofs.Attached.{there-in_nodes, nodes_after, home-inside, depth-inside, home-outside, core_after, word-other, word-slot}
use Rattle.core_batch.proofs.AttachLeaves.{attach-leaves, tree-outside}

-- the root of a whole tree has no parent, since depths end
module _ (word : Name → ℕ) (batch : Batch) (root : ℕ) (w : IsWholeTree word batch root) where
  part_depth : (n k c : ℕ) → IsPart word batch w.depth n k → word (Child n k) ≡ node_child c → w.depth c ≡ suc (w.depth n)
  part_depth n k c (part_nothing e) child = absurd (omega arith)
  part_depth n k c (part_body m marked at e) child = absurd (omega arith)
  part_depth n k c (part_node x inside e parent depth) child =
      let same : x ≡ c = omega arith in
      subst (λ (z : ℕ). w.depth z ≡ suc (w.depth n)) same depth

  climb_out : (d n : ℕ) → w.depth n ≡ d → Contains batch.nodes n → word (Parent root) ≡ 0
  climb_out zero n at inside =
      elim (w.under_root n inside) [
        | inl top ↦ subst (λ (z : ℕ). word (Parent z) ≡ 0) top.0 top.1
        | inr t ↦ let deeper = part_depth t.0 t.1 n (w.parts t.0 t.1 t.3 t.2) t.5 in absurd (omega arith)
      ]
  climb_out (suc d) n at inside =
      elim (w.under_root n inside) [
        | inl top ↦ subst (λ (z : ℕ). word (Parent z) ≡ 0) top.0 top.1
        | inr t ↦ let deeper = part_depth t.0 t.1 n (w.parts t.0 t.1 t.3 t.2) t.5 in climb_out d t.0 (omega arith) t.3
      ]

  pub root_parent : word (Parent root) ≡ 0
  root_parent = climb_out (w.depth root) root refl w.rooted

-- an owned home is of one pass
owned-one : (p q : ℕ) → owned p ≡ owned q → p ≡ q
owned-one p q e = subst (IsOwnedBy q) (sym e) refl

module _ (core : Core) (a : Attaching core) (acts : Acts core (step_of core a)) where
  abbrev Now : Sight
  Now = sight tree_scope (core_after core a)

  abbrev Later : Nodes
  Later = nodes_after acts.laws.nodes core a

  abbrev Whole : IsWholeTree (word_of core) a.batch a.root
  Whole = whole_now core a acts.formed acts.laws acts.guards

  child : (n k : ℕ) → Now.word (Child n k) ≡ word_of core (Child n k)
  child n k = word-other core a (Child n k) (λ e. absurd cc)

  parent : (n : ℕ) → Now.word (Parent n) ≡ word_of core (Parent n)
  parent n = word-other core a (Parent n) (λ e. absurd cc)

  bound : (n k : ℕ) → bound_in (word_of core) n k ≡ bound_in (word_of (core_after core a)) n k
  bound n k = λ i q. sym (word-other core a (Bound n k q) (λ e. absurd cc)) i

  -- ---- the nodes of the batch

  home-now : (n : ℕ) → Contains a.batch.nodes n → Later.home n ≡ under (Slot a.layer a.slot)
  home-now n inside = home-inside acts.laws.nodes core a n inside

  -- a marked body is one of the world
  marked_below : (m : Marked) → Contains a.batch.marked m → m.index < core.config.bodies
  marked_below m marked =
      let j = joining core a acts.formed acts.laws acts.guards m marked in
      let consistent = IsConsistent-scene_after core.config.layers core.config.bodies (history core.log) acts.laws.bodies.lawful in
      let low = live_below core.config.layers (scene_of core) m.index consistent (record_live (record_at (scene_of core) m.index) j.body j.live) in
      subst (λ (n : ℕ). m.index < n) (bodies-after core.config.bodies (history core.log)) low

  part_child : (n k : ℕ) → Contains a.batch.nodes n → IsPart (word_of core) a.batch a.whole.depth n k → IsChild Later Now n k
  part_child n k inside (part_nothing e) = nothing (child n k ∙ e)
  part_child n k inside (part_body m marked at e) = a_body m.index (marked_below m marked) (child n k ∙ e)
  part_child n k inside (part_node c below e up depth) =
      a_node c (child n k ∙ e) (home-now c below ∙ sym (home-now n inside)) (parent c ∙ up)
      (depth-inside acts.laws.nodes core a c below ∙ (depth ∙ ap suc (sym (depth-inside acts.laws.nodes core a n inside))))

  placed_inside : (n : ℕ) → Contains a.batch.nodes n → IsPlaced Later Now n
  placed_inside n inside =
      elim (Whole.under_root n inside) [
        | inl top ↦ as_root (parent n ∙ top.1) (subst (λ (home : Home). IsRootOf Now home n) (sym (home-now n inside)) (word-slot core a ∙ ap slot_tree (sym top.0)))
        | inr t ↦ at_place t.0 t.1 t.2 (parent n ∙ t.4) (child t.0 t.1 ∙ t.5) (home-now t.0 t.3 ∙ sym (home-now n inside))
      ]

  sound_inside : (n : ℕ) → Contains a.batch.nodes n → IsSoundNode Later Now n
  sound_inside n inside = record {
    children = λ k below. part_child n k inside (Whole.parts n k inside below);
    placed = placed_inside n inside;
    height = subst (λ (d : ℕ). d < 10) (sym (depth-inside acts.laws.nodes core a n inside)) (Whole.height n inside);
    bounds = λ k below some. subst IsBox (bound n k) (Whole.boxes n k inside below (λ none. some (child n k ∙ none)));
  }

  -- no other word names one of them
  roots_inside : (name : Name) (root : ℕ) → Contains a.batch.nodes root → NamesRoot name (word_of (core_after core a) name) root → (Later.home root ≡ under name) × (word_of (core_after core a) (Parent root) ≡ 0)
  roots_inside name root inside names =
      elim (cases_name name (Slot a.layer a.slot)) [
        | inl same ↦
            let is : word_of (core_after core a) (Slot a.layer a.slot) ≡ slot_tree root = subst (λ (n : Name). NamesRoot n (word_of (core_after core a) n) root) same names in
            let now : word_of (core_after core a) (Slot a.layer a.slot) ≡ slot_tree a.root = word-slot core a in
            let one : a.root ≡ root = omega arith in (
              home-now root inside ∙ ap under (sym same),
              parent root ∙ subst (λ (n : ℕ). word_of core (Parent n) ≡ 0) one (root_parent (word_of core) a.batch a.root Whole),
            )
        | inr other ↦
            let was = subst (λ (w : ℕ). NamesRoot name w root) (word-other core a name other) names in
            absurd (tree-outside core a acts.formed acts.laws root (named-in_tree name root was) inside)
      ]
    where
      named-in_tree : (name : Name) (root : ℕ) → NamesRoot name (word_of core name) root → IsInTree (acts.laws.nodes.home root)
      named-in_tree (Main l) root was = subst IsInTree (sym (acts.laws.trees.roots (Main l) root was).0) tt
      named-in_tree (Slot l t) root was = subst IsInTree (sym (acts.laws.trees.roots (Slot l t) root was).0) tt
      named-in_tree _ root was = absurd was

  come : ComeSound attach core (step_of core a) acts.laws.nodes Later (λ n. Contains a.batch.nodes n)
  come = record { stands = λ n inside. subst Stands (sym (home-now n inside)) tt; sound = sound_inside; roots = roots_inside }

  boxes : KeepsBoxes attach core (step_of core a) acts.laws.nodes Later
  boxes n k stands box = subst IsBox (bound n k) box

  -- ---- own nodes of passes

  outside-left : (n : ℕ) → ¬ Contains a.batch.nodes n → (Later.home n ≡ acts.laws.nodes.home n) × (node_in (Slot a.layer a.slot) ≢ Some n)
  outside-left n outside = (home-outside acts.laws.nodes core a n outside, λ e. none-some n e)

  -- what the pass still has stored is in other nodes
  written_apart : (store : Store) (n : ℕ) → Contains (Last attach core (step_of core a)).written store → node_in store.name ≡ Some n → ¬ Contains a.batch.nodes n
  written_apart store n among of_node inside =
      let nodes : nodes_for (batch_for a.layer a.slot a.view) ≡ a.batch.nodes = ap nodes_for (found core a acts.formed acts.laws) in
      let t = filter_from (λ s. not (is_in_nodes a.batch.nodes (node_in s.name))) a.view.written store (subst (λ (ns : List ℕ). Contains (written_outside ns a.view.written) store) nodes among) in
      let test : is_in_nodes a.batch.nodes (node_in store.name) ≡ true = ap (is_in_nodes a.batch.nodes) of_node ∙ there-in_nodes a.batch.nodes n inside in
      false≢true (ap not (sym test) ∙ t.1)

  written_left : (store : Store) → Contains (Last attach core (step_of core a)).written store → Contains a.view.written store
  written_left store among = (filter_from (λ s. not (is_in_nodes (nodes_for (batch_for a.layer a.slot a.view)) (node_in s.name))) a.view.written store among).0

  pub TreesSound-attach : TreesSound (nodes_after acts.laws.nodes core a) (core_after core a)
  TreesSound-attach =
      TreesSound-leaves attach core (step_of core a) acts Later (λ n. Contains a.batch.nodes n) (attach-leaves core a acts.formed acts.laws) come boxes
      (λ n number other is. outside-left n (λ inside. other (owned-one number a.number (sym is ∙ was_home core a acts.formed acts.laws n inside))))
      (stored-left attach core (step_of core a) acts Later (λ n. Contains a.batch.nodes n) (attach-leaves core a acts.formed acts.laws)
      (λ store among. (written_left store among, λ n of_node is. outside-left n (written_apart store n among of_node))))

  pub WalksLead-attach : WalksLead (core_after core a)
  WalksLead-attach = WalksLead-leaves attach core (step_of core a) acts Later (λ n. Contains a.batch.nodes n) (attach-leaves core a acts.formed acts.laws) boxes refl
