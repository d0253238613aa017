-- From a place of a published tree up to the root that its word names: where each bound on the way holds a box, a way leads
-- down from the root.
use Rattle.std.proofs.Common.{◌≡◌, ℕ, zero, suc, sym, ◌∙◌, subst, arith}
use Rattle.word_map.specs.declared.name.Name.{Name}
use Rattle.word_map.specs.declared.name.Name.TheVariants.{Child}
use Rattle.core_state.specs.Core.{Core, word_of}
use Rattle.core_state.specs.Encoding.{NamesRoot, Sides, bound_in, node_child}
use Rattle.core_state.specs.Nodes.{Nodes, Home, under, Stands, Above}
use Rattle.core_state.specs.Scope.{sight, word_in}
use Rattle.core_state.specs.TreesSound.{TreesSound, IsChild, nothing, a_body, a_node, IsPlaced, as_root, at_place, IsRootOf, tree_scope}
use Rattle.core_state.specs.LocationsHold.{location_scope}
use Rattle.core_state.specs.WalksLead.{Way, to_node, HoldsOne, walk_scope}
use Rattle.core_state.proofs.Beginning.{above-more}

-- a child of a node that is a node is one level lower
lower-depth : (nodes : Nodes) (core : Core) (m j n : ℕ) → IsChild nodes (sight tree_scope core) m j → word_of core (Child m j) ≡ node_child n → nodes.depth n ≡ suc (nodes.depth m)
lower-depth nodes core m j n (nothing e) child = absurd (omega arith)
lower-depth nodes core m j n (a_body i below e) child = absurd (omega arith)
lower-depth nodes core m j n (a_node x e home parent depth) child =
    let same : x ≡ n = omega arith in
    subst (λ (k : ℕ). nodes.depth k ≡ suc (nodes.depth m)) same depth

module _ (core : Core) (nodes : Nodes) (trees : TreesSound nodes core) (Had : Sides → Type 0) (i n0 k0 : ℕ)
    (wide : (a b : ℕ) → Above (word_in location_scope core) n0 k0 a b → HoldsOne Had (bound_in (word_of core) a b)) where
  abbrev pub Found : Name → Type 0
  Found name = (root : ℕ) × NamesRoot name (word_in tree_scope core name) root × Way (word_in walk_scope core) Had i root

  -- at a node with a way down: it is the root, or its parent has a way down too
  climb-at : (n kn : ℕ) (name : Name) → nodes.home n ≡ under name → Above (word_in location_scope core) n0 k0 n kn → Way (word_in walk_scope core) Had i n
      → ((m j : ℕ) → nodes.depth n ≡ suc (nodes.depth m) → nodes.home m ≡ under name → Above (word_in location_scope core) n0 k0 m j → Way (word_in walk_scope core) Had i m → Found name)
      → IsPlaced nodes (sight tree_scope core) n → Found name
  climb-at n kn name home up way again (as_root e root) = (n, subst (λ (h : Home). IsRootOf (sight tree_scope core) h n) home root, way)
  climb-at n kn name home up way again (at_place m j below e child same) =
      let above = above-more (word_in location_scope core) n0 k0 n kn m j up e below in
      let parent : nodes.home m ≡ under name = same ∙ home in
      let sound = trees.sound m (subst Stands (sym parent) tt) in
      again m j (lower-depth nodes core m j n (sound.children j below) child) parent above (to_node m j n below child (wide m j above) way)

  -- from a node with a way down, up to the root that its tree's word names
  pub climb : (d n kn : ℕ) (name : Name) → nodes.depth n ≡ d → nodes.home n ≡ under name → Above (word_in location_scope core) n0 k0 n kn → Way (word_in walk_scope core) Had i n → Found name
  climb zero n kn name depth home up way =
      climb-at n kn name home up way (λ m j lower parent above more. absurd (omega arith)) (trees.sound n (subst Stands (sym home) tt)).placed
  climb (suc d) n kn name depth home up way =
      climb-at n kn name home up way (λ m j lower parent above more. climb d m j name (omega arith) parent above more) (trees.sound n (subst Stands (sym home) tt)).placed
