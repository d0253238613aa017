-- Nodes below others, by child words: they are in the same tree, deeper, and each has one parent.
use Rattle.std.proofs.Common.{◌≡◌, ◌⊎◌, ℕ, suc, ◌<◌, ◌≤◌, refl, sym, ◌∙◌, subst, inl, inr, arith}
use Rattle.word_map.specs.declared.name.Name.{Name}
use Rattle.word_map.specs.declared.name.Name.TheVariants.{Child, Parent}
use Rattle.core_state.specs.Core.{Core}
use Rattle.core_state.specs.Encoding.{node_child, place}
use Rattle.core_state.specs.Nodes.{Nodes, Stands, Below, itself, lower}
use Rattle.core_state.specs.Scope.{sight, word_in}
use Rattle.core_state.specs.TreesSound.{TreesSound, IsChild, nothing, a_body, a_node, tree_scope}
use Rattle.core_state.specs.ReadersCounted.{reader_scope}

module _ (nodes : Nodes) (core : Core) (trees : TreesSound nodes core) where
  abbrev pub W : Name → ℕ
  W = word_in reader_scope core

  -- a child that is a node stands below its parent
  pub record IsUnder (n k m : ℕ) : Type 0 where
    pub home : nodes.home m ≡ nodes.home n
    pub parent : W (Parent m) ≡ place n k
    pub depth : nodes.depth m ≡ suc (nodes.depth n)

  -- by what a child may be
  under-child : (n k m : ℕ) → W (Child n k) ≡ node_child m → IsChild nodes (sight tree_scope core) n k → IsUnder n k m
  under-child n k m e (nothing none) = absurd (omega arith)
  under-child n k m e (a_body i below is) = absurd (omega arith)
  under-child n k m e (a_node x is home parent depth) =
      let same : x ≡ m = omega arith in
      subst (IsUnder n k) same (record { home = home; parent = parent; depth = depth })

  -- so of each child of a node that stands
  pub child-of : (n k m : ℕ) → Stands (nodes.home n) → k < 4 → W (Child n k) ≡ node_child m → IsUnder n k m
  child-of n k m stands low e = under-child n k m e ((trees.sound n stands).children k low)

  -- it stands too
  pub child-stands : (n k m : ℕ) → Stands (nodes.home n) → k < 4 → W (Child n k) ≡ node_child m → Stands (nodes.home m)
  child-stands n k m stands low e = subst Stands (sym (child-of n k m stands low e).home) stands

  -- what is below a node is in the same tree
  pub below-home : (a b : ℕ) → Stands (nodes.home a) → Below W a b → nodes.home b ≡ nodes.home a
  below-home a b stands (itself y) = refl
  below-home a b stands (lower n k m x low e rest) = below-home m b (child-stands a k m stands low e) rest ∙ (child-of a k m stands low e).home

  -- and at least as deep
  pub below-deeper : (a b : ℕ) → Stands (nodes.home a) → Below W a b → nodes.depth a ≤ nodes.depth b
  below-deeper a b stands (itself y) = omega arith
  below-deeper a b stands (lower n k m x low e rest) =
      let u = (child-of a k m stands low e).depth in
      let deeper = below-deeper m b (child-stands a k m stands low e) rest in
      omega arith

  -- what has a child below it is the child, or has its parent below it
  pub below-parent : (a m n k : ℕ) → Stands (nodes.home a) → W (Parent m) ≡ place n k → k < 4 → Below W a m → (a ≡ m) ⊎ Below W a n
  below-parent a m n k stands parent low (itself y) = inl refl
  below-parent a m n k stands parent low (lower x j y z less e rest) =
      elim (below-parent y m n k (child-stands a j y stands less e) parent low rest) [
        | inl same ↦
            let own = (child-of a j y stands less e).parent in
            let at : W (Parent m) ≡ place a j = subst (λ (b : ℕ). W (Parent b) ≡ place a j) same own in
            let here : a ≡ n = omega arith in
            inr (subst (Below W a) here (itself a))
        | inr up ↦ inr (lower a j y n less e up)
      ]
