-- A node of a published tree is in the tree of a word that names one: of the slot or of the main word of a layer of the world.
use Rattle.std.proofs.Common.{arith, refl, subst, suc, sym, zero, ℕ, ◌<◌, ◌∙◌, ◌≡◌}
use Rattle.word_map.specs.declared.name.Name.{Name}
use Rattle.word_map.specs.declared.name.Name.TheVariants.{Main}
use Rattle.core_state.specs.Core.{Core}
use Rattle.core_state.specs.Encoding.{NamesRoot}
use Rattle.core_state.specs.Formed.{IsFormed}
use Rattle.core_state.specs.Invariants.{Invariants}
use Rattle.core_state.specs.Nodes.{Home, Stands, under}
use Rattle.core_state.specs.Scope.{Sight, sight}
use Rattle.core_state.specs.TreesSound.{IsPlaced, IsRootOf, as_root, at_place, tree_scope}
use Rattle.core_batch.proofs.HeldFacts.{stored-named}
use Rattle.core_update.proofs.AtRest.{child-depth}

module _ (core : Core) (h : Invariants core) where
  abbrev Trees : Sight
  Trees = sight tree_scope core

  -- it is the root, or stands below another node of the tree
  root-or-below : (n : ℕ) (name : Name) → h.nodes.home n ≡ under name → ((m : ℕ) → h.nodes.home m ≡ under name → h.nodes.depth n ≡ suc (h.nodes.depth m) → (root : ℕ) × NamesRoot name (Trees.word name) root)
      → (root : ℕ) × NamesRoot name (Trees.word name) root
  root-or-below n name home further = go (h.trees.sound n (subst Stands (sym home) tt)).placed
    where
      go : IsPlaced h.nodes Trees n → (root : ℕ) × NamesRoot name (Trees.word name) root
      go (as_root none root) = (n, subst (λ (x : Home). IsRootOf Trees x n) home root)
      go (at_place m k below parent child at) =
          let up : h.nodes.home m ≡ under name = at ∙ home in
          further m up (child-depth h.nodes Trees m k n ((h.trees.sound m (subst Stands (sym up) tt)).children k below) child)

  named-as-deep : (d n : ℕ) (name : Name) → h.nodes.depth n ≡ d → h.nodes.home n ≡ under name → (root : ℕ) × NamesRoot name (Trees.word name) root
  named-as-deep zero n name deep home = root-or-below n name home (λ m up lower. absurd (omega arith))
  named-as-deep (suc d) n name deep home = root-or-below n name home (λ m up lower. named-as-deep d m name (omega arith) up)

  pub named-tree : (n : ℕ) (name : Name) → h.nodes.home n ≡ under name → (root : ℕ) × NamesRoot name (Trees.word name) root
  named-tree n name home = named-as-deep (h.nodes.depth n) n name refl home

  pub main-layer : IsFormed core → (n l : ℕ) → h.nodes.home n ≡ under (Main l) → l < core.config.layers
  main-layer formed n l home =
      let t = named-tree n (Main l) home in
      stored-named core (Main l) formed (λ none. let some = t.1 in absurd (omega arith))
