-- Attaching a batch leaves all trees as they are; the nodes of the batch come to stand in that of its slot.
use Rattle.std.proofs.Common.{◌≡◌, ◌⊎◌, ℕ, [], ◌∷◌, Contains, refl, sym, subst, inl, inr, arith}
use Rattle.word_map.specs.declared.name.Name.{Name}
use Rattle.word_map.specs.declared.name.Name.TheVariants.{Child, Bound, Parent, Slot}
use Rattle.core_state.specs.Core.{Core, word_of}
use Rattle.core_state.specs.Encoding.{NamesRoot, slot_tree}
use Rattle.core_state.specs.Formed.{IsFormed}
use Rattle.core_state.specs.Guards.{GuardsHold}
use Rattle.core_state.specs.Nodes.{IsInTree}
use Rattle.core_state.specs.Batches.{attach}
use Rattle.core_state.specs.Invariants.{Invariants}
use Rattle.word_map.specs.Names.{IsName}
use Rattle.core_state.proofs.SameNames.{cases_name}
use Rattle.core_guard.proofs.Leaving.{Acts, Leaves}
use Rattle.core_batch.proofs.Attaching.{Attaching, step_of, no_tree}
use Rattle.core_batch.proofs.Attached.{nodes_after, node-after, attached_node, other_node, home-outside, depth-outside, home-forth, join_made, past-after, core_after, word-other, word-slot}

-- the step, made where all holds
pub attach-acts : (core : Core) (a : Attaching core) → IsName core.config (Slot a.layer a.slot) → IsFormed core → GuardsHold core → Invariants core → Acts core (step_of core a)
attach-acts core a named formed guards h = record { at = a.at; pass = a.pass; named = named; formed = formed; guards = guards; laws = h }

module _ (core : Core) (a : Attaching core) (formed : IsFormed core) (h : Invariants core) where
  -- a node in a tree is none of the batch
  pub tree-outside : (n : ℕ) → IsInTree (h.nodes.home n) → ¬ Contains a.batch.nodes n
  tree-outside n inside = (home-forth core a formed h IsInTree n (λ none. none) inside).0

  named-back : (name : Name) (root : ℕ) → NamesRoot name (word_of (core_after core a) name) root → NamesRoot name (word_of core name) root ⊎ Contains a.batch.nodes root
  named-back name root names =
      elim (cases_name name (Slot a.layer a.slot)) [
        | inl same ↦
            let is : word_of (core_after core a) (Slot a.layer a.slot) ≡ slot_tree root = subst (λ (n : Name). NamesRoot n (word_of (core_after core a) n) root) same names in
            let now : word_of (core_after core a) (Slot a.layer a.slot) ≡ slot_tree a.root = word-slot core a in
            let one : a.root ≡ root = omega arith in
            inr (subst (λ (n : ℕ). Contains a.batch.nodes n) one a.whole.rooted)
        | inr other ↦ inl (subst (λ (w : ℕ). NamesRoot name w root) (word-other core a name other) names)
      ]

  names-forth : (name : Name) (root : ℕ) → NamesRoot name (word_of core name) root → NamesRoot name (word_of (core_after core a) name) root
  names-forth name root names =
      elim (cases_name name (Slot a.layer a.slot)) [
        | inl same ↦ absurd (no_tree core a formed h root (subst (λ (n : Name). NamesRoot n (word_of core n) root) same names))
        | inr other ↦ subst (λ (w : ℕ). NamesRoot name w root) (sym (word-other core a name other)) names
      ]

  pub attach-leaves : Leaves attach core (step_of core a) h.nodes (nodes_after h.nodes core a) (λ n. Contains a.batch.nodes n)
  attach-leaves = record {
    stays = λ n inside. home-outside h.nodes core a n (tree-outside n inside);
    depth = λ n inside. depth-outside h.nodes core a n (tree-outside n inside);
    stood = λ n inside.
        elim (node-after h.nodes core a n) [
          | attached_node among home depth ↦ inr among
          | other_node outside home depth ↦ inl home
        ];
    child = λ n k inside. inl (word-other core a (Child n k) (λ e. absurd cc));
    parent = λ n inside. word-other core a (Parent n) (λ e. absurd cc);
    wide = λ n k q stands.
        let same : word_of (core_after core a) (Bound n k q) ≡ word_of core (Bound n k q) = word-other core a (Bound n k q) (λ e. absurd cc) in
        (λ low. omega arith, λ high. omega arith);
    names = names-forth;
    named = named-back;
    more = join_made a ∷ [];
    goes_on = past-after core a formed h;
    rebuild = refl;
  }
