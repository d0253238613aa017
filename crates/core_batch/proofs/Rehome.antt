-- A node that is in no tree gets another home, where it is in none either.
use Rattle.std.proofs.Common.{◌≡◌, ◌≢◌, ◌↔◌, ℕ, Bool, cond, eqb, refl, ap, sym, ◌∙◌, subst, inl, inr}
use Rattle.std.proofs.lemmas.Bool.{cases_eq, eq-eqb, ne_eqb}
use Rattle.core_state.specs.Core.{Core}
use Rattle.core_state.specs.Nodes.{Nodes, Home, free, spare, owned, IsInTree}
use Rattle.core_guard.proofs.NodesLeft.{KeepsHomes}

-- the map with one other home
abbrev pub rehome : Nodes → ℕ → Home → Nodes
rehome nodes x home = record nodes { home = λ n. cond (eqb n x) home (nodes.home n) }

-- a free or owned node is not spare, and a free one is not owned
pub free_spare : free ≢ spare
free_spare e = absurd cc

pub owned_spare : (number : ℕ) → owned number ≢ spare
owned_spare number e = absurd cc

pub free_owned : (number : ℕ) → free ≢ owned number
free_owned number e = absurd cc

module _ (nodes : Nodes) (x : ℕ) (home : Home) where
  pub rehome-at : (rehome nodes x home).home x ≡ home
  rehome-at = ap (λ (t : Bool). cond t home (nodes.home x)) (eq-eqb x x refl)

  pub rehome-other : (n : ℕ) → n ≢ x → (rehome nodes x home).home n ≡ nodes.home n
  rehome-other n other = ap (λ (t : Bool). cond t home (nodes.home n)) (ne_eqb n x other)

  module _ (low : ¬ IsInTree (nodes.home x)) (down : ¬ IsInTree home) where
    pub rehome-stays : (n : ℕ) → IsInTree (nodes.home n) → (rehome nodes x home).home n ≡ nodes.home n
    rehome-stays n inside = rehome-other n (λ same. low (subst (λ (k : ℕ). IsInTree (nodes.home k)) same inside))

    pub rehome-stood : (n : ℕ) → IsInTree ((rehome nodes x home).home n) → (rehome nodes x home).home n ≡ nodes.home n
    rehome-stood n inside = rehome-other n (λ same. down (subst IsInTree (ap (rehome nodes x home).home same ∙ rehome-at) inside))

  -- a home that neither is nor was the node's has the nodes that it had
  pub rehome-same : (other : Home) → nodes.home x ≢ other → home ≢ other → (n : ℕ) → (nodes.home n ≡ other) ↔ ((rehome nodes x home).home n ≡ other)
  rehome-same other old new n = (
    λ e. rehome-other n (λ same. old (ap nodes.home (sym same) ∙ e)) ∙ e,
    λ e.
        elim (cases_eq n x) [
          | inl same ↦ absurd (new (sym rehome-at ∙ (ap (rehome nodes x home).home (sym same) ∙ e)))
          | inr apart ↦ sym (rehome-other n apart) ∙ e
        ],
  )

  pub rehome-keeps : (core : Core) → ¬ IsInTree (nodes.home x) → ¬ IsInTree home → nodes.home x ≢ spare → home ≢ spare → KeepsHomes core nodes (rehome nodes x home)
  rehome-keeps core low down old new = record {
    stays = rehome-stays low down;
    stood = λ n inside. inl (rehome-stood low down n inside);
    spares = rehome-same spare old new;
  }
