-- How the homes of nodes turn once no reader is left in what an update took out of sight: nodes of merged trees are to be given
-- back, and those of main trees are spare.
use Rattle.std.proofs.Common.{◌≡◌, ◌≢◌, ◌⊎◌, ℕ, refl, ap, sym, ◌∙◌, subst, inl, inr}
use Rattle.word_map.specs.declared.name.Name.{Name}
use Rattle.word_map.specs.declared.name.Name.TheVariants.{Slot}
use Rattle.core_state.specs.Nodes.{Home, spare, superseded, returning, Nodes, Stands}

abbrev pub reclaim : Home → Home
reclaim (superseded p (Slot l t)) = returning p
reclaim (superseded p name) = spare
reclaim home = home

abbrev pub reclaimed : Nodes → Nodes
reclaimed nodes = record { home = λ n. reclaim (nodes.home n); depth = nodes.depth }

-- the node is in no tree that is out of sight
abbrev pub IsInSight : Home → Type 0
IsInSight home = (p : ℕ) (name : Name) → home ≢ superseded p name

pub reclaim-kept : (home : Home) → IsInSight home → reclaim home ≡ home
reclaim-kept (superseded p name) inside = absurd (inside p name refl)
reclaim-kept _ inside = refl

-- what holds of no such tree stays
pub reclaim-forth : (P : Home → Type 0) → ((p : ℕ) (name : Name) → ¬ P (superseded p name)) → (home : Home) → P home → reclaim home ≡ home
reclaim-forth P none home h = reclaim-kept home (λ p name e. none p name (subst P e h))

-- and what holds of no node that is given back or spare held before
pub reclaim-back : (P : Home → Type 0) → ((p : ℕ) → ¬ P (returning p)) → ¬ P spare → (home : Home) → P (reclaim home) → reclaim home ≡ home
reclaim-back P back none (superseded p (Slot l t)) h = absurd (back p h)
reclaim-back P back none (superseded p _) h = absurd (none h)
reclaim-back P back none _ h = refl

pub stands-back : (home : Home) → Stands (reclaim home) → reclaim home ≡ home
stands-back = reclaim-back Stands (λ p none. none) (λ none. none)

pub home-back : (home target : Home) → ((p : ℕ) → returning p ≢ target) → spare ≢ target → reclaim home ≡ target → home ≡ target
home-back home target back none e = sym (reclaim-back (λ x. x ≡ target) back none home e) ∙ e

-- no tree is out of sight any more
pub all-in-sight : (home : Home) → IsInSight (reclaim home)
all-in-sight (superseded q (Slot l t)) p name e = absurd cc
all-in-sight (superseded q _) p name e = absurd cc
all-in-sight _ p name e = absurd cc

abbrev pass_of : Home → ℕ
pass_of (returning p) = p
pass_of _ = 0

pub returning-back : (home : Home) (p : ℕ) → reclaim home ≡ returning p → (home ≡ returning p) ⊎ ((l : ℕ) × (t : ℕ) × (home ≡ superseded p (Slot l t)))
returning-back (superseded q (Slot l t)) p e = inr (l, t, ap (λ (x : Home). superseded (pass_of x) (Slot l t)) e)
returning-back (superseded q _) p e = absurd cc
returning-back _ p e = inl e

pub spare-back : (home : Home) → reclaim home ≡ spare → (home ≡ spare) ⊎ ((p : ℕ) × (name : Name) × (home ≡ superseded p name) × ((l t : ℕ) → name ≢ Slot l t))
spare-back (superseded q (Slot l t)) e = absurd cc
spare-back (superseded q name) e = inr (q, name, refl, λ l t same. absurd cc)
spare-back _ e = inl e
