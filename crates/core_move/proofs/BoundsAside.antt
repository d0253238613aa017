-- Steps after which all bounds are as wide as they were: those on a word that is no side of a bound, and loads.
use Rattle.std.specs.Prelude.{⊤}
use Rattle.std.proofs.Common.{◌≡◌, ◌≢◌, ℕ, false, ap, ◌∙◌, subst, arith}
use Rattle.word_map.specs.declared.name.Name.{Name}
use Rattle.word_map.specs.declared.name.Name.TheVariants.{Bound}
use Rattle.core_state.specs.Core.{Core, word_of}
use Rattle.core_state.specs.Kind.{Kind, Asking, Steps, found_by}
use Rattle.core_state.specs.Nodes.{Nodes}
use Rattle.core_state.specs.Operation.{stores}
use Rattle.core_state.specs.TreesSound.{BoundsOnlyWiden}
use Rattle.core_state.proofs.Steps.{word-step-other, word-step-unstored}

-- the name of a side of a bound
abbrev IsSide : Name → Type 0
IsSide (Bound n k q) = ⊤
IsSide _ = ⊥

no_side : (name other : Name) → name ≡ other → ¬ IsSide other → (n k q : ℕ) → Bound n k q ≢ name
no_side name other e none n k q same = none (subst IsSide (same ∙ e) tt)

-- bounds that stay as they are
pub as_wide : (nodes : Nodes) (before after : Core) → ((n k q : ℕ) → word_of after (Bound n k q) ≡ word_of before (Bound n k q)) → BoundsOnlyWiden nodes before after
as_wide nodes before after same = λ n k q stands. (λ low. omega (arith, same n k q), λ high. omega (arith, same n k q))

-- a step on a word that is no side of a bound
pub on_other : (nodes : Nodes) (asks : Asking) (kind : Kind) (before after : Core) (steps : Steps asks kind before after) → ((n k q : ℕ) → Bound n k q ≢ steps.step.name)
    → BoundsOnlyWiden nodes before after
on_other nodes asks kind before after steps other =
    as_wide nodes before after
    (λ n k q. ap (λ (c : Core). word_of c (Bound n k q)) steps.result ∙ word-step-other kind before steps.step (Bound n k q) (other n k q))

-- one on a word that a side of a bound is not
pub aside : (nodes : Nodes) (asks : Asking) (kind : Kind) (before after : Core) (steps : Steps asks kind before after) (other : Name) → steps.step.name ≡ other → ¬ IsSide other
    → BoundsOnlyWiden nodes before after
aside nodes asks kind before after steps other e none = on_other nodes asks kind before after steps (no_side steps.step.name other e none)

-- a step that stores nothing
pub on_load : (nodes : Nodes) (asks : Asking) (kind : Kind) (before after : Core) (steps : Steps asks kind before after) → ((found first : ℕ) → stores kind.operation found first ≡ false)
    → BoundsOnlyWiden nodes before after
on_load nodes asks kind before after steps loads =
    as_wide nodes before after
    (λ n k q. ap (λ (c : Core). word_of c (Bound n k q)) steps.result ∙ word-step-unstored kind before steps.step (loads (found_by before steps.step) steps.step.first) (Bound n k q))
