-- What the labels of an operation by turns promise.
use Rattle.std.specs.Prelude.{◌⊎◌, ⊤, ℕ, ◌≤◌, Option, Some, None, Result, Ok, Err}
use Rattle.pass_table.specs.declared.turn.Turn.{Turn}
use Rattle.pass_table.specs.Turning.{HasReached, Answers}

-- an answer that is a refusal
abbrev pub IsRefusal : {A B : Type 0} → Result A B → Type 0
IsRefusal (Ok done) = ⊥
IsRefusal (Err refused) = ⊤

-- where a turn is the last one, the last label of the operation was reached before it, or what it answers is a refusal
abbrev pub EndsAfter : {T : Type 0} → Turn T → (T → Type 0) → Option ℕ → Option ℕ → Type 0
EndsAfter turn refused None reached = ⊤
EndsAfter turn refused (Some last) reached = Answers turn (λ answer. refused answer ⊎ HasReached reached last)

-- what a label says is so, of each label that a turn reaches
abbrev pub SaysNew : Option ℕ → Option ℕ → (ℕ → Type 0) → Type 0
SaysNew before None says = ⊤
SaysNew before (Some last) says = (label : ℕ) → ¬ HasReached before label → label ≤ last → says label
