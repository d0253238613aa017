-- When what labels say is so.
use Rattle.std.proofs.Common.{ℕ, Option, Some, None}
use Rattle.pass_table.specs.Labels.{SaysNew}

-- it is where it is so of any label
pub says-any : (before after : Option ℕ) (says : ℕ → Type 0) → ((label : ℕ) → says label) → SaysNew before after says
says-any before None says all = tt
says-any before (Some last) says all = λ label new below. all label
