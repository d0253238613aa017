-- What one atomic operation does to its word.
use Rattle.std.specs.Prelude.{ℕ, ◌+◌, ◌%◌, ◌^◌, ◌==◌, min, max, Bool, true, false, if◌then◌else◌, Option, Some, None}

pub data Operation : Type 0 where
  load : Operation
  store : Operation
  exchange : Operation
  compare_exchange : Operation
  fetch_add : Operation
  fetch_min : Operation
  fetch_max : Operation

-- the word afterwards, from the word found and the operands; of one operand the second is not used
abbrev pub result_of : Operation → ℕ → ℕ → ℕ → ℕ
result_of load found first second = found
result_of store found first second = first
result_of exchange found first second = first
result_of compare_exchange found first second = if found == first then second else found
result_of fetch_add found first second = (found + first) % 2 ^ 64
result_of fetch_min found first second = min found first
result_of fetch_max found first second = max found first

-- whether it stores a value, be it the old one
abbrev pub stores : Operation → ℕ → ℕ → Bool
stores load found first = false
stores compare_exchange found first = found == first
stores _ found first = true

-- the value that it stores
abbrev pub stored_by : Operation → ℕ → ℕ → ℕ → Option ℕ
stored_by operation found first second = if stores operation found first then Some (result_of operation found first second) else None
