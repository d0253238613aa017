-- Sets of numbers as bits of words, 64 in each.
use Rattle.std.specs.Prelude.{◌≡◌, ◌⊎◌, ℕ, ◌/◌, ◌%◌, ◌<◌, ◌≤◌, ◌==◌, Bool, true, false, List, slice_index}
use Rattle.std.specs.Int.{bit_at}

-- the number is in the set
abbrev pub has_bit : List ℕ → ℕ → Bool
has_bit words number = bit_at (slice_index words (number / 64)) (number % 64) == 1

-- the first number that is in, from one on
pub record IsFirst (has : ℕ → Bool) (from first : ℕ) : Type 0 where
  pub above : from ≤ first
  pub is_in : has first ≡ true
  pub none_before : (other : ℕ) → from ≤ other → other < first → has other ≡ false

-- there is none
abbrev pub HasNone : (ℕ → Bool) → ℕ → Type 0
HasNone has from = (other : ℕ) → from ≤ other → has other ≡ false

-- all words but those from one on and before another are 0
abbrev pub AreZeroOutside : List ℕ → ℕ → ℕ → Type 0
AreZeroOutside words from to = (word : ℕ) → (word < from) ⊎ (to ≤ word) → slice_index words word ≡ 0
