-- Counts of faults over several calls.
use Rattle.std.proofs.Common.{◌≡◌, ℕ, ◌-◌, ◌^◌, ◌<◌, ◌≤◌, ◌⊎◌, arith}
use Rattle.world_io.specs.Faults.{Rose}

-- a count that rose later rose over both spans
pub Rose-later : (a b c : ℕ) → a ≤ b → Rose b c → Rose a c
Rose-later a b c first rose = omega arith

-- a count that rose once stays risen
pub Rose-earlier : (a b c : ℕ) → Rose a b → b ≤ c → Rose a c
Rose-earlier a b c rose later = omega arith

-- a count that rose is greater, or both stand at the last value
pub Rose-cases : (a b : ℕ) → b < 2 ^ 64 → a ≤ b → Rose a b → (a < b) ⊎ ((a ≡ 2 ^ 64 - 1) × (b ≡ 2 ^ 64 - 1))
Rose-cases a b small kept rose = grind arith
