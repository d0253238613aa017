-- The ranges of coordinates and of steps.
use Rattle.std.specs.Prelude.{ℤ, negsuc, pos, ◌≤ℤ◌}

-- from -8,388,608 to 8,388,607, in 1/1024 metre
abbrev pub InRange : ℤ → Type 0
InRange v = (negsuc 8388607 ≤ℤ v) × (v ≤ℤ pos 8388607)

-- from -16,777,215 to 16,777,215: how far two coordinates can be apart
abbrev pub IsStep : ℤ → Type 0
IsStep v = (negsuc 16777214 ≤ℤ v) × (v ≤ℤ pos 16777215)
