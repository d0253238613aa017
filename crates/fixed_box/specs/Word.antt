-- Coordinates as words of memory.
use Rattle.std.specs.Prelude.{ℕ, ℤ, pos, ◌+ℤ◌, unsigned_abs}

-- the word of a coordinate: from 1 to 16,777,216
abbrev pub word_of : ℤ → ℕ
word_of v = unsigned_abs (v +ℤ pos 8388609)
