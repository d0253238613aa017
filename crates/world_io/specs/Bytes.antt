-- The bytes that a source has left, and those that a sink holds: `Some` where they are told, as in memory,
-- and `None` where they are not. Told bytes stay told, and bytes that are not told stay so.
use Rattle.std.specs.Prelude.{◌≡◌, ◌↔◌, ℕ, List, [], ◌++◌, Option, Some, None}
use Rattle.std.specs.Io.KnownBytes.{prepend_known, append_known, IsAtEnd}

-- a source gave these bytes: they came off the front of what was left
abbrev pub Gave : Option (List ℕ) → Option (List ℕ) → List ℕ → Type 0
Gave old new bytes = old ≡ prepend_known bytes new

-- a source gave these bytes, and has none left
pub record GaveAll (old new : Option (List ℕ)) (bytes : List ℕ) : Type 0 where
  pub gave : Gave old new bytes
  pub at_end : IsAtEnd new

-- a read that had room and gave this many bytes gave none exactly where none was left
abbrev pub StopsOnlyAtEnd : Option (List ℕ) → ℕ → Type 0
StopsOnlyAtEnd None n = Unit {0}
StopsOnlyAtEnd (Some bytes) n = (n ≡ 0) ↔ (bytes ≡ [])

-- a sink took these bytes: they stand after what it held
abbrev pub Appended : Option (List ℕ) → Option (List ℕ) → List ℕ → Type 0
Appended old new bytes = new ≡ append_known old bytes

-- a sink took a first part of these bytes, and nothing else
pub record AppendedPart (old new : Option (List ℕ)) (bytes : List ℕ) : Type 0 where
  pub part : List ℕ
  pub rest : List ℕ
  pub split : bytes ≡ part ++ rest
  pub appended : Appended old new part
