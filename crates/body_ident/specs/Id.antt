-- What names a body.
use Rattle.std.specs.Prelude.{ℕ, ◌%◌}

-- an index, and the sequence number of the creation there
pub record Id : Type 0 where
  pub index : ℕ
  pub seq : ℕ

-- the id of the creation with this number at an index; the first has number 1
abbrev pub id_of : ℕ → ℕ → Id
id_of index generation = record { index = index; seq = generation % 256 }
