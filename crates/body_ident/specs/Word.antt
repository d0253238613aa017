-- The word of an id.
use Rattle.std.specs.Prelude.{ℕ, ◌+◌, ◌*◌, ◌^◌, ◌<◌}
use Rattle.body_ident.specs.Id.{Id}

-- an index of 23 bits, and a sequence number of 8
pub record IsId (id : Id) : Type 0 where
  pub index : id.index < 2 ^ 23
  pub seq : id.seq < 2 ^ 8

-- the sequence number in bits 24 to 31, the index in bits 0 to 22, and bit 23 zero
abbrev pub word_of : Id → ℕ
word_of id = 2 ^ 24 * id.seq + id.index
