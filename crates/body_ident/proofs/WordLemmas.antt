-- Bit 23 of a word.
use Rattle.std.proofs.Common.{◌≡◌, ℕ, ◌%◌, ◌^◌, ◌<◌, bit_and, arith}
use Rattle.std.proofs.lemmas.Nat.Bits.{and_high}

-- where the bit is clear, bits 0 to 23 are the number of bits 0 to 22
pub index_where_clear : (raw : ℕ) → bit_and raw (2 ^ 23) ≡ 0 → raw % 2 ^ 24 < 2 ^ 23
index_where_clear raw clear = omega (arith, and_high raw 1 23)
