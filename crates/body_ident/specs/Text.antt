-- The text of an id.
use Rattle.std.specs.Prelude.{◌≡◌, ◌≢◌, ℕ, List, ◌∷◌, ◌++◌, decimal, length, slice_index}
use Rattle.body_ident.specs.Id.{Id}

-- the index and the sequence number in decimal without leading zeros, and a colon between them
abbrev pub id_text : Id → List ℕ
id_text id = decimal id.index ++ 58 ∷ decimal id.seq

-- no plus stands in front, and no zero in front of other digits
abbrev pub IsPlain : List ℕ → Type 0
IsPlain bytes = (slice_index bytes 0 ≢ 43) × (slice_index bytes 0 ≡ 48 → length bytes ≡ 1)
