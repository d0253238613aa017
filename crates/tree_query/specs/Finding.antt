-- What a finder holds: indexes, each with a sequence number.
use Rattle.std.specs.Prelude.{ℕ, ◌-◌, Bool, List, filter, map, length, slice_index}
use Rattle.std.specs.List.{range_with_len}
use Rattle.body_ident.specs.Id.{Id}
use Rattle.tree_query.specs.Indexes.{has_bit}
use Rattle.tree_query.specs.declared.finder.Finder.{Finder}

-- the index was found
abbrev pub has_index : Finder → ℕ → Bool
has_index finder index = has_bit finder.words.items index

-- the indexes below this one may be found
abbrev pub room_of : Finder → ℕ
room_of finder = length finder.sequences.items

-- the sequence number that goes with an index
abbrev pub seq_of : Finder → ℕ → ℕ
seq_of finder index = slice_index finder.sequences.items index

abbrev pub id_in : Finder → ℕ → Id
id_in finder index = record { index = index; seq = seq_of finder index }

-- the ids that were found from an index on: ascending by index, each index once
abbrev pub ids_from : Finder → ℕ → List Id
ids_from finder at = map (id_in finder) (filter (has_index finder) (range_with_len at (room_of finder - at)))

-- all of them
abbrev pub ids_of : Finder → List Id
ids_of finder = ids_from finder 0
