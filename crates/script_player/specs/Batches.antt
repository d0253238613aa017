-- Commands on batches.
use Rattle.std.specs.Prelude.{ℕ, ◌==◌, if◌then◌else◌, List, [], ◌∷◌, ◌++◌, length, filter, Option, Some, None}
use Rattle.std.specs.List.{range_with_len}
use Rattle.scene_model.specs.declared.entry.Entry.{Entry}
use Rattle.scene_model.specs.declared.entry.Entry.TheVariants as entries
use Rattle.scene_model.specs.Need.{need}
use Rattle.reply_text.specs.declared.refusal.Refusal.{Refusal}
use Rattle.reply_text.specs.declared.refusal.Refusal.TheVariants as refusals
use Rattle.script_player.specs.declared.books.Known.{Known}
use Rattle.script_player.specs.declared.books.Batch.{Batch}
use Rattle.script_player.specs.Books.{known_all, has_batch, batch_named, spent, with_batch, with_attached}
use Rattle.script_player.specs.Table.{Table, table_with}
use Rattle.script_player.specs.Attempt.{Attempt, refused, nothing_done}
use Rattle.script_player.specs.Taking.{Taking, taking, unmarks}

-- a batch that took its bodies is kept
abbrev pub keep_taken : Table → Batch → List Entry → Option Refusal → Attempt
keep_taken table batch made None = record { entries = made; refusal = None; books = with_batch table.books batch }
keep_taken table batch made (Some refusal) = record { entries = made; refusal = Some refusal; books = table.books }

-- so many bodies were to be taken for it
abbrev pub prepare_taken : Table → List ℕ → ℕ → ℕ → Taking → Attempt
prepare_taken table name layer count t = keep_taken table (record { name = name; layer = layer; indexes = t.indexes; nodes = need count }) t.entries t.refusal

-- a batch is prepared that has this name; a prepared batch may not have it already
abbrev pub prepare_bodies : Table → List ℕ → ℕ → List Known → Attempt
prepare_bodies table name layer bodies =
    if has_batch table.books name then refused table refusals.Batch
    else prepare_taken table name layer (length bodies) (taking table layer bodies)

abbrev pub prepare_known : Table → List ℕ → ℕ → Option (List Known) → Attempt
prepare_known table name layer None = refused table refusals.NoId
prepare_known table name layer (Some bodies) = prepare_bodies table name layer bodies

-- the names of its bodies are looked up first
abbrev pub prepare_named : Table → List ℕ → ℕ → List (List ℕ) → Attempt
prepare_named table name layer names = prepare_known table name layer (known_all table.books names)

-- the bodies of a prepared batch come into the broad phase together, and the batch is attached
abbrev pub finalize_batch : Table → List ℕ → Option Batch → Attempt
finalize_batch table name None = refused table refusals.NoBatch
finalize_batch table name (Some batch) = record {
  entries = entries.Join batch.layer batch.indexes ∷ [];
  refusal = None;
  books = with_attached (spent table.books name) batch.layer batch.nodes;
}

abbrev pub finalize_named : Table → List ℕ → Attempt
finalize_named table name = finalize_batch table name (batch_named table.books name)

-- a prepared batch lets its bodies go; its slot and its nodes are free again
abbrev pub abort_batch : Table → List ℕ → Option Batch → Attempt
abort_batch table name None = refused table refusals.NoBatch
abort_batch table name (Some batch) = record { entries = unmarks batch.indexes; refusal = None; books = spent table.books name }

abbrev pub abort_named : Table → List ℕ → Attempt
abort_named table name = abort_batch table name (batch_named table.books name)

-- a batch that took its bodies is attached at once
abbrev pub join_taken : Table → ℕ → ℕ → List ℕ → List Entry → Option Refusal → Attempt
join_taken table layer nodes indexes made None = record {
  entries = made ++ entries.Join layer indexes ∷ [];
  refusal = None;
  books = with_attached table.books layer nodes;
}
join_taken table layer nodes indexes made (Some refusal) = record { entries = made; refusal = Some refusal; books = table.books }

-- the bodies of a layer are added by a batch of their own; where there are none, nothing is done
abbrev pub add_layer : Table → ℕ → List Known → Attempt
add_layer table layer [] = nothing_done table
add_layer table layer (known ∷ bodies) =
    let t = taking table layer (known ∷ bodies) in
    join_taken table layer (need (length (known ∷ bodies))) t.indexes t.entries t.refusal

-- one attempt and then another, which is not made where the first is refused
abbrev pub followed : Option Refusal → Attempt → Attempt → Attempt
followed None first later = record later { entries = first.entries ++ later.entries }
followed (Some refusal) first later = first

-- those that were created in a layer
abbrev pub in_layer : ℕ → List Known → List Known
in_layer layer bodies = filter (λ known. known.layer == layer) bodies

-- bodies are added layer by layer
abbrev pub add_layers : Table → List Known → List ℕ → Attempt
add_layers table bodies [] = nothing_done table
add_layers table bodies (layer ∷ layers) =
    let first = add_layer table layer (in_layer layer bodies) in
    followed first.refusal first (add_layers (table_with table first.entries first.books) bodies layers)

-- all layers of the world are looked at, from the first on
abbrev pub add_known : Table → Option (List Known) → Attempt
add_known table None = refused table refusals.NoId
add_known table (Some bodies) = add_layers table bodies (range_with_len 0 table.world.layers)

abbrev pub add_named : Table → List (List ℕ) → Attempt
add_named table names = add_known table (known_all table.books names)
