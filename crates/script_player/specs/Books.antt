-- What the player keeps of names and batches.
use Rattle.std.specs.Prelude.{ℕ, ◌+◌, ◌==◌, if◌then◌else◌, Bool, List, [], ◌∷◌, ◌++◌, Option, Some, slice_get, option_map, option_and_then, bytes_eq, position, sum_by, count_by}
use Rattle.std.specs.List.{remove, list_any}
use Rattle.std.specs.Option.{option_map_or}
use Rattle.script_text.specs.Name.{is_among, add_name}
use Rattle.script_text.specs.Place.{place_of}
use Rattle.script_player.specs.declared.books.Known.{Known}
use Rattle.script_player.specs.declared.books.Batch.{Batch}
use Rattle.script_player.specs.declared.books.Attached.{Attached}

-- the names that were created, and what each stands for; the batches that are prepared and not spent, the oldest
-- first; and those that are attached
pub record Books : Type 0 where
  pub names : List (List ℕ)
  pub known : List (Option Known)
  pub prepared : List Batch
  pub attached : List Attached

abbrev pub no_books : Books
no_books = record { names = []; known = []; prepared = []; attached = [] }

-- one name more; it stands for nothing where its creation was refused, and a name that is there stands for what it did
abbrev pub with_name : Books → List ℕ → Option Known → Books
with_name books name known = record books {
  names = add_name books.names name;
  known = if is_among books.names name then books.known else books.known ++ known ∷ [];
}

-- what a name stands for
abbrev pub known_at : Books → List ℕ → Option Known
known_at books name = option_and_then (λ place. option_and_then (λ known. known) (slice_get books.known place)) (place_of books.names name)

-- what each of these names stands for, where each of them stands for something
abbrev pub known_all : Books → List (List ℕ) → Option (List Known)
known_all books [] = Some []
known_all books (name ∷ names) =
    option_and_then (λ known. option_map (λ others. known ∷ others) (known_all books names)) (known_at books name)

-- how many slots of a layer batches keep, and how many nodes
abbrev pub slots_kept : Books → ℕ → ℕ
slots_kept books layer = count_by (λ b. b.layer == layer) books.prepared + count_by (λ a. a.layer == layer) books.attached

abbrev pub nodes_kept : Books → ℕ
nodes_kept books = sum_by (λ b. b.nodes) books.prepared + sum_by (λ a. a.nodes) books.attached

-- whether a prepared batch has a name
abbrev pub has_batch : Books → List ℕ → Bool
has_batch books name = list_any (λ b. bytes_eq b.name name) books.prepared

-- the place of the prepared batch that has a name, the batch, and the books without it
abbrev pub batch_place : Books → List ℕ → Option ℕ
batch_place books name = position (λ b. bytes_eq b.name name) books.prepared

abbrev pub batch_named : Books → List ℕ → Option Batch
batch_named books name = option_and_then (slice_get books.prepared) (batch_place books name)

abbrev pub spent : Books → List ℕ → Books
spent books name = option_map_or (λ place. record books { prepared = remove books.prepared place }) (batch_place books name) books

-- one prepared batch more, and one attached batch more
abbrev pub with_batch : Books → Batch → Books
with_batch books batch = record books { prepared = books.prepared ++ batch ∷ [] }

abbrev pub with_attached : Books → ℕ → ℕ → Books
with_attached books layer nodes = record books { attached = books.attached ++ record { layer = layer; nodes = nodes } ∷ [] }
