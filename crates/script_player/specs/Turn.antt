-- What each command does, and how it is answered.
use Rattle.std.specs.Prelude.{ℕ, ◌+◌, List, [], ◌∷◌, Option, Some, None}
use Rattle.fixed_box.specs.declared.fix_box.FixBox.{FixBox}
use Rattle.fixed_box.specs.declared.shape.Shape.{Shape}
use Rattle.fixed_box.specs.declared.shape.Shape.TheVariants as shapes
use Rattle.shape_test.specs.Touched.{is_touched}
use Rattle.body_ident.specs.Id.{Id, id_of}
use Rattle.scene_model.specs.declared.entry.Entry.{Entry}
use Rattle.scene_model.specs.declared.entry.Entry.TheVariants as entries
use Rattle.scene_model.specs.Scene.{place_at, next_index}
use Rattle.scene_model.specs.Query.{hits}
use Rattle.script_text.specs.declared.command.Command.{Command}
use Rattle.script_text.specs.declared.command.Command.TheVariants as commands
use Rattle.reply_text.specs.declared.reply.Reply.{Reply}
use Rattle.reply_text.specs.declared.reply.Reply.TheVariants as replies
use Rattle.reply_text.specs.declared.refusal.Refusal.TheVariants as refusals
use Rattle.script_player.specs.declared.bodies.Change.TheVariants as changes
use Rattle.script_player.specs.Books.{Books, with_name}
use Rattle.script_player.specs.Table.{Table, table_with}
use Rattle.script_player.specs.Attempt.{Attempt, outcome}
use Rattle.script_player.specs.Body.{change_named, read_named, multi_named}
use Rattle.script_player.specs.Batches.{prepare_named, finalize_named, abort_named, add_named}

-- the entries that a command makes, its reply, and the books from then on
pub record Turn : Type 0 where
  pub entries : List Entry
  pub reply : Reply
  pub books : Books

-- nothing is changed
abbrev pub answered : Table → Reply → Turn
answered table reply = record { entries = []; reply = reply; books = table.books }

-- an attempt is made
abbrev pub turn_of : Attempt → Turn
turn_of attempt = record { entries = attempt.entries; reply = outcome attempt.refusal; books = attempt.books }

-- a body is created, and its name stands for its id; where there is no index, the name stands for nothing
abbrev pub created_turn : Table → List ℕ → ℕ → FixBox → ℕ → ℕ → Id → Turn
created_turn table name layer bounds user index id = record {
  entries = entries.Create index layer bounds user ∷ [];
  reply = replies.Id id;
  books = with_name table.books name (Some (record { id = id; layer = layer }));
}

abbrev pub create_turn : Table → List ℕ → ℕ → FixBox → ℕ → Option ℕ → Turn
create_turn table name layer bounds user None = record (answered table (replies.Refused refusals.Full)) { books = with_name table.books name None }
create_turn table name layer bounds user (Some index) =
    created_turn table name layer bounds user index (id_of index ((place_at table.scene index).creations + 1))

-- all bodies are found that are in the broad phase, in a layer of the mask, and touch the shape
abbrev pub query_turn : Table → ℕ → Shape → Turn
query_turn table mask shape = answered table (replies.Hits (hits (is_touched shape) mask table.scene))

abbrev pub turn : Table → Command → Turn
turn table (commands.Create name layer bounds user) = create_turn table name layer bounds user (next_index table.scene)
turn table (commands.Destroy name) = turn_of (change_named table changes.Destroy name)
turn table (commands.Add names) = turn_of (add_named table names)
turn table (commands.Prepare batch layer names) = turn_of (prepare_named table batch layer names)
turn table (commands.Finalize batch) = turn_of (finalize_named table batch)
turn table (commands.Abort batch) = turn_of (abort_named table batch)
turn table (commands.Remove name) = turn_of (change_named table changes.Remove name)
turn table (commands.Move name bounds) = turn_of (change_named table (changes.Move bounds) name)
turn table (commands.User name user) = turn_of (change_named table (changes.SetUser user) name)
turn table (commands.Read name) = answered table (read_named table name)
turn table (commands.Multi names) = answered table (multi_named table names)
turn table (commands.QueryBox mask bounds) = query_turn table mask (shapes.Box bounds)
turn table (commands.QueryPoint mask at) = query_turn table mask (shapes.Point at)
turn table (commands.QueryRay mask segment) = query_turn table mask (shapes.Segment segment)

-- the table after a command
abbrev pub table_after : Table → Turn → Table
table_after table t = table_with table t.entries t.books
