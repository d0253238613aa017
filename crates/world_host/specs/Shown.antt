-- How a shared world that a script is played on is told by a table.
use Rattle.std.specs.Prelude.{◌≡◌, ℕ, ◌+◌, ◌<◌, ◌≤◌, List, All, Option, IfSome}
use Rattle.scene_model.specs.Query.{live_count, in_count}
use Rattle.reply_text.specs.declared.refusal.Refusal.{Refusal}
use Rattle.reply_text.specs.declared.reply.Reply.{Reply}
use Rattle.pass_table.specs.Passes.{view_of}
use Rattle.tree_query.specs.Finding.{room_of}
use Rattle.script_player.specs.declared.books.Known.{Known}
use Rattle.script_player.specs.declared.bodies.Change.{Change}
use Rattle.script_player.specs.Table.{Table, table_with}
use Rattle.script_player.specs.Attempt.{Attempt}
use Rattle.script_player.specs.Turn.{Turn, table_after}
use Rattle.world_host.specs.declared.serial_world.SerialWorld.{SerialWorld}
use Rattle.world_host.specs.Alone.{scene_of, IsLone}
use Rattle.world_host.specs.Counted.{destroys, removes}
use Rattle.world_host.specs.Rooms.{HasRooms, AreTokens}

-- the sizes, the scene that the pass knows, and the books
abbrev pub table_of : SerialWorld → Table
table_of w = record { world = w.world.map; scene = scene_of (view_of w.pass); books = w.books }

-- each name that stands for an id stands for one with an index of the world
abbrev pub AreNamesBelow : ℕ → List (Option Known) → Type 0
AreNamesBelow bodies known = All (λ o. IfSome o (λ k. k.id.index < bodies)) known

-- nobody else acts in the world, the books keep what is kept, the batches are those of the books, names stand for
-- indexes of the world, the finder has room for all bodies, and they are counted
pub record IsSound (w : SerialWorld) : Type 0 where
  pub lone : IsLone w.world w.pass
  pub rooms : HasRooms (view_of w.pass) w.books
  pub tokens : AreTokens w.books.prepared w.batches (view_of w.pass)
  pub names : AreNamesBelow w.world.map.bodies w.books.known
  pub finder : w.world.map.bodies ≤ room_of w.finder
  pub live : w.live ≡ live_count (scene_of (view_of w.pass))
  pub inside : w.inside ≡ in_count (scene_of (view_of w.pass))

-- the world is told by the table
pub record Shows (w : SerialWorld) (table : Table) : Type 0 where
  pub is : table ≡ table_of w
  pub sound : IsSound w

-- a change of a body was counted
pub record IsCounted (change : Change) (old new : SerialWorld) : Type 0 where
  pub left : new ≡ record old { live = new.live; inside = new.inside }
  pub live : new.live + destroys change ≡ old.live
  pub inside : new.inside + removes change ≡ old.inside

-- this turn is what was answered and done
pub record Does (t : Turn) (old new : SerialWorld) (reply : Reply) : Type 0 where
  pub reply_is : reply ≡ t.reply
  pub after : table_of new ≡ table_after (table_of old) t
  pub sound : IsSound new

-- this attempt was made
pub record Attempts (attempt : Attempt) (old new : SerialWorld) (refusal : Option Refusal) : Type 0 where
  pub refusal_is : refusal ≡ attempt.refusal
  pub after : table_of new ≡ table_with (table_of old) attempt.entries attempt.books
  pub sound : IsSound new
