-- What commands were answered and made, and what that tells of names.
use Rattle.std.specs.Prelude.{ℕ, if◌then◌else◌, List, [], ◌∷◌, map, Option, Some, None, option_map, option_and_then, bytes_eq}
use Rattle.body_ident.specs.Id.{Id}
use Rattle.scene_model.specs.declared.entry.Entry.{Entry}
use Rattle.script_text.specs.declared.command.Command.{Command}
use Rattle.script_text.specs.declared.command.Command.TheVariants.{Create}
use Rattle.script_text.specs.declared.script.Script.{Script}
use Rattle.reply_text.specs.declared.reply.Reply.{Reply}
use Rattle.reply_text.specs.declared.reply.Reply.TheVariants as replies
use Rattle.script_player.specs.declared.books.Known.{Known}
use Rattle.script_player.specs.Table.{Table, empty_table}
use Rattle.script_player.specs.Turn.{turn, table_after}
use Rattle.script_player.specs.Standing.{Standing}

-- a command, its reply, and the entries that it made
pub record Exchange : Type 0 where
  pub command : Command
  pub reply : Reply
  pub made : List Entry

abbrev pub exchanges : Table → List Command → List Exchange
exchanges table [] = []
exchanges table (command ∷ commands) =
    let t = turn table command in
    record { command = command; reply = t.reply; made = t.entries } ∷ exchanges (table_after table t) commands

-- those above a command
abbrev pub exchanges_at : (script : Script) → Standing script → List Exchange
exchanges_at script at = exchanges (empty_table script.world) at.above

-- what a create made: the id that its reply prints, and the layer; nothing where it was refused
abbrev pub made_by : ℕ → Reply → Option Known
made_by layer (replies.Id i) = Some (record { id = i; layer = layer })
made_by layer reply = None

-- what a name stands for: what the create of that name made
abbrev pub named_by : List ℕ → Command → Reply → Option Known → Option Known
named_by name (Create own layer bounds user) reply later = if bytes_eq name own then made_by layer reply else later
named_by name command reply later = later

abbrev pub known_by : List Exchange → List ℕ → Option Known
known_by [] name = None
known_by (e ∷ later) name = named_by name e.command e.reply (known_by later name)

-- what several names stand for, where each of them stands for something
abbrev pub all_known_by : List Exchange → List (List ℕ) → Option (List Known)
all_known_by above [] = Some []
all_known_by above (name ∷ names) =
    option_and_then (λ known. option_map (λ others. known ∷ others) (all_known_by above names)) (known_by above name)

-- the ids that they stand for
abbrev pub id_of_name : List Exchange → List ℕ → Option Id
id_of_name above name = option_map (λ known. known.id) (known_by above name)

abbrev pub ids_of_names : List Exchange → List (List ℕ) → Option (List Id)
ids_of_names above names = option_map (map (λ known. known.id)) (all_known_by above names)
