-- A command where it stands in a script: what happened above it, and what comes of it.
use Rattle.std.specs.Prelude.{◌≡◌, List, ◌∷◌, ◌++◌, map}
use Rattle.word_map.specs.declared.config.Config.{Config}
use Rattle.scene_model.specs.declared.entry.Entry.{Entry}
use Rattle.scene_model.specs.declared.entry.Made.{Made}
use Rattle.scene_model.specs.Scene.{Scene}
use Rattle.scene_model.specs.History.{scene_after}
use Rattle.script_text.specs.declared.command.Command.{Command}
use Rattle.script_text.specs.declared.script.Script.{Script}
use Rattle.script_player.specs.Table.{Table, empty_table}
use Rattle.script_player.specs.Turn.{Turn, turn}
use Rattle.script_player.specs.Report.{table_below, entries_made}

-- entries as a part of a history; a script is played by one pass, which has the number 0
abbrev pub made_alone : List Entry → List Made
made_alone entries = map (λ entry. record { pass = 0; entry = entry }) entries

-- the history that commands make in a new world
abbrev pub history_of : Config → List Command → List Made
history_of world commands = made_alone (entries_made (empty_table world) commands)

-- the scene that the history of these commands leads to
abbrev pub scene_below : Config → List Command → Scene
scene_below world commands = scene_after world.bodies (history_of world commands)

-- a command of a script, with those above it and those below it
pub record Standing (script : Script) : Type 0 where
  pub above : List Command
  pub command : Command
  pub below : List Command
  pub whole : script.lines ≡ above ++ command ∷ below

-- the history up to there, and the scene
abbrev pub history_at : (script : Script) → Standing script → List Made
history_at script at = history_of script.world at.above

abbrev pub scene_at : (script : Script) → Standing script → Scene
scene_at script at = scene_below script.world at.above

-- what the player keeps there, and what comes of the command
abbrev pub table_at : (script : Script) → Standing script → Table
table_at script at = table_below (empty_table script.world) at.above

abbrev pub turn_at : (script : Script) → Standing script → Turn
turn_at script at = turn (table_at script at) at.command
