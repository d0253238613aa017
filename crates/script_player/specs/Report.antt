-- What a script is answered: the lines of its report.
use Rattle.std.specs.Prelude.{ℕ, ⊤, List, [], ◌∷◌, ◌++◌, codes, decimal}
use Rattle.scene_model.specs.declared.entry.Entry.{Entry}
use Rattle.scene_model.specs.Scene.{Scene}
use Rattle.scene_model.specs.Step.{IsPossible, after_entry}
use Rattle.scene_model.specs.Query.{live_count, in_count}
use Rattle.script_text.specs.declared.command.Command.{Command}
use Rattle.script_text.specs.declared.script.Script.{Script}
use Rattle.reply_text.specs.Reply.{reply_text}
use Rattle.script_player.specs.Table.{Table, empty_table}
use Rattle.script_player.specs.Turn.{turn, table_after}

-- the lines of the replies to commands, one below another
abbrev pub replies_text : Table → List Command → List ℕ
replies_text table [] = []
replies_text table (command ∷ commands) =
    let t = turn table command in
    reply_text t.reply ++ replies_text (table_after table t) commands

-- the table after commands
abbrev pub table_below : Table → List Command → Table
table_below table [] = table
table_below table (command ∷ commands) = table_below (table_after table (turn table command)) commands

-- the entries that commands make, one command after another
abbrev pub entries_made : Table → List Command → List Entry
entries_made table [] = []
entries_made table (command ∷ commands) =
    let t = turn table command in
    t.entries ++ entries_made (table_after table t) commands

-- entries that are possible one after another, each in the scene after those before it
abbrev pub ArePossibleFrom : Scene → List Entry → Type 0
ArePossibleFrom scene [] = ⊤
ArePossibleFrom scene (entry ∷ later) = IsPossible scene entry × ArePossibleFrom (after_entry scene entry) later

-- the last line counts the live bodies, and those in the broad phase
abbrev pub end_text_of : ℕ → ℕ → List ℕ
end_text_of live inside = codes "end live " ++ decimal live ++ codes " in " ++ decimal inside ++ codes "\n"

abbrev pub end_text : Scene → List ℕ
end_text scene = end_text_of (live_count scene) (in_count scene)

-- what the plain scene prints for a script
abbrev pub serial_report : Script → List ℕ
serial_report script =
    let table = empty_table script.world in
    replies_text table script.lines ++ end_text (table_below table script.lines).scene
