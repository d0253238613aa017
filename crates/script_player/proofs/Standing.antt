-- What holds where a command stands: the table there is that of the history, and it is under way.
use Rattle.std.proofs.Common.{◌≡◌, List, [], ◌∷◌, ◌++◌, length, fold, take, refl, ap, sym, ◌∙◌, append_assoc}
use Rattle.std.proofs.lemmas.List.{map-append}
use Rattle.std.proofs.lemmas.List.Sums.{fold-append}
use Rattle.std.proofs.Math.Seq.{take-append_seam}
use Rattle.word_map.specs.declared.config.Config.{Config}
use Rattle.scene_model.specs.declared.entry.Entry.{Entry}
use Rattle.scene_model.specs.declared.entry.Made.{Made}
use Rattle.scene_model.specs.Scene.{Scene, empty_scene}
use Rattle.scene_model.specs.Step.{after_entry}
use Rattle.scene_model.specs.History.{scene_from, scene_after, point}
use Rattle.script_text.specs.declared.command.Command.{Command}
use Rattle.script_text.specs.declared.script.Script.{Script}
use Rattle.script_player.specs.Table.{Table, empty_table}
use Rattle.script_player.specs.Turn.{turn, table_after}
use Rattle.script_player.specs.Report.{table_below, entries_made}
use Rattle.script_player.specs.Standing.{made_alone, history_of, scene_below, Standing, history_at, scene_at, table_at}
use Rattle.script_player.specs.UnderWay.{IsUnderWay}
use Rattle.script_player.specs.Shown.{shown_table}
use Rattle.script_player.proofs.Histories.{turn_under_way}
use Rattle.script_player.proofs.Beginning.{under_way_first}

pub entries_made-append : (table : Table) (xs ys : List Command) → entries_made table (xs ++ ys) ≡ entries_made table xs ++ entries_made (table_below table xs) ys
entries_made-append table [] ys = refl
entries_made-append table (x ∷ xs) ys =
    let t = turn table x in
    let after = table_after table t in
    ap (λ (es : List Entry). t.entries ++ es) (entries_made-append after xs ys) ∙ sym (append_assoc t.entries (entries_made after xs) (entries_made (table_below after xs) ys))

scene_of_entries : (table : Table) (commands : List Command) → (table_below table commands).scene ≡ fold after_entry table.scene (entries_made table commands)
scene_of_entries table [] = refl
scene_of_entries table (c ∷ commands) =
    let t = turn table c in
    let after = table_after table t in
    scene_of_entries after commands ∙ sym (fold-append after_entry table.scene t.entries (entries_made after commands))

pub scene_from-made : (scene : Scene) (entries : List Entry) → scene_from scene (made_alone entries) ≡ fold after_entry scene entries
scene_from-made scene [] = refl
scene_from-made scene (entry ∷ entries) = scene_from-made (after_entry scene entry) entries

-- the scene that the player keeps is the one that the history leads to
pub scene_is : (world : Config) (commands : List Command) → (table_below (empty_table world) commands).scene ≡ scene_below world commands
scene_is world commands = scene_of_entries (empty_table world) commands ∙ sym (scene_from-made (empty_scene world.bodies) (entries_made (empty_table world) commands))

world_below : (table : Table) (commands : List Command) → (table_below table commands).world ≡ table.world
world_below table [] = refl
world_below table (c ∷ commands) = world_below (table_after table (turn table c)) commands

under_way_below : (commands : List Command) (table : Table) → IsUnderWay (shown_table table) → IsUnderWay (shown_table (table_below table commands))
under_way_below [] table u = u
under_way_below (c ∷ commands) table u = under_way_below commands (table_after table (turn table c)) (turn_under_way table c u)

-- the table where a command stands
pub record IsTableAt (script : Script) (at : Standing script) (table : Table) : Type 0 where
  pub world : table.world ≡ script.world
  pub scene : table.scene ≡ scene_at script at
  pub under_way : IsUnderWay (shown_table table)

-- what is so in each such table is so where the command stands
pub is_table_at : (script : Script) (at : Standing script) → IsTableAt script at (table_at script at)
is_table_at script at = record {
  world = world_below (empty_table script.world) at.above;
  scene = scene_is script.world at.above;
  under_way = under_way_below at.above (empty_table script.world) (under_way_first script.world script.sound.sizes);
}

-- the history of the whole script goes on from there
pub history_more : (script : Script) (at : Standing script)
    → history_of script.world script.lines ≡ history_at script at ++ made_alone (entries_made (table_at script at) (at.command ∷ at.below))
history_more script at =
    let table = empty_table script.world in
    let made : Entry → Made = λ entry. record { pass = 0; entry = entry } in
    ap (history_of script.world) at.whole
    ∙ ap made_alone (entries_made-append table at.above (at.command ∷ at.below))
    ∙ map-append made (entries_made table at.above) (entries_made (table_at script at) (at.command ∷ at.below))

-- so the scene there is a point of it
pub point_at : (script : Script) (at : Standing script)
    → point script.world.bodies (history_of script.world script.lines) (length (history_at script at)) ≡ scene_at script at
point_at script at =
    let here = history_at script at in
    ap (λ (h : List Made). scene_after script.world.bodies (take (length here) h)) (history_more script at)
    ∙ ap (scene_after script.world.bodies) (take-append_seam here (made_alone (entries_made (table_at script at) (at.command ∷ at.below))))
