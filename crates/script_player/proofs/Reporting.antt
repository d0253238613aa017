-- A report has the replies of all commands, and each command's reply and entries stand there at its place.
use Rattle.std.proofs.Common.{◌≡◌, ℕ, List, [], ◌∷◌, ◌++◌, refl, ap, sym, ◌∙◌}
use Rattle.std.specs.List.{flat_map}
use Rattle.std.proofs.lemmas.List.{map-append}
use Rattle.std.proofs.lemmas.List.Concat.{flat_map-cons}
use Rattle.scene_model.specs.declared.entry.Entry.{Entry}
use Rattle.scene_model.specs.declared.entry.Made.{Made}
use Rattle.script_text.specs.declared.command.Command.{Command}
use Rattle.script_text.specs.declared.script.Script.{Script}
use Rattle.reply_text.specs.Reply.{reply_text}
use Rattle.script_player.specs.Table.{Table, empty_table}
use Rattle.script_player.specs.Turn.{turn, table_after}
use Rattle.script_player.specs.Report.{replies_text, table_below, entries_made, end_text, serial_report}
use Rattle.script_player.specs.Standing.{made_alone, history_of, scene_below, Standing, history_at, table_at, turn_at}
use Rattle.script_player.specs.Exchange.{Exchange, exchanges, exchanges_at}
use Rattle.script_player.proofs.Standing.{scene_is, history_more}

replies_are : (commands : List Command) (table : Table) → replies_text table commands ≡ flat_map (λ e. reply_text e.reply) (exchanges table commands)
replies_are [] table = refl
replies_are (c ∷ commands) table =
    let t = turn table c in
    let after = table_after table t in
    ap (λ (text : List ℕ). reply_text t.reply ++ text) (replies_are commands after)
    ∙ sym (flat_map-cons (λ (e : Exchange). reply_text e.reply) (record { command = c; reply = t.reply; made = t.entries }) (exchanges after commands))

pub report_is : (script : Script)
    → serial_report script ≡ flat_map (λ e. reply_text e.reply) (exchanges (empty_table script.world) script.lines) ++ end_text (scene_below script.world script.lines)
report_is script =
    let table = empty_table script.world in
    ap (λ (text : List ℕ). text ++ end_text (table_below table script.lines).scene) (replies_are script.lines table)
    ∙ ap (λ s. flat_map (λ (e : Exchange). reply_text e.reply) (exchanges table script.lines) ++ end_text s) (scene_is script.world script.lines)

pub exchanges-append : (table : Table) (xs ys : List Command) → exchanges table (xs ++ ys) ≡ exchanges table xs ++ exchanges (table_below table xs) ys
exchanges-append table [] ys = refl
exchanges-append table (x ∷ xs) ys =
    let t = turn table x in
    ap (λ (es : List Exchange). record { command = x; reply = t.reply; made = t.entries } ∷ es) (exchanges-append (table_after table t) xs ys)

-- the exchange of a command stands behind those above it
pub reply_stands : (script : Script) (at : Standing script)
    → (later : List Exchange) × (exchanges (empty_table script.world) script.lines ≡ exchanges_at script at ++ record { command = at.command; reply = (turn_at script at).reply; made = (turn_at script at).entries } ∷ later)
reply_stands script at =
    let table = empty_table script.world in (
      exchanges (table_after (table_at script at) (turn_at script at)) at.below,
      ap (exchanges table) at.whole ∙ exchanges-append table at.above (at.command ∷ at.below),
    )

-- and so do its entries
pub entries_stand : (script : Script) (at : Standing script)
    → (later : List Made) × (history_of script.world script.lines ≡ history_at script at ++ (made_alone (turn_at script at).entries ++ later))
entries_stand script at =
    let made : Entry → Made = λ entry. record { pass = 0; entry = entry } in
    let rest = entries_made (table_after (table_at script at) (turn_at script at)) at.below in (
      made_alone rest,
      history_more script at ∙ ap (λ (later : List Made). history_at script at ++ later) (map-append made (turn_at script at).entries rest),
    )
