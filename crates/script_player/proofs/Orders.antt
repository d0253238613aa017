-- Orders of today's scripts mean what their commands do.
use Rattle.std.proofs.Common.{◌≡◌, ℕ, List, [], ◌∷◌, ◌++◌, map, refl, ap, ◌∙◌}
use Rattle.reply_text.specs.Reply.{reply_text}
use Rattle.script_text.specs.declared.command.Command.{Command}
use Rattle.script_text.specs.declared.script.Script.{Script}
use Rattle.script_player.specs.Table.{Table, empty_table}
use Rattle.script_player.specs.Turn.{turn, table_after}
use Rattle.script_player.specs.Report.{replies_text, table_below, end_text, serial_report}
use Rattle.script_player.specs.Line.{Plain}
use Rattle.script_player.specs.Shifted.{Speed}
use Rattle.script_player.specs.Meaning.{course_below, answers_text, orders_report}

answers_same : (cs : List Command) (table : Table) (speeds : List Speed)
    → answers_text (record { table = table; speeds = speeds }) (map (λ command. Plain command) cs) ≡ replies_text table cs
answers_same [] table speeds = refl
answers_same (c ∷ cs) table speeds =
    ap (λ (text : List ℕ). reply_text (turn table c).reply ++ text) (answers_same cs (table_after table (turn table c)) speeds)

course_same : (cs : List Command) (table : Table) (speeds : List Speed)
    → (course_below (record { table = table; speeds = speeds }) (map (λ command. Plain command) cs)).table ≡ table_below table cs
course_same [] table speeds = refl
course_same (c ∷ cs) table speeds = course_same cs (table_after table (turn table c)) speeds

pub orders_same : (script : Script) → orders_report script.world (map (λ command. Plain command) script.lines) ≡ serial_report script
orders_same script =
    let table = empty_table script.world in
    let orders = map (λ (command : Command). Plain command) script.lines in
    ap (λ (text : List ℕ). text ++ end_text (course_below (record { table = table; speeds = [] }) orders).table.scene) (answers_same script.lines table [])
    ∙ ap (λ (t : Table). replies_text table script.lines ++ end_text t.scene) (course_same script.lines table [])
