-- The entries of a script are a history.
use Rattle.std.proofs.Common.{List, [], ◌∷◌, ◌++◌, fold, ap, sym, subst, ◌∙◌}
use Rattle.scene_model.specs.declared.entry.Entry.{Entry}
use Rattle.scene_model.specs.Scene.{Scene}
use Rattle.scene_model.specs.Step.{after_entry}
use Rattle.scene_model.specs.Shown.{shown}
use Rattle.scene_model.proofs.ShownReads.{IsPossible-seen}
use Rattle.scene_model.proofs.ShownSteps.{shown-after_entry}
use Rattle.script_text.specs.declared.command.Command.{Command}
use Rattle.script_text.specs.declared.script.Script.{Script}
use Rattle.script_player.specs.Table.{Table, empty_table}
use Rattle.script_player.specs.Turn.{Turn, turn, table_after}
use Rattle.script_player.specs.Report.{entries_made, ArePossibleFrom}
use Rattle.script_player.specs.UnderWay.{ArePossible, IsUnderWay}
use Rattle.script_player.specs.Shown.{shown_table, shown_after}
use Rattle.script_player.proofs.Projection.{turn-shown, shown_after-turn}
use Rattle.script_player.proofs.GoingOn.{turn_goes_on}
use Rattle.script_player.proofs.Possible.{turn_possible}
use Rattle.script_player.proofs.Beginning.{under_way_first}

-- what is possible in a plain scene is so in each scene that it shows
possible_seen : (scene : Scene) (entries : List Entry) → ArePossible (shown scene) entries → ArePossibleFrom scene entries
possible_seen scene [] h = tt
possible_seen scene (entry ∷ later) h = (
  IsPossible-seen scene entry h.0,
  possible_seen (after_entry scene entry) later (subst (λ (s : Scene). ArePossible s later) (sym (shown-after_entry scene entry)) h.1),
)

from_append : (scene : Scene) (xs ys : List Entry) → ArePossibleFrom scene xs → ArePossibleFrom (fold after_entry scene xs) ys → ArePossibleFrom scene (xs ++ ys)
from_append scene [] ys h k = k
from_append scene (x ∷ xs) ys h k = (h.0, from_append (after_entry scene x) xs ys h.1 k)

-- where a table shows that it is under way, a turn makes possible entries, and the table after it shows the same
pub turn_possible_from : (table : Table) (c : Command) → IsUnderWay (shown_table table) → ArePossibleFrom table.scene (turn table c).entries
turn_possible_from table c u =
    possible_seen table.scene (turn table c).entries
    (subst (λ (s : Turn). ArePossible (shown table.scene) s.entries) (turn-shown table c) (turn_possible (shown_table table) c u))

pub turn_under_way : (table : Table) (c : Command) → IsUnderWay (shown_table table) → IsUnderWay (shown_table (table_after table (turn table c)))
turn_under_way table c u =
    let next = ap (shown_after (shown_table table)) (turn-shown table c) ∙ shown_after-turn table (turn table c) in
    subst IsUnderWay next (turn_goes_on (shown_table table) c u)

history_from : (commands : List Command) (table : Table) → IsUnderWay (shown_table table) → ArePossibleFrom table.scene (entries_made table commands)
history_from [] table u = tt
history_from (c ∷ commands) table u =
    let t = turn table c in
    from_append table.scene t.entries (entries_made (table_after table t) commands) (turn_possible_from table c u)
    (history_from commands (table_after table t) (turn_under_way table c u))

pub history_of : (script : Script) → ArePossibleFrom (empty_table script.world).scene (entries_made (empty_table script.world) script.lines)
history_of script = history_from script.lines (empty_table script.world) (under_way_first script.world script.sound.sizes)
