-- The text of a story: the line that each answer has in the report.
use Rattle.std.specs.Prelude.{ℕ, zero, suc, ◌-◌, nat_lt, nat_le, if◌then◌else◌, List, [], ◌++◌, length, codes, decimal, slice_index_or}
use Rattle.std.specs.List.{flat_map}
use Rattle.script_player.specs.Line.{Plan}
use Rattle.script_player.specs.Answer.{answer_text}
use Rattle.script_player.specs.Event.{Event}

abbrev pub name_of : Plan → ℕ → List ℕ
name_of plan zero = codes "main"
name_of plan (suc actor) = slice_index_or plan.actors actor []

-- before the answer of a section stands which one it is, from 0 on
abbrev pub section_mark : Plan → ℕ → List ℕ
section_mark plan worker = codes "w" ++ decimal (worker - length plan.actors - 1) ++ codes " "

-- and before a late answer, of an order that was not finished at the end of the script, whose it is
abbrev pub mark_of : Plan → Event → List ℕ
mark_of plan e =
    if nat_lt (length plan.actors) e.caller then section_mark plan e.caller
    else (if nat_le (length plan.lines) e.answered then name_of plan e.caller ++ codes " " else [])

abbrev pub event_text : Plan → Event → List ℕ
event_text plan e = mark_of plan e ++ answer_text e.answer

abbrev pub story_text : Plan → List Event → List ℕ
story_text plan told = flat_map (event_text plan) told
