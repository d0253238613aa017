-- The story of a script that main gives alone: its commands are answered one after another, each at its own line, and the spans
-- follow one another.
use Rattle.std.specs.Prelude.{ℕ, ◌+◌, List, [], ◌∷◌, length, Some}
use Rattle.script_text.specs.declared.script.Script.{Script}
use Rattle.script_player.specs.Table.{empty_table}
use Rattle.script_player.specs.Exchange.{Exchange, exchanges}
use Rattle.script_player.specs.Line.{Plain}
use Rattle.script_player.specs.Answer.{Replied}
use Rattle.script_player.specs.Event.{Event}

-- what is told of one command
abbrev pub event_alone : ℕ → ℕ → Exchange → Event
event_alone place from e = record {
  caller = 0;
  pass = 0;
  given = place;
  answered = place;
  order = Some (Plain e.command);
  answer = Replied e.reply;
  span = record { from = from; to = from + length e.made };
  made = e.made;
  lanes = [];
}

abbrev pub events_alone : ℕ → ℕ → List Exchange → List Event
events_alone place from [] = []
events_alone place from (e ∷ later) = event_alone place from e ∷ events_alone (place + 1) (from + length e.made) later

abbrev pub serial_events : Script → List Event
serial_events script = events_alone 0 0 (exchanges (empty_table script.world) script.lines)
