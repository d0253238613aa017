-- What an event asks of the form of the core.
use Rattle.std.specs.Prelude.{⊤}
use Rattle.core_state.specs.Core.{Core}
use Rattle.core_state.specs.Event.{Event, of_updates}
use Rattle.core_state.specs.Formed.{IsFormed}

-- the core is formed where the event is one of an update, whose nodes are its own by what its view says; of other events
-- nothing is asked
abbrev pub IsFormedForUpdate : (before after : Core) → Event before after → Type 0
IsFormedForUpdate before after (of_updates e) = IsFormed before
IsFormedForUpdate before after e = ⊤
