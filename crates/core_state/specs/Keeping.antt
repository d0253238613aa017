-- What a group of kinds of step owes: each of its events keeps all invariants, and what passes have for themselves.
use Rattle.core_state.specs.Core.{Core}
use Rattle.core_state.specs.Formed.{IsFormed}
use Rattle.core_state.specs.Guards.{GuardsHold}
use Rattle.core_state.specs.Invariants.{Invariants}

abbrev pub KeepsAll : (Core → Core → Type 0) → Type 0
KeepsAll Group = (before after : Core) → Group before after → IsFormed before → GuardsHold before → Invariants before → Invariants after × GuardsHold after
