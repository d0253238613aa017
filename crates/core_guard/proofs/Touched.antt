-- All laws after a step that leaves the trees: each of the five laws of trees follows from what the step touches, and locks,
-- bodies and the places of nodes are what is left to be shown.
use Rattle.core_state.specs.Core.{Core}
use Rattle.core_state.specs.Kind.{Asking, Kind, Step, Steps, after_step}
use Rattle.core_state.specs.Formed.{IsFormed}
use Rattle.core_state.specs.Guards.{GuardsHold}
use Rattle.core_state.specs.Invariants.{Invariants}
use Rattle.core_state.specs.Nodes.{Nodes}
use Rattle.core_state.specs.LocksAgree.{LocksAgree}
use Rattle.core_state.specs.BodiesAgree.{BodiesAgree}
use Rattle.core_state.specs.NodesInOnePlace.{NodesInOnePlace}
use Rattle.core_guard.proofs.Leaving.{Acts, acts-of, Touches}
use Rattle.core_guard.proofs.TreesLeft.{TreesSound-touches}
use Rattle.core_guard.proofs.PlacesLeft.{LocationsHold-touches}
use Rattle.core_guard.proofs.CoverLeft.{BodiesCovered-touches}
use Rattle.core_guard.proofs.WalksLeft.{WalksLead-touches}
use Rattle.core_guard.proofs.ReadersLeft.{ReadersCounted-touches}
use Rattle.std.proofs.Common.{sym, subst}

pub Invariants-touches : (kind : Kind) (core : Core) (step : Step) (a : Acts core step) (later : Nodes) → Touches kind core step a.laws.nodes later → LocksAgree (after_step kind core step) → BodiesAgree (after_step kind core step)
    → NodesInOnePlace later (after_step kind core step) → Invariants (after_step kind core step)
Invariants-touches kind core step a later t locks bodies places = record {
  nodes = later;
  locks = locks;
  bodies = bodies;
  places = places;
  trees = TreesSound-touches kind core step a later t;
  locations = LocationsHold-touches kind core step a later t;
  cover = BodiesCovered-touches kind core step a later t;
  walks = WalksLead-touches kind core step a later t;
  readers = ReadersCounted-touches kind core step a later t;
}

-- what is to be proved of a kind: that it keeps all invariants
abbrev pub IsKept : Asking → Kind → Type 0
IsKept asks kind = (before after : Core) → Steps asks kind before after → IsFormed before → GuardsHold before → Invariants before → Invariants after

-- it is enough to look at the step that is made
pub kept : (asks : Asking) (kind : Kind) → ((core : Core) (step : Step) → Acts core step → asks step.view step.name step.first step.second → Invariants (after_step kind core step)) → IsKept asks kind
kept asks kind h before after steps formed guards laws =
    subst Invariants (sym steps.result) (h before steps.step (acts-of asks kind before after steps formed guards laws) steps.allowed.asked)
