-- The eight invariants together, with some map of the nodes.
use Rattle.core_state.specs.Core.{Core}
use Rattle.core_state.specs.Nodes.{Nodes}
use Rattle.core_state.specs.LocksAgree.{LocksAgree}
use Rattle.core_state.specs.BodiesAgree.{BodiesAgree}
use Rattle.core_state.specs.NodesInOnePlace.{NodesInOnePlace}
use Rattle.core_state.specs.TreesSound.{TreesSound}
use Rattle.core_state.specs.LocationsHold.{LocationsHold}
use Rattle.core_state.specs.BodiesCovered.{BodiesCovered}
use Rattle.core_state.specs.WalksLead.{WalksLead}
use Rattle.core_state.specs.ReadersCounted.{ReadersCounted}

-- they hold between any two steps
pub record Invariants (core : Core) : Type 0 where
  pub nodes : Nodes
  pub locks : LocksAgree core
  pub bodies : BodiesAgree core
  pub places : NodesInOnePlace nodes core
  pub trees : TreesSound nodes core
  pub locations : LocationsHold nodes core
  pub cover : BodiesCovered nodes core
  pub walks : WalksLead core
  pub readers : ReadersCounted nodes core
