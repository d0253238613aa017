use Rattle.core_state.specs.LocksAgree.{LocksAgreeIn, lock_scope}
use Rattle.core_state.specs.BodiesAgree.{BodiesAgreeIn, body_scope}
use Rattle.core_state.specs.NodesInOnePlace.{NodesInOnePlaceIn, node_scope}
use Rattle.core_state.specs.TreesSound.{TreesSoundIn, tree_scope}
use Rattle.core_state.specs.LocationsHold.{LocationsHoldIn, location_scope}
use Rattle.core_state.specs.BodiesCovered.{BodiesCoveredIn, cover_scope}
use Rattle.core_state.specs.WalksLead.{WalksLeadIn, walk_scope}
use Rattle.core_state.specs.ReadersCounted.{ReadersCountedIn, reader_scope}
use Rattle.core_state.proofs.Frames.{frame}
use Rattle.core_state.proofs.invariants.each_keeps_what_it_does_not_see.Goals as goal

pub returns-clause-locks : goal.returns-clause-locks
returns-clause-locks c = frame lock_scope LocksAgreeIn

pub returns-clause-bodies : goal.returns-clause-bodies
returns-clause-bodies c = frame body_scope BodiesAgreeIn

pub returns-clause-nodes : goal.returns-clause-nodes
returns-clause-nodes c = λ nodes. frame node_scope (NodesInOnePlaceIn nodes)

pub returns-clause-trees : goal.returns-clause-trees
returns-clause-trees c = λ nodes. frame tree_scope (TreesSoundIn nodes)

pub returns-clause-locations : goal.returns-clause-locations
returns-clause-locations c = λ nodes. frame location_scope (LocationsHoldIn nodes)

pub returns-clause-cover : goal.returns-clause-cover
returns-clause-cover c = λ nodes. frame cover_scope (BodiesCoveredIn nodes)

pub returns-clause-walks : goal.returns-clause-walks
returns-clause-walks c = frame walk_scope WalksLeadIn

pub returns-clause-readers : goal.returns-clause-readers
returns-clause-readers c = λ nodes. frame reader_scope (ReadersCountedIn nodes)
