use Rattle.core_move.proofs.SideStores.{Invariants-store_side}
use Rattle.core_move.proofs.LastStores.{Invariants-store_last_side}
use Rattle.core_move.proofs.laws.boxes_are_stored.Goals as goal

pub returns-clause-sides : goal.returns-clause-sides
returns-clause-sides c = Invariants-store_side

pub returns-clause-last : goal.returns-clause-last
returns-clause-last c = Invariants-store_last_side
