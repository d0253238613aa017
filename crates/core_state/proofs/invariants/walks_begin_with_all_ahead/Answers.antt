use Rattle.core_state.proofs.Beginning.{due_ahead}
use Rattle.core_state.proofs.invariants.walks_begin_with_all_ahead.Goals as goal

pub returns : goal.returns
returns c = λ core query walk index generation formed all from due. due_ahead core formed all query walk from index generation due
