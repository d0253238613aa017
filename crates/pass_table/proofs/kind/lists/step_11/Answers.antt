use Rattle.std.proofs.Common.{subst, sym}
use Rattle.core_state.specs.Pool.{MayStorePoolCount}
use Rattle.pass_table.specs.Numbered.{MayHead}
use Rattle.pass_table.specs.Passes.{view_of}
use Rattle.pass_table.proofs.kind.lists.step_11.Goals as goal

-- the word is the count of free nodes
pub store-requires-in-PoolFree-clause-asks : goal.store-requires-in-PoolFree-clause-asks
store-requires-in-PoolFree-clause-asks c = subst (λ name. MayStorePoolCount (view_of c.args.pass.now) name c.args.value 0) (sym c.in-PoolFree.is) (subst (λ name. MayHead (view_of c.args.pass.now) name c.args.value) c.in-PoolFree.is c.requires.asks)
