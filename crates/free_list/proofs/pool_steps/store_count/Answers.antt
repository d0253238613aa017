use Rattle.std.proofs.Common.{refl}
use Rattle.pass_table.specs.Passes.{view_of}
use Rattle.free_list.proofs.Pool.{may-count, stored-count}
use Rattle.free_list.proofs.pool_steps.store_count.Goals as goal

pub step_11-requires-clause-asks : goal.step_11-requires-clause-asks
step_11-requires-clause-asks c = may-count (view_of c.args.pass.now) c.args.count c.requires.pool (view_of c.args.pass.now).call.task refl c.requires.pooling c.requires.counts

pub returns-clause-stored : goal.returns-clause-stored
returns-clause-stored c = stored-count (view_of c.args.pass.now) (view_of c.step_11.new.pass) c.args.count c.step_11.ensures.step
