use Rattle.std.proofs.Common.{refl, ap, subst}
use Rattle.core_state.specs.declared.view.View.{View}
use Rattle.pass_table.specs.Passes.{view_of}
use Rattle.batch_add.specs.stages.TakingNodes.{IsTakingNodes}
use Rattle.batch_add.proofs.prepare_op.PrepareOp.begin_nodes.Goals as goal

pub returns-clause-begins : goal.returns-clause-begins
returns-clause-begins c = record {
  taking = c.new-2.result;
  is = refl;
  count = c.new-2.ensures.count;
  goes = subst (λ (v : View). IsTakingNodes c.new-2.result (view_of c.args.pass.now) c.new-2.result v) (ap view_of c.new-2.ensures.pass) c.new-2.ensures.under_way;
  unloaded = c.new-2.ensures.unloaded;
}
