use Rattle.std.proofs.Common.{refl, ◌∙◌, subst}
use Rattle.pass_table.specs.declared.pass.Pass.{Pass}
use Rattle.pass_table.specs.Passes.{view_of}
use Rattle.batch_add.specs.stages.GivingUp.{IsGivingUp}
use Rattle.batch_add.proofs.prepare_op.PrepareOp.begin_undoing.Goals as goal

pub returns-clause-begins : goal.returns-clause-begins
returns-clause-begins c =
    let giving = c.new.result in
    let rest = c.hand_over-kept.ensures.rest in
    record {
      giving = giving;
      stage = refl;
      is = refl;
      layer = rest.layer;
      slot = rest.slot;
      ids = rest.ids;
      count = rest.count;
      kept = c.new.ensures.kept ∙ c.hand_over-kept.ensures.kept;
      made = c.new.ensures.made;
      goes = subst (λ (p : Pass). IsGivingUp giving (view_of c.args.pass.now) giving (view_of p)) c.new.ensures.pass c.new.ensures.under_way;
      unloaded = c.new.ensures.unloaded;
    }
