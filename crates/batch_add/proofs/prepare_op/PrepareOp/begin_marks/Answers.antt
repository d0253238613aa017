use Rattle.std.proofs.Common.{◌≤◌, ◌*◌, List, length, ◌∙◌, refl, ap, subst}
use Rattle.body_ident.specs.Id.{Id}
use Rattle.core_state.specs.declared.view.View.{View}
use Rattle.pass_table.specs.Passes.{view_of}
use Rattle.batch_add.specs.stages.Marking.{IsMarking, mark_left}
use Rattle.batch_add.proofs.prepare_op.PrepareOp.begin_marks.Goals as goal

pub returns-clause-begins : goal.returns-clause-begins
returns-clause-begins c =
    let ids = ap (λ v. v.items) c.replace-ids.ensures.value in
    record {
      marking = c.new-3.result;
      is = refl;
      layer = c.new-3.ensures.layer;
      slot = c.new-3.ensures.slot;
      ids = c.new-3.ensures.ids ∙ ids;
      made = c.new-3.ensures.made;
      left = subst (λ (l : List Id). mark_left c.new-3.result ≤ 15 * length l) ids c.new-3.ensures.left;
      goes = subst (λ (v : View). IsMarking c.new-3.result (view_of c.args.pass.now) c.new-3.result v) (ap view_of c.new-3.ensures.pass) c.new-3.ensures.under_way;
      unloaded = c.new-3.ensures.unloaded;
    }
