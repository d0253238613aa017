use Rattle.std.proofs.Common.{ℕ, List, refl, ap, ◌∙◌, subst}
use Rattle.std.specs.List.Sorted.{IsPermutation}
use Rattle.fixed_box.specs.declared.fix_box.FixBox.{FixBox}
use Rattle.batch_add.proofs.prepare_op.PrepareOp.begin_tree.Goals as goal

pub returns : goal.returns
returns c =
    let drawing = c.new-in-Some.result in
    record {
      begins = record {
        drawing = drawing;
        stage = refl;
        is = refl;
        layer = refl;
        slot = refl;
        ids = refl;
        indexes = refl;
        first = c.new-in-Some.ensures.first;
        bodies = subst (λ (l : List (ℕ × FixBox)). IsPermutation l drawing.bodies.items) (ap (λ v. v.items) c.replace-bodies.ensures.value) c.new-in-Some.ensures.bodies;
        nodes = ap (λ v. v.items) c.new-in-Some.ensures.nodes ∙ ap (λ v. v.items) c.replace-nodes.ensures.value;
        goes = c.new-in-Some.ensures.under_way;
      };
    }
