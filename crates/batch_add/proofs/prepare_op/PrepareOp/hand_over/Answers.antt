use Rattle.std.proofs.Common.{false, ap, sym, ◌∙◌, ◌≡◌, refl}
use Rattle.batch_add.specs.declared.prepare_op.Undone.{Undone}
use Rattle.batch_add.specs.stages.Preparing.{marked_of, node_count_of}
use Rattle.batch_add.proofs.prepare_op.PrepareOp.hand_over.Goals as goal
use Rattle.batch_add.proofs.prepare_op.PrepareOp.hand_over.Goals.{in-NoNodes, in-Mark}

pub returns-clause-kept : goal.returns-clause-kept
returns-clause-kept c =
    let operation = c.args.self.now in
    let undone = c.args.undone in
    let same : c.match-undone.marked ≡ (marked_of undone, node_count_of operation undone) =
    elim c.match-undone.branch [
      | in-NoNodes w ↦ w.marked-is ∙ ap (λ (u : Undone). (marked_of u, node_count_of operation u)) (sym w.in-NoNodes.is)
      | in-Mark w ↦ w.marked-is ∙ ap (λ (u : Undone). (marked_of u, node_count_of operation u)) (sym w.in-Mark.is)
    ]
    in
    λ i. record {
      layer = operation.layer;
      slot = operation.slot;
      indexes = c.replace-indexes.ensures.value i;
      marked = (same i).0;
      are_placed = false;
      nodes = c.replace-nodes.ensures.value i;
      node_count = (same i).1;
    }

pub returns-clause-rest : goal.returns-clause-rest
returns-clause-rest c = record { layer = refl; slot = refl; ids = refl; count = refl }
