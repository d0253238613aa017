-- What the turns of a preparation owe to its label.
use Rattle.std.proofs.Common.{◌≡◌, ℕ, List, ◌∷◌, ◌++◌, [], map, false, Option, Some, None, Ok, Result, refl, ap, sym, ◌∙◌, subst}
use Rattle.body_ident.specs.Id.{Id}
use Rattle.fixed_box.specs.declared.fix_box.FixBox.{FixBox}
use Rattle.scene_model.specs.declared.entry.Entry.TheVariants.{Mark}
use Rattle.word_map.specs.declared.name.Name.TheVariants.{Slot, PoolFree}
use Rattle.core_state.specs.declared.view.View.{View}
use Rattle.core_state.specs.Encoding.{reserved_by}
use Rattle.core_state.specs.Batches.{new_batch}
use Rattle.pass_table.specs.declared.turn.Turn.{Turn}
use Rattle.pass_table.specs.declared.turn.Turn.TheVariants.{More}
use Rattle.pass_table.specs.Labels.{IsRefusal, EndsAfter, SaysNew}
use Rattle.pass_table.specs.Work.{Outcome, HasDone, followed}
use Rattle.pass_table.proofs.Working.{done-then}
use Rattle.batch_add.specs.declared.answers.PrepareRefused.{PrepareRefused}
use Rattle.batch_add.specs.declared.prepared.Prepared.{Prepared}
use Rattle.batch_add.specs.declared.mark_op.Marking.{Marking}
use Rattle.batch_add.specs.declared.prepare_op.PrepareStage.{PrepareStage}
use Rattle.batch_add.specs.declared.prepare_op.PrepareStage.TheVariants.{Marking as MarkingStage}
use Rattle.batch_add.specs.declared.prepare_op.PrepareOp.{PrepareOp}
use Rattle.batch_add.specs.stages.Marking.{IsMarking, HasMadeMarks}
use Rattle.batch_add.specs.Parts.{stored_as, HasMarked, reserved_outcome, nodes_outcome, marks_outcome}
use Rattle.batch_add.specs.stages.Preparing.{ids_of, HasSlotAndNodes, with_slot_nodes, with_marks, BeginsTree, stage_label, label_of, marked_outcome, HasAllMarked, label_says, KeepsLabel}
use Rattle.batch_add.proofs.PrepareMarks.{map_twice, all_marked}

-- a turn after which the label is not reached
pub label-none : (turn : Turn (Result Prepared PrepareRefused)) (before after : PrepareOp) (view next : View) → EndsAfter turn IsRefusal (Some 0) (label_of before) → label_of after ≡ None
    → KeepsLabel turn before after view next
label-none turn before after view next ends none = record {
  ends = ends;
  says = λ first start preparing. subst (λ (o : Option ℕ). SaysNew (label_of before) o (label_says first start next)) (sym none) tt;
}

-- one before which it was reached, and so is after it
pub label-still : (turn : Turn (Result Prepared PrepareRefused)) (before after : PrepareOp) (view next : View) → EndsAfter turn IsRefusal (Some 0) (Some 0) → label_of before ≡ Some 0 → label_of after ≡ Some 0
    → KeepsLabel turn before after view next
label-still turn before after view next ends was is = record {
  ends = subst (EndsAfter turn IsRefusal (Some 0)) (sym was) ends;
  says = λ first start preparing.
      subst (λ (o : Option ℕ). SaysNew o (label_of after) (label_says first start next)) (sym was)
      (subst (λ (o : Option ℕ). SaysNew (Some 0) o (label_says first start next)) (sym is) (λ label new below. absurd (new below)));
}

-- a slot is reserved, the nodes are taken and the bodies are marked
module _ (op : PrepareOp) (start mid next : View) (nodes : List ℕ) (bodies : List (ℕ × FixBox)) (has : HasSlotAndNodes op start mid nodes)
    (marked : HasMarked start.batches (with_slot_nodes op.layer op.slot nodes) (ids_of op) mid next bodies) where
  abbrev slot_first : Outcome
  slot_first = reserved_outcome start op.layer op.slot has.reserved.number

  abbrev nodes_then : Outcome
  nodes_then = nodes_outcome has.reserved_at start.batches (new_batch op.layer op.slot) nodes has.taken.left

  abbrev marks_then : Outcome
  marks_then = marks_outcome mid start.batches (with_slot_nodes op.layer op.slot nodes) bodies

  all_done : HasDone start next (followed (followed slot_first nodes_then) marks_then)
  all_done =
      done-then start mid next (followed slot_first nodes_then) marks_then (done-then start has.reserved_at mid slot_first nodes_then has.reserved.done has.taken.done) marked.done

  entries : map (λ (b : ℕ × FixBox). Mark b.0) bodies ≡ map (λ (id : Id). Mark id.index) (ids_of op)
  entries =
      sym (map_twice (λ (i : ℕ). Mark i) (λ (b : ℕ × FixBox). b.0) bodies)
      ∙ (ap (λ (l : List ℕ). map (λ (i : ℕ). Mark i) l) marked.indexes ∙ map_twice (λ (i : ℕ). Mark i) (λ (id : Id). id.index) (ids_of op))

  outcome : followed (followed slot_first nodes_then) marks_then ≡ marked_outcome start op.layer op.slot has.reserved.number (ids_of op) has.taken.left nodes bodies
  outcome = λ i. record {
    entries = entries i;
    stores = stored_as (Slot op.layer op.slot) (reserved_by has.reserved.number) ∷ stored_as PoolFree has.taken.left ∷ [];
    batches = start.batches ++ with_marks (with_slot_nodes op.layer op.slot nodes) bodies ∷ [];
    loose = (ap (λ (v : View). v.loose) has.taken.done.left ∙ ap (λ (v : View). v.loose) has.reserved.done.left) i;
    written = (ap (λ (v : View). v.written) has.taken.done.left ∙ ap (λ (v : View). v.written) has.reserved.done.left) i;
    places = false;
  }

  pub all-marked : HasAllMarked op.layer (ids_of op) start next
  all-marked = record {
    number = has.reserved.number;
    slot = op.slot;
    left = has.taken.left;
    nodes = nodes;
    bodies = bodies;
    of_pass = has.reserved.pass;
    many = has.taken.many;
    indexes = marked.indexes;
    done = subst (HasDone start next) outcome all_done;
    spared = all_done.spares refl;
  }

-- the turn that reaches the label
pub label-reached : (before : PrepareOp) (marking : Marking) (after : PrepareOp) (view next : View) → before.stage ≡ MarkingStage
    → ((first : Marking) (start : View) → IsMarking first start before.marking view → HasMadeMarks first start marking next (Ok tt)) → BeginsTree (record before { marking = marking }) after next
    → KeepsLabel More before after view next
label-reached before marking after view next stage ends begins = record {
  ends = tt;
  says = λ first start preparing.
      let all = all_marked before marking view next stage ends first start preparing in
      let here : HasAllMarked before.layer (ids_of before) start next = all-marked before start all.mid next before.taking.nodes.items marking.bodies.items all.has all.marked in
      subst (λ (s : PrepareStage). SaysNew (label_of before) (stage_label s) (label_says first start next)) (sym begins.stage)
      (λ label new below. subst (λ (l : ℕ). HasAllMarked l (ids_of first) start next) preparing.layer (subst (λ (l : List Id). HasAllMarked before.layer l start next) preparing.ids here));
}
