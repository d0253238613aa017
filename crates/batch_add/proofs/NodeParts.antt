-- Taking nodes, as the second part of a preparation.
use Rattle.pass_table.specs.TakeTurns.{LoadedNone}
use Rattle.pass_table.proofs.TakingTurns.{loads-none}
use Rattle.std.specs.Prelude.{option_and_then}
use Rattle.std.proofs.Common.{◌≡◌, ℕ, ◌+◌, ◌*◌, ◌<◌, ◌≤◌, List, [], All, length, map, Option, None, Result, Ok, Err, refl, ap, sym, ◌∙◌, subst, arith}
use Rattle.body_ident.specs.Id.{Id}
use Rattle.scene_model.specs.Need.{need}
use Rattle.word_map.specs.declared.config.Config.{Config}
use Rattle.word_map.specs.declared.name.Name.TheVariants.{Slot}
use Rattle.word_map.specs.Names.{IsName}
use Rattle.core_state.specs.declared.view.Batch.{Batch}
use Rattle.core_state.specs.declared.view.View.{View}
use Rattle.core_state.specs.Batches.{new_batch}
use Rattle.pass_table.specs.declared.turn.Turn.TheVariants.{More, Again}
use Rattle.pass_table.specs.Holding.{IsAtRest}
use Rattle.pass_table.specs.Turning.{AtMostOneStep, MadeBy, Turned, IsUnderWay, LoadsNow}
use Rattle.batch_add.specs.declared.node_taking.NodeTaking.{NodeTaking}
use Rattle.batch_add.specs.declared.mark_op.Marking.{Marking}
use Rattle.batch_add.specs.declared.giving_up.GivingUp.{GivingUp}
use Rattle.batch_add.specs.declared.kept_batch.KeptBatch.{KeptBatch}
use Rattle.batch_add.specs.declared.prepare_op.Undone.TheVariants.{NoNodes}
use Rattle.batch_add.specs.declared.prepare_op.PrepareStage.TheVariants.{TakingNodes, Marking as MarkingStage}
use Rattle.batch_add.specs.declared.prepare_op.PrepareOp.{PrepareOp}
use Rattle.batch_add.specs.Parts.{HasReserved, HasNodes, FoundFewNodes}
use Rattle.batch_add.specs.stages.TakingNodes.{IsTakingNodes, HasTakenNodes, nodes_left, nodes_takes}
use Rattle.batch_add.specs.stages.Marking.{IsForNewest, IsMarking, mark_left, mark_takes}
use Rattle.batch_add.specs.stages.Keeping.{IsBegunFor}
use Rattle.batch_add.specs.stages.GivingUp.{IsGivingUp, stage_left as give_stage_left, left_at, give_left}
use Rattle.batch_add.specs.stages.Preparing.{ids_of, count_of, need_of, CanPlan, IsInSome, HasSlotAndNodes, with_slot_nodes, CameToGive, AtPrepare, IsPreparing, left_after, part_left, stage_left, prepare_left, entry_at, entry_of, kept_of, BeginsUndoing, IsPrepareTurn, takes_at}
use Rattle.batch_add.proofs.Searching.{reserved-newest}
use Rattle.batch_add.proofs.TakingNodes.{taken-newest}
use Rattle.batch_add.proofs.PartTurns.{goes-on, part-more, part-again, undoing-loads}
use Rattle.batch_add.proofs.PartsLeft.{nodes-some, give-few, marks-after, few-after}
use Rattle.tree_plan.specs.declared.node_count.TheConstants.{MAX_TREE_BODIES}

module _ (op : PrepareOp) (view : View) (at : op.stage ≡ TakingNodes) where
  pub nodes-at : (first : PrepareOp) (start : View) → IsPreparing first start op view → AtPrepare op start view TakingNodes
  nodes-at first start h = subst (AtPrepare op start view) at h.at

  -- what the taking rests on
  pub nodes-inside : IsUnderWay IsPreparing op view → IsUnderWay IsTakingNodes op.taking view
  nodes-inside h = let p = (nodes-at h.first h.start h.goes).1 in record { first = p.first; start = p.mid; goes = p.goes }

  pub nodes-count : IsUnderWay IsPreparing op view → 0 < count_of op
  nodes-count h = (nodes-at h.first h.start h.goes).0

  pub nodes-room : IsUnderWay IsPreparing op view → length op.marking.bodies.items ≡ count_of op
  nodes-room h = (nodes-at h.first h.start h.goes).2.bodies

  -- how many turns come after it
  abbrev after_marks : ℕ
  after_marks = left_after (count_of op) (need_of op)

  abbrev rest : ℕ
  rest = 15 * count_of op + after_marks

  left_before : prepare_left op ≡ nodes_left op.taking + rest
  left_before = ap (stage_left op) at

  left_some : IsUnderWay IsPreparing op view → 0 < nodes_left op.taking
  left_some h = let p = (nodes-at h.first h.start h.goes).1 in nodes-some p.first p.mid op.taking view p.goes

  module _ (taking : NodeTaking) (next : View) where
    abbrev pub taken : PrepareOp
    taken = record op { taking = taking }

    nodes_made : MadeBy view next None → MadeBy view next (entry_of taken)
    nodes_made made = subst (MadeBy view next) (sym (ap (entry_at taken) at)) made

    abbrev Keeps : Type 0
    Keeps = (first : NodeTaking) (start : View) → IsTakingNodes first start op.taking view → IsTakingNodes first start taking next

    nodes_keep : Keeps → (first : PrepareOp) (start : View) → IsPreparing first start op view → IsPreparing first start taken next
    nodes_keep keeps first start h =
        let a = nodes-at first start h in
        let p = a.1 in
        let room = a.2 in
        record {
          layer = h.layer;
          ids = h.ids;
          wanted = record { in_layers = h.wanted.in_layers; below = h.wanted.below; few = h.wanted.few; rest = h.wanted.rest; current = h.wanted.current };
          at =
              subst (AtPrepare taken start next) (sym at) (
                a.0,
                record { mid = p.mid; first = p.first; so = record { reserved = p.so.reserved; count = p.so.count }; goes = keeps p.first p.mid p.goes },
                record { bodies = room.bodies; plans = record { plans = room.plans.plans; indexes = room.plans.indexes } },
              );
        }

    turned_round : (a b : ℕ) → a + b ≡ b + a
    turned_round a b = omega arith

    left_same : prepare_left op ≡ rest + nodes_left op.taking
    left_same = left_before ∙ turned_round (nodes_left op.taking) rest

    left_then : prepare_left taken ≡ rest + nodes_left taking
    left_then = ap (stage_left taken) at ∙ turned_round (nodes_left taking) rest

    -- it goes on
    module _ (step : AtMostOneStep view next) (made : MadeBy view next None) (keeps : Keeps) where
      pub nodes-more : Turned {T = Result (Unit {0}) ℕ} More view next (nodes_takes op.taking) (nodes_left op.taking) (nodes_left taking) → LoadsNow view next (nodes_takes taking) → IsPrepareTurn More op taken view next
      nodes-more turned loads = part-more op taken view next step (nodes_made made) (nodes_keep keeps) (Result (Unit {0}) ℕ) rest (nodes_left op.taking) (nodes_left taking) left_same left_then (nodes_takes op.taking) (nodes_takes taking) (ap (takes_at op) at) (ap (takes_at taken) at) turned loads

      pub nodes-again : (lock word : ℕ) → Turned {T = Result (Unit {0}) ℕ} (Again lock word) view next (nodes_takes op.taking) (nodes_left op.taking) (nodes_left taking) → LoadsNow view next (nodes_takes taking) → IsPrepareTurn (Again lock word) op taken view next
      nodes-again lock word turned loads =
          part-again op taken view next step (nodes_made made) (nodes_keep keeps) (Result (Unit {0}) ℕ) rest (nodes_left op.taking) (nodes_left taking) left_same left_then (nodes_takes op.taking) (nodes_takes taking) (ap (takes_at op) at) (ap (takes_at taken) at) lock word turned loads

    -- what it answers
    abbrev Ends : Result (Unit {0}) ℕ → Type 0
    Ends answer = (first : NodeTaking) (start : View) → IsTakingNodes first start op.taking view → HasTakenNodes first start taking next answer

    pub nodes-answers : (answer other : Result (Unit {0}) ℕ) → answer ≡ other → Ends answer → Ends other
    nodes-answers answer other same ends = subst Ends same ends

    module _ (answer : Result (Unit {0}) ℕ) (ends : Ends answer) (first : PrepareOp) (start : View) (h : IsPreparing first start op view) where
      pub taking-count : taking.count ≡ need_of op
      taking-count = let p = (nodes-at first start h).1 in (ends p.first p.mid p.goes).count ∙ p.so.count

    -- the nodes are taken, and the bodies are marked next
    module _ (answer : Unit {0}) (ends : Ends (Ok answer)) where
      pub has-nodes : (first : PrepareOp) (start : View) → IsPreparing first start op view → HasSlotAndNodes op start next taking.nodes.items
      has-nodes first start h =
          let p = (nodes-at first start h).1 in
          record {
            reserved_at = p.mid;
            reserved = p.so.reserved;
            taken =
                subst (λ (n : ℕ). HasNodes n start.batches (new_batch op.layer op.slot) p.mid next taking.nodes.items) p.so.count
                ((ends p.first p.mid p.goes).is start.batches (new_batch op.layer op.slot) (reserved-newest op.layer op.slot start p.mid p.so.reserved));
          }

      module _ (h : IsUnderWay IsPreparing op view) where
        abbrev has : HasSlotAndNodes op h.start next taking.nodes.items
        has = has-nodes h.first h.start h.goes

        pub nodes-below : All (λ id. id.index < next.config.bodies) (ids_of op)
        nodes-below =
            let sizes : next.config ≡ h.start.config = ap (λ (v : View). v.config) has.taken.done.left ∙ ap (λ (v : View). v.config) has.reserved.done.left in
            subst (λ (c : Config). All (λ id. id.index < c.bodies) (ids_of op)) (sym sizes) h.goes.wanted.below

        pub nodes-rest : IsAtRest next
        nodes-rest = has.taken.done.rest

        pub nodes-newest : (before : List Batch) × (batch : Batch) × IsForNewest op.layer op.slot next before batch
        nodes-newest = (
          h.start.batches,
          with_slot_nodes op.layer op.slot taking.nodes.items,
          record {
            newest = taken-newest (need_of op) h.start.batches (new_batch op.layer op.slot) has.reserved_at next taking.nodes.items has.taken;
            for_slot = (refl, refl);
            bare = refl;
            alone = has.reserved.alone;
          },
        )

      module _ (step : AtMostOneStep view next) (made : MadeBy view next None) (marking : Marking) (layer : marking.layer ≡ op.layer) (slot : marking.slot ≡ op.slot) (ids : marking.ids.items ≡ ids_of op)
          (unmade : marking.made ≡ None) (few : mark_left marking ≤ 15 * count_of op) (goes : IsMarking marking next marking next) (unloaded : LoadedNone (mark_takes marking)) where
        abbrev pub marking_next : PrepareOp
        marking_next = record op { taking = taking; stage = MarkingStage; marking = marking }

        marks_keep : (first : PrepareOp) (start : View) → IsPreparing first start op view → IsPreparing first start marking_next next
        marks_keep first start h =
            let a = nodes-at first start h in
            let plans = a.2.plans in
            let has = has-nodes first start h in
            record {
              layer = h.layer;
              ids = ids ∙ h.ids;
              wanted = record {
                in_layers = h.wanted.in_layers;
                below = subst (λ (l : List Id). All (λ id. id.index < start.config.bodies) l) (sym ids) h.wanted.below;
                few = subst (λ (l : List Id). length l ≤ MAX_TREE_BODIES) (sym ids) h.wanted.few;
                rest = h.wanted.rest;
                current = h.wanted.current;
              };
              at = (
                subst (λ (l : List Id). 0 < length l) (sym ids) a.0,
                record {
                  mid = next;
                  first = marking;
                  so = record {
                    has = record {
                      reserved_at = has.reserved_at;
                      reserved = has.reserved;
                      taken = subst (λ (l : List Id). HasNodes (need (length l)) start.batches (new_batch op.layer op.slot) has.reserved_at next taking.nodes.items) (sym ids) has.taken;
                    };
                    layer = layer;
                    slot = slot;
                  };
                  goes = goes;
                },
                record {
                  plans = subst (λ (l : List Id). CanPlan (length l) op.plans) (sym ids) plans.plans;
                  indexes = subst (λ (l : List Id). op.indexes.items ≡ map (λ (id : Id). id.index) l) (sym ids) plans.indexes;
                },
                taking-count (Ok answer) ends first start h ∙ sym (ap (λ (l : List Id). need (length l)) ids),
              );
            }

        marks_left : prepare_left marking_next ≡ mark_left marking + after_marks
        marks_left = ap (λ (l : List Id). mark_left marking + left_after (length l) (need (length l))) ids

        marks_less : IsUnderWay IsPreparing op view → prepare_left marking_next < prepare_left op
        marks_less h =
            subst (λ (n : ℕ). prepare_left marking_next < n) (sym left_before)
            (subst (λ (n : ℕ). n < nodes_left op.taking + rest) (sym marks_left) (marks-after (mark_left marking) (nodes_left op.taking) (count_of op) after_marks few (left_some h)))

        pub nodes-end : IsUnderWay IsPreparing op view → IsPrepareTurn More op marking_next view next
        nodes-end h = goes-on op marking_next view next step (subst (MadeBy view next) (sym unmade) made) marks_keep (marks_less h) (loads-none view next (mark_takes marking) unloaded)

    -- fewer were free, and the slot is let go
    module _ (free : ℕ) (ends : Ends (Err free)) where
      few_found : (first : PrepareOp) (start : View) (h : IsPreparing first start op view) → FoundFewNodes (need_of op) (nodes-at first start h).1.mid next free
      few_found first start h =
          let p = (nodes-at first start h).1 in
          subst (λ (n : ℕ). FoundFewNodes n p.mid next free) p.so.count (ends p.first p.mid p.goes).is

      few_begun : (first : PrepareOp) (start : View) (h : IsPreparing first start op view) → IsBegunFor (kept_of taken (NoNodes free)) next start.batches (new_batch op.layer op.slot) []
      few_begun first start h =
          let p = (nodes-at first start h).1 in
          let found = few_found first start h in
          let sizes : next.config ≡ start.config = ap (λ (v : View). v.config) found.done.left ∙ ap (λ (v : View). v.config) p.so.reserved.done.left in
          record {
            among = ap (λ (v : View). v.batches) found.done.left ∙ reserved-newest op.layer op.slot start p.mid p.so.reserved;
            keeps = record {
              layer = refl;
              slot = refl;
              room = omega arith;
              indexes = refl;
              placed = λ k d less. absurd (omega arith);
              node_room = omega arith;
              nodes = refl;
            };
            slot = subst (λ (c : Config). IsName c (Slot op.layer op.slot)) (sym sizes) (h.wanted.in_layers, p.so.reserved.below);
            below = λ k d less. absurd (omega arith);
            rest = found.done.rest;
          }

      pub few-begun : IsUnderWay IsPreparing op view → (before : List Batch) × (batch : Batch) × IsBegunFor (kept_of taken (NoNodes free)) next before batch []
      few-begun h = (h.start.batches, new_batch op.layer op.slot, few_begun h.first h.start h.goes)

      module _ (step : AtMostOneStep view next) (made : MadeBy view next None) (after : PrepareOp) (begins : BeginsUndoing taken (NoNodes free) after next) where
        few_at : (first : PrepareOp) (start : View) → IsPreparing first start op view → AtPrepare after start next after.stage
        few_at first start h =
            let p = (nodes-at first start h).1 in
            let wanted : need_of op ≡ need_of after = sym (ap (λ (l : List Id). need (length l)) begins.ids) in
            let batch = new_batch op.layer op.slot in
            subst (AtPrepare after start next) (sym begins.stage) (
              subst (λ (g : Option GivingUp). IsInSome IsGivingUp (CameToGive after start (NoNodes free)) g next) (sym begins.is) (record {
                mid = next;
                first = begins.giving;
                so = record {
                  batch = batch;
                  begun = subst (λ (k : KeptBatch). IsBegunFor k next start.batches batch []) (sym begins.kept) (few_begun first start h);
                  failed = (
                    p.mid,
                    subst (λ (l : ℕ). HasReserved l start p.mid after.slot) (sym begins.layer) (subst (λ (t : ℕ). HasReserved op.layer start p.mid t) (sym begins.slot) p.so.reserved),
                    subst (λ (n : ℕ). FoundFewNodes n p.mid next free) wanted (few_found first start h),
                    λ i. new_batch (sym begins.layer i) (sym begins.slot i),
                  );
                };
                goes = begins.goes;
              }),
              begins.count ∙ (taking-count (Err free) ends first start h ∙ wanted),
            )

        few_keep : (first : PrepareOp) (start : View) → IsPreparing first start op view → IsPreparing first start after next
        few_keep first start h = record {
          layer = begins.layer ∙ h.layer;
          ids = begins.ids ∙ h.ids;
          wanted = record {
            in_layers = subst (λ (l : ℕ). l < start.config.layers) (sym begins.layer) h.wanted.in_layers;
            below = subst (λ (l : List Id). All (λ id. id.index < start.config.bodies) l) (sym begins.ids) h.wanted.below;
            few = subst (λ (l : List Id). length l ≤ MAX_TREE_BODIES) (sym begins.ids) h.wanted.few;
            rest = h.wanted.rest;
            current = h.wanted.current;
          };
          at = few_at first start h;
        }

        few_left : prepare_left after ≡ give_stage_left 0 0 begins.giving.stage
        few_left =
            ap (stage_left after) begins.stage ∙ (ap (part_left give_left) begins.is ∙ ap (λ (k : KeptBatch). left_at k begins.giving.stage) begins.kept)

        few_less : IsUnderWay IsPreparing op view → prepare_left after < prepare_left op
        few_less h =
            subst (λ (n : ℕ). prepare_left after < n) (sym left_before)
            (few-after (prepare_left after) (nodes_left op.taking) (count_of op) (need_of op) (subst (λ (n : ℕ). n ≤ 11) (sym few_left) (give-few begins.giving.stage)) (left_some h) (nodes-count h))

        unmade : entry_of after ≡ None
        unmade = ap (entry_at after) begins.stage ∙ (ap (option_and_then (λ (g : GivingUp). g.made)) begins.is ∙ begins.made)

        pub nodes-few : IsUnderWay IsPreparing op view → IsPrepareTurn More op after view next
        nodes-few h = goes-on op after view next step (subst (MadeBy view next) (sym unmade) made) few_keep (few_less h) (undoing-loads view next after taken (NoNodes free) begins)
