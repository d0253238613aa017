-- The turns of marking the bodies of a batch, as turns of its preparation.
use Rattle.std.specs.Prelude.{All, take, option_and_then}
use Rattle.std.proofs.Common.{◌≡◌, ℕ, ◌+◌, ◌*◌, ◌<◌, ◌≤◌, false, List, [], ◌∷◌, map, length, Option, Some, None, Result, Ok, Err, refl, ap, sym, ◌∙◌, subst, arith}
use Rattle.std.proofs.Math.Nat.{add_comm}
use Rattle.std.proofs.lemmas.List.{get_or-map, length-map, take_all, length-take-le, take-map}
use Rattle.std.proofs.lemmas.List.Elements.{All-map, All-take}
use Rattle.body_ident.specs.Id.{Id}
use Rattle.fixed_box.specs.declared.fix_box.FixBox.{FixBox}
use Rattle.scene_model.specs.Need.{need}
use Rattle.word_map.specs.declared.config.Config.{Config}
use Rattle.core_state.specs.declared.view.Marked.{Marked}
use Rattle.core_state.specs.declared.view.Batch.{Batch}
use Rattle.core_state.specs.declared.view.View.{View}
use Rattle.core_state.specs.Batches.{new_batch}
use Rattle.tree_plan.specs.Plan.{Plan, node_count}
use Rattle.tree_plan.proofs.Slots.{need_some}
use Rattle.pass_table.specs.declared.turn.Turn.TheVariants.{More, Again}
use Rattle.pass_table.specs.TakeTurns.{turns_after}
use Rattle.pass_table.specs.Holding.{IsAtRest}
use Rattle.pass_table.specs.Turning.{AtMostOneStep, MadeBy, Turned, IsUnderWay, LoadsNow}
use Rattle.batch_add.specs.declared.answers.PrepareRefused.{PrepareRefused}
use Rattle.batch_add.specs.declared.mark_op.MarkRefused.{MarkRefused}
use Rattle.batch_add.specs.declared.mark_op.Marking.{Marking}
use Rattle.batch_add.specs.declared.draw_stage.DrawStage.{DrawStage}
use Rattle.batch_add.specs.declared.draw_stage.DrawStage.TheVariants.{Child, Side, Placing, Parent}
use Rattle.batch_add.specs.declared.tree_drawing.TreeDrawing.{TreeDrawing}
use Rattle.batch_add.specs.declared.giving_up.GiveStage.{GiveStage}
use Rattle.batch_add.specs.declared.giving_up.GiveStage.TheVariants.{Striping, Striped, Cleared, Unmarked, Bare, Locking, Locked, Next, Headed, Linked, Given, Counted}
use Rattle.batch_add.specs.declared.giving_up.GivingUp.{GivingUp}
use Rattle.batch_add.specs.declared.kept_batch.KeptBatch.{KeptBatch}
use Rattle.batch_add.specs.declared.prepare_op.Undone.{Undone}
use Rattle.batch_add.specs.declared.prepare_op.Undone.TheVariants.{Mark as NoMark}
use Rattle.batch_add.specs.declared.prepare_op.PrepareStage.{PrepareStage}
use Rattle.batch_add.specs.declared.prepare_op.PrepareStage.TheVariants.{Marking as MarkingStage}
use Rattle.batch_add.specs.declared.prepare_op.PrepareOp.{PrepareOp}
use Rattle.batch_add.specs.Parts.{HasReserved, HasNodes, HasMarked, HasMarkedBefore, marked_as, HasGivenUp}
use Rattle.batch_add.specs.stages.Marking.{IsMarking, HasMadeMarks, mark_left, marked_bodies, mark_takes}
use Rattle.batch_add.specs.stages.DrawStages.{IsToDraw, IsOfPlan, IsDrawing, draw_left, stage_left as draw_stage_left}
use Rattle.batch_add.specs.stages.Keeping.{IsBegunFor}
use Rattle.batch_add.specs.stages.GivingUp.{IsGivingUp, give_left, stage_left as give_stage_left, left_at}
use Rattle.batch_add.specs.stages.Preparing.{CanPlan, ids_of, count_of, need_of, HasSlotAndNodes, with_slot_nodes, with_marks, IsWanted, IsInPart, IsInSome, CameToMarks, CameToDraw, CameToGive, HasFailed, AtPrepare, IsPreparing, HasPreparedOr, BeginsTree, BeginsUndoing, kept_of, refusal_of, left_after, part_left, stage_left, prepare_left, entry_at, entry_of, IsPrepareTurn, takes_at}
use Rattle.batch_add.proofs.TakingNodes.{taken-newest}
use Rattle.batch_add.specs.Answers.{WasRefused}
use Rattle.batch_add.proofs.PrepareGives.{refused-so}
use Rattle.batch_add.proofs.PartTurns.{goes-on, part-more, part-again, undoing-loads}
use Rattle.tree_plan.specs.declared.node_count.TheConstants.{MAX_TREE_BODIES}

-- ---- operations for the same bodies

-- what is known of slot and nodes is so for each operation for the same slot and ids
pub same-has : (a b : PrepareOp) (start mid : View) (nodes : List ℕ) → b.layer ≡ a.layer → b.slot ≡ a.slot → ids_of b ≡ ids_of a → HasSlotAndNodes a start mid nodes → HasSlotAndNodes b start mid nodes
same-has a b start mid nodes layer slot ids has = record {
  reserved_at = has.reserved_at;
  reserved =
      subst (λ (l : ℕ). HasReserved l start has.reserved_at b.slot) (sym layer)
      (subst (λ (s : ℕ). HasReserved a.layer start has.reserved_at s) (sym slot) has.reserved);
  taken =
      subst (λ (l : ℕ). HasNodes (need_of b) start.batches (new_batch l b.slot) has.reserved_at mid nodes) (sym layer)
      (subst (λ (s : ℕ). HasNodes (need_of b) start.batches (new_batch a.layer s) has.reserved_at mid nodes) (sym slot)
      (subst (λ (l : List Id). HasNodes (need (length l)) start.batches (new_batch a.layer a.slot) has.reserved_at mid nodes) (sym ids) has.taken));
}

pub same-wanted : (a b : PrepareOp) (start : View) → b.layer ≡ a.layer → ids_of b ≡ ids_of a → IsWanted a start → IsWanted b start
same-wanted a b start layer ids wanted = record {
  in_layers = subst (λ (l : ℕ). l < start.config.layers) (sym layer) wanted.in_layers;
  below = subst (λ (l : List Id). All (λ (id : Id). id.index < start.config.bodies) l) (sym ids) wanted.below;
  few = subst (λ (l : List Id). length l ≤ MAX_TREE_BODIES) (sym ids) wanted.few;
  rest = wanted.rest;
  current = wanted.current;
}

-- the sizes are those of the world
pub nodes-sizes : (operation : PrepareOp) (start mid : View) (nodes : List ℕ) → HasSlotAndNodes operation start mid nodes → mid.config ≡ start.config
nodes-sizes operation start mid nodes has = ap (λ (v : View). v.config) has.taken.done.left ∙ ap (λ (v : View). v.config) has.reserved.done.left

-- ---- the marking goes on

module _ (before : PrepareOp) (marking : Marking) (view next : View) (stage : before.stage ≡ MarkingStage) where
  abbrev on : PrepareOp
  on = record before { marking = marking }

  at_marks : (first : PrepareOp) (start : View) → IsPreparing first start before view → AtPrepare before start view MarkingStage
  at_marks first start preparing = subst (AtPrepare before start view) stage preparing.at

  abbrev Keeps : Type 0
  Keeps = (first : Marking) (start : View) → IsMarking first start before.marking view → IsMarking first start marking next

  pub marks-begun : IsUnderWay IsPreparing before view → IsUnderWay IsMarking before.marking view
  marks-begun under =
      let at = at_marks under.first under.start under.goes in
      record { first = at.1.first; start = at.1.mid; goes = at.1.goes }

  module _ (keeps : Keeps) where
    same_ids : (first : PrepareOp) (start : View) → IsPreparing first start before view → marking.ids.items ≡ ids_of before
    same_ids first start preparing =
        let part = (at_marks first start preparing).1 in
        (keeps part.first part.mid part.goes).ids ∙ sym part.goes.ids

    marks_keep : (first : PrepareOp) (start : View) → IsPreparing first start before view → IsPreparing first start on next
    marks_keep first start preparing =
        let at = at_marks first start preparing in
        let part = at.1 in
        let ids = same_ids first start preparing in
        let some : 0 < count_of on = subst (λ (l : List Id). 0 < length l) (sym ids) at.0 in
        let goes : IsInPart IsMarking (CameToMarks on start) marking next =
        record {
          mid = part.mid;
          first = part.first;
          so = record { has = same-has before on start part.mid before.taking.nodes.items refl refl ids part.so.has; layer = part.so.layer; slot = part.so.slot };
          goes = keeps part.first part.mid part.goes;
        }
        in
        record {
          layer = preparing.layer;
          ids = ids ∙ preparing.ids;
          wanted = same-wanted before on start refl ids preparing.wanted;
          at =
              subst (AtPrepare on start next) (sym stage) (
                some,
                goes,
                record {
                  plans = subst (λ (l : List Id). CanPlan (length l) before.plans) (sym ids) at.2.plans;
                  indexes = at.2.indexes ∙ ap (λ (l : List Id). map (λ (id : Id). id.index) l) (sym ids);
                },
                at.3 ∙ ap (λ (l : List Id). need (length l)) (sym ids),
              );
        }

    module _ (under : IsUnderWay IsPreparing before view) (step : AtMostOneStep view next) (made : MadeBy view next marking.made) where
      abbrev more : ℕ
      more = left_after (count_of before) (need_of before)

      left_before : prepare_left before ≡ more + mark_left before.marking
      left_before = ap (stage_left before) stage ∙ add_comm (mark_left before.marking) more

      left_on : prepare_left on ≡ more + mark_left marking
      left_on =
          ap (stage_left on) stage
          ∙ (ap (λ (l : List Id). mark_left marking + left_after (length l) (need (length l))) (same_ids under.first under.start under.goes) ∙ add_comm (mark_left marking) more)

      made_on : MadeBy view next (entry_of on)
      made_on = subst (λ (s : PrepareStage). MadeBy view next (entry_at on s)) (sym stage) made

      pub marks-more : Turned {T = Result (Unit {0}) MarkRefused} More view next (mark_takes before.marking) (mark_left before.marking) (mark_left marking) → LoadsNow view next (mark_takes marking) → IsPrepareTurn More before on view next
      marks-more turned loads = part-more before on view next step made_on marks_keep (Result (Unit {0}) MarkRefused) more (mark_left before.marking) (mark_left marking) left_before left_on (mark_takes before.marking) (mark_takes marking) (ap (takes_at before) stage) (ap (takes_at on) stage) turned loads

      pub marks-again : (lock word : ℕ) → Turned {T = Result (Unit {0}) MarkRefused} (Again lock word) view next (mark_takes before.marking) (mark_left before.marking) (mark_left marking) → LoadsNow view next (mark_takes marking) → IsPrepareTurn (Again lock word) before on view next
      marks-again lock word turned loads =
          part-again before on view next step made_on marks_keep (Result (Unit {0}) MarkRefused) more (mark_left before.marking) (mark_left marking) left_before left_on (mark_takes before.marking) (mark_takes marking) (ap (takes_at before) stage) (ap (takes_at on) stage) lock word turned loads

-- ---- lists

pub from_map : {X Y : Type 0} (P : Y → Type 0) (f : X → Y) (xs : List X) → All P (map f xs) → All (λ x. P (f x)) xs
from_map P f xs all k d below = subst P (get_or-map f xs k d (f d) below) (all k (f d) (subst (λ (n : ℕ). k < n) (sym (length-map xs f)) below))

pub map_twice : {X Y Z : Type 0} (f : Y → Z) (g : X → Y) (xs : List X) → map f (map g xs) ≡ map (λ x. f (g x)) xs
map_twice f g [] = refl
map_twice f g (x ∷ xs) = ap (λ (l : List _). f (g x) ∷ l) (map_twice f g xs)

-- bodies with the indexes of some ids are as low as these
bodies_below : (bodies : List (ℕ × FixBox)) (ids : List Id) (most : ℕ) → map (λ b. b.0) bodies ≡ map (λ (id : Id). id.index) ids → All (λ (id : Id). id.index < most) ids → All (λ b. b.0 < most) bodies
bodies_below bodies ids most same below =
    from_map (λ (n : ℕ). n < most) (λ (b : ℕ × FixBox). b.0) bodies
    (subst (λ (l : List ℕ). All (λ (n : ℕ). n < most) l) (sym same) (All-map (λ (n : ℕ). n < most) (λ (id : Id). id.index) ids below))

-- ---- all are marked

module _ (before : PrepareOp) (marking : Marking) (view next : View) (stage : before.stage ≡ MarkingStage)
    (ends : (first : Marking) (start : View) → IsMarking first start before.marking view → HasMadeMarks first start marking next (Ok tt)) where
  pub record AllMarked (start : View) : Type 0 where
    pub mid : View
    pub has : HasSlotAndNodes before start mid before.taking.nodes.items
    ids : marking.ids.items ≡ ids_of before
    room : length marking.bodies.items ≡ count_of before
    made : marking.made ≡ None
    pub marked : HasMarked start.batches (with_slot_nodes before.layer before.slot before.taking.nodes.items) (ids_of before) mid next marking.bodies.items

  module _ (first : PrepareOp) (start : View) (preparing : IsPreparing first start before view) where
    all_at : AtPrepare before start view MarkingStage
    all_at = subst (AtPrepare before start view) stage preparing.at

    pub all_marked : AllMarked start
    all_marked =
        let part = all_at.1 in
        let makes = ends part.first part.mid part.goes in
        let taken = part.so.has.taken in
        let newest = taken-newest (need_of before) start.batches (new_batch before.layer before.slot) part.so.has.reserved_at part.mid before.taking.nodes.items taken in
        let ids = sym part.goes.ids in
        record {
          mid = part.mid;
          has = part.so.has;
          ids = makes.ids ∙ ids;
          room = makes.room ∙ ap (λ (l : List Id). length l) ids;
          made = makes.made;
          marked =
              subst
              (λ (l : List Id). HasMarked start.batches (with_slot_nodes before.layer before.slot before.taking.nodes.items) l part.mid next marking.bodies.items)
              ids (makes.is start.batches (with_slot_nodes before.layer before.slot before.taking.nodes.items) newest);
        }

  pub all-rest : IsUnderWay IsPreparing before view → IsAtRest next
  all-rest under = (all_marked under.first under.start under.goes).marked.done.rest

  pub all-plans : IsUnderWay IsPreparing before view → CanPlan (length marking.bodies.items) before.plans
  all-plans under =
      subst (λ (n : ℕ). CanPlan n before.plans) (sym (all_marked under.first under.start under.goes).room) (all_at under.first under.start under.goes).2.plans

  pub all-to_draw : IsUnderWay IsPreparing before view → IsToDraw next marking.bodies.items before.taking.nodes.items
  all-to_draw under =
      let start = under.start in
      let all = all_marked under.first start under.goes in
      let sizes : next.config ≡ start.config = ap (λ (v : View). v.config) all.marked.done.left ∙ nodes-sizes before start all.mid before.taking.nodes.items all.has in
      let reserved_sizes : all.has.reserved_at.config ≡ start.config = ap (λ (v : View). v.config) all.has.reserved.done.left in
      record {
        before = start.batches;
        batch = with_marks (with_slot_nodes before.layer before.slot before.taking.nodes.items) marking.bodies.items;
        newest = ap (λ (v : View). v.batches) all.marked.done.left;
        marked = refl;
        nodes_are = refl;
        many = all.has.taken.many ∙ ap need (sym all.room);
        below = subst (λ (c : Config). All (λ (n : ℕ). n < c.nodes) before.taking.nodes.items) (reserved_sizes ∙ sym sizes) all.has.taken.below;
        distinct = all.has.taken.distinct;
        some = subst (λ (n : ℕ). 0 < n) (sym all.room) (all_at under.first start under.goes).0;
        apart = all.marked.apart;
        indexes =
            bodies_below marking.bodies.items (ids_of before) next.config.bodies all.marked.indexes
            (subst (λ (c : Config). All (λ (id : Id). id.index < c.bodies) (ids_of before)) (sym sizes) under.goes.wanted.below);
      }

-- ---- the tree is begun

-- at most 33 turns are left for each node
draw_few : (plan : Plan) (stage : DrawStage) → IsOfPlan plan stage → draw_stage_left (node_count plan) stage ≤ 33 * node_count plan
draw_few plan (Child n k) at = let below = at.0 in omega arith
draw_few plan (Side n k q) at = let below = at.0 in omega arith
draw_few plan (Placing n k index) at = let below = at.0 in omega arith
draw_few plan (Parent n) at = let below : n < node_count plan = at in omega arith

fewer_to_draw : (after draw many count nodes marks bodies before : ℕ) → after ≡ draw → draw ≤ 33 * count → nodes ≡ count → nodes ≡ many → before ≡ marks + left_after bodies many → after < before
fewer_to_draw after draw many count nodes marks bodies before is few same needed was = omega arith

module _ (before : PrepareOp) (marking : Marking) (after : PrepareOp) (view next : View) (stage : before.stage ≡ MarkingStage)
    (ends : (first : Marking) (start : View) → IsMarking first start before.marking view → HasMadeMarks first start marking next (Ok tt)) (begins : BeginsTree (record before { marking = marking }) after next) where
  module _ (first : PrepareOp) (start : View) (preparing : IsPreparing first start before view) where
    tree_all : AllMarked before marking view next stage ends start
    tree_all = all_marked before marking view next stage ends first start preparing

    tree_ids : ids_of after ≡ ids_of before
    tree_ids = begins.ids ∙ tree_all.ids

    tree_came : CameToDraw after start next begins.drawing
    tree_came = record {
      taken_at = tree_all.mid;
      bodies = marking.bodies.items;
      has =
          subst (λ (l : List ℕ). HasSlotAndNodes after start tree_all.mid l) (sym begins.nodes)
          (same-has before after start tree_all.mid before.taking.nodes.items begins.layer begins.slot tree_ids tree_all.has);
      marked =
          subst (λ (b : Batch). HasMarked start.batches b (ids_of after) tree_all.mid next marking.bodies.items)
          (λ i. with_slot_nodes (sym begins.layer i) (sym begins.slot i) (sym begins.nodes i))
          (subst
          (λ (l : List Id). HasMarked start.batches (with_slot_nodes before.layer before.slot before.taking.nodes.items) l tree_all.mid next marking.bodies.items)
          (sym tree_ids) tree_all.marked);
      same = begins.bodies;
    }

    pub tree_begun : IsPreparing first start after next
    tree_begun =
        let at = all_at before marking view next stage ends first start preparing in
        let goes : IsInPart IsDrawing (CameToDraw after start) begins.drawing next = record { mid = next; first = begins.drawing; so = tree_came; goes = begins.goes } in
        record {
          layer = begins.layer ∙ preparing.layer;
          ids = tree_ids ∙ preparing.ids;
          wanted = same-wanted before after start begins.layer tree_ids preparing.wanted;
          at =
              subst (AtPrepare after start next) (sym begins.stage) (
                subst (λ (o : Option TreeDrawing). IsInSome IsDrawing (CameToDraw after start) o next) (sym begins.is) goes,
                ap (λ v. v.items) begins.indexes ∙ (at.2.indexes ∙ ap (λ (l : List Id). map (λ (id : Id). id.index) l) (sym tree_ids)),
              );
        }

    tree_less : prepare_left after < prepare_left before
    tree_less =
        let goes = begins.goes.1 in
        fewer_to_draw (prepare_left after) (draw_left begins.drawing) (need_of before) (node_count begins.drawing.planner) (length begins.drawing.nodes.items) (mark_left before.marking) (count_of before)
        (prepare_left before) (ap (stage_left after) begins.stage ∙ ap (part_left draw_left) begins.is) (draw_few begins.drawing.planner begins.drawing.stage goes.0) goes.1.begun_so.many
        (ap (λ (l : List ℕ). length l) begins.nodes ∙ tree_all.has.taken.many) (ap (stage_left before) stage)

  pub marks-done : IsUnderWay IsPreparing before view → AtMostOneStep view next → MadeBy view next marking.made → IsPrepareTurn More before after view next
  marks-done under step made =
      goes-on before after view next step
      (subst (λ (s : PrepareStage). MadeBy view next (entry_at after s)) (sym begins.stage)
      (subst (MadeBy view next) (tree_all under.first under.start under.goes).made made))
      tree_begun (tree_less under.first under.start under.goes) (subst (LoadsNow view next) (sym (ap (takes_at after) begins.stage)) tt)

-- ---- one is refused

-- so many turns are left at most of giving a batch up
two_turns : (loaded : Option ℕ) → turns_after loaded ≤ 2
two_turns None = omega arith
two_turns (Some word) = omega arith

pub give_few : (bodies nodes : ℕ) (stage : GiveStage) → give_stage_left bodies nodes stage ≤ 3 * nodes + 6 * bodies + 11
give_few bodies nodes (Striping done taking) = let few = two_turns taking.loaded in omega arith
give_few bodies nodes (Striped done) = omega arith
give_few bodies nodes (Cleared done) = omega arith
give_few bodies nodes (Unmarked done) = omega arith
give_few bodies nodes Bare = omega arith
give_few bodies nodes (Locking taking) = let few = two_turns taking.loaded in omega arith
give_few bodies nodes Locked = omega arith
give_few bodies nodes (Next free given) = omega arith
give_few bodies nodes (Headed free given head) = omega arith
give_few bodies nodes (Linked free given) = omega arith
give_few bodies nodes (Given free) = omega arith
give_few bodies nodes Counted = omega arith

fewer_to_give : (after give marked count many marks bodies before : ℕ) → after ≡ give → give ≤ 3 * count + 6 * marked + 11 → count ≡ many → 1 ≤ many → marked ≤ bodies → before ≡ marks + left_after bodies many → after < before
fewer_to_give after give marked count many marks bodies before is few same some within was = omega arith

module _ (before : PrepareOp) (marking : Marking) (view next : View) (refused : MarkRefused) (stage : before.stage ≡ MarkingStage)
    (ends : (first : Marking) (start : View) → IsMarking first start before.marking view → HasMadeMarks first start marking next (Err refused)) where
  abbrev bodies : List (ℕ × FixBox)
  bodies = marked_bodies marking

  abbrev its_batch : PrepareOp → Batch
  its_batch operation = with_marks (with_slot_nodes operation.layer operation.slot before.taking.nodes.items) bodies

  abbrev undone : Undone
  undone = NoMark marking.marked refused

  record SomeMarked (start : View) : Type 0 where
    mid : View
    has : HasSlotAndNodes before start mid before.taking.nodes.items
    ids : marking.ids.items ≡ ids_of before
    many : length bodies ≡ marking.marked
    within : marking.marked ≤ count_of before
    made : marking.made ≡ None
    marked : HasMarkedBefore start.batches (with_slot_nodes before.layer before.slot before.taking.nodes.items) (ids_of before) mid next bodies refused

  module _ (first : PrepareOp) (start : View) (preparing : IsPreparing first start before view) where
    some_at : AtPrepare before start view MarkingStage
    some_at = subst (AtPrepare before start view) stage preparing.at

    some_marked : SomeMarked start
    some_marked =
        let part = some_at.1 in
        let makes = ends part.first part.mid part.goes in
        let newest = taken-newest (need_of before) start.batches (new_batch before.layer before.slot) part.so.has.reserved_at part.mid before.taking.nodes.items part.so.has.taken in
        let ids = sym part.goes.ids in
        record {
          mid = part.mid;
          has = part.so.has;
          ids = makes.ids ∙ ids;
          many = length-take-le marking.marked marking.bodies.items (subst (λ (n : ℕ). marking.marked ≤ n) (sym makes.room) makes.within);
          within = subst (λ (l : List Id). marking.marked ≤ length l) ids makes.within;
          made = makes.made;
          marked =
              subst (λ (l : List Id). HasMarkedBefore start.batches (with_slot_nodes before.layer before.slot before.taking.nodes.items) l part.mid next bodies refused) ids
              (makes.is start.batches (with_slot_nodes before.layer before.slot before.taking.nodes.items) newest);
        }

    some_begun : IsBegunFor (kept_of (record before { marking = marking }) undone) next start.batches (its_batch before) []
    some_begun =
        let so = some_marked in
        let marks = so.marked.first in
        let at = some_at in
        let sizes : next.config ≡ start.config = ap (λ (v : View). v.config) marks.done.left ∙ nodes-sizes before start so.mid before.taking.nodes.items so.has in
        let needed : length before.taking.nodes.items ≡ before.taking.count = so.has.taken.many ∙ sym at.3 in
        let placed : (body : ℕ × FixBox) → (marked_as body).is_placed ≡ false = λ body. refl in
        record {
          among = ap (λ (v : View). v.batches) marks.done.left;
          keeps = record {
            layer = refl;
            slot = refl;
            room =
                subst (λ (l : List ℕ). marking.marked ≤ length l) (sym at.2.indexes)
                (subst (λ (n : ℕ). marking.marked ≤ n) (sym (length-map (ids_of before) (λ (id : Id). id.index))) so.within);
            indexes =
                map_twice (λ (m : Marked). m.index) marked_as bodies
                ∙ (marks.indexes
                ∙ (sym (take-map (λ (id : Id). id.index) (length bodies) (ids_of before))
                ∙ (λ i. take (so.many i) (sym at.2.indexes i))));
            placed = All-map (λ (m : Marked). m.is_placed ≡ false) marked_as bodies (λ k d below. refl);
            node_room = subst (λ (n : ℕ). before.taking.count ≤ n) (sym needed) (omega arith);
            nodes = sym (take_all before.taking.count before.taking.nodes.items (subst (λ (n : ℕ). n ≤ before.taking.count) (sym needed) (omega arith)));
          };
          slot = subst (λ (c : Config). (before.layer < c.layers) × (before.slot < c.slots)) (sym sizes) (preparing.wanted.in_layers, so.has.reserved.below);
          below =
              All-map (λ (m : Marked). m.index < next.config.bodies) marked_as bodies
              (bodies_below bodies (take (length bodies) (ids_of before)) next.config.bodies marks.indexes
              (All-take (λ (id : Id). id.index < next.config.bodies) (length bodies) (ids_of before)
              (subst (λ (c : Config). All (λ (id : Id). id.index < c.bodies) (ids_of before)) (sym sizes) preparing.wanted.below)));
          rest = marks.done.rest;
        }

  pub undoing-begun : IsUnderWay IsPreparing before view
      → (earlier : List Batch) × (batch : Batch) × IsBegunFor (kept_of (record before { marking = marking }) undone) next earlier batch []
  undoing-begun under = (under.start.batches, its_batch before, some_begun under.first under.start under.goes)

  -- ---- all is undone at once

  -- then it was refused for its reason
  module _ (after : View) (given : (earlier : List Batch) (batch : Batch) → IsBegunFor (kept_of (record before { marking = marking }) undone) next earlier batch [] → HasGivenUp earlier batch [] next after)
      (refusal : PrepareRefused) (is : refusal ≡ refusal_of before.taking.count undone) where
    pub undone-refused : (first : PrepareOp) (start : View) → IsPreparing first start before view → HasPreparedOr first start after (Err refusal)
    undone-refused first start preparing =
        let so = some_marked first start preparing in
        let at = some_at first start preparing in
        let failed : HasFailed before start next (its_batch before) undone = (so.mid, before.taking.nodes.items, bodies, so.has, so.marked, so.many, refl) in
        let why : refusal ≡ refusal_of (need_of before) undone = is ∙ ap (λ (n : ℕ). refusal_of n undone) at.3 in
        let refused_so =
        refused-so before start next after preparing.wanted.current (its_batch before) (given start.batches (its_batch before) (some_begun first start preparing)) undone failed
        in
        subst (λ (l : ℕ). WasRefused l (ids_of first) start after refusal) preparing.layer
        (subst (λ (l : List Id). WasRefused before.layer l start after refusal) preparing.ids
        (subst (WasRefused before.layer (ids_of before) start after) (sym why) refused_so))

  -- ---- undoing is begun

  module _ (after : PrepareOp) (begins : BeginsUndoing (record before { marking = marking }) undone after next) where
    module _ (first : PrepareOp) (start : View) (preparing : IsPreparing first start before view) where
      so_far : SomeMarked start
      so_far = some_marked first start preparing

      undo_ids : ids_of after ≡ ids_of before
      undo_ids = begins.ids ∙ so_far.ids

      undo_came : CameToGive after start undone next begins.giving
      undo_came = record {
        batch = its_batch before;
        begun = subst (λ (k : KeptBatch). IsBegunFor k next start.batches (its_batch before) []) (sym begins.kept) (some_begun first start preparing);
        failed = (
          so_far.mid,
          before.taking.nodes.items,
          bodies,
          same-has before after start so_far.mid before.taking.nodes.items begins.layer begins.slot undo_ids so_far.has,
          subst (λ (b : Batch). HasMarkedBefore start.batches b (ids_of after) so_far.mid next bodies refused)
              (λ i. with_slot_nodes (sym begins.layer i) (sym begins.slot i) before.taking.nodes.items)
              (subst
              (λ (l : List Id). HasMarkedBefore start.batches (with_slot_nodes before.layer before.slot before.taking.nodes.items) l so_far.mid next bodies refused)
              (sym undo_ids) so_far.marked),
          so_far.many,
          λ i. with_marks (with_slot_nodes (sym begins.layer i) (sym begins.slot i) before.taking.nodes.items) bodies,
        );
      }

      pub undo_begun : IsPreparing first start after next
      undo_begun =
          let at = some_at first start preparing in
          let goes : IsInPart IsGivingUp (CameToGive after start undone) begins.giving next = record { mid = next; first = begins.giving; so = undo_came; goes = begins.goes } in
          record {
            layer = begins.layer ∙ preparing.layer;
            ids = undo_ids ∙ preparing.ids;
            wanted = same-wanted before after start begins.layer undo_ids preparing.wanted;
            at =
                subst (AtPrepare after start next) (sym begins.stage) (
                  subst (λ (o : Option GivingUp). IsInSome IsGivingUp (CameToGive after start undone) o next) (sym begins.is) goes,
                  begins.count ∙ (at.3 ∙ ap (λ (l : List Id). need (length l)) (sym undo_ids)),
                );
          }

      undo_less : prepare_left after < prepare_left before
      undo_less =
          let at = some_at first start preparing in
          fewer_to_give (prepare_left after) (give_left begins.giving) marking.marked before.taking.count (need_of before) (mark_left before.marking) (count_of before) (prepare_left before)
          (ap (stage_left after) begins.stage ∙ ap (part_left give_left) begins.is)
          (subst (λ (k : KeptBatch). left_at k begins.giving.stage ≤ 3 * before.taking.count + 6 * marking.marked + 11) (sym begins.kept) (give_few marking.marked before.taking.count begins.giving.stage))
          at.3 (need_some (count_of before) at.0) so_far.within (ap (stage_left before) stage)

    pub marks-refused : IsUnderWay IsPreparing before view → AtMostOneStep view next → MadeBy view next marking.made → IsPrepareTurn More before after view next
    marks-refused under step made =
        goes-on before after view next step
        (subst (λ (s : PrepareStage). MadeBy view next (entry_at after s)) (sym begins.stage)
        (subst (MadeBy view next) ((so_far under.first under.start under.goes).made ∙ sym (ap (option_and_then (λ (g : GivingUp). g.made)) begins.is ∙ begins.made)) made))
        undo_begun (undo_less under.first under.start under.goes) (undoing-loads view next after _ undone begins)
