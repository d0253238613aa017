-- A batch that is prepared may be given up.
use Rattle.std.specs.Prelude.{nat_eq, All}
use Rattle.std.specs.List.{IsDistinct}
use Rattle.std.proofs.Common.{◌≡◌, ℕ, ◌+◌, ◌<◌, ◌≤◌, List, [], true, length, get_or, ap, sym, ◌∙◌, subst, arith}
use Rattle.std.proofs.Math.Seq.{take-length}
use Rattle.std.proofs.lemmas.Bool.{eqb-true}
use Rattle.std.proofs.lemmas.List.{length-map, get_or-map}
use Rattle.std.proofs.lemmas.List.Elements.{Contains-get_or}
use Rattle.std.proofs.lemmas.Map.Steps.{length-le_from_distinct_below}
use Rattle.std.proofs.lemmas.Map.Views.{Contains-from_any}
use Rattle.fixed_box.specs.declared.fix_box.FixBox.{FixBox}
use Rattle.scene_model.specs.Need.{need}
use Rattle.word_map.specs.declared.name.Name.TheVariants.{PoolFree}
use Rattle.word_map.specs.Names.{node_count}
use Rattle.core_state.specs.declared.view.Marked.{Marked}
use Rattle.core_state.specs.declared.view.Batch.{Batch}
use Rattle.core_state.specs.declared.view.View.{View}
use Rattle.core_state.specs.View.{IsPass}
use Rattle.pass_table.specs.Belongings.{belongings_of}
use Rattle.pass_table.specs.declared.turn.Turn.{Turn}
use Rattle.pass_table.specs.declared.turn.Turn.TheVariants.{Done, More, Again}
use Rattle.pass_table.specs.Turning.{GoesOn, Answers}
use Rattle.pass_table.specs.Bodies.{IsCurrent}
use Rattle.pass_table.specs.Holding.{IsAtRest}
use Rattle.batch_add.specs.declared.prepared.Prepared.{Prepared}
use Rattle.batch_add.specs.Prepared.{IsTheBatch}
use Rattle.batch_add.specs.declared.kept_batch.KeptBatch.{KeptBatch}
use Rattle.batch_add.specs.declared.giving_up.GivingUp.{GivingUp}
use Rattle.batch_add.specs.declared.aborting.AbortOp.{AbortOp}
use Rattle.batch_add.specs.Parts.{StoresFrom, HasGivenUp}
use Rattle.batch_add.specs.stages.Keeping.{IsBegunFor}
use Rattle.batch_add.specs.stages.GivingUp.{IsGivingUp, HasGiven}
use Rattle.batch_add.specs.stages.Aborting.{kept_of, IsAborting, HasAbortedAny}
use Rattle.batch_add.specs.Answers.{HasAborted}
use Rattle.batch_add.proofs.Drawn.{root-made}
use Rattle.batch_add.proofs.Staying.{goes-beside}

-- numbers below another, each once, are no more than that one
few-below : (xs : List ℕ) (n : ℕ) → IsDistinct nat_eq xs → All (λ x. x < n) xs → length xs ≤ n
few-below xs n once below =
    length-le_from_distinct_below xs n once
    (λ q any. let among = Contains-from_any eqb-true q xs any in subst (λ (m : ℕ). m < n) among.2 (below among.0 q among.1))

module _ (prepared : Prepared) (view : View) (before : List Batch) (batch : Batch) (after : List Batch) (bodies : List (ℕ × FixBox)) (is : IsTheBatch prepared (belongings_of view) before batch after bodies) where
  -- there are no more bodies than in the world
  pub bodies-few : length prepared.indexes.items ≤ view.config.bodies
  bodies-few =
      few-below prepared.indexes.items view.config.bodies is.once
      (subst (λ (l : List ℕ). All (λ x. x < view.config.bodies) l) is.indexes
      (λ k d below.
      let less : k < length batch.marked = subst (λ (n : ℕ). k < n) (length-map batch.marked (λ (m : Marked). m.index)) below in
      let past : Marked = record { index = d; bounds = []; place = 0; is_placed = true } in
      subst (λ (x : ℕ). x < view.config.bodies) (sym (get_or-map (λ (m : Marked). m.index) batch.marked k past d less)) (is.bodies_named k past less)))

  -- and no more nodes
  pub nodes-few : length prepared.nodes.items ≤ node_count view.config
  nodes-few = subst (λ (l : List ℕ). length l ≤ node_count view.config) is.nodes (few-below batch.nodes (node_count view.config) is.drawn.distinct is.nodes_named)

  -- so it may be begun
  pub prepared-begun : IsAtRest view → IsBegunFor (kept_of prepared) view before batch after
  prepared-begun rest = record {
    among = is.among;
    keeps = record {
      layer = is.for_slot.0;
      slot = is.for_slot.1;
      room = omega arith;
      indexes = is.indexes ∙ sym (take-length prepared.indexes.items);
      placed = λ k d below. (is.drawn.placed (get_or batch.marked k d) (Contains-get_or batch.marked k d below)).0;
      node_room = omega arith;
      nodes = is.nodes ∙ sym (take-length prepared.nodes.items);
    };
    slot = is.named;
    below = is.bodies_named;
    rest = rest;
  }

  -- and once it is given up, its nodes are as many as the tree over its bodies needs, and other batches are good still
  pub aborted-so : ∥ IsCurrent view ∥₁ → (number : ℕ) → IsPass view number → (next : View) → HasGivenUp before batch after view next → HasAborted prepared view next
  aborted-so now number pass next given =
      let made = root-made is.drawn in
      let count = is.drawn.nodes in
      let some : 0 < length batch.nodes = omega arith in
      let from = given.from some in
      let many : length batch.nodes ≡ need (length prepared.indexes.items) = ap (λ (l : List ℕ). length l) is.nodes ∙ is.many in
      record {
        before = before;
        batch = batch;
        after = after;
        bodies = bodies;
        is = is;
        given = given;
        back = (from.0, subst (StoresFrom view next PoolFree from.0) (from.1 ∙ ap (λ (n : ℕ). from.0 + n) many) from.2);
        others =
            goes-beside view now number pass prepared before batch after bodies is next (ap (λ (v : View). v.config) given.done.left) (ap (λ (v : View). v.role) given.done.left)
            (ap (λ (v : View). v.batches) given.done.left) (ap (λ (v : View). v.written) given.done.left);
      }

-- what the operation answers of each batch that was good
pub aborted-any : (first : AbortOp) (start : View) (operation : AbortOp) (view : View) → IsAborting first start operation view → (last : GivingUp) (next : View) → HasGiven first.giving start last next tt → HasAbortedAny first start next
aborted-any first start operation view aborting last next given prepared good kept =
    let some = aborting.gives.some in
    let begun = prepared-begun prepared start good.before good.batch good.after good.bodies good.is some.3.rest in
    aborted-so prepared start good.before good.batch good.after good.bodies good.is aborting.current prepared.number good.pass next
    (given good.before good.batch good.after (subst (λ (k : KeptBatch). IsBegunFor k start good.before good.batch good.after) (sym kept) begun))

-- ---- turns of the operation

pub aborting-goes : (turn : Turn (Unit {0})) (first : AbortOp) (start : View) (operation : AbortOp) (view : View) → ∥ IsCurrent start ∥₁ → GoesOn turn (IsGivingUp first.giving start operation.giving view)
    → GoesOn turn (IsAborting first start operation view)
aborting-goes (Done answer) first start operation view now goes = tt
aborting-goes More first start operation view now goes = record { gives = goes; current = now }
aborting-goes (Again lock word) first start operation view now goes = record { gives = goes; current = now }

pub aborting-answers : (turn : Turn (Unit {0})) (first : AbortOp) (start : View) (operation : AbortOp) (view : View) (last : GivingUp) (next : View) → IsAborting first start operation view
    → Answers turn (HasGiven first.giving start last next) → Answers turn (λ answer. HasAbortedAny first start next)
aborting-answers (Done answer) first start operation view last next aborting given = aborted-any first start operation view aborting last next given
aborting-answers More first start operation view last next aborting given = tt
aborting-answers (Again lock word) first start operation view last next aborting given = tt
