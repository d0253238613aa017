use Rattle.std.proofs.Common.{◌≡◌, ◌+◌, ℕ, subst, arith}
use Rattle.pass_table.specs.Passes.{view_of}
use Rattle.pass_table.specs.Turning.{IsUnderWay}
use Rattle.tree_plan.specs.Plan.{child_at}
use Rattle.batch_add.specs.declared.draw_stage.DrawStage.{DrawStage}
use Rattle.batch_add.specs.declared.draw_stage.DrawStage.TheVariants.{Side}
use Rattle.batch_add.specs.stages.DrawStages.{at_stage, after_side, sides_done, Draws, IsDrawing}
use Rattle.batch_add.proofs.WholeTree.{draws-turn, draws-then, under-draws, sides-next, sides-more}
use Rattle.batch_add.proofs.tree_drawing.TreeDrawing.draw_sides.Goals as goal

pub loop-number-init : goal.loop-number-init
loop-number-init c = (c.requires.of, λ first start goes. goes)

pub put_side-requires-clause-under_way : goal.put_side-requires-clause-under_way
put_side-requires-clause-under_way c =
    let operation = c.args.self.now in
    let n = c.args.node in
    let k = c.args.child in
    let q = c.loop-number.number in
    let child = child_at operation.planner n k in
    let view = view_of c.loop-number.pass in
    subst (λ (s : DrawStage). IsUnderWay IsDrawing (at_stage operation s) view) (sides-next n k q child (omega arith))
    (under-draws operation (Side n k 0) (sides_done n k q child) (view_of c.args.pass.now) view c.loop-number.invariant.1 c.requires.under_way)

pub loop-number-preserved : goal.loop-number-preserved
loop-number-preserved c =
    let operation = c.args.self.now in
    let n = c.args.node in
    let k = c.args.child in
    let q = c.loop-number.number in
    let child = child_at operation.planner n k in
    let begun = view_of c.args.pass.now in
    let view = view_of c.loop-number.pass in
    let next = view_of c.put_side.new.pass in
    let so = subst (λ (s : DrawStage). Draws operation (Side n k 0) begun s view) (sides-next n k q child (omega arith)) c.loop-number.invariant.1 in
    let one = subst (λ (s : DrawStage). Draws operation (Side n k q) view s next) (sides-more n k q child) (draws-turn operation (Side n k q) (after_side n k q child) view next c.put_side.ensures.turn) in
    (c.put_side.ensures.of, draws-then operation (Side n k 0) (Side n k q) (sides_done n k (q + 1) child) begun view next so one)

pub returns-clause-draws : goal.returns-clause-draws
returns-clause-draws c =
    let operation = c.args.self.now in
    let n = c.args.node in
    let k = c.args.child in
    let all : c.loop-number.number ≡ 6 = omega arith in
    subst (λ (q : ℕ). Draws operation (Side n k 0) (view_of c.args.pass.now) (sides_done n k q (child_at operation.planner n k)) (view_of c.loop-number.pass)) all c.loop-number.invariant.1
