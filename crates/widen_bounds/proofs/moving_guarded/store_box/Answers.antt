use Rattle.std.proofs.Common.{◌≡◌, ◌<◌, ℕ, subst, arith}
use Rattle.pass_table.specs.Passes.{view_of}
use Rattle.widen_bounds.specs.stages.Moving.{IsStoring}
use Rattle.widen_bounds.proofs.MoveSteps.{stored-side}
use Rattle.widen_bounds.proofs.GuardedMoves.{box-stored}
use Rattle.widen_bounds.proofs.moving_guarded.store_box.Goals as goal

pub loop-side-preserved : goal.loop-side-preserved
loop-side-preserved c =
    let side = c.loop-side.side in
    let less : side < 5 = let test = c.loop-side-test.true in omega arith in (
      c.store_side.ensures.of,
      c.store_side.ensures.boxing,
      λ steps start at. stored-side c.args.id c.args.to.now steps start (view_of c.loop-side.pass) (view_of c.store_side.new.pass) side less c.store_side.ensures.stores (c.loop-side.invariant.2 steps start at),
    )

pub returns-clause-stored : goal.returns-clause-stored
returns-clause-stored c =
    let side = c.loop-side.side in
    box-stored c.args.id c.args.to.now (view_of c.args.pass.now) (view_of c.loop-side.pass) (view_of c.store_last.new.pass) c.loop-side.pass.current
    (λ steps start at.
    let there = c.loop-side.invariant.2 steps start at in
    let same : side ≡ 5 = let few = there.few in let test = c.loop-side-test.false in omega arith in
    subst (λ (n : ℕ). IsStoring c.args.id c.args.to.now steps start (view_of c.loop-side.pass) n) same there)
    c.store_last.ensures.stores
