use Rattle.std.proofs.Common.{◌+◌, subst, arith}
use Rattle.fixed_box.specs.declared.fix_box.FixBox.{FixBox}
use Rattle.body_ident.specs.Id.{Id}
use Rattle.pass_table.specs.Passes.{view_of}
use Rattle.widen_bounds.specs.declared.move_op.MoveStage.TheVariants.{Storing}
use Rattle.widen_bounds.specs.stages.Storing.{StoresSideOf}
use Rattle.widen_bounds.specs.stages.Moving.{stripe_taken}
use Rattle.widen_bounds.proofs.BoxStores.{side-step, side-made}
use Rattle.widen_bounds.proofs.MoveTurns.{move-on}
use Rattle.widen_bounds.proofs.MoveSteps.{stored-side, boxing-of}
use Rattle.widen_bounds.proofs.move_op.MoveOp.store_side.Goals as goal

pub store_side-requires-clause-boxing : goal.store_side-requires-clause-boxing
store_side-requires-clause-boxing c = boxing-of c.args.self.now (view_of c.args.pass.now) c.args.side c.requires.under_way c.requires.stage

pub returns-clause-turn : goal.returns-clause-turn
returns-clause-turn c =
    let before = c.args.self.now in
    let side = c.args.side in
    let less = c.requires.below in
    let view = view_of c.args.pass.now in
    let next = view_of c.store_side.new.pass in
    let boxing = boxing-of before view side c.requires.under_way c.requires.stage in
    let stores = c.store_side.ensures.stores in
    move-on c.go_on.result before c.go_on.new.self before.widening (Storing side) (Storing (side + 1)) view next c.go_on.ensures.more c.go_on.ensures.stage c.requires.stage
    (side-step before.id before.to side view next boxing stores) (side-made before.id before.to side view next boxing stores c.args.pass.now.number c.args.pass.now.numbered) (omega arith) tt
    (λ label reached. reached) (λ first start moving at label fresh below. absurd (fresh below))
    (λ first start moving at.
    stored-side first.id first.to (stripe_taken start.config first.id) start view next side less
    (subst (λ (i : Id). StoresSideOf i first.to side view next) moving.id (subst (λ (t : FixBox). StoresSideOf before.id t side view next) moving.to stores)) at)
