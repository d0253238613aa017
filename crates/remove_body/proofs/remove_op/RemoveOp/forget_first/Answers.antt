use Rattle.std.proofs.Common.{ℕ, ◌≡◌, refl, ap, sym, ◌∙◌, subst, arith}
use Rattle.body_ident.specs.Id.{Id}
use Rattle.word_map.specs.declared.name.Name.TheVariants.{LocA}
use Rattle.pass_table.specs.Passes.{view_of}
use Rattle.pass_table.specs.Stepping.{Stored}
use Rattle.core_state.specs.Removing.{MayClearLocation, clear_location}
use Rattle.remove_body.specs.declared.remove_op.RemoveStage.TheVariants.{Cleared, Forgotten}
use Rattle.remove_body.specs.stages.Removing.{AtRemove}
use Rattle.remove_body.proofs.RemoveTurns.{remove-on}
use Rattle.remove_body.proofs.RemoveSteps.{may-forget-first, first-step, first-made, first-forgotten}
use Rattle.remove_body.proofs.remove_op.RemoveOp.forget_first.Goals as goal

pub step_41-requires-clause-asks : goal.step_41-requires-clause-asks
step_41-requires-clause-asks c =
    let view = view_of c.args.pass.now in
    let way = c.requires.under_way in
    let id = way.first.id in
    let at = subst (AtRemove id way.start view c.args.self.now.look) c.requires.stage way.goes.2 in
    let same : c.index.result ≡ id.index = c.index.ensures.value ∙ ap (λ (i : Id). i.index) way.goes.0 in
    subst (λ (n : ℕ). MayClearLocation view (LocA n) 0 0) (sym same) (may-forget-first id way.start view c.args.first c.args.second at.0 c.args.pass.now.current at.1 at.2)

pub returns-clause-turn : goal.returns-clause-turn
returns-clause-turn c =
    let before = c.args.self.now in
    let view = view_of c.args.pass.now in
    let next = view_of c.step_41.new.pass in
    let way = c.requires.under_way in
    let stored : Stored MayClearLocation clear_location view (LocA before.id.index) 0 next = subst (λ (n : ℕ). Stored MayClearLocation clear_location view (LocA n) 0 next) c.index.ensures.value c.step_41.ensures.step in
    remove-on c.go_on.result before c.go_on.new.self (Cleared c.args.first c.args.second) (Forgotten c.args.second) view next c.go_on.ensures.more c.go_on.ensures.stage c.requires.stage
    (first-step before.id way.start view next way.goes.1.rest stored) (first-made before.id way.start view next way.goes.1.rest stored c.args.pass.now.number c.args.pass.now.numbered) (omega arith) tt refl
    (λ first start removing at.
    first-forgotten first.id start view next removing.1.rest (subst (λ (i : Id). Stored MayClearLocation clear_location view (LocA i.index) 0 next) removing.0 stored) before.look c.args.first c.args.second at)
