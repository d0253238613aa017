use Rattle.std.proofs.Common.{refl, arith}
use Rattle.word_map.specs.Names.{index_lock}
use Rattle.core_state.specs.declared.view.Mode.TheVariants.{Write}
use Rattle.pass_table.specs.TakeTurns.{taking_of}
use Rattle.pass_table.specs.Passes.{view_of}
use Rattle.pass_table.proofs.Calling.{some-left}
use Rattle.body_slots.specs.declared.destroy_op.DestroyStage.TheVariants.{TakingList, Locked}
use Rattle.pass_table.proofs.Stages.{take-more, take-again}
use Rattle.body_slots.proofs.DestroyTurns.{destroy_stages, destroy-on, list-done, list-on}
use Rattle.body_slots.proofs.destroy_op.DestroyOp.take_list.Goals as goal

pub returns-in-Done-clause-turn : goal.returns-in-Done-clause-turn
returns-in-Done-clause-turn c =
    let view = view_of c.args.pass.now in
    let next = view_of c.turn.new.pass in
    let taking = c.args.taking in
    let left = some-left taking in
    destroy-on c.go_on.result c.args.self.now c.go_on.new.self (TakingList taking) Locked view next c.go_on.ensures.more c.go_on.ensures.stage c.requires.stage c.turn.ensures.step c.turn.ensures.made (omega arith) tt
    (λ first start making at. list-done first.id start view next making.1.rest (c.in-Done.ensures.answers (taking_of (index_lock start.config) Write) view at.2) c.turn.ensures.made (at.0, at.1))

pub returns-in-More-clause-turn : goal.returns-in-More-clause-turn
returns-in-More-clause-turn c =
    let view = view_of c.args.pass.now in
    let next = view_of c.turn.new.pass in
    let taking = c.args.taking in
    let after = c.turn.new.self in
    take-more destroy_stages (λ t. (c.args.self.now.look, TakingList t)) 7 (λ t. refl) (λ t. refl) c.args.self.now c.go_on-in-More.new.self taking after view next c.go_on-in-More.ensures.stage (λ i. (c.args.self.now.look, c.requires.stage i)) c.turn.ensures.step c.turn.ensures.made c.in-More.ensures.loads
    (λ first start making at. list-on first.id start view next taking after making.1.rest (c.in-More.ensures.keeps (taking_of (index_lock start.config) Write) view at.2) c.turn.ensures.made at)
    c.go_on-in-More.result c.go_on-in-More.ensures.more c.in-More.ensures.turned

pub returns-in-Again-clause-turn : goal.returns-in-Again-clause-turn
returns-in-Again-clause-turn c =
    let view = view_of c.args.pass.now in
    let next = view_of c.turn.new.pass in
    let taking = c.args.taking in
    let after = c.turn.new.self in
    take-again destroy_stages (λ t. (c.args.self.now.look, TakingList t)) 7 (λ t. refl) (λ t. refl) c.args.self.now c.go_on-in-Again.new.self taking after view next c.go_on-in-Again.ensures.stage (λ i. (c.args.self.now.look, c.requires.stage i)) c.turn.ensures.step c.turn.ensures.made c.in-Again.ensures.loads
    (λ first start making at. list-on first.id start view next taking after making.1.rest (c.in-Again.ensures.keeps (taking_of (index_lock start.config) Write) view at.2) c.turn.ensures.made at)
    c.in-Again.lock c.in-Again.word c.in-Again.ensures.turned
