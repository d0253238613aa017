use Rattle.std.proofs.Common.{suc, ◌+◌, ◌-◌, ◌*◌, ◌∙◌, refl, arith}
use Rattle.word_map.specs.Names.{stripe_of}
use Rattle.core_state.specs.declared.view.Mode.TheVariants.{Write}
use Rattle.pass_table.specs.TakeTurns.{taking_of}
use Rattle.pass_table.specs.Passes.{view_of}
use Rattle.pass_table.proofs.Calling.{some-left}
use Rattle.batch_add.specs.declared.giving_up.GiveStage.TheVariants.{Striping, Striped, Cleared}
use Rattle.batch_add.proofs.GiveTurns.{went-on, take-more, take-again}
use Rattle.batch_add.proofs.GiveWork.{free-taken, free-goes}
use Rattle.batch_add.proofs.GiveBodies.{body-placed, has-none}
use Rattle.batch_add.proofs.giving_up.GivingUp.take_stripe.Goals as goal

pub returns-then-self-clause-turn : goal.returns-then-self-clause-turn
returns-then-self-clause-turn c =
    let view = view_of c.args.pass.now in
    let next = view_of c.turn.new.pass in
    let taking = c.args.taking in
    let left = some-left taking in
    went-on c.go_on.result c.args.self.now c.go_on.new.self (Striping c.args.done taking) (Striped c.args.done) view next c.go_on.ensures.more c.go_on.ensures.stage c.requires.stage c.turn.ensures.step c.turn.ensures.made
    (omega arith) tt
    (λ start before batch after begun at.
    let stripe = stripe_of start.config at.0.m.index in (at.0, free-taken start view next _ stripe (c.in-Done.ensures.answers (taking_of stripe Write) view at.2) c.turn.ensures.made at.1))

pub returns-else-self-clause-turn : goal.returns-else-self-clause-turn
returns-else-self-clause-turn c =
    let view = view_of c.args.pass.now in
    let next = view_of c.turn.new.pass in
    let taking = c.args.taking in
    let left = some-left taking in
    let done = c.args.done in
    went-on c.go_on-in-Done.result c.args.self.now c.go_on-in-Done.new.self (Striping done taking) (Cleared done) view next c.go_on-in-Done.ensures.more c.go_on-in-Done.ensures.stage c.requires.stage c.turn.ensures.step c.turn.ensures.made
    (omega arith) tt
    (λ start before batch after begun at.
    let stripe = stripe_of start.config at.0.m.index in (
      at.0,
      has-none start before batch after c.args.self.now.kept begun next done at.0 (body-placed c.args.self.now.kept batch begun.keeps done at.0 ∙ c.if-self.false)
          (free-taken start view next _ stripe (c.in-Done.ensures.answers (taking_of stripe Write) view at.2) c.turn.ensures.made at.1),
    ))

pub returns-in-More-clause-turn : goal.returns-in-More-clause-turn
returns-in-More-clause-turn c =
    let view = view_of c.args.pass.now in
    let next = view_of c.turn.new.pass in
    let taking = c.args.taking in
    let done = c.args.done in
    let kept = c.args.self.now.kept in
    take-more (Striping done) (3 * kept.node_count + 6 + 6 * (kept.marked - suc done) + 3) c.args.self.now c.go_on-in-More.new.self (λ t. refl) (λ t. refl) taking c.turn.new.self view next c.go_on-in-More.ensures.stage c.requires.stage
    c.turn.ensures.step c.turn.ensures.made c.in-More.ensures.loads
    (λ start before batch after begun at.
    let stripe = stripe_of start.config at.0.m.index in
    let on = free-goes start view next _ stripe c.turn.new.self (c.in-More.ensures.keeps (taking_of stripe Write) view at.2) c.turn.ensures.made at.1 in (at.0, on.0, on.1))
    c.go_on-in-More.result c.go_on-in-More.ensures.more c.in-More.ensures.turned

pub returns-in-Again-clause-turn : goal.returns-in-Again-clause-turn
returns-in-Again-clause-turn c =
    let view = view_of c.args.pass.now in
    let next = view_of c.turn.new.pass in
    let taking = c.args.taking in
    let done = c.args.done in
    let kept = c.args.self.now.kept in
    take-again (Striping done) (3 * kept.node_count + 6 + 6 * (kept.marked - suc done) + 3) c.args.self.now c.go_on-in-Again.new.self (λ t. refl) (λ t. refl) taking c.turn.new.self view next c.go_on-in-Again.ensures.stage c.requires.stage
    c.turn.ensures.step c.turn.ensures.made c.in-Again.ensures.loads
    (λ start before batch after begun at.
    let stripe = stripe_of start.config at.0.m.index in
    let on = free-goes start view next _ stripe c.turn.new.self (c.in-Again.ensures.keeps (taking_of stripe Write) view at.2) c.turn.ensures.made at.1 in (at.0, on.0, on.1))
    c.in-Again.lock c.in-Again.word c.in-Again.ensures.turned
