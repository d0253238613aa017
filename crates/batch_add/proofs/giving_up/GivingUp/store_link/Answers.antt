use Rattle.std.proofs.Common.{refl, arith}
use Rattle.pass_table.specs.Passes.{view_of}
use Rattle.batch_add.specs.declared.giving_up.GiveStage.TheVariants.{Headed, Linked}
use Rattle.batch_add.specs.stages.GiveSteps.{AtStage}
use Rattle.batch_add.proofs.GiveTurns.{so-far, went-by}
use Rattle.batch_add.proofs.giving_up.GivingUp.store_link.Goals as goal

pub store_link-requires-clause-so_far : goal.store_link-requires-clause-so_far
store_link-requires-clause-so_far c = (c.args.free, so-far c.args.self.now (Headed c.args.free c.args.given c.args.head) (view_of c.args.pass.now) c.requires.under_way c.requires.stage)

pub returns-clause-turn : goal.returns-clause-turn
returns-clause-turn c =
    let free = c.args.free in
    let given = c.args.given in
    went-by c.go_on.result c.args.self.now c.go_on.new.self (Headed free given c.args.head) (Linked free given) (view_of c.args.pass.now) (view_of c.store_link.new.pass) c.go_on.ensures.more c.go_on.ensures.stage c.requires.stage (omega arith) refl
    (AtStage (Linked free given)) (c.store_link.ensures.step free) (λ start before batch after begun at. at)
