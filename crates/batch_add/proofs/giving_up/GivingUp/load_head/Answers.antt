use Rattle.std.proofs.Common.{refl, arith}
use Rattle.pass_table.specs.Passes.{view_of}
use Rattle.batch_add.specs.declared.giving_up.GiveStage.TheVariants.{Next, Headed}
use Rattle.batch_add.specs.stages.GiveSteps.{AtStage}
use Rattle.batch_add.proofs.GiveTurns.{so-far, went-by}
use Rattle.batch_add.proofs.giving_up.GivingUp.load_head.Goals as goal

pub load_head-head-requires-clause-so_far : goal.load_head-head-requires-clause-so_far
load_head-head-requires-clause-so_far c = (c.args.free, c.args.given, so-far c.args.self.now (Next c.args.free c.args.given) (view_of c.args.pass.now) c.requires.under_way c.requires.stage)

pub returns-clause-turn : goal.returns-clause-turn
returns-clause-turn c =
    let free = c.args.free in
    let given = c.args.given in
    let head = c.load_head-head.result in
    went-by c.go_on.result c.args.self.now c.go_on.new.self (Next free given) (Headed free given head) (view_of c.args.pass.now) (view_of c.load_head-head.new.pass) c.go_on.ensures.more c.go_on.ensures.stage c.requires.stage (omega arith) refl
    (AtStage (Headed free given head)) (c.load_head-head.ensures.step free given) (λ start before batch after begun at. at)
