use Rattle.std.proofs.Common.{◌≡◌, ◌+◌, ◌<◌, refl, arith}
use Rattle.pass_table.specs.Passes.{view_of}
use Rattle.batch_add.specs.declared.giving_up.GiveStage.TheVariants.{Next, Linked, Given}
use Rattle.batch_add.specs.stages.GiveSteps.{HasPut}
use Rattle.batch_add.proofs.GiveTurns.{so-far, went-by}
use Rattle.batch_add.proofs.GiveNodes.{node-less, node-next, nodes-done}
use Rattle.batch_add.proofs.giving_up.GivingUp.put_in_front.Goals as goal

pub put_in_front-requires-clause-so_far : goal.put_in_front-requires-clause-so_far
put_in_front-requires-clause-so_far c = (c.args.free, so-far c.args.self.now (Linked c.args.free c.args.given) (view_of c.args.pass.now) c.requires.under_way c.requires.stage)

pub overflow_sub-last : goal.overflow_sub-last
overflow_sub-last c =
    let now = so-far c.args.self.now (Linked c.args.free c.args.given) (view_of c.args.pass.now) c.requires.under_way c.requires.stage in
    let less = node-less c.args.self.now.kept now.batch now.begun.keeps c.args.given now.at.0.at in
    omega arith

pub overflow_add-given : goal.overflow_add-given
overflow_add-given c =
    let now = so-far c.args.self.now (Linked c.args.free c.args.given) (view_of c.args.pass.now) c.requires.under_way c.requires.stage in
    let less = node-less c.args.self.now.kept now.batch now.begun.keeps c.args.given now.at.0.at in
    omega arith

pub returns-then-given-last-clause-turn : goal.returns-then-given-last-clause-turn
returns-then-given-last-clause-turn c =
    let operation = c.args.self.now in
    let kept = operation.kept in
    let view = view_of c.args.pass.now in
    let next = view_of c.put_in_front.new.pass in
    let free = c.args.free in
    let given = c.args.given in
    let now = so-far operation (Linked free given) view c.requires.under_way c.requires.stage in
    let less = node-less kept now.batch now.begun.keeps given now.at.0.at in
    let same = c.if-given-last.true in
    let last : given + 1 ≡ kept.node_count = omega arith in
    went-by c.go_on.result operation c.go_on.new.self (Linked free given) (Given free) view next c.go_on.ensures.more c.go_on.ensures.stage c.requires.stage (omega arith) refl (HasPut free (given + 1)) (c.put_in_front.ensures.step free)
    (λ start before batch after begun put. nodes-done start before batch after kept begun next free (given + 1) put last (omega arith))

pub returns-clause-turn : goal.returns-clause-turn
returns-clause-turn c =
    let operation = c.args.self.now in
    let kept = operation.kept in
    let view = view_of c.args.pass.now in
    let next = view_of c.put_in_front.new.pass in
    let free = c.args.free in
    let given = c.args.given in
    let now = so-far operation (Linked free given) view c.requires.under_way c.requires.stage in
    let less = node-less kept now.batch now.begun.keeps given now.at.0.at in
    let other = c.if-given-last.false in
    let more : given + 1 < kept.node_count = omega arith in
    went-by c.go_on-2.result operation c.go_on-2.new.self (Linked free given) (Next free (given + 1)) view next c.go_on-2.ensures.more c.go_on-2.ensures.stage c.requires.stage (omega arith) refl (HasPut free (given + 1)) (c.put_in_front.ensures.step free)
    (λ start before batch after begun put. node-next start before batch after kept begun next free (given + 1) put more)
