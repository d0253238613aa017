use Rattle.std.proofs.Common.{ℕ, ◌<◌, refl, subst, arith}
use Rattle.pass_table.specs.Passes.{view_of}
use Rattle.batch_add.specs.declared.giving_up.GiveStage.TheVariants.{Locked, Next}
use Rattle.batch_add.specs.stages.GiveSteps.{HasPut}
use Rattle.batch_add.proofs.GiveTurns.{so-far, went-by}
use Rattle.batch_add.proofs.GiveBodies.{nodes-many}
use Rattle.batch_add.proofs.GiveNodes.{node-next}
use Rattle.batch_add.proofs.giving_up.GivingUp.load_free.Goals as goal

pub load_free-free-requires-clause-so_far : goal.load_free-free-requires-clause-so_far
load_free-free-requires-clause-so_far c = so-far c.args.self.now Locked (view_of c.args.pass.now) c.requires.under_way c.requires.stage

pub returns-clause-turn : goal.returns-clause-turn
returns-clause-turn c =
    let operation = c.args.self.now in
    let kept = operation.kept in
    let view = view_of c.args.pass.now in
    let next = view_of c.load_free-free.new.pass in
    let free = c.load_free-free.result in
    let now = so-far operation Locked view c.requires.under_way c.requires.stage in
    let some : 0 < kept.node_count = subst (λ (n : ℕ). 0 < n) (nodes-many kept now.batch now.begun.keeps) now.at.0 in
    went-by c.go_on.result operation c.go_on.new.self Locked (Next free 0) view next c.go_on.ensures.more c.go_on.ensures.stage c.requires.stage (omega arith) refl (HasPut free 0) c.load_free-free.ensures.step
    (λ start before batch after begun put. node-next start before batch after kept begun next free 0 put some)
