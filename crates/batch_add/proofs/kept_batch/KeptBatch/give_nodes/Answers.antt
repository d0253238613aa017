use Rattle.std.proofs.Common.{◌∙◌, arith}
use Rattle.pass_table.specs.Passes.{view_of}
use Rattle.batch_add.specs.declared.giving_up.GiveStage.TheVariants.{Locked, Given, Counted}
use Rattle.batch_add.specs.stages.GiveSteps.{AtStage, HasLetSlotGo, HasPut}
use Rattle.batch_add.proofs.GiveBodies.{nodes-many}
use Rattle.batch_add.proofs.GiveSlot.{gives-none}
use Rattle.batch_add.proofs.WholeGiving.{so-far-on, puts-done}
use Rattle.batch_add.proofs.kept_batch.KeptBatch.give_nodes.Goals as goal

pub returns-then-self-eq0-clause-leads : goal.returns-then-self-eq0-clause-leads
returns-then-self-eq0-clause-leads g c start before batch after begun gone =
    gives-none start before batch after c.args.self.now begun (view_of c.args.pass.now) (nodes-many c.args.self.now batch begun.keeps ∙ c.if-self-eq0.true) gone

pub load_free-free-requires-clause-so_far : goal.load_free-free-requires-clause-so_far
load_free-free-requires-clause-so_far g c =
    so-far-on c.args.self.now HasLetSlotGo (AtStage Locked) (view_of c.args.pass.now) (view_of c.take_pool.new.pass) c.requires.so_far c.take_pool.ensures.leads

pub put_all-requires-clause-so_far : goal.put_all-requires-clause-so_far
put_all-requires-clause-so_far g c =
    let free = c.load_free-free.result in (
      free,
      so-far-on c.args.self.now HasLetSlotGo (HasPut free 0) (view_of c.args.pass.now) (view_of c.load_free-free.new.pass) c.requires.so_far
          (λ start before batch after begun gone. c.load_free-free.ensures.step.leads start before batch after begun (c.take_pool.ensures.leads start before batch after begun gone)),
    )

pub store_free-requires-clause-so_far : goal.store_free-requires-clause-so_far
store_free-requires-clause-so_far g c =
    let kept = c.args.self.now in
    let free = c.load_free-free.result in
    let view = view_of c.put_all.new.pass in
    let other = c.if-self-eq0.false in
    so-far-on kept HasLetSlotGo (AtStage (Given free)) (view_of c.args.pass.now) view c.requires.so_far
    (λ start before batch after begun gone.
    let none = c.load_free-free.ensures.step.leads start before batch after begun (c.take_pool.ensures.leads start before batch after begun gone) in
    puts-done kept free view (omega arith) start before batch after begun (c.put_all.ensures.leads free start before batch after begun none))

pub leave_pool-requires-clause-so_far : goal.leave_pool-requires-clause-so_far
leave_pool-requires-clause-so_far g c =
    let kept = c.args.self.now in
    let free = c.load_free-free.result in
    let other = c.if-self-eq0.false in
    so-far-on kept HasLetSlotGo (AtStage Counted) (view_of c.args.pass.now) (view_of c.store_free.new.pass) c.requires.so_far
    (λ start before batch after begun gone.
    let none = c.load_free-free.ensures.step.leads start before batch after begun (c.take_pool.ensures.leads start before batch after begun gone) in
    let given = puts-done kept free (view_of c.put_all.new.pass) (omega arith) start before batch after begun (c.put_all.ensures.leads free start before batch after begun none) in
    c.store_free.ensures.step.leads start before batch after begun given)

pub returns-clause-leads : goal.returns-clause-leads
returns-clause-leads g c start before batch after begun gone =
    let kept = c.args.self.now in
    let free = c.load_free-free.result in
    let other = c.if-self-eq0.false in
    let locked = c.take_pool.ensures.leads start before batch after begun gone in
    let none = c.load_free-free.ensures.step.leads start before batch after begun locked in
    let all = c.put_all.ensures.leads free start before batch after begun none in
    let given = puts-done kept free (view_of c.put_all.new.pass) (omega arith) start before batch after begun all in
    let counted = c.store_free.ensures.step.leads start before batch after begun given in
    c.leave_pool.ensures.step.leads start before batch after begun counted
