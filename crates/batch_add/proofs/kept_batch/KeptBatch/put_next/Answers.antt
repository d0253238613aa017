use Rattle.pass_table.specs.Passes.{view_of}
use Rattle.batch_add.specs.declared.giving_up.GiveStage.TheVariants.{Next, Headed, Linked}
use Rattle.batch_add.specs.stages.GiveSteps.{AtStage, HasPut}
use Rattle.batch_add.proofs.WholeGiving.{so-far-on, puts-next}
use Rattle.batch_add.proofs.kept_batch.KeptBatch.put_next.Goals as goal

pub load_head-head-requires-clause-so_far : goal.load_head-head-requires-clause-so_far
load_head-head-requires-clause-so_far c =
    let kept = c.args.self.now in
    let given = c.args.given in
    let free = c.requires.so_far.0 in
    let view = view_of c.args.pass.now in
    (free, given, so-far-on kept (HasPut free given) (AtStage (Next free given)) view view c.requires.so_far.1 (puts-next kept free given view c.requires.below))

pub store_link-requires-clause-so_far : goal.store_link-requires-clause-so_far
store_link-requires-clause-so_far c =
    let kept = c.args.self.now in
    let free = c.requires.so_far.0 in
    let given = c.args.given in
    let view = view_of c.args.pass.now in (
      free,
      so-far-on kept (HasPut free given) (AtStage (Headed free given c.load_head-head.result)) view (view_of c.load_head-head.new.pass) c.requires.so_far.1
          (λ start before batch after begun put.
          (c.load_head-head.ensures.step free given).leads start before batch after begun (puts-next kept free given view c.requires.below start before batch after begun put)),
    )

pub put_in_front-requires-clause-so_far : goal.put_in_front-requires-clause-so_far
put_in_front-requires-clause-so_far c =
    let kept = c.args.self.now in
    let free = c.requires.so_far.0 in
    let given = c.args.given in
    let view = view_of c.args.pass.now in (
      free,
      so-far-on kept (HasPut free given) (AtStage (Linked free given)) view (view_of c.store_link.new.pass) c.requires.so_far.1
          (λ start before batch after begun put.
          let next = puts-next kept free given view c.requires.below start before batch after begun put in
          (c.store_link.ensures.step free).leads start before batch after begun ((c.load_head-head.ensures.step free given).leads start before batch after begun next)),
    )

pub returns-clause-leads : goal.returns-clause-leads
returns-clause-leads c free start before batch after begun put =
    let kept = c.args.self.now in
    let given = c.args.given in
    let next = puts-next kept free given (view_of c.args.pass.now) c.requires.below start before batch after begun put in
    let headed = (c.load_head-head.ensures.step free given).leads start before batch after begun next in
    let linked = (c.store_link.ensures.step free).leads start before batch after begun headed in
    (c.put_in_front.ensures.step free).leads start before batch after begun linked
