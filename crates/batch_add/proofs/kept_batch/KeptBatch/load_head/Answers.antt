use Rattle.pass_table.specs.Passes.{view_of}
use Rattle.batch_add.proofs.GiveNodes.{load-head-step, load-head-made, head-known, has-pool}
use Rattle.batch_add.proofs.kept_batch.KeptBatch.load_head.Goals as goal

pub load_pool_head-requires-clause-pool : goal.load_pool_head-requires-clause-pool
load_pool_head-requires-clause-pool c =
    let given = c.requires.so_far.1 in
    let now = c.requires.so_far.2 in
    has-pool now.start now.before now.batch now.after c.args.self.now now.begun (view_of c.args.pass.now) given _ _ now.at.work

pub returns-clause-step : goal.returns-clause-step
returns-clause-step c free given =
    let view = view_of c.args.pass.now in
    let next = view_of c.load_pool_head.new.pass in
    let head = c.load_pool_head.result in
    let loaded = c.load_pool_head.ensures.loaded in
    record {
      step = load-head-step view next head loaded;
      made = load-head-made view next head loaded;
      leads = λ start before batch after begun at. head-known start before batch after c.args.self.now begun view free given at next head loaded;
    }
