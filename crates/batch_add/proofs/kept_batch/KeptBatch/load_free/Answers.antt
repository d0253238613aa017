use Rattle.std.proofs.Common.{[]}
use Rattle.pass_table.specs.Passes.{view_of}
use Rattle.batch_add.proofs.GiveNodes.{load-count-step, load-count-made, count-known, has-pool}
use Rattle.batch_add.proofs.kept_batch.KeptBatch.load_free.Goals as goal

pub load_count-requires-clause-pool : goal.load_count-requires-clause-pool
load_count-requires-clause-pool c =
    let now = c.requires.so_far in
    has-pool now.start now.before now.batch now.after c.args.self.now now.begun (view_of c.args.pass.now) 0 [] now.batch.nodes now.at.1

pub returns-clause-step : goal.returns-clause-step
returns-clause-step c =
    let view = view_of c.args.pass.now in
    let next = view_of c.load_count.new.pass in
    let free = c.load_count.result in
    let loaded = c.load_count.ensures.loaded in
    record {
      step = load-count-step view next free loaded;
      made = load-count-made view next free loaded;
      leads = λ start before batch after begun at. count-known start before batch after c.args.self.now begun view next free loaded at.1;
    }
