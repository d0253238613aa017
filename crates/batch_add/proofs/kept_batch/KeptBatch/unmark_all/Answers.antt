use Rattle.std.proofs.Common.{◌≡◌, ◌+◌, arith}
use Rattle.pass_table.specs.Passes.{view_of}
use Rattle.batch_add.specs.stages.GiveSteps.{HasUnmarked}
use Rattle.batch_add.proofs.GiveBodies.{bodies-done}
use Rattle.batch_add.proofs.WholeGiving.{so-far-on, leads-then}
use Rattle.batch_add.proofs.kept_batch.KeptBatch.unmark_all.Goals as goal

pub loop-done-init : goal.loop-done-init
loop-done-init g c = (c.requires.of, λ start before batch after begun unmarked. unmarked)

pub unmark_next-requires-clause-so_far : goal.unmark_next-requires-clause-so_far
unmark_next-requires-clause-so_far g c = so-far-on c.args.self.now (HasUnmarked 0) (HasUnmarked c.loop-done.done) (view_of c.args.pass.now) (view_of c.loop-done.pass) c.requires.so_far c.loop-done.invariant.1

pub loop-done-preserved : goal.loop-done-preserved
loop-done-preserved g c = (
  c.unmark_next.ensures.of,
  leads-then c.args.self.now (HasUnmarked 0) (HasUnmarked c.loop-done.done) (HasUnmarked (c.loop-done.done + 1)) (view_of c.args.pass.now) (view_of c.loop-done.pass) (view_of c.unmark_next.new.pass) c.loop-done.invariant.1
      c.unmark_next.ensures.leads,
)

pub returns-clause-leads : goal.returns-clause-leads
returns-clause-leads g c start before batch after begun none =
    let all : c.loop-done.done ≡ c.args.self.now.marked = omega arith in
    bodies-done start before batch after c.args.self.now begun (view_of c.loop-done.pass) c.loop-done.done (c.loop-done.invariant.1 start before batch after begun none) all
