use Rattle.std.proofs.Common.{◌≡◌, ◌+◌, ℕ, subst, arith}
use Rattle.pass_table.specs.Passes.{view_of}
use Rattle.batch_add.specs.stages.GiveSteps.{HasPut, Leads}
use Rattle.batch_add.proofs.WholeGiving.{so-far-on, leads-then}
use Rattle.batch_add.proofs.kept_batch.KeptBatch.put_all.Goals as goal

pub loop-given-init : goal.loop-given-init
loop-given-init c = (c.requires.of, λ free start before batch after begun put. put)

pub put_next-requires-clause-so_far : goal.put_next-requires-clause-so_far
put_next-requires-clause-so_far c =
    let free = c.requires.so_far.0 in
    (free, so-far-on c.args.self.now (HasPut free 0) (HasPut free c.loop-given.given) (view_of c.args.pass.now) (view_of c.loop-given.pass) c.requires.so_far.1 (c.loop-given.invariant.1 free))

pub loop-given-preserved : goal.loop-given-preserved
loop-given-preserved c = (
  c.put_next.ensures.of,
  λ free.
      leads-then c.args.self.now (HasPut free 0) (HasPut free c.loop-given.given) (HasPut free (c.loop-given.given + 1)) (view_of c.args.pass.now) (view_of c.loop-given.pass) (view_of c.put_next.new.pass)
      (c.loop-given.invariant.1 free) (c.put_next.ensures.leads free),
)

pub returns-clause-leads : goal.returns-clause-leads
returns-clause-leads c free =
    let all : c.loop-given.given ≡ c.args.self.now.node_count = omega arith in
    subst (λ (n : ℕ). Leads c.args.self.now (HasPut free 0) (view_of c.args.pass.now) (HasPut free n) (view_of c.loop-given.pass)) all (c.loop-given.invariant.1 free)
