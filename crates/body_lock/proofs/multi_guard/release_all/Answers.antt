use Rattle.pass_table.specs.Passes.{view_of}
use Rattle.body_lock.proofs.Stripes.{release-begun, release-more, release-ends}
use Rattle.body_lock.proofs.multi_guard.release_all.Goals as goal

pub loop-stripe-init : goal.loop-stripe-init
loop-stripe-init c =
    let holds = c.requires.holds in (
      c.requires.of,
      (holds.0, release-begun (view_of c.args.pass.now) c.args.stripes.bits c.args.pass.now.number holds.0 c.args.pass.now.numbered holds.1 c.requires.within c.requires.done),
    )

pub loop-stripe-preserved : goal.loop-stripe-preserved
loop-stripe-preserved c =
    let mode = c.loop-stripe.invariant.1.0 in
    let step = c.release.ensures.step in (
      c.release.ensures.of,
      (
        mode,
        release-more (view_of c.args.pass.now) (view_of c.loop-stripe.pass) (view_of c.release.new.pass) c.loop-stripe.held.bits c.take_first.new.self.bits c.in-Some.stripe mode c.in-Some.ensures.some
            c.loop-stripe.invariant.1.1 step.0 step.1,
      ),
    )

pub returns-clause-done : goal.returns-clause-done
returns-clause-done c =
    let mode = c.loop-stripe.invariant.1.0 in
    release-ends (view_of c.args.pass.now) (view_of c.loop-stripe.pass) c.loop-stripe.held.bits mode c.requires.still c.in_default.ensures.none c.loop-stripe.invariant.1.1
