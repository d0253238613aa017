use Rattle.std.proofs.Common.{ap, ◌∙◌}
use Rattle.core_state.specs.declared.view.View.{View}
use Rattle.core_state.specs.View.{mode_of}
use Rattle.pass_table.specs.Passes.{view_of}
use Rattle.pass_table.proofs.Between.{more-refl, more-trans}
use Rattle.pass_table.proofs.Current.{meets-none}
use Rattle.pass_table.proofs.Telling.{loaded-more, tried-more, took-lock, took-made, took-adds, took-tells, took-keeps}
use Rattle.pass_table.proofs.locks.take.Goals as goal

pub loop-preserved : goal.loop-preserved
loop-preserved g c = (
  c.try_mode.ensures.of,
  more-trans (view_of c.args.pass.now) (view_of c.loop.pass) (view_of c.try_mode.new.pass) c.loop.invariant.1
      (tried-more (view_of c.loop.pass) (view_of c.try_mode.new.pass) c.args.lock c.args.mode c.try_mode.result c.in-Busy.is c.try_mode.ensures.tried),
)

pub loop-init : goal.loop-init
loop-init g c = (c.requires.of, more-refl (view_of c.args.pass.now) (meets-none (view_of c.args.pass.now) c.args.pass.now.current))

pub try_mode-requires-clause-free : goal.try_mode-requires-clause-free
try_mode-requires-clause-free g c = ap (λ (v : View). mode_of v.locks c.args.lock) c.loop.invariant.1.rest ∙ c.requires.free

pub returns-in-Taken-clause-left : goal.returns-in-Taken-clause-left
returns-in-Taken-clause-left g c =
    let pass = c.args.pass.now in
    let tried = c.in-Taken.ensures.tried in
    (took-lock (view_of pass) tried.middle (view_of c.try_mode.new.pass) c.args.lock c.args.mode tried.word pass.number pass.numbered
    (more-trans (view_of pass) (view_of c.loop.pass) tried.middle c.loop.invariant.1 (loaded-more (view_of c.loop.pass) tried.middle c.args.lock tried.word tried.load)) tried.exchange).left

pub returns-in-Taken-clause-taken : goal.returns-in-Taken-clause-taken
returns-in-Taken-clause-taken g c =
    let pass = c.args.pass.now in
    let tried = c.in-Taken.ensures.tried in
    took-lock (view_of pass) tried.middle (view_of c.try_mode.new.pass) c.args.lock c.args.mode tried.word pass.number pass.numbered
    (more-trans (view_of pass) (view_of c.loop.pass) tried.middle c.loop.invariant.1 (loaded-more (view_of c.loop.pass) tried.middle c.args.lock tried.word tried.load)) tried.exchange

pub returns-in-Taken-clause-made : goal.returns-in-Taken-clause-made
returns-in-Taken-clause-made g c =
    let pass = c.args.pass.now in
    let tried = c.in-Taken.ensures.tried in
    took-made (view_of pass) tried.middle (view_of c.try_mode.new.pass) c.args.lock c.args.mode tried.word pass.number pass.numbered
    (more-trans (view_of pass) (view_of c.loop.pass) tried.middle c.loop.invariant.1 (loaded-more (view_of c.loop.pass) tried.middle c.args.lock tried.word tried.load)) tried.exchange

pub returns-in-Taken-clause-adds : goal.returns-in-Taken-clause-adds
returns-in-Taken-clause-adds g c =
    let pass = c.args.pass.now in
    let tried = c.in-Taken.ensures.tried in
    took-adds (view_of pass) tried.middle (view_of c.try_mode.new.pass) c.args.lock c.args.mode tried.word pass.number pass.numbered
    (more-trans (view_of pass) (view_of c.loop.pass) tried.middle c.loop.invariant.1 (loaded-more (view_of c.loop.pass) tried.middle c.args.lock tried.word tried.load)) tried.exchange

pub returns-in-Taken-clause-tells : goal.returns-in-Taken-clause-tells
returns-in-Taken-clause-tells g c =
    let pass = c.args.pass.now in
    let tried = c.in-Taken.ensures.tried in
    took-tells (view_of pass) tried.middle (view_of c.try_mode.new.pass) c.args.lock c.args.mode tried.word pass.number pass.numbered
    (more-trans (view_of pass) (view_of c.loop.pass) tried.middle c.loop.invariant.1 (loaded-more (view_of c.loop.pass) tried.middle c.args.lock tried.word tried.load)) tried.exchange

pub returns-in-Taken-clause-keeps : goal.returns-in-Taken-clause-keeps
returns-in-Taken-clause-keeps g c =
    let pass = c.args.pass.now in
    let tried = c.in-Taken.ensures.tried in
    took-keeps (view_of pass) tried.middle (view_of c.try_mode.new.pass) c.args.lock c.args.mode tried.word pass.number pass.numbered
    (more-trans (view_of pass) (view_of c.loop.pass) tried.middle c.loop.invariant.1 (loaded-more (view_of c.loop.pass) tried.middle c.args.lock tried.word tried.load)) tried.exchange
