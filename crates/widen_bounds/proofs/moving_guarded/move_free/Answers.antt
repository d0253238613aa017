use Rattle.pass_table.specs.Passes.{view_of}
use Rattle.widen_bounds.proofs.GuardedMoves.{asks-widen, asks-box, moves-free}
use Rattle.widen_bounds.proofs.moving_guarded.move_free.Goals as goal

pub widen_all-requires : goal.widen_all-requires
widen_all-requires g c = (
  c.locate-widening.ensures.of,
  asks-widen c.args.id c.args.to.now g.index c.requires.0 (view_of c.args.pass.now) (view_of c.locate-widening.new.pass) c.locate-widening.result c.locate-widening.ensures.located c.requires.1.1,
)

pub store_box-requires-clause-boxing : goal.store_box-requires-clause-boxing
store_box-requires-clause-boxing g c =
    asks-box c.args.id c.args.to.now g.index c.requires.0 (view_of c.args.pass.now) (view_of c.locate-widening.new.pass) c.locate-widening.result c.locate-widening.ensures.located (view_of c.widen_all.new.pass)
    c.widen_all.ensures.widened c.requires.1.1

pub returns-clause-moves : goal.returns-clause-moves
returns-clause-moves g c =
    moves-free c.args.id c.args.to.now g.index c.requires.0 (view_of c.args.pass.now) (view_of c.locate-widening.new.pass) c.locate-widening.result c.locate-widening.ensures.located (view_of c.widen_all.new.pass)
    c.widen_all.ensures.widened (view_of c.store_box.new.pass) c.store_box.ensures.stored
