use Rattle.std.proofs.Common.{arith}
use Rattle.tree_plan.proofs.Arrangement.{arranged-by_halves, front_apart, back_apart, front_part, back_part}
use Rattle.tree_plan.proofs.arrange.+arrange.Goals as goal

pub arrange-requires : goal.arrange-requires
arrange-requires t c =
    let s = c.split_at_mut-front.ensures in
    (omega (arith, s.front_len), (front_apart c.args.bodies.now _ (front_part c.args.bodies.now c.halve.new.bodies _ c.halve.ensures.front (omega arith) s.front) c.requires.apart, omega (arith, s.front_len)))

pub arrange-requires-2 : goal.arrange-requires-2
arrange-requires-2 t c =
    let s = c.split_at_mut-front.ensures in
    (omega (arith, s.back_len), (back_apart c.args.bodies.now _ (back_part c.args.bodies.now c.halve.new.bodies _ c.halve.ensures.back (omega arith) s.back) c.requires.apart, omega (arith, s.back_len)))

pub returns : goal.returns
returns t c =
    let s = c.split_at_mut-front.ensures in
    arranged-by_halves c.args.bodies.now _ _ _ _ c.if-bodies-lt2.false c.requires.apart
    (front_part c.args.bodies.now c.halve.new.bodies _ c.halve.ensures.front (omega arith) s.front)
    (back_part c.args.bodies.now c.halve.new.bodies _ c.halve.ensures.back (omega arith) s.back)
    c.arrange.ensures c.arrange-2.ensures
