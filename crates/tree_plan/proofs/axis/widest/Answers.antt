use Rattle.std.proofs.Common.{◌≡◌, true, false, refl, ◌∙◌, arith}
use Rattle.std.specs.Prelude.{int_lt}
use Rattle.std.proofs.lemmas.Int.{ints, to_z-of_z}
use Rattle.tree_plan.proofs.Extents.{widest_by, int_lt-same}
use Rattle.tree_plan.proofs.axis.widest.Goals as goal

pub returns-then-y-z-clause-axis : goal.returns-then-y-z-clause-axis
returns-then-y-z-clause-axis c =
    let e = c.extents_of-extents.ensures in
    let first : int_lt c.spread-x.result c.spread-y.result ≡ true = grind (arith, ints, to_z-of_z) in
    let second : int_lt c.spread-y.result c.spread-z.result ≡ true = grind (arith, ints, to_z-of_z) in
    widest_by c.args.bodies.now true true 2
    (int_lt-same _ _ _ _ true (c.spread-x.ensures ∙ e.x.apart) (c.spread-y.ensures ∙ e.y.apart) first)
    (int_lt-same _ _ _ _ true (c.spread-y.ensures ∙ e.y.apart) (c.spread-z.ensures ∙ e.z.apart) second) refl

pub returns-else-y-z-clause-axis : goal.returns-else-y-z-clause-axis
returns-else-y-z-clause-axis c =
    let e = c.extents_of-extents.ensures in
    let first : int_lt c.spread-x.result c.spread-y.result ≡ true = grind (arith, ints, to_z-of_z) in
    let second : int_lt c.spread-y.result c.spread-z.result ≡ false = grind (arith, ints, to_z-of_z) in
    widest_by c.args.bodies.now true false 1
    (int_lt-same _ _ _ _ true (c.spread-x.ensures ∙ e.x.apart) (c.spread-y.ensures ∙ e.y.apart) first)
    (int_lt-same _ _ _ _ false (c.spread-y.ensures ∙ e.y.apart) (c.spread-z.ensures ∙ e.z.apart) second) refl

pub returns-then-x-z-clause-axis : goal.returns-then-x-z-clause-axis
returns-then-x-z-clause-axis c =
    let e = c.extents_of-extents.ensures in
    let first : int_lt c.spread-x.result c.spread-y.result ≡ false = grind (arith, ints, to_z-of_z) in
    let second : int_lt c.spread-x.result c.spread-z.result ≡ true = grind (arith, ints, to_z-of_z) in
    widest_by c.args.bodies.now false true 2
    (int_lt-same _ _ _ _ false (c.spread-x.ensures ∙ e.x.apart) (c.spread-y.ensures ∙ e.y.apart) first)
    (int_lt-same _ _ _ _ true (c.spread-x.ensures ∙ e.x.apart) (c.spread-z.ensures ∙ e.z.apart) second) refl

pub returns-else-x-z-clause-axis : goal.returns-else-x-z-clause-axis
returns-else-x-z-clause-axis c =
    let e = c.extents_of-extents.ensures in
    let first : int_lt c.spread-x.result c.spread-y.result ≡ false = grind (arith, ints, to_z-of_z) in
    let second : int_lt c.spread-x.result c.spread-z.result ≡ false = grind (arith, ints, to_z-of_z) in
    widest_by c.args.bodies.now false false 0
    (int_lt-same _ _ _ _ false (c.spread-x.ensures ∙ e.x.apart) (c.spread-y.ensures ∙ e.y.apart) first)
    (int_lt-same _ _ _ _ false (c.spread-x.ensures ∙ e.x.apart) (c.spread-z.ensures ∙ e.z.apart) second) refl
