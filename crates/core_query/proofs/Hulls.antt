-- A box in the space of a layer lies in each box that reaches as far as all that counts for it.
use Rattle.std.proofs.Common.{ℕ, ◌+◌, arith}
use Rattle.std.specs.Prelude.{IsTrue}
use Rattle.std.proofs.lemmas.Bool.{and_from}
use Rattle.fixed_box.specs.FixBox.{words_of, contains}
use Rattle.fixed_box.specs.Touch.{Touch}
use Rattle.fixed_box.specs.declared.fix_box.FixBox.{FixBox}
use Rattle.fixed_box.specs.declared.shape.Shape.{Shape}
use Rattle.fixed_box.proofs.Order.{at_most_from_axes}
use Rattle.fixed_box.proofs.Shapes.{Touch-outward}
use Rattle.fixed_box.proofs.Words.{on_axis_in_range, le_from_words}
use Rattle.core_state.specs.Encoding.{sides_of, Covers}
use Rattle.core_state.specs.Scope.{Sight}
use Rattle.core_state.specs.Space.{IsInSpace}
use Rattle.core_query.specs.Clear.{IsClearOf, IsHullOf}

-- a box whose words reach as far contains the other
contains-from_words : (outer inner : FixBox) → Covers (sides_of (words_of outer)) (sides_of (words_of inner)) → IsTrue (contains outer inner)
contains-from_words outer inner h =
    let lo = on_axis_in_range outer.lo in
    let hi = on_axis_in_range outer.hi in
    let low = on_axis_in_range inner.lo in
    let high = on_axis_in_range inner.hi in
    let x = h 0 (omega arith) in
    let y = h 1 (omega arith) in
    let z = h 2 (omega arith) in
    and_from _ _
    (at_most_from_axes outer.lo inner.lo (le_from_words _ _ (lo 0) (low 0) x.0, le_from_words _ _ (lo 1) (low 1) y.0, le_from_words _ _ (lo 2) (low 2) z.0))
    (at_most_from_axes inner.hi outer.hi (le_from_words _ _ (high 0) (hi 0) x.1, le_from_words _ _ (high 1) (hi 1) y.1, le_from_words _ _ (high 2) (hi 2) z.1))

space-covered : (s : Sight) (layer : ℕ) (hull b : FixBox) → IsHullOf s layer hull → IsInSpace s layer (sides_of (words_of b)) → Covers (sides_of (words_of hull)) (sides_of (words_of b))
space-covered s layer hull b h inside q low =
    let t = inside q low in
    let lower = (h q t.0.0 t.0.1).0 low in
    let upper = (h (3 + q) t.1.0 t.1.1).1 (omega arith) (omega arith) in
    let reaches = t.0.2 in
    let within = t.1.2 in
    (omega arith, omega arith)

-- so a shape that does not touch the one does not touch the other
pub clear-by_hull : (s : Sight) (shape : Shape) (layer : ℕ) (hull : FixBox) → IsHullOf s layer hull → ¬ Touch shape hull → IsClearOf s shape layer
clear-by_hull s shape layer hull h apart b inside touches = apart (Touch-outward shape hull b (contains-from_words hull b (space-covered s layer hull b h inside)) touches)
