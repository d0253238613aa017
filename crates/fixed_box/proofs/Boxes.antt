-- What holds of boxes.
use Rattle.std.proofs.Common.{◌≡◌, IsTrue, ℕ, List, [], ◌∷◌, length, refl, arith}
use Rattle.std.specs.Int.{int_max}
use Rattle.std.proofs.lemmas.Bool.{and_parts, and_from}
use Rattle.std.proofs.lemmas.Int.{ints, clamps}
use Rattle.fixed_box.specs.Corner.{on_axis, is_at_most, IsLeast, IsGreatest}
use Rattle.fixed_box.specs.FixBox.{touches, contains, IsHull, SharedPoint}
use Rattle.fixed_box.specs.declared.coord.Coord.{Coord}
use Rattle.fixed_box.specs.declared.fix_box.FixBox.{FixBox}
use Rattle.fixed_box.proofs.Order.{axes_from_at_most, at_most_refl, at_most_trans, least_at_most_first, least_at_most_second, at_most_least, first_at_most_greatest, second_at_most_greatest, greatest_at_most}
use Rattle.fixed_box.proofs.Same.{same_corner, same_box}
use Rattle.fixed_box.proofs.Words.{on_axis_in_range}

pub hull_at_most : (a b : FixBox) (lo hi : List Coord) → IsLeast a.lo b.lo lo → IsGreatest a.hi b.hi hi → IsTrue (is_at_most lo hi)
hull_at_most a b lo hi l g =
    at_most_trans lo a.lo hi (least_at_most_first a.lo b.lo lo l) (at_most_trans a.lo a.hi hi a.ordered.at_most (first_at_most_greatest a.hi b.hi hi g))

pub IsHull-from_corners : (a b r : FixBox) → IsLeast a.lo b.lo r.lo → IsGreatest a.hi b.hi r.hi → IsHull a b r
IsHull-from_corners a b r l g = record {
  first = and_from _ _ (least_at_most_first a.lo b.lo r.lo l) (first_at_most_greatest a.hi b.hi r.hi g);
  second = and_from _ _ (least_at_most_second a.lo b.lo r.lo l) (second_at_most_greatest a.hi b.hi r.hi g);
  least = λ c h k.
      let f = and_parts _ _ h in
      let e = and_parts _ _ k in
      and_from _ _ (at_most_least a.lo b.lo r.lo c.lo l f.0 e.0) (greatest_at_most a.hi b.hi r.hi c.hi g f.1 e.1);
}

pub at_most_antisym : (a b : List Coord) → length a ≡ 3 → length b ≡ 3 → IsTrue (is_at_most a b) → IsTrue (is_at_most b a) → a ≡ b
at_most_antisym a b p q h k =
    let f = axes_from_at_most a b h in
    let g = axes_from_at_most b a k in
    same_corner a b p q (omega (arith, ints), omega (arith, ints), omega (arith, ints))

pub contains_refl : (a : FixBox) → IsTrue (contains a a)
contains_refl a = and_from _ _ (at_most_refl a.lo) (at_most_refl a.hi)

pub contains_trans : (a b c : FixBox) → IsTrue (contains a b) → IsTrue (contains b c) → IsTrue (contains a c)
contains_trans a b c h k =
    let f = and_parts _ _ h in
    let g = and_parts _ _ k in
    and_from _ _ (at_most_trans a.lo b.lo c.lo f.0 g.0) (at_most_trans c.hi b.hi a.hi g.1 f.1)

pub contains_antisym : (a b : FixBox) → IsTrue (contains a b) → IsTrue (contains b a) → a ≡ b
contains_antisym a b h k =
    let f = and_parts _ _ h in
    let g = and_parts _ _ k in
    same_box a b (at_most_antisym a.lo b.lo a.ordered.three_lo b.ordered.three_lo f.0 g.0) (at_most_antisym a.hi b.hi a.ordered.three_hi b.ordered.three_hi g.1 f.1)

pub hull_is_unique : (a b hull other : FixBox) → IsHull a b hull → IsHull a b other → hull ≡ other
hull_is_unique a b hull other h k = contains_antisym hull other (k.least hull h.first h.second) (h.least other k.first k.second)

pub hull_with_itself : (a hull : FixBox) → IsHull a a hull → hull ≡ a
hull_with_itself a hull h = contains_antisym hull a h.first (h.least a (contains_refl a) (contains_refl a))

-- ---- a point of both boxes, where they touch

-- the greatest of two coordinates on an axis
greatest_on : List Coord → List Coord → ℕ → Coord
greatest_on a b axis = record {
  value = int_max (on_axis a axis) (on_axis b axis);
  in_range =
      let f = on_axis_in_range a axis in
      let g = on_axis_in_range b axis in
      (omega (arith, ints, clamps), omega (arith, ints, clamps));
}

unfoldable greatest_corner : List Coord → List Coord → List Coord
greatest_corner a b = greatest_on a b 0 ∷ greatest_on a b 1 ∷ greatest_on a b 2 ∷ []

IsGreatest-greatest_corner : (a b : List Coord) → IsGreatest a b (greatest_corner a b)
unfolding greatest_corner greatest_on
IsGreatest-greatest_corner a b = (refl, refl, refl)

pub SharedPoint-from_touch : (a b : FixBox) → IsTrue (touches a b) → SharedPoint a b
unfolding greatest_corner
SharedPoint-from_touch a b t =
    let f = and_parts _ _ t in
    let p = greatest_corner a.lo b.lo in
    let g = IsGreatest-greatest_corner a.lo b.lo in
    record {
      point = p;
      three = refl;
      in_first = and_from _ _ (first_at_most_greatest a.lo b.lo p g) (greatest_at_most a.lo b.lo p a.hi g a.ordered.at_most f.1);
      in_second = and_from _ _ (second_at_most_greatest a.lo b.lo p g) (greatest_at_most a.lo b.lo p b.hi g f.0 b.ordered.at_most);
    }

pub touch_from_shared_point : (a b : FixBox) → SharedPoint a b → IsTrue (touches a b)
touch_from_shared_point a b s =
    let f = and_parts _ _ s.in_first in
    let g = and_parts _ _ s.in_second in
    and_from _ _ (at_most_trans a.lo s.point b.hi f.0 g.1) (at_most_trans b.lo s.point a.hi g.0 f.1)
