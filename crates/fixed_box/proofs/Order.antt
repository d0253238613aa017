-- The order of corners is an order, and it goes axis by axis.
use Rattle.std.proofs.Common.{◌≡◌, true, IsTrue, List, ℤ, ◌≤ℤ◌, arith}
use Rattle.std.proofs.lemmas.Bool.{and_parts, and_from}
use Rattle.std.specs.Prelude.{int_le}
use Rattle.std.proofs.lemmas.Int.{ints, clamps}
use Rattle.fixed_box.specs.Corner.{OnEachAxis, on_axis, is_at_most, IsLeast, IsGreatest, IsShifted}
use Rattle.fixed_box.specs.declared.coord.Coord.{Coord}

le_from_test : (x y : ℤ) → int_le x y ≡ true → x ≤ℤ y
le_from_test x y e = grind (arith, ints)

test_from_le : (x y : ℤ) → x ≤ℤ y → int_le x y ≡ true
test_from_le x y h = grind (arith, ints)

pub axes_from_at_most : (a b : List Coord) → IsTrue (is_at_most a b) → OnEachAxis (λ axis. on_axis a axis ≤ℤ on_axis b axis)
axes_from_at_most a b h =
    let f = and_parts _ _ h in
    let g = and_parts _ _ f.0 in
    (le_from_test _ _ g.0, le_from_test _ _ g.1, le_from_test _ _ f.1)

pub at_most_from_axes : (a b : List Coord) → OnEachAxis (λ axis. on_axis a axis ≤ℤ on_axis b axis) → IsTrue (is_at_most a b)
at_most_from_axes a b h = and_from _ _ (and_from _ _ (test_from_le _ _ h.0) (test_from_le _ _ h.1)) (test_from_le _ _ h.2)

pub at_most_refl : (a : List Coord) → IsTrue (is_at_most a a)
at_most_refl a = at_most_from_axes a a (omega (arith, ints), omega (arith, ints), omega (arith, ints))

pub at_most_trans : (a b c : List Coord) → IsTrue (is_at_most a b) → IsTrue (is_at_most b c) → IsTrue (is_at_most a c)
at_most_trans a b c h k =
    let f = axes_from_at_most a b h in
    let g = axes_from_at_most b c k in
    at_most_from_axes a c (omega (arith, ints), omega (arith, ints), omega (arith, ints))

-- ---- a box's corners stay in order

pub shifted_at_most : (lo hi new_lo new_hi : List Coord) (v : List ℤ) → IsShifted lo v new_lo → IsShifted hi v new_hi → IsTrue (is_at_most lo hi) → IsTrue (is_at_most new_lo new_hi)
shifted_at_most lo hi new_lo new_hi v l h o =
    let f = axes_from_at_most lo hi o in
    at_most_from_axes new_lo new_hi (omega (arith, ints), omega (arith, ints), omega (arith, ints))

pub least_at_most_first : (a b r : List Coord) → IsLeast a b r → IsTrue (is_at_most r a)
least_at_most_first a b r l = at_most_from_axes r a (omega (arith, ints, clamps), omega (arith, ints, clamps), omega (arith, ints, clamps))

pub least_at_most_second : (a b r : List Coord) → IsLeast a b r → IsTrue (is_at_most r b)
least_at_most_second a b r l = at_most_from_axes r b (omega (arith, ints, clamps), omega (arith, ints, clamps), omega (arith, ints, clamps))

pub at_most_least : (a b r c : List Coord) → IsLeast a b r → IsTrue (is_at_most c a) → IsTrue (is_at_most c b) → IsTrue (is_at_most c r)
at_most_least a b r c l h k =
    let f = axes_from_at_most c a h in
    let g = axes_from_at_most c b k in
    at_most_from_axes c r (omega (arith, ints, clamps), omega (arith, ints, clamps), omega (arith, ints, clamps))

pub first_at_most_greatest : (a b r : List Coord) → IsGreatest a b r → IsTrue (is_at_most a r)
first_at_most_greatest a b r l = at_most_from_axes a r (omega (arith, ints, clamps), omega (arith, ints, clamps), omega (arith, ints, clamps))

pub second_at_most_greatest : (a b r : List Coord) → IsGreatest a b r → IsTrue (is_at_most b r)
second_at_most_greatest a b r l = at_most_from_axes b r (omega (arith, ints, clamps), omega (arith, ints, clamps), omega (arith, ints, clamps))

pub greatest_at_most : (a b r c : List Coord) → IsGreatest a b r → IsTrue (is_at_most a c) → IsTrue (is_at_most b c) → IsTrue (is_at_most r c)
greatest_at_most a b r c l h k =
    let f = axes_from_at_most a c h in
    let g = axes_from_at_most b c k in
    at_most_from_axes r c (omega (arith, ints, clamps), omega (arith, ints, clamps), omega (arith, ints, clamps))
