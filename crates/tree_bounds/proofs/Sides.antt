-- The sides of boxes, and of the hull of two.
use Rattle.std.proofs.Common.{◌≡◌, ℕ, zero, suc, ◌+◌, ◌<◌, ◌≤◌, ◌⊎◌, inl, inr, IsTrue, List, [], ◌∷◌, ℤ, ◌≤ℤ◌, refl, subst, arith}
use Rattle.std.specs.Int.{int_min, int_max}
use Rattle.std.specs.Prelude.{int_lt}
use Rattle.std.proofs.lemmas.Bool.{and_parts, cases_Bool}
use Rattle.std.proofs.lemmas.Int.{ints, clamps}
use Rattle.fixed_box.specs.Word.{word_of}
use Rattle.fixed_box.specs.Corner.{on_axis}
use Rattle.fixed_box.specs.FixBox.{contains, IsHull}
use Rattle.fixed_box.specs.declared.coord.Coord.{Coord}
use Rattle.fixed_box.specs.declared.fix_box.FixBox.{FixBox}
use Rattle.fixed_box.proofs.Order.{axes_from_at_most}
use Rattle.fixed_box.proofs.Words.{on_axis_in_range, word_of-le}
use Rattle.fixed_box.proofs.Boxes.{hull_at_most, IsHull-from_corners, hull_is_unique}
use Rattle.tree_bounds.specs.Bounds.{side, Encloses}

-- what holds on three axes, and of six sides
each_axis : (P : ℕ → Type 0) → P 0 → P 1 → P 2 → (q : ℕ) → q < 3 → P q
each_axis P a b c zero few = a
each_axis P a b c (suc zero) few = b
each_axis P a b c (suc (suc zero)) few = c
each_axis P a b c (suc (suc (suc q))) few = absurd (omega arith)

each_side : (P : ℕ → Type 0) → P 0 → P 1 → P 2 → P 3 → P 4 → P 5 → (q : ℕ) → q < 6 → P q
each_side P a b c d e f zero few = a
each_side P a b c d e f (suc zero) few = b
each_side P a b c d e f (suc (suc zero)) few = c
each_side P a b c d e f (suc (suc (suc zero))) few = d
each_side P a b c d e f (suc (suc (suc (suc zero)))) few = e
each_side P a b c d e f (suc (suc (suc (suc (suc zero))))) few = f
each_side P a b c d e f (suc (suc (suc (suc (suc (suc q)))))) few = absurd (omega arith)

pub Encloses-from_contains : (outer inner : FixBox) → IsTrue (contains outer inner) → Encloses outer inner
Encloses-from_contains outer inner h =
    let f = and_parts _ _ h in
    let lo = axes_from_at_most outer.lo inner.lo f.0 in
    let hi = axes_from_at_most inner.hi outer.hi f.1 in
    let low = λ (i : ℕ) (k : on_axis outer.lo i ≤ℤ on_axis inner.lo i). word_of-le (on_axis outer.lo i) (on_axis inner.lo i) (on_axis_in_range outer.lo i) (on_axis_in_range inner.lo i) k in
    let high = λ (i : ℕ) (k : on_axis inner.hi i ≤ℤ on_axis outer.hi i). word_of-le (on_axis inner.hi i) (on_axis outer.hi i) (on_axis_in_range inner.hi i) (on_axis_in_range outer.hi i) k in
    each_axis (λ q. (side outer q ≤ side inner q) × (side inner (3 + q) ≤ side outer (3 + q))) (low 0 lo.0, high 0 hi.0) (low 1 lo.1, high 1 hi.1) (low 2 lo.2, high 2 hi.2)

pub Encloses-refl : (a : FixBox) → Encloses a a
Encloses-refl a q few = (omega arith, omega arith)

pub Encloses-trans : (a b c : FixBox) → Encloses a b → Encloses b c → Encloses a c
Encloses-trans a b c h k q few =
    let f = h q few in
    let g = k q few in
    (omega arith, omega arith)

-- ---- the hull of two boxes, by their corners

least_on : List Coord → List Coord → ℕ → Coord
least_on a b axis = record {
  value = int_min (on_axis a axis) (on_axis b axis);
  in_range =
      let f = on_axis_in_range a axis in
      let g = on_axis_in_range b axis in
      (omega (arith, ints, clamps), omega (arith, ints, clamps));
}

greatest_on : List Coord → List Coord → ℕ → Coord
greatest_on a b axis = record {
  value = int_max (on_axis a axis) (on_axis b axis);
  in_range =
      let f = on_axis_in_range a axis in
      let g = on_axis_in_range b axis in
      (omega (arith, ints, clamps), omega (arith, ints, clamps));
}

unfoldable hull_of : FixBox → FixBox → FixBox
unfolding least_on greatest_on
hull_of a b =
    let lo : List Coord = least_on a.lo b.lo 0 ∷ least_on a.lo b.lo 1 ∷ least_on a.lo b.lo 2 ∷ [] in
    let hi : List Coord = greatest_on a.hi b.hi 0 ∷ greatest_on a.hi b.hi 1 ∷ greatest_on a.hi b.hi 2 ∷ [] in record {
      lo = lo;
      hi = hi;
      ordered = record { three_lo = refl; three_hi = refl; at_most = hull_at_most a b lo hi (refl, refl, refl) (refl, refl, refl) };
    }

IsHull-hull_of : (a b : FixBox) → IsHull a b (hull_of a b)
unfolding hull_of least_on greatest_on
IsHull-hull_of a b = IsHull-from_corners a b (hull_of a b) (refl, refl, refl) (refl, refl, refl)

word_of-min : (x y : ℤ) → (word_of x ≡ word_of (int_min x y)) ⊎ (word_of y ≡ word_of (int_min x y))
word_of-min x y = elim (cases_Bool (int_lt y x)) [ inl e ↦ inr (rw e refl) | inr e ↦ inl (rw e refl) ]

word_of-max : (x y : ℤ) → (word_of x ≡ word_of (int_max x y)) ⊎ (word_of y ≡ word_of (int_max x y))
word_of-max x y = elim (cases_Bool (int_lt y x)) [ inl e ↦ inl (rw e refl) | inr e ↦ inr (rw e refl) ]

sides_of_hull : (a b : FixBox) (q : ℕ) → q < 6 → (side a q ≡ side (hull_of a b) q) ⊎ (side b q ≡ side (hull_of a b) q)
unfolding hull_of least_on greatest_on
sides_of_hull a b =
    let low = λ (i : ℕ). word_of-min (on_axis a.lo i) (on_axis b.lo i) in
    let high = λ (i : ℕ). word_of-max (on_axis a.hi i) (on_axis b.hi i) in
    each_side (λ q. (side a q ≡ side (hull_of a b) q) ⊎ (side b q ≡ side (hull_of a b) q)) (low 0) (low 1) (low 2) (high 0) (high 1) (high 2)

-- on each side one of the two reaches as far as their hull
pub sides_reach : (a b hull : FixBox) → IsHull a b hull → (q : ℕ) → q < 6 → (side a q ≡ side hull q) ⊎ (side b q ≡ side hull q)
sides_reach a b hull h q few =
    subst (λ (r : FixBox). (side a q ≡ side r q) ⊎ (side b q ≡ side r q)) (hull_is_unique a b (hull_of a b) hull (IsHull-hull_of a b) h) (sides_of_hull a b q few)
