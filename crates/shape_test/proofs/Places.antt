-- A segment touches where one of its places does, its ends among them.
use Rattle.std.proofs.Common.{◌≡◌, IsTrue, ℕ, ℤ, pos, ◌+ℤ◌, ◌*ℤ◌, ◌≤ℤ◌, List, refl, arith}
use Rattle.std.proofs.lemmas.Bool.{and_parts}
use Rattle.std.proofs.lemmas.Int.{ints}
use Rattle.fixed_box.specs.Corner.{on_axis, along}
use Rattle.fixed_box.specs.FixBox.{is_within}
use Rattle.fixed_box.specs.Touch.{IsWithinAt}
use Rattle.fixed_box.specs.declared.Coord.{Coord}
use Rattle.fixed_box.specs.declared.FixBox.{FixBox}
use Rattle.fixed_box.specs.declared.Segment.{Segment}
use Rattle.fixed_box.proofs.Order.{axes_from_at_most}
use Rattle.shape_test.specs.Place.{TouchingPlace, EndsAt}

pub TouchingPlace-from_within : (s : Segment) (b : FixBox) (n m : ℕ) → IsWithinAt s b n m → TouchingPlace s b
TouchingPlace-from_within s b n m w = record {
  place = record { scale = m; nonzero = w.nonzero; on = λ axis. pos m *ℤ on_axis s.o axis +ℤ pos n *ℤ along s.d axis };
  on_segment = record { n = n; at_most_one = w.at_most_one; there = (refl, refl, refl) };
  in_box = w.between;
}

pub within_from_place : (s : Segment) (b : FixBox) (t : TouchingPlace s b) → IsWithinAt s b t.on_segment.n t.place.scale
within_from_place s b t =
    let e = t.on_segment.there in
    let k = t.in_box in
    record {
      nonzero = t.place.nonzero;
      at_most_one = t.on_segment.at_most_one;
      between = (rw (← e.0) k.0, rw (← e.1) k.1, rw (← e.2) k.2);
    }

end_axis : (lo o d hi p : ℤ) → p ≡ o +ℤ d → lo ≤ℤ p → p ≤ℤ hi → ((pos 1 *ℤ lo) ≤ℤ (pos 1 *ℤ o +ℤ pos 1 *ℤ d)) × ((pos 1 *ℤ o +ℤ pos 1 *ℤ d) ≤ℤ (pos 1 *ℤ hi))
end_axis lo o d hi p e l h = (omega (arith, ints), omega (arith, ints))

pub ends_within : (s : Segment) (b : FixBox) (end : List Coord) → EndsAt s end → IsTrue (is_within end b) → IsWithinAt s b 1 1
ends_within s b end e h =
    let f = and_parts _ _ h in
    let l = axes_from_at_most b.lo end f.0 in
    let u = axes_from_at_most end b.hi f.1 in
    record {
      nonzero = omega arith;
      at_most_one = omega arith;
      between = (
        end_axis _ (on_axis s.o 0) (along s.d 0) _ _ e.0 l.0 u.0,
        end_axis _ (on_axis s.o 1) (along s.d 1) _ _ e.1 l.1 u.1,
        end_axis _ (on_axis s.o 2) (along s.d 2) _ _ e.2 l.2 u.2,
      );
    }
