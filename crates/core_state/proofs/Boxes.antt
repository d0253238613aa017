-- The box of six words is the one whose words they are.
use Rattle.std.proofs.Common.{◌≡◌, ◌<◌, ℕ, ℤ, pos, negsuc, ◌-ℤ◌, int_le, Bool, true, false, T, IsTrue, List, [], ◌∷◌, slice_index, Option, Some, refl, ap, sym, ◌∙◌, subst, arith}
use Rattle.std.proofs.lemmas.Int.{ints}
use Rattle.fixed_box.specs.Range.{InRange}
use Rattle.fixed_box.specs.Word.{word_of}
use Rattle.fixed_box.specs.Corner.{on_axis, is_at_most}
use Rattle.fixed_box.specs.FixBox.{words_of}
use Rattle.fixed_box.specs.declared.coord.Coord.{Coord}
use Rattle.fixed_box.specs.declared.fix_box.FixBox.{FixBox}
use Rattle.fixed_box.proofs.Words.{on_axis_in_range, words_tell_boxes_apart}
use Rattle.core_state.specs.Encoding.{Sides}
use Rattle.core_state.specs.Boxes.{where_yes, where_true, coord_at, coord_of, box_between, box_of}

yes-made : {A : Type 0} (test : Bool) (make : T test → Option A) (t : T test) → where_yes test make ≡ make t
yes-made true make t = refl
yes-made false make t = elim t [ ]

true-made : {A : Type 0} (test : Bool) (make : IsTrue test → Option A) (t : IsTrue test) → (u : IsTrue test) × (where_true test make ≡ make u)
true-made true make t = (refl, refl)
true-made false make t = absurd (cc)

-- a coordinate that has a number
record IsCoordOf (o : Option Coord) (v : ℤ) : Type 0 where
  coord : Coord
  some : o ≡ Some coord
  value : coord.value ≡ v

coord_at-some : (v : ℤ) → InRange v → IsCoordOf (coord_at v) v
coord_at-some v range =
    let low : T (int_le (negsuc 8388607) v) = range.0.le in
    let high : T (int_le v (pos 8388607)) = range.1.le in
    record {
      coord = record { value = v; in_range = (record { le = low }, record { le = high }) };
      some = yes-made (int_le (negsuc 8388607) v) _ low ∙ yes-made (int_le v (pos 8388607)) _ high;
      value = refl;
    }

word-back : (v : ℤ) → InRange v → pos (word_of v) -ℤ pos 8388609 ≡ v
word-back v range = let low = range.0 in grind (arith, ints)

coord_of-some : (word : ℕ) (v : ℤ) → InRange v → word ≡ word_of v → IsCoordOf (coord_of word) v
coord_of-some word v range e =
    subst (λ (w : ℕ). IsCoordOf (coord_of w) v) (sym e) (subst (λ (u : ℤ). IsCoordOf (coord_at u) v) (sym (word-back v range)) (coord_at-some v range))

-- with six coordinates of a box that is ordered, the box between them has their words
between-some : (o p q r s t : Option Coord) (b : FixBox)
    → IsCoordOf o (on_axis b.lo 0) → IsCoordOf p (on_axis b.lo 1) → IsCoordOf q (on_axis b.lo 2)
    → IsCoordOf r (on_axis b.hi 0) → IsCoordOf s (on_axis b.hi 1) → IsCoordOf t (on_axis b.hi 2)
    → (made : FixBox) × (box_between o p q r s t ≡ Some made) × (words_of made ≡ words_of b)
between-some o p q r s t b x y z u v w =
    let lo : List Coord = x.coord ∷ y.coord ∷ z.coord ∷ [] in
    let hi : List Coord = u.coord ∷ v.coord ∷ w.coord ∷ [] in
    let ordered : IsTrue (is_at_most lo hi) = rw (x.value, y.value, z.value, u.value, v.value, w.value) b.ordered.at_most in
    let made : IsTrue (is_at_most lo hi) → FixBox = λ k. record { lo = lo; hi = hi; ordered = record { three_lo = refl; three_hi = refl; at_most = k } } in
    let step = true-made (is_at_most lo hi) (λ k. Some (made k)) ordered in (
      made step.0,
      (λ i. box_between (x.some i) (y.some i) (z.some i) (u.some i) (v.some i) (w.some i)) ∙ step.1,
      λ i. word_of (x.value i) ∷ word_of (y.value i) ∷ word_of (z.value i) ∷ word_of (u.value i) ∷ word_of (v.value i) ∷ word_of (w.value i) ∷ [],
    )

pub box_of-words : (b : FixBox) (sides : Sides) → ((k : ℕ) → k < 6 → sides k ≡ slice_index (words_of b) k) → box_of sides ≡ Some b
box_of-words b sides same =
    let lo = on_axis_in_range b.lo in
    let hi = on_axis_in_range b.hi in
    let t = between-some _ _ _ _ _ _ b
    (coord_of-some (sides 0) _ (lo 0) (same 0 (omega arith))) (coord_of-some (sides 1) _ (lo 1) (same 1 (omega arith))) (coord_of-some (sides 2) _ (lo 2) (same 2 (omega arith)))
    (coord_of-some (sides 3) _ (hi 0) (same 3 (omega arith))) (coord_of-some (sides 4) _ (hi 1) (same 4 (omega arith))) (coord_of-some (sides 5) _ (hi 2) (same 5 (omega arith))) in
    t.1 ∙ ap Some (words_tell_boxes_apart t.0 b t.2)
