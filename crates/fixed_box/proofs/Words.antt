-- What is known of the words of a box.
use Rattle.std.proofs.Common.{◌≡◌, ℕ, zero, suc, ◌≤◌, List, [], ◌∷◌, ℤ, ◌≤ℤ◌, get_or, refl, ap, subst, arith}
use Rattle.std.proofs.lemmas.Int.{ints}
use Rattle.fixed_box.specs.Range.{InRange}
use Rattle.fixed_box.specs.Word.{word_of}
use Rattle.fixed_box.specs.Corner.{on_axis, IsOrdered}
use Rattle.fixed_box.specs.FixBox.{words_of}
use Rattle.fixed_box.specs.declared.coord.Coord.{Coord}
use Rattle.fixed_box.specs.declared.fix_box.FixBox.{FixBox}
use Rattle.fixed_box.proofs.Order.{axes_from_at_most, at_most_from_axes}
use Rattle.fixed_box.proofs.Same.{same_corner, same_box}

pub on_axis_in_range : (a : List Coord) (i : ℕ) → InRange (on_axis a i)
on_axis_in_range [] i = (omega (arith, ints), omega (arith, ints))
on_axis_in_range (c ∷ cs) zero = c.in_range
on_axis_in_range (c ∷ cs) (suc i) = on_axis_in_range cs i

pub word_of-range : (v : ℤ) → InRange v → (1 ≤ word_of v) × (word_of v ≤ 16777216)
word_of-range v r = (grind (arith, ints), grind (arith, ints))

pub word_of-le : (u v : ℤ) → InRange u → InRange v → u ≤ℤ v → word_of u ≤ word_of v
word_of-le u v r s h = grind (arith, ints)

pub le_from_words : (u v : ℤ) → InRange u → InRange v → word_of u ≤ word_of v → u ≤ℤ v
le_from_words u v r s h = grind (arith, ints)

pub same_from_words : (u v : ℤ) → InRange u → InRange v → word_of u ≡ word_of v → u ≡ v
same_from_words u v r s h = grind (arith, ints)

-- two words of coordinates, the first at most the second
abbrev pub AreWords : ℕ → ℕ → Type 0
AreWords lo hi = (1 ≤ lo) × (lo ≤ hi) × (hi ≤ 16777216)

sides_are_words : (b : FixBox) (axis : ℕ) → on_axis b.lo axis ≤ℤ on_axis b.hi axis → AreWords (word_of (on_axis b.lo axis)) (word_of (on_axis b.hi axis))
sides_are_words b axis h =
    let lo = on_axis_in_range b.lo axis in
    let hi = on_axis_in_range b.hi axis in
    ((word_of-range _ lo).0, word_of-le _ _ lo hi h, (word_of-range _ hi).1)

pub AreWords-of_box : (b : FixBox) (w : List ℕ) → words_of b ≡ w → AreWords (get_or w 0 0) (get_or w 3 0) × AreWords (get_or w 1 0) (get_or w 4 0) × AreWords (get_or w 2 0) (get_or w 5 0)
AreWords-of_box b w e =
    let h = axes_from_at_most b.lo b.hi b.ordered.at_most in
    subst (λ (w : List ℕ). AreWords (get_or w 0 0) (get_or w 3 0) × AreWords (get_or w 1 0) (get_or w 4 0) × AreWords (get_or w 2 0) (get_or w 5 0)) e (sides_are_words b 0 h.0, sides_are_words b 1 h.1, sides_are_words b 2 h.2)

pub IsOrdered-from_words : (a b c d e f : Coord) → word_of a.value ≤ word_of d.value → word_of b.value ≤ word_of e.value → word_of c.value ≤ word_of f.value → IsOrdered (a ∷ b ∷ c ∷ []) (d ∷ e ∷ f ∷ [])
IsOrdered-from_words a b c d e f x y z = record {
  three_lo = refl;
  three_hi = refl;
  at_most = at_most_from_axes (a ∷ b ∷ c ∷ []) (d ∷ e ∷ f ∷ []) (le_from_words _ _ a.in_range d.in_range x, le_from_words _ _ b.in_range e.in_range y, le_from_words _ _ c.in_range f.in_range z);
}

pub words_tell_boxes_apart : (a b : FixBox) → words_of a ≡ words_of b → a ≡ b
words_tell_boxes_apart a b e =
    let on = λ (i : ℕ). ap (λ (w : List ℕ). get_or w i 0) e in
    let same_side = λ (u v : List Coord) (i : ℕ) (k : word_of (on_axis u i) ≡ word_of (on_axis v i)). same_from_words (on_axis u i) (on_axis v i) (on_axis_in_range u i) (on_axis_in_range v i) k in
    same_box a b
    (same_corner a.lo b.lo a.ordered.three_lo b.ordered.three_lo (same_side a.lo b.lo 0 (on 0), same_side a.lo b.lo 1 (on 1), same_side a.lo b.lo 2 (on 2)))
    (same_corner a.hi b.hi a.ordered.three_hi b.ordered.three_hi (same_side a.hi b.hi 0 (on 3), same_side a.hi b.hi 1 (on 4), same_side a.hi b.hi 2 (on 5)))
