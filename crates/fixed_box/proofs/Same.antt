-- Coordinates, corners and boxes are the same where their numbers are.
use Rattle.std.proofs.Common.{◌≡◌, ℕ, List, [], ◌∷◌, length, get_or, arith}
use mathlib.Core.HLevel.{is_prop→PathP}
use Rattle.std.proofs.Props.{props}
use Rattle.fixed_box.specs.Corner.{OnEachAxis, on_axis, IsOrdered}
use Rattle.fixed_box.specs.Range.{InRange}
use Rattle.fixed_box.specs.declared.coord.Coord.{Coord}
use Rattle.fixed_box.specs.declared.fix_box.FixBox.{FixBox}

pub same_coord : (a b : Coord) → a.value ≡ b.value → a ≡ b
same_coord a b e = λ i. record {
  value = e i;
  in_range = is_prop→PathP (λ j. InRange (e j)) (λ j. hlevel props) a.in_range b.in_range i;
}

pub same_corner : (a b : List Coord) → length a ≡ 3 → length b ≡ 3 → OnEachAxis (λ axis. on_axis a axis ≡ on_axis b axis) → a ≡ b
same_corner (a ∷ b ∷ c ∷ []) (x ∷ y ∷ z ∷ []) h k e =
    let p = same_coord a x e.0 in
    let q = same_coord b y e.1 in
    let r = same_coord c z e.2 in
    cc
same_corner _ _ h k e = absurd (omega (arith, h, k))

pub same_box : (a b : FixBox) → a.lo ≡ b.lo → a.hi ≡ b.hi → a ≡ b
same_box a b l h = λ i. record {
  lo = l i;
  hi = h i;
  ordered = is_prop→PathP (λ j. IsOrdered (l j) (h j)) (λ j. hlevel props) a.ordered b.ordered i;
}

-- a list of six by its items
pub same_six : (a b c d e f : ℕ) (w : List ℕ) → length w ≡ 6 → a ≡ get_or w 0 0 → b ≡ get_or w 1 0 → c ≡ get_or w 2 0 → d ≡ get_or w 3 0 → e ≡ get_or w 4 0 → f ≡ get_or w 5 0 → a ∷ b ∷ c ∷ d ∷ e ∷ f ∷ [] ≡ w
same_six a b c d e f (u ∷ v ∷ x ∷ y ∷ z ∷ t ∷ []) h p q r s n o = cc
same_six a b c d e f _ h _ _ _ _ _ _ = absurd (omega (arith, h))
