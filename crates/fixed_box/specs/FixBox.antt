-- What boxes have to do with points and with one another.
use Rattle.std.specs.Prelude.{◌≡◌, Bool, ◌&&◌, IsTrue, ℕ, List, [], ◌∷◌, length}
use Rattle.fixed_box.specs.Word.{word_of}
use Rattle.fixed_box.specs.Corner.{on_axis, is_at_most}
use Rattle.fixed_box.specs.declared.coord.Coord.{Coord}
use Rattle.fixed_box.specs.declared.fix_box.FixBox.{FixBox}

-- the point lies in the box, or on its surface
abbrev pub is_within : List Coord → FixBox → Bool
is_within point b = is_at_most b.lo point && is_at_most point b.hi

-- neither box lies wholly to one side of the other on any axis
abbrev pub touches : FixBox → FixBox → Bool
touches a b = is_at_most a.lo b.hi && is_at_most b.lo a.hi

-- the first box reaches as far as the second each way
abbrev pub contains : FixBox → FixBox → Bool
contains outer inner = is_at_most outer.lo inner.lo && is_at_most inner.hi outer.hi

-- the least box that contains both
pub record IsHull (a b hull : FixBox) : Type 0 where
  pub first : IsTrue (contains hull a)
  pub second : IsTrue (contains hull b)
  pub least : (larger : FixBox)
      → IsTrue (contains larger a) → IsTrue (contains larger b) → IsTrue (contains larger hull)

-- the six words of a box: lo x, y, z and then hi x, y, z
abbrev pub words_of : FixBox → List ℕ
words_of b =
    word_of (on_axis b.lo 0) ∷ word_of (on_axis b.lo 1) ∷ word_of (on_axis b.lo 2) ∷
    word_of (on_axis b.hi 0) ∷ word_of (on_axis b.hi 1) ∷ word_of (on_axis b.hi 2) ∷ []

-- a point of both boxes
pub record SharedPoint (a b : FixBox) : Type 0 where
  pub point : List Coord
  pub three : length point ≡ 3
  pub in_first : IsTrue (is_within point a)
  pub in_second : IsTrue (is_within point b)
