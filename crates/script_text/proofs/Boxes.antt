-- Boxes and the words of their corners.
use Rattle.std.proofs.Common.{◌≡◌, ℕ, Bool, true, false, ◌&&◌, List, [], ◌∷◌, map, ℤ, int_le, zip, refl, ◌∙◌}
use Rattle.std.specs.List.{list_all}
use Rattle.fixed_box.specs.declared.coord.Coord.{Coord}
use Rattle.fixed_box.specs.Corner.{on_axis, is_at_most}
use Rattle.script_text.specs.Number.{number_of}
use Rattle.script_text.specs.Fields.{SpellsCorner}

axes : (corner : List Coord) (x y z : ℤ) → map (λ c. c.value) corner ≡ x ∷ y ∷ z ∷ [] → (on_axis corner 0 ≡ x) × (on_axis corner 1 ≡ y) × (on_axis corner 2 ≡ z)
axes [] x y z h = absurd cc
axes (a ∷ []) x y z h = absurd cc
axes (a ∷ b ∷ []) x y z h = absurd cc
axes (a ∷ b ∷ c ∷ rest) x y z h = (cc, cc, cc)

all_three : (a b c : Bool) → (a && (b && (c && true))) ≡ ((a && b) && c)
all_three false b c = refl
all_three true false c = refl
all_three true true false = refl
all_three true true true = refl

-- two corners are in order just where their words are
pub in_order : (x0 y0 z0 x1 y1 z1 : List ℕ) (lo hi : List Coord) → SpellsCorner x0 y0 z0 lo → SpellsCorner x1 y1 z1 hi
    → list_all (λ p. int_le (number_of p.0) (number_of p.1)) (zip (x0 ∷ y0 ∷ z0 ∷ []) (x1 ∷ y1 ∷ z1 ∷ [])) ≡ is_at_most lo hi
in_order x0 y0 z0 x1 y1 z1 lo hi s t =
    let l = axes lo (number_of x0) (number_of y0) (number_of z0) s.values in
    let h = axes hi (number_of x1) (number_of y1) (number_of z1) t.values in
    all_three (int_le (number_of x0) (number_of x1)) (int_le (number_of y0) (number_of y1)) (int_le (number_of z0) (number_of z1))
    ∙ rw (l.0, l.1, l.2, h.0, h.1, h.2) refl
