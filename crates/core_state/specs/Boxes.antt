-- The box that six words say.
use Rattle.std.specs.Prelude.{ℕ, ℤ, pos, negsuc, ◌-ℤ◌, int_le, Bool, true, false, T, IsTrue, [], ◌∷◌, Option, Some, None}
use Rattle.std.proofs.Common.{refl}
use Rattle.fixed_box.specs.Corner.{is_at_most}
use Rattle.fixed_box.specs.declared.coord.Coord.{Coord}
use Rattle.fixed_box.specs.declared.fix_box.FixBox.{FixBox}
use Rattle.core_state.specs.Encoding.{Sides}

-- what is made where a test passes
abbrev pub where_yes : {A : Type 0} (test : Bool) → (T test → Option A) → Option A
where_yes true make = make tt
where_yes false make = None

abbrev pub where_true : {A : Type 0} (test : Bool) → (IsTrue test → Option A) → Option A
where_true true make = make refl
where_true false make = None

-- the coordinate of a number that is in range
abbrev pub coord_at : ℤ → Option Coord
coord_at v =
    where_yes (int_le (negsuc 8388607) v)
    (λ low. where_yes (int_le v (pos 8388607)) (λ high. Some (record { value = v; in_range = (record { le = low }, record { le = high }) })))

-- the coordinate of a word
abbrev pub coord_of : ℕ → Option Coord
coord_of word = coord_at (pos word -ℤ pos 8388609)

-- the box between two corners, of which the low one is at most the high one
abbrev pub box_between : Option Coord → Option Coord → Option Coord → Option Coord → Option Coord → Option Coord → Option FixBox
box_between (Some a) (Some b) (Some c) (Some d) (Some e) (Some f) =
    where_true (is_at_most (a ∷ b ∷ c ∷ []) (d ∷ e ∷ f ∷ []))
    (λ ordered. Some (record { lo = a ∷ b ∷ c ∷ []; hi = d ∷ e ∷ f ∷ []; ordered = record { three_lo = refl; three_hi = refl; at_most = ordered } }))
box_between _ _ _ _ _ _ = None

-- the box of six words, if they are those of one
abbrev pub box_of : Sides → Option FixBox
box_of b = box_between (coord_of (b 0)) (coord_of (b 1)) (coord_of (b 2)) (coord_of (b 3)) (coord_of (b 4)) (coord_of (b 5))
