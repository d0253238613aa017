-- What the bounds of a planned tree are held as.
use Rattle.std.specs.Prelude.{ℕ, ◌+◌, ◌*◌, pos, List, [], ◌∷◌, slice_index_or}
use Rattle.std.proofs.Common.{refl}
use Rattle.fixed_box.specs.declared.coord.Coord.{Coord}
use Rattle.fixed_box.specs.declared.fix_box.FixBox.{FixBox}

-- for how many bodies at most there is room, how many nodes have bounds, and these bounds: four for node 0, four for
-- node 1 and so on
pub record HeldBounds : Type 0 where
  pub most : ℕ
  pub nodes : ℕ
  pub boxes : List FixBox

-- the box of the one point in the middle, which is read where no box is held
abbrev pub middle : List Coord
middle =
    let c : Coord = record { value = pos 0; in_range = (record { le = tt }, record { le = tt }) } in
    c ∷ c ∷ c ∷ []

abbrev pub no_bound : FixBox
no_bound = record { lo = middle; hi = middle; ordered = record { three_lo = refl; three_hi = refl; at_most = refl } }

-- the bound of child c of node n, where each node has four boxes
abbrev pub bound_in : List FixBox → ℕ → ℕ → FixBox
bound_in boxes n c = slice_index_or boxes (4 * n + c) no_bound

abbrev pub bound_of : HeldBounds → ℕ → ℕ → FixBox
bound_of held = bound_in held.boxes
