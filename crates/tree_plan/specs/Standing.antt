-- The tree over bodies that are arranged already.
use Rattle.std.specs.Prelude.{ℕ, zero, suc, ◌-◌, ◌/◌, List, length, take, drop}
use Rattle.fixed_box.specs.declared.fix_box.FixBox.{FixBox}
use Rattle.scene_model.specs.Tree.{Tree, nothing, node, child_of}

-- the first half of the bodies as they stand, and the rest
abbrev pub front_of : List (ℕ × FixBox) → List (ℕ × FixBox)
front_of bodies = take (length bodies - length bodies / 2) bodies

abbrev pub back_of : List (ℕ × FixBox) → List (ℕ × FixBox)
back_of bodies = drop (length bodies - length bodies / 2) bodies

-- the node over the four runs as they stand, as far as so many levels reach
abbrev pub standing_within : ℕ → List (ℕ × FixBox) → Tree
standing_within zero bodies = nothing
standing_within (suc levels) bodies =
    let front = front_of bodies in
    let back = back_of bodies in
    node (child_of (standing_within levels) (front_of front)) (child_of (standing_within levels) (back_of front)) (child_of (standing_within levels) (front_of back)) (child_of (standing_within levels) (back_of back))
