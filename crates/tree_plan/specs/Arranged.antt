-- The bodies in the order in which they stand in their tree.
use Rattle.std.specs.Prelude.{ℕ, zero, suc, ◌<◌, ◌≤◌, nat_eq, nat_lt, List, ◌++◌, length, map, slice_index_or, if◌then◌else◌}
use Rattle.std.specs.List.{IsDistinct}
use Rattle.fixed_box.specs.declared.fix_box.FixBox.{FixBox}
use Rattle.scene_model.specs.Tree.{front_half, back_half}
use Rattle.tree_plan.specs.Axes.{key_of}

-- no index twice
abbrev pub AreApart : List (ℕ × FixBox) → Type 0
AreApart bodies = IsDistinct nat_eq (map (λ b. b.0) bodies)

-- none of the first bodies, so many of them, has a greater key on the axis than one of the others
abbrev pub IsSplit : ℕ → ℕ → List (ℕ × FixBox) → Type 0
IsSplit axis front bodies =
    (i j : ℕ) (d : ℕ × FixBox) → i < front → front ≤ j → j < length bodies → key_of axis (slice_index_or bodies i d) ≤ key_of axis (slice_index_or bodies j d)

-- halved as often as so many levels allow
abbrev pub arranged_within : ℕ → List (ℕ × FixBox) → List (ℕ × FixBox)
arranged_within zero bodies = bodies
arranged_within (suc levels) bodies =
    if nat_lt (length bodies) 2 then bodies else arranged_within levels (front_half bodies) ++ arranged_within levels (back_half bodies)

-- the halves one after the other, each of them arranged: bodies can never be halved as often as they are many
abbrev pub arranged : List (ℕ × FixBox) → List (ℕ × FixBox)
arranged bodies = arranged_within (length bodies) bodies
