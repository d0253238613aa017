-- How entries change the numbers of bodies that are live, and that are in the broad phase.
use Rattle.std.specs.Prelude.{◌≡◌, ℕ, ◌+◌, List, length, sum_by}
use Rattle.scene_model.specs.declared.entry.Entry.{Entry}
use Rattle.scene_model.specs.declared.entry.Entry.TheVariants.{Create, Destroy, Join, Remove}
use Rattle.script_player.specs.declared.bodies.Change.{Change}
use Rattle.script_player.specs.declared.bodies.Change.TheVariants as changes

-- how many bodies an entry creates, and how many it destroys
abbrev pub created_by : Entry → ℕ
created_by (Create index layer bounds user) = 1
created_by entry = 0

abbrev pub destroyed_by : Entry → ℕ
destroyed_by (Destroy index) = 1
destroyed_by entry = 0

-- how many come into the broad phase by it, and how many are taken out
abbrev pub joined_by : Entry → ℕ
joined_by (Join layer indexes) = length indexes
joined_by entry = 0

abbrev pub removed_by : Entry → ℕ
removed_by (Remove index) = 1
removed_by entry = 0

-- the numbers of live bodies before and after entries, and those of bodies in the broad phase
abbrev pub CountsLive : List Entry → ℕ → ℕ → Type 0
CountsLive entries before after = after + sum_by destroyed_by entries ≡ before + sum_by created_by entries

abbrev pub CountsInside : List Entry → ℕ → ℕ → Type 0
CountsInside entries before after = after + sum_by removed_by entries ≡ before + sum_by joined_by entries

-- how many bodies a change destroys, and how many it takes out of the broad phase
abbrev pub destroys : Change → ℕ
destroys changes.Destroy = 1
destroys change = 0

abbrev pub removes : Change → ℕ
removes changes.Remove = 1
removes change = 0
