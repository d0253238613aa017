-- Boxes that are moved, and what a step does.
use Rattle.std.specs.Prelude.{◌≡◌, ℕ, zero, ◌-◌, ◌==◌, ◌&&◌, Bool, true, false, T, if◌then◌else◌, ℤ, pos, negsuc, ◌+ℤ◌, int_le, List, [], ◌∷◌, ◌++◌, length, Option, Some, None, option_map, option_and_then, filter_map, bytes_eq}
use Rattle.std.specs.List.{list_any, list_all, filter}
use Rattle.fixed_box.specs.declared.coord.Coord.{Coord}
use Rattle.fixed_box.specs.declared.fix_box.FixBox.{FixBox}
use Rattle.fixed_box.specs.Corner.{on_axis, along, is_at_most}
use Rattle.body_ident.specs.Id.{Id}
use Rattle.scene_model.specs.declared.body_view.BodyView.{BodyView}
use Rattle.scene_model.specs.declared.body_view.Phase.{Phase}
use Rattle.scene_model.specs.declared.body_view.Phase.TheVariants as phases
use Rattle.scene_model.specs.declared.entry.Entry.{Entry}
use Rattle.scene_model.specs.declared.entry.Entry.TheVariants as entries
use Rattle.scene_model.specs.Scene.{Scene}
use Rattle.script_player.specs.declared.books.Known.{Known}
use Rattle.script_player.specs.Body.{body_of}

-- ---- a box that is moved

-- what can be made where a test holds
abbrev pub where_so : {A : Type 0} → (b : Bool) → (T b → Option A) → Option A
where_so true make = make tt
where_so false make = None

abbrev pub where_true : {A : Type 0} → (b : Bool) → (b ≡ true → Option A) → Option A
where_true true make = make (λ i. true)
where_true false make = None

-- the coordinate with this number, where there is one
abbrev pub coord_of : ℤ → Option Coord
coord_of v =
    where_so (int_le (negsuc 8388607) v) (λ low. where_so (int_le v (pos 8388607)) (λ high.
    Some (record { value = v; in_range = (record { le = low }, record { le = high }) })))

abbrev pub coord_by : List Coord → List ℤ → ℕ → Option Coord
coord_by corner v axis = coord_of (on_axis corner axis +ℤ along v axis)

-- the box with these corners
abbrev pub box_of : (x y z a b c : Coord) → Option FixBox
box_of x y z a b c =
    where_true (is_at_most (x ∷ y ∷ z ∷ []) (a ∷ b ∷ c ∷ [])) (λ ordered.
    Some (record { lo = x ∷ y ∷ z ∷ []; hi = a ∷ b ∷ c ∷ []; ordered = record { three_lo = λ i. 3; three_hi = λ i. 3; at_most = ordered } }))

-- a box moved by so much on each axis, where it stays in the range of coordinates
abbrev pub shifted : FixBox → List ℤ → Option FixBox
shifted b v =
    option_and_then (λ x. option_and_then (λ y. option_and_then (λ z.
    option_and_then (λ a. option_and_then (λ c. option_and_then (λ d. box_of x y z a c d)
    (coord_by b.hi v 2)) (coord_by b.hi v 1)) (coord_by b.hi v 0))
    (coord_by b.lo v 2)) (coord_by b.lo v 1)) (coord_by b.lo v 0)

-- ---- velocities

-- a name, and by how much each step moves its body
pub record Speed : Type 0 where
  pub name : List ℕ
  pub by : List ℤ

abbrev pub is_zero : ℤ → Bool
is_zero (pos zero) = true
is_zero v = false

abbrev pub has_speed : List Speed → List ℕ → Bool
has_speed speeds name = list_any (λ s. bytes_eq s.name name) speeds

-- another velocity in the place of the one that a name has
abbrev pub speed_set : List Speed → List ℕ → List ℤ → List Speed
speed_set [] name v = []
speed_set (s ∷ speeds) name v = if bytes_eq s.name name then record { name = name; by = v } ∷ speeds else s ∷ speed_set speeds name v

-- velocities in the order in which each name had last none; that of no steps at all takes it away
abbrev pub with_speed : List Speed → List ℕ → List ℤ → List Speed
with_speed speeds name v =
    if list_all is_zero v then filter (λ s. if bytes_eq s.name name then false else true) speeds
    else (if has_speed speeds name then speed_set speeds name v else speeds ++ record { name = name; by = v } ∷ [])

-- ---- a step

-- a body that is to be moved, and by how much
pub record Shift : Type 0 where
  pub id : Id
  pub by : List ℤ

abbrev pub is_same_id : Id → Id → Bool
is_same_id a b = (a.index == b.index) && (a.seq == b.seq)

abbrev pub with_shift : List Shift → Option Known → List ℤ → List Shift
with_shift list None v = list
with_shift list (Some known) v = if list_any (λ s. is_same_id s.id known.id) list then list else list ++ record { id = known.id; by = v } ∷ []

-- the bodies of the names that have a velocity; a name without an id is left out, and of equal ids the first counts
abbrev pub shifts_from : (List ℕ → Option Known) → List Shift → List Speed → List Shift
shifts_from known list [] = list
shifts_from known list (s ∷ speeds) = shifts_from known (with_shift list (known s.name) s.by) speeds

abbrev pub shifts_of : (List ℕ → Option Known) → List Speed → List Shift
shifts_of known speeds = shifts_from known [] speeds

-- a body that a batch holds is kept as it is, and so is one that would leave the range of coordinates
abbrev pub shift_allowed : Phase → Option FixBox → Option FixBox
shift_allowed phases.Held b = None
shift_allowed phase b = b

abbrev pub shift_view : ℕ → List ℤ → BodyView → Option Entry
shift_view index v view = option_map (λ b. entries.Move index b) (shift_allowed view.phase (shifted view.bounds v))

abbrev pub shift_entry : Scene → Shift → Option Entry
shift_entry scene s = option_and_then (shift_view s.id.index s.by) (body_of scene s.id)

-- the moves of a step, in the order of its list; the bodies are different ones, so each is moved from where it stood
abbrev pub step_moves : Scene → List Shift → List Entry
step_moves scene list = filter_map (shift_entry scene) list

-- how many are moved, and how many are kept
abbrev pub moved_count : Scene → List Shift → ℕ
moved_count scene list = length (step_moves scene list)

abbrev pub kept_count : Scene → List Shift → ℕ
kept_count scene list = length list - moved_count scene list
