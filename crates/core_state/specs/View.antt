-- What a view says, and the view of a pass that has done nothing.
use Rattle.std.specs.Prelude.{◌≡◌, ℕ, ◌==◌, if◌then◌else◌, List, [], fold, Option, Some, None, false}
use Rattle.word_map.specs.declared.config.Config.{Config}
use Rattle.core_state.specs.declared.view.Role.{Role}
use Rattle.core_state.specs.declared.view.Role.TheVariants.{Pass, Visitor, Spent}
use Rattle.core_state.specs.declared.view.Mode.{Mode}
use Rattle.core_state.specs.declared.view.LockStep.{LockStep}
use Rattle.core_state.specs.declared.view.LockStep.TheVariants.{Taken, Released}
use Rattle.core_state.specs.declared.view.Task.TheVariants.{Nothing}
use Rattle.core_state.specs.declared.view.Walk.{Walk}
use Rattle.core_state.specs.declared.view.Call.{Call}
use Rattle.core_state.specs.declared.item.Item.{Item}
use Rattle.core_state.specs.declared.view.Joined.{Joined}
use Rattle.core_state.specs.declared.view.View.{View}
use Rattle.word_map.specs.declared.name.Name.{Name}
use Rattle.core_state.specs.Log.{word}

-- the number of the pass whose view it is; a visitor and a spent view have none
abbrev pub number_in : Role → Option ℕ
number_in (Pass number further) = Some number
number_in Visitor = None
number_in Spent = None

abbrev pub number_of : View → Option ℕ
number_of view = number_in view.role

abbrev pub IsPass : View → ℕ → Type 0
IsPass view number = number_of view ≡ Some number

-- how a lock is held after a step on some lock
abbrev pub mode_after : ℕ → Option Mode → LockStep → Option Mode
mode_after lock before (Taken taken mode) = if taken == lock then Some mode else before
mode_after lock before (Released released) = if released == lock then None else before

-- how a pass holds a lock after its steps on locks
abbrev pub mode_of : List LockStep → ℕ → Option Mode
mode_of steps lock = fold (mode_after lock) None steps

-- the pass holds the lock so
abbrev pub Holds : View → ℕ → Mode → Type 0
Holds view lock mode = mode_of view.locks lock ≡ Some mode

-- the pass does not hold it
abbrev pub HoldsNot : View → ℕ → Type 0
HoldsNot view lock = mode_of view.locks lock ≡ None

-- what the pass knew by its own last step: while it meets another, what it knew before
abbrev pub known_alone : Option Joined → List Item → List Item
known_alone None known = known
known_alone (Some joined) known = joined.own

abbrev pub own_known : View → List Item
own_known view = known_alone view.joined view.known

-- a word as the pass knows it
abbrev pub known_word : View → Name → ℕ
known_word view name = word view.config view.known name

-- no walk yet, and nothing under way under a lock
abbrev pub no_walk : Walk
no_walk = record { is_on = false; from = 0; loads = []; bound = [] }

abbrev pub no_call : Call
no_call = record { task = Nothing; loads = []; stores = [] }

-- a view that holds nothing, owns nothing and knows nothing
abbrev pub blank_view : Config → Role → View
blank_view c role = record {
  config = c;
  role = role;
  known = [];
  joined = None;
  locks = [];
  walk = no_walk;
  call = no_call;
  batches = [];
  loose = [];
  written = [];
  rebuild = None;
}
