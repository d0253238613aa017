-- Steps of moves and of removals leave the locks of their pass as they were, and its walk.
use Rattle.std.proofs.Common.{ℕ, refl}
use Rattle.word_map.specs.declared.name.Name.{Name}
use Rattle.word_map.specs.declared.name.Name.TheVariants.{Phase, BoxWord, LocB}
use Rattle.core_state.specs.declared.view.Task.{Task}
use Rattle.core_state.specs.declared.view.Task.TheVariants.{Moving}
use Rattle.core_state.specs.declared.view.View.{View}
use Rattle.core_state.specs.Moving.{widened_by, widen_low, widen_high, side_stored_by, store_side}
use Rattle.core_state.specs.Removing.{remove, clear_location}
use Rattle.core_guard.proofs.LockSteps.{HasSameLocks, LeavesLocks}

by-widening : (task : Task) (index : ℕ) (view : View) (name : Name) (value : ℕ) → HasSameLocks view (widened_by task index view name value)
by-widening (Moving i target) index view name value = (refl, refl)
by-widening _ index view name value = (refl, refl)

pub widen_low-still : (index : ℕ) → LeavesLocks (widen_low index)
widen_low-still index view name found first second = by-widening view.call.task index view name first

pub widen_high-still : (index : ℕ) → LeavesLocks (widen_high index)
widen_high-still index view name found first second = by-widening view.call.task index view name first

by-side : (task : Task) (view : View) (name : Name) (value : ℕ) → HasSameLocks view (side_stored_by task view name value)
by-side (Moving i target) view name value = (refl, refl)
by-side _ view (BoxWord index k) value = (refl, refl)
by-side _ view name value = (refl, refl)

pub store_side-still : LeavesLocks store_side
store_side-still view name found first second = by-side view.call.task view name first

pub remove-still : LeavesLocks remove
remove-still view (Phase index) found first second = (refl, refl)
remove-still view _ found first second = (refl, refl)

pub clear_location-still : LeavesLocks clear_location
clear_location-still view (LocB index) found first second = (refl, refl)
clear_location-still view _ found first second = (refl, refl)
