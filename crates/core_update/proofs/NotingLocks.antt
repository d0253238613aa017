-- The first steps of an update and the last ones leave the locks of their pass as they were, and its walk.
use Rattle.std.proofs.Common.{Bool, true, false, Some, cond, eqb, refl}
use Rattle.core_state.specs.Noting.{new_update, begin_update, load_arena, note_slot, look_at_body}
use Rattle.core_state.specs.Retiring.{switch_arena, end_update}
use Rattle.core_guard.proofs.LockSteps.{HasSameLocks, LeavesLocks}

pub begin_update-still : LeavesLocks begin_update
begin_update-still view name found first second = go (eqb found first)
  where
    go : (test : Bool) → HasSameLocks view (cond test (record view { rebuild = Some (new_update view) }) view)
    go true = (refl, refl)
    go false = (refl, refl)

pub load_arena-still : LeavesLocks load_arena
load_arena-still view name found first second = (refl, refl)

pub note_slot-still : LeavesLocks note_slot
note_slot-still view name found first second = (refl, refl)

pub look_at_body-still : LeavesLocks look_at_body
look_at_body-still view name found first second = (refl, refl)

pub switch_arena-still : LeavesLocks switch_arena
switch_arena-still view name found first second = (refl, refl)

pub end_update-still : LeavesLocks end_update
end_update-still view name found first second = (refl, refl)
