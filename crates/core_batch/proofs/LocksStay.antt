-- Steps on batches and on the pool leave the locks of their pass as they were, and its walk.
use Rattle.std.proofs.Common.{zero, suc, ◌-◌, ◌++◌, [], ◌∷◌, Bool, true, false, cond, eqb, refl}
use Rattle.std.specs.List.{list_any}
use Rattle.word_map.specs.declared.name.Name.TheVariants.{Phase, LocA, Slot}
use Rattle.core_state.specs.declared.view.View.{View}
use Rattle.core_state.specs.Batches.{new_batch, reserve, mark, place_body, attach, take_back, unmark, let_slot_go}
use Rattle.core_state.specs.Pool.{node_taken, node_given, store_pool_head}
use Rattle.core_guard.proofs.LockSteps.{HasSameLocks, LeavesLocks}

one-of : (test : Bool) (view a b : View) → HasSameLocks view a → HasSameLocks view b → HasSameLocks view (cond test a b)
one-of true view a b h k = h
one-of false view a b h k = k

pub reserve-still : LeavesLocks reserve
reserve-still view (Slot layer slot) found first second = one-of (eqb found first) view (record view { batches = view.batches ++ new_batch layer slot ∷ [] }) view (refl, refl) (refl, refl)
reserve-still view _ found first second = (refl, refl)

pub mark-still : LeavesLocks mark
mark-still view (Phase index) found first second = (refl, refl)
mark-still view _ found first second = (refl, refl)

pub place-still : LeavesLocks place_body
place-still view (LocA index) found first second = (refl, refl)
place-still view _ found first second = (refl, refl)

pub attach-still : LeavesLocks attach
attach-still view (Slot layer slot) found first second = (refl, refl)
attach-still view _ found first second = (refl, refl)

pub take_back-still : LeavesLocks take_back
take_back-still view (LocA index) found first second = (refl, refl)
take_back-still view _ found first second = (refl, refl)

pub unmark-still : LeavesLocks unmark
unmark-still view (Phase index) found first second = (refl, refl)
unmark-still view _ found first second = (refl, refl)

pub let_slot_go-still : LeavesLocks let_slot_go
let_slot_go-still view (Slot layer slot) found first second = (refl, refl)
let_slot_go-still view _ found first second = (refl, refl)

pub pool_head-still : LeavesLocks store_pool_head
pool_head-still view name found zero second = (refl, refl)
pool_head-still view name found (suc node) second =
    one-of (list_any (λ n. eqb n node) view.loose) view (node_given view node) (node_taken view (found - 1)) (refl, refl) (refl, refl)
