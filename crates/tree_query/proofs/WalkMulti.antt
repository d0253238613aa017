-- A guard of several bodies is good still after a walk.
use Rattle.std.proofs.Common.{◌≡◌, List, ap}
use Rattle.core_state.specs.declared.item.Store.{Store}
use Rattle.core_state.specs.declared.view.View.{View}
use Rattle.body_lock.specs.declared.multi_guard.MultiGuard.{MultiGuard}
use Rattle.body_lock.specs.Multi.{IsMultiGood}
use Rattle.body_lock.proofs.Guards.{multi-kept}
use Rattle.tree_query.specs.Walking.{HasWalked}
use Rattle.tree_query.proofs.WalkGuards.{walked-sizes, walked-role, walked-locks, walked-guards}

pub walked-multi : (start next : View) (stores : List Store) → HasWalked start next stores → next.walk.is_on ≡ start.walk.is_on → (guard : MultiGuard) → IsMultiGood guard start → IsMultiGood guard next
walked-multi start next stores h walk guard =
    multi-kept guard start next (walked-sizes start next stores h) (walked-role start next stores h) (walked-locks start next stores h) (ap (λ (v : View). v.call.task) h.left) walk
    (λ id. walked-guards start next stores h guard.number id guard.mode)
