-- What the pass of a move knows of the way up closes: where it has climbed from a location to the root, every bound there
-- contains its target; and at the end of a move the box that the body then has.
use Rattle.std.proofs.Common.{◌≡◌, ℕ, List, refl, ap, sym, subst}
use Rattle.std.specs.Prelude.{option_map}
use Rattle.fixed_box.specs.FixBox.{words_of}
use Rattle.core_state.specs.declared.view.Task.{Task}
use Rattle.core_state.specs.declared.view.Task.TheVariants.{Moving}
use Rattle.core_state.specs.declared.view.Call.{Call}
use Rattle.core_state.specs.declared.view.View.{View}
use Rattle.core_state.specs.View.{IsPass}
use Rattle.core_state.specs.Core.{Core, IsViewAt}
use Rattle.core_state.specs.Kind.{Steps}
use Rattle.core_state.specs.Encoding.{sides_of}
use Rattle.core_state.specs.Formed.{IsFormed}
use Rattle.core_state.specs.Guards.{GuardsHold}
use Rattle.core_state.specs.Invariants.{Invariants}
use Rattle.core_state.specs.LocationsHold.{location_scope, IsLocation, Encloses}
use Rattle.core_state.specs.Moving.{HasClimbed, MayStoreLastSide, store_last_side}
use Rattle.core_state.specs.Parts.{call_by_task, call_on_places, update_on_places}
use Rattle.core_state.specs.Scope.{sight}
use Rattle.core_guard.proofs.Leaving.{acts-of}
use Rattle.core_guard.proofs.PlacesStay.{PassIsPlaced, pass-placed}
use Rattle.core_guard.proofs.Seats.{each-seat}
use Rattle.core_move.proofs.Climbing.{climbed-encloses}
use Rattle.core_move.proofs.LastStores.{wide-now}

pub climbs-close : (core : Core) (seat number : ℕ) (view : View) (index : ℕ) (target : List ℕ) (n k : ℕ) → Invariants core → IsViewAt core seat view → IsPass view number → view.call.task ≡ Moving index target
    → HasClimbed view.call (sides_of target) n k → Encloses (sight location_scope core) n k (sides_of target)
climbs-close core seat number view index target n k h at pass task climbed =
    let s = sight location_scope core in
    let old = each-seat location_scope (λ k v. refl) core (λ number v. PassIsPlaced h.nodes s v.call v.rebuild) (pass-placed h.nodes s h.locations) seat number view at pass in
    let seen : call_on_places view.call ≡ view.call = ap (λ (t : Task). call_by_task t view.call) task in
    climbed-encloses h.nodes s (option_map update_on_places view.rebuild) view.call (subst (λ (c : Call). PassIsPlaced h.nodes s c (option_map update_on_places view.rebuild)) seen old) (sides_of target) n k climbed

pub moved-enclosed : (before after : Core) (steps : Steps MayStoreLastSide store_last_side before after) → IsFormed before → GuardsHold before → Invariants before → (n k : ℕ)
    → IsLocation (sight location_scope after) steps.allowed.asked.index n k → Encloses (sight location_scope after) n k (sides_of (words_of steps.allowed.asked.bounds))
moved-enclosed before after steps formed guards h n k location =
    let step = steps.step in
    let asked = steps.allowed.asked in
    let a = acts-of MayStoreLastSide store_last_side before after steps formed guards h in
    subst (λ (c : Core). Encloses (sight location_scope c) n k (sides_of (words_of asked.bounds))) (sym steps.result)
    (wide-now before step a asked n k (subst (λ (c : Core). IsLocation (sight location_scope c) asked.index n k) steps.result location))
