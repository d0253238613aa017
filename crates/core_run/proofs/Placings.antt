-- The steps by which an update places bodies or gives them up, and what they ask as tests.
use Rattle.std.proofs.Common.{◌≡◌, ℕ, List, [], ◌∷◌, Contains, Option, Some, None, refl, ap, ◌∙◌}
use Rattle.word_map.specs.declared.name.Name.TheVariants.{State, Phase, BoxWord, LocA, LocB, Child, Bound, Parent}
use Rattle.word_map.specs.Names.{stripe_of}
use Rattle.core_state.specs.declared.view.Mode.TheVariants.{Write}
use Rattle.core_state.specs.declared.view.Task.{Task}
use Rattle.core_state.specs.declared.view.Task.TheVariants.{Nothing, Placing}
use Rattle.core_state.specs.declared.view.Noted.{Noted}
use Rattle.core_state.specs.declared.view.Rebuild.{Rebuild}
use Rattle.core_state.specs.declared.view.View.{View}
use Rattle.core_state.specs.View.{known_word}
use Rattle.core_state.specs.Encoding.{place, phase_out, phase_in}
use Rattle.core_state.specs.Core.{word_of}
use Rattle.core_state.specs.Event.{of_updates}
use Rattle.core_run.proofs.Tests.{◌>>=◌, same?, below?, at_most?, true?, place?, some?, some_in?, member?, absent?, holds?, idle?, placing?}
use Rattle.core_run.proofs.Steps.{Test, Move, act}
use Rattle.core_state.specs.Updates.{IsNoted}
use Rattle.core_state.specs.Moving.{HasComeTo}
use Rattle.core_state.specs.Placing.{IsKnownAsNoted, IsToPlace, IsPlannedPlace, WidensToPlace, begins_placing, goes_on_placing, MayWidenToPlace, MayWidenLowToPlace, widen_low_placing, MayWidenHighToPlace, widen_high_placing, MayLoadParentPlacing, load_parent_placing, MayPlaceNoted, place_noted, MayPlacePhase, place_phase, is_out, MayGiveUp, give_up}
use Rattle.core_state.specs.UpdateEvent.{widens_low_to_place, widens_high_to_place, loads_parent_to_place, places_noted, places_phase, gives_up}
use Rattle.core_run.proofs.Tests.{on_some?}
use Rattle.core_run.proofs.Climbing.{come?, climbed?}
use Rattle.core_run.proofs.Moves.{settled?, known_in?}
use Rattle.core_run.proofs.Notes.{joined?}

-- ---- a body that looks as it was noted

abbrev pub noted? : (r : Rebuild) (index : ℕ) → Option ((noted : Noted) × Contains r.noted noted × (noted.index ≡ index))
noted? r index = some_in? {P = λ m. m.index ≡ index} (λ m. same? m.index index) r.noted

abbrev pub as_noted? : (view : View) (noted : Noted) → Option (IsKnownAsNoted view noted)
as_noted? view noted = do
  settled ← settled? view noted.index
  inside ← known_in? view noted.index
  state ← same? (known_word view (State noted.index)) noted.state
  location ← same? (known_word view (LocA noted.index)) noted.location
  Some (record { settled = settled; inside = inside; state = state; location = location })

abbrev pub to_place? : (view : View) (index : ℕ) → Option (IsToPlace view index)
to_place? view index = do
  r ← some? view.rebuild
  planned ← true? r.0.is_planned
  noted ← noted? r.0 index
  unplaced ← absent? r.0.placed index
  kept ← absent? r.0.given_up index
  unpromoted ← absent? r.0.promoted index
  as_noted ← as_noted? view noted.0
  Some (record { r = r.0; noted = noted.0; update = r.1; planned = planned; among = noted.1; of_body = noted.2; unplaced = unplaced; kept = kept; unpromoted = unpromoted; as_noted = as_noted })

abbrev pub planned_place? : (view : View) (index n k : ℕ) → Option (IsPlannedPlace view index n k)
planned_place? view index n k = do
  below ← below? k 4
  planned ← on_some? {P = λ r. IsNoted r index (λ noted. noted.place ≡ place n k)} view.rebuild (λ r. do
    t ← some_in? {P = λ m. (m.index ≡ index) × (m.place ≡ place n k)} (λ m. do
      same ← same? m.index index
      at ← same? m.place (place n k)
      Some (same, at)) r.noted
    Some (t.0, t.1, t.2.0, t.2.1))
  Some (below, planned)

-- ---- bounds are widened

abbrev pub widens_to_place? : (view : View) (task : Task) → view.call.task ≡ task → (index n k : ℕ) → Option (WidensToPlace view index n k)
widens_to_place? view Nothing is index n k = do
  planned ← planned_place? view index n k
  Some (begins_placing is planned)
widens_to_place? view (Placing i) is index n k = do
  same ← same? i index
  come ← come? {Begins = IsPlannedPlace view index} view.call n k (planned_place? view index n k)
  Some (goes_on_placing (is ∙ ap Placing same) come)
widens_to_place? view _ is index n k = None

abbrev pub may_widen_to_place? : (index : ℕ) (view : View) (n k q value : ℕ) → Option (MayWidenToPlace index view n k q value)
may_widen_to_place? index view n k q value = do
  to_place ← to_place? view index
  side ← same? value (known_word view (BoxWord index q))
  widens ← widens_to_place? view view.call.task refl index n k
  Some (record { to_place = to_place; side = side; widens = widens })

abbrev pub may_widen_low_to_place? : (index : ℕ) → Test (MayWidenLowToPlace index)
may_widen_low_to_place? index view (Bound node child side) value second = do
  is_low ← below? side 3
  may ← may_widen_to_place? index view node child side value
  Some (record { node = node; child = child; side = side; names = refl; is_low = is_low; may = may })
may_widen_low_to_place? index view _ value second = None

abbrev pub widens_low_for_place : (seat index node child side : ℕ) → Move
widens_low_for_place seat index node child side core =
    act (widen_low_placing index) (may_widen_low_to_place? index) (λ before after s. of_updates (widens_low_to_place index s)) seat (Bound node child side) (word_of core (BoxWord index side)) 0 core

abbrev pub may_widen_high_to_place? : (index : ℕ) → Test (MayWidenHighToPlace index)
may_widen_high_to_place? index view (Bound node child side) value second = do
  is_high ← at_most? 3 side
  may ← may_widen_to_place? index view node child side value
  Some (record { node = node; child = child; side = side; names = refl; is_high = is_high; may = may })
may_widen_high_to_place? index view _ value second = None

abbrev pub widens_high_for_place : (seat index node child side : ℕ) → Move
widens_high_for_place seat index node child side core =
    act (widen_high_placing index) (may_widen_high_to_place? index) (λ before after s. of_updates (widens_high_to_place index s)) seat (Bound node child side) (word_of core (BoxWord index side)) 0 core

-- a place of a node that the placing has come to
abbrev pub come_to_node? : (view : View) (index node : ℕ) → List ℕ → Option ((child : ℕ) × HasComeTo view.call (IsPlannedPlace view index) node child)
come_to_node? view index node [] = None
come_to_node? view index node (child ∷ rest) = elim (come? {Begins = IsPlannedPlace view index} view.call node child (planned_place? view index node child)) [
  | Some come ↦ Some (child, come)
  | None ↦ come_to_node? view index node rest
]

abbrev pub may_load_parent_placing? : (index : ℕ) → Test (MayLoadParentPlacing index)
may_load_parent_placing? index view (Parent node) first second = do
  to_place ← to_place? view index
  task ← placing? view.call.task
  same ← same? task.0 index
  come ← come_to_node? view index node (0 ∷ 1 ∷ 2 ∷ 3 ∷ [])
  Some (record { node = node; child = come.0; names = refl; to_place = to_place; task = task.1 ∙ ap Placing same; come = come.1 })
may_load_parent_placing? index view _ first second = None

abbrev pub loads_parent_for_place : (seat index node : ℕ) → Move
loads_parent_for_place seat index node = act (load_parent_placing index) (may_load_parent_placing? index) (λ before after s. of_updates (loads_parent_to_place index s)) seat (Parent node) 0 0

-- ---- the body is placed, or given up

abbrev pub may_place_noted? : Test MayPlaceNoted
may_place_noted? view (LocB index) value second = do
  task ← placing? view.call.task
  same ← same? task.0 index
  to_place ← to_place? view index
  at ← place? to_place.noted.place
  stored ← same? value to_place.noted.place
  climbed ← climbed? 10 view.call (λ q. known_word view (BoxWord index q)) at.0 at.1
  Some (record { index = index; node = at.0; child = at.1; names = refl; task = task.1 ∙ ap Placing same; to_place = to_place; below = at.2; planned = at.3; at = stored; climbed = climbed })
may_place_noted? view _ value second = None

abbrev pub places_noted_body : (seat index node child : ℕ) → Move
places_noted_body seat index node child = act place_noted may_place_noted? (λ before after s. of_updates (places_noted s)) seat (LocB index) (place node child) 0

abbrev pub may_place_phase? : Test MayPlacePhase
may_place_phase? view (Phase index) value second = do
  task ← placing? view.call.task
  same ← same? task.0 index
  r ← some? view.rebuild
  planned ← true? r.0.is_planned
  noted ← noted? r.0 index
  placed ← member? r.0.placed index
  kept ← absent? r.0.given_up index
  as_noted ← as_noted? view noted.0
  slot ← joined? (known_word view (Phase index))
  goes_in ← same? value phase_in
  Some (record { index = index; slot = slot.0; r = r.0; noted = noted.0; names = refl; task = task.1 ∙ ap Placing same; update = r.1; planned = planned; among = noted.1; of_body = noted.2; placed = placed; kept = kept; as_noted = as_noted; joined = slot.1; goes_in = goes_in })
may_place_phase? view _ value second = None

abbrev pub places_phase_of : (seat index : ℕ) → Move
places_phase_of seat index = act place_phase may_place_phase? (λ before after s. of_updates (places_phase s)) seat (Phase index) phase_in 0

abbrev pub may_give_up? : (index : ℕ) → Test (MayGiveUp index)
may_give_up? index view (Child node child) value second = do
  r ← some? view.rebuild
  planned ← true? r.0.is_planned
  idle ← idle? view.call.task
  noted ← noted? r.0 index
  below ← below? child 4
  at ← same? noted.0.place (place node child)
  unplaced ← absent? r.0.placed index
  kept ← absent? r.0.given_up index
  stripe ← holds? view (stripe_of view.config index) Write
  out ← same? (known_word view (Phase noted.0.index)) phase_out
  none ← same? value 0
  Some (record { node = node; child = child; r = r.0; noted = noted.0; names = refl; update = r.1; planned = planned; idle = idle; among = noted.1; of_body = noted.2; below = below; at = at; unplaced = unplaced; kept = kept; stripe = stripe; gone = is_out out; none = none })
may_give_up? index view _ value second = None

abbrev pub gives_up_body : (seat index node child : ℕ) → Move
gives_up_body seat index node child = act (give_up index) (may_give_up? index) (λ before after s. of_updates (gives_up index s)) seat (Child node child) 0 0
