-- Steps of moves and removals, and what they ask as tests.
use Rattle.std.proofs.Common.{◌≡◌, ◌≢◌, ℕ, zero, suc, ◌+◌, ◌-◌, ◌<◌, ◌≤◌, List, [], ◌∷◌, length, Option, Some, None, refl, ap, ◌∙◌, subst, arith}
use Rattle.std.specs.Prelude.{slice_index}
use Rattle.fixed_box.specs.FixBox.{words_of}
use Rattle.word_map.specs.declared.name.Name.{Name}
use Rattle.word_map.specs.declared.name.Name.TheVariants.{State, Phase, BoxWord, LocA, LocB, Child, Bound, Parent}
use Rattle.word_map.specs.Names.{stripe_of}
use Rattle.core_state.specs.declared.view.Mode.TheVariants.{Write}
use Rattle.core_state.specs.declared.view.Task.{Task}
use Rattle.core_state.specs.declared.view.Task.TheVariants.{Nothing, Moving, Removing}
use Rattle.core_state.specs.declared.view.View.{View}
use Rattle.core_state.specs.View.{known_word}
use Rattle.core_state.specs.Boxes.{box_of}
use Rattle.core_state.specs.Encoding.{phase_out, sides_of}
use Rattle.core_run.proofs.Tests.{◌>>=◌, same?, below?, at_most?, same_list?, each_below?, holds?, idle?, moving?, removing?, body?, in?, unheld?}
use Rattle.core_run.proofs.Steps.{Test, Move, act}
use Rattle.scene_model.specs.declared.body_view.Phase.TheVariants.{Held, In}
use Rattle.core_state.specs.Guards.{scene_at}
use Rattle.core_state.specs.Moving.{IsKnownIn, IsSettled, HasStored, HasComeTo, IsSideOfTarget, an_old, the_next, WidensForMove, begins_move, goes_on_moving, IsKnownLocation, HasClimbed, MayWiden, MayWidenLow, MayWidenHigh, widen_low, widen_high, MayLoadParentMoving, load_parent_moving, IsWidenedFor, of_target, MayStoreSide, store_side, box_with_last, as_target, MayStoreLastSide, store_last_side}
use Rattle.core_state.specs.Removing.{MayRemove, remove, MayClearEntry, clear_entry, HasClearedEntries, MayClearLocation, the_first, the_second, clear_location}
use Rattle.core_state.specs.Event.{of_moves, of_removals, widens_low, widens_high, loads_parent, stores_side, stores_last_side, removes, clears_entry, clears_location}
use Rattle.core_run.proofs.Climbing.{location?, each_location?, come?, climbed?, stored?}

-- ---- a body that stands still

abbrev pub known_in? : (view : View) (index : ℕ) → Option (IsKnownIn view index In)
known_in? view index = body? {P = λ r. r.phase ≡ In} (scene_at view.config view.known) index (λ r. in? r.phase)

abbrev pub settled? : (view : View) (index : ℕ) → Option (IsSettled view index)
settled? view index = do
  stripe ← holds? view (stripe_of view.config index) Write
  live ← at_most? 256 (known_word view (State index))
  unheld ← body? {P = λ r. r.phase ≢ Held} (scene_at view.config view.known) index (λ r. unheld? r.phase)
  Some (record { stripe = stripe; live = live; unheld = unheld })

-- ---- bounds are widened

pub no_low : (target : List ℕ) (q value : ℕ) → q < 3 → (a : ℕ) → q ≡ 3 + a → slice_index target a ≤ value
no_low target q value below a e = absurd (omega arith)

pub its_low : (target : List ℕ) (q b value : ℕ) → q ≡ 3 + b → slice_index target b ≤ value → (a : ℕ) → q ≡ 3 + a → slice_index target a ≤ value
its_low target q b value at low a e = let same : b ≡ a = omega arith in subst (λ (c : ℕ). slice_index target c ≤ value) same low

abbrev pub opposite_by? : (target : List ℕ) (q value : ℕ) → Option (q < 3) → Option ((a : ℕ) → q ≡ 3 + a → slice_index target a ≤ value)
opposite_by? target q value (Some below) = Some (no_low target q value below)
opposite_by? target q value None = do
  at ← same? q (3 + (q - 3))
  low ← at_most? (slice_index target (q - 3)) value
  Some (its_low target q (q - 3) value at low)

abbrev pub side_by? : (target : List ℕ) (q value : ℕ) → Option (q < length target) → Option (IsSideOfTarget target q value)
side_by? target q value (Some below) = do
  same ← same? value (slice_index target q)
  Some (an_old below same)
side_by? target q value None = do
  next ← same? q (length target)
  opposite ← opposite_by? target q value (below? q 3)
  Some (the_next next opposite)

abbrev pub widens? : (view : View) (task : Task) → view.call.task ≡ task → (index n k q value : ℕ) → Option (WidensForMove view index n k q value)
widens? view Nothing is index n k q value = do
  first ← same? q 0
  location ← location? view index n k
  Some (begins_move (record { idle = is; first = first; location = location }))
widens? view (Moving i target) is index n k q value = do
  same ← same? i index
  side ← side_by? target q value (below? q (length target))
  come ← come? {Begins = IsKnownLocation view index} view.call n k (location? view index n k)
  Some (goes_on_moving (record { target = target; task = is ∙ ap (λ j. Moving j target) same; side = side; come = come }))
widens? view _ is index n k q value = None

abbrev pub may_widen? : (index : ℕ) (view : View) (n k q value : ℕ) → Option (MayWiden index view n k q value)
may_widen? index view n k q value = do
  settled ← settled? view index
  inside ← known_in? view index
  low ← at_most? 1 value
  high ← at_most? value 16777216
  widens ← widens? view view.call.task refl index n k q value
  Some (record { settled = settled; inside = inside; low = low; high = high; widens = widens })

abbrev pub may_widen_low? : (index : ℕ) → Test (MayWidenLow index)
may_widen_low? index view (Bound node child side) value second = do
  is_low ← below? side 3
  may ← may_widen? index view node child side value
  Some (record { node = node; child = child; side = side; names = refl; is_low = is_low; may = may })
may_widen_low? index view _ value second = None

abbrev pub widens_low_side : (seat index node child side value : ℕ) → Move
widens_low_side seat index node child side value = act (widen_low index) (may_widen_low? index) (λ before after s. of_moves (widens_low index s)) seat (Bound node child side) value 0

abbrev pub may_widen_high? : (index : ℕ) → Test (MayWidenHigh index)
may_widen_high? index view (Bound node child side) value second = do
  is_high ← at_most? 3 side
  may ← may_widen? index view node child side value
  Some (record { node = node; child = child; side = side; names = refl; is_high = is_high; may = may })
may_widen_high? index view _ value second = None

abbrev pub widens_high_side : (seat index node child side value : ℕ) → Move
widens_high_side seat index node child side value = act (widen_high index) (may_widen_high? index) (λ before after s. of_moves (widens_high index s)) seat (Bound node child side) value 0

-- a place of a node that the move has come to
abbrev pub come_to_node? : (view : View) (index node : ℕ) → List ℕ → Option ((child : ℕ) × HasComeTo view.call (IsKnownLocation view index) node child)
come_to_node? view index node [] = None
come_to_node? view index node (child ∷ rest) = elim (come? {Begins = IsKnownLocation view index} view.call node child (location? view index node child)) [
  | Some come ↦ Some (child, come)
  | None ↦ come_to_node? view index node rest
]

abbrev pub may_load_parent? : (index : ℕ) → Test (MayLoadParentMoving index)
may_load_parent? index view (Parent node) first second = do
  settled ← settled? view index
  task ← moving? view.call.task
  same ← same? task.0 index
  come ← come_to_node? view index node (0 ∷ 1 ∷ 2 ∷ 3 ∷ [])
  Some (record { node = node; child = come.0; target = task.1; names = refl; settled = settled; task = task.2 ∙ ap (λ j. Moving j task.1) same; come = come.1 })
may_load_parent? index view _ first second = None

abbrev pub loads_parent_of : (seat index node : ℕ) → Move
loads_parent_of seat index node = act (load_parent_moving index) (may_load_parent? index) (λ before after s. of_moves (loads_parent index s)) seat (Parent node) 0 0

-- ---- box words

abbrev pub widened_for? : (view : View) (index : ℕ) → Option ((target : List ℕ) × IsWidenedFor view index target)
widened_for? view index = do
  inside ← known_in? view index
  task ← moving? view.call.task
  same ← same? task.0 index
  six ← same? (length task.1) 6
  climbed ← each_location? {P = HasClimbed view.call (sides_of task.1)} view index (λ n k. climbed? 10 view.call (sides_of task.1) n k)
  Some (task.1, record { inside = inside; task = task.2 ∙ ap (λ j. Moving j task.1) same; six = six; climbed = climbed })

abbrev pub may_store_side? : Test MayStoreSide
may_store_side? view (BoxWord index side) value second = do
  not_last ← below? side 5
  settled ← settled? view index
  low ← at_most? 1 value
  high ← at_most? value 16777216
  widened ← widened_for? view index
  same ← same? value (slice_index widened.0 side)
  Some (record { index = index; side = side; names = refl; not_last = not_last; settled = settled; low = low; high = high; stores = of_target widened.0 widened.1 same })
may_store_side? view _ value second = None

abbrev pub stores_box_side : (seat index side value : ℕ) → Move
stores_box_side seat index side value = act store_side may_store_side? (λ before after s. of_moves (stores_side s)) seat (BoxWord index side) value 0

abbrev pub may_store_last_side? : Test MayStoreLastSide
may_store_last_side? view (BoxWord index (suc (suc (suc (suc (suc zero)))))) value second = do
  settled ← settled? view index
  bounds ← box_of (box_with_last view index value)
  box ← each_below? {P = λ q. box_with_last view index value q ≡ slice_index (words_of bounds) q} 6 (λ q. same? (box_with_last view index value q) (slice_index (words_of bounds) q))
  widened ← widened_for? view index
  same ← same_list? widened.0 (words_of bounds)
  Some (record { index = index; names = refl; settled = settled; bounds = bounds; box = box; stores = as_target (subst (IsWidenedFor view index) same widened.1) })
may_store_last_side? view _ value second = None

abbrev pub stores_last_box_side : (seat index value : ℕ) → Move
stores_last_box_side seat index value = act store_last_side may_store_last_side? (λ before after s. of_moves (stores_last_side s)) seat (BoxWord index 5) value 0

-- ---- removals

abbrev pub may_remove? : Test MayRemove
may_remove? view (Phase index) value second = do
  settled ← settled? view index
  inside ← known_in? view index
  idle ← idle? view.call.task
  out ← same? value phase_out
  Some (record { index = index; names = refl; settled = settled; inside = inside; idle = idle; out = out })
may_remove? view _ value second = None

abbrev pub removes_body : (seat index : ℕ) → Move
removes_body seat index = act remove may_remove? (λ before after s. of_removals (removes s)) seat (Phase index) phase_out 0

abbrev pub may_clear_entry? : Test MayClearEntry
may_clear_entry? view (Child node child) value second = do
  task ← removing? view.call.task
  location ← location? view task.0 node child
  none ← same? value 0
  Some (record { index = task.0; node = node; child = child; names = refl; task = task.1; location = location; none = none })
may_clear_entry? view _ value second = None

abbrev pub clears_entry_at : (seat node child : ℕ) → Move
clears_entry_at seat node child = act clear_entry may_clear_entry? (λ before after s. of_removals (clears_entry s)) seat (Child node child) 0 0

abbrev pub cleared? : (view : View) (index : ℕ) → Option (HasClearedEntries view index)
cleared? view index = do
  task ← removing? view.call.task
  same ← same? task.0 index
  cleared ← each_location? {P = λ n k. HasStored view.call (Child n k) 0} view index (λ n k. stored? view.call (Child n k) 0)
  Some (record { task = task.1 ∙ ap Removing same; cleared = cleared })

abbrev pub may_clear_location? : Test MayClearLocation
may_clear_location? view (LocA index) value second = do
  cleared ← cleared? view index
  none ← same? value 0
  Some (the_first index refl cleared none)
may_clear_location? view (LocB index) value second = do
  cleared ← cleared? view index
  after ← same? (known_word view (LocA index)) 0
  none ← same? value 0
  Some (the_second index refl cleared after none)
may_clear_location? view _ value second = None

abbrev pub clears_location_word : (seat : ℕ) → Name → Move
clears_location_word seat name = act clear_location may_clear_location? (λ before after s. of_removals (clears_location s)) seat name 0 0
