-- In every run the nodes that an update has to give back are a stack: no step but the load of a reader and the giving of a node
-- changes which they are.
use Rattle.std.proofs.Common.{◌≡◌, ℕ, zero, suc, ◌-◌, [], ◌∷◌, ◌++◌, Option, Some, None, option_map, refl, sym, subst, inl, inr}
use Rattle.std.specs.List.{list_any}
use Rattle.std.specs.Prelude.{◌==◌, IfSome}
use Rattle.std.proofs.lemmas.Bool.{cond_both}
use Rattle.word_map.specs.declared.config.Config.{Config}
use Rattle.word_map.specs.declared.name.Name.{Name}
use Rattle.word_map.specs.declared.name.Name.TheVariants.{BoxWord, Child, Layer, LocA, LocB, Lock, Main, Parent, Phase, Slot, State}
use Rattle.core_state.specs.declared.view.LockStep.TheVariants.{Taken}
use Rattle.core_state.specs.declared.view.Mode.{Mode}
use Rattle.core_state.specs.declared.view.Rebuild.{Rebuild}
use Rattle.core_state.specs.declared.view.Task.{Task}
use Rattle.core_state.specs.declared.view.Task.TheVariants.{Moving, Placing}
use Rattle.core_state.specs.declared.view.View.{View}
use Rattle.core_state.specs.Batches.{reserved_if, with_mark, with_unmark, with_place, without_place, attached_view, let_go_view, new_batch}
use Rattle.core_state.specs.Core.{Core, IsViewAt, opening}
use Rattle.core_state.specs.Event.{Event, opens_pass, splits_visitor, joins_visitor, looks, of_locks, of_lists, of_bodies, of_batches, of_pool, of_walks, of_moves, of_removals, of_updates, loads_lock, takes_read, takes_write, releases, loads_list, stores_link, stores_head, stores_field, creates, destroys, loads_body, sets_user, loads_slot, reserves, marks, stores_node, places, attaches, takes_back, unmarks, lets_slot_go, stores_pool_link, stores_pool_head, stores_pool_count, begins_walk, ends_walk, walks_slot, walks_main, walks_child, walks_bound, widens_low, widens_high, loads_parent, stores_side, stores_last_side, removes, clears_entry, clears_location, Run, begins, goes_on}
use Rattle.core_state.specs.UpdateEvent.{UpdateEvent, begins_update, loads_arena, notes_slot, looks_at_body, stores_new_child, stores_new_bound, stores_new_parent, finishes_plan, loads_parent_to_place, widens_low_to_place, widens_high_to_place, places_noted, places_phase, gives_up, exchanges_main, clears_slot, promotes, clears_second, finds_second, loads_reader, loads_returned, links_returned, gives_returned, switches_arena, ends_update}
use Rattle.core_state.specs.Exchanging.{exchanged_view}
use Rattle.core_state.specs.Kind.{Kind, Asking, Steps, found_by, learned, view_after}
use Rattle.core_state.specs.Locking.{taken_if, with_lock_step, released}
use Rattle.core_state.specs.Moving.{widened_by, side_stored_by}
use Rattle.core_state.specs.Noting.{update_begun_if, new_update, with_slot, body_looked_at, with_entry, with_new_node}
use Rattle.core_state.specs.Placing.{widened_to_place, placed_by}
use Rattle.core_state.specs.Pool.{pool_by_head, node_given, node_taken}
use Rattle.core_state.specs.Removing.{removing_by, location_cleared}
use Rattle.core_state.specs.Retiring.{promoted_by, with_reader, with_tops, is_unreached}
use Rattle.core_state.specs.Seats.{joined_view}
use Rattle.core_state.specs.View.{known_word}
use Rattle.core_state.proofs.Forming.{is_left, is_right, is_other, at_split, is_spent, is_joined, is_old, at_join}
use Rattle.core_state.proofs.Lookups.{at_set}
use mathlib.Core.Option.{some-injective, some-ne-none}
use Rattle.core_update.proofs.Stacked.{roots-stacked, tops-stacked}
use Rattle.core_update.specs.Stacked.{IsStacked}

-- what an update, if there is one, has to give back is a stack
abbrev HasStack : Option Rebuild → Type 0
HasStack o = IfSome o (λ r. IsStacked r.returning)

abbrev AllStacked : Core → Type 0
AllStacked core = (seat : ℕ) (view : View) → IsViewAt core seat view → HasStack view.rebuild

abbrev KeepsStack : Kind → Type 0
KeepsStack kind = (view : View) (name : Name) (found first second : ℕ) → HasStack view.rebuild → HasStack (kind.leaves view name found first second).rebuild

-- an update that changed
changed : (change : Rebuild → Rebuild) (o : Option Rebuild) → ((r : Rebuild) → IsStacked r.returning → IsStacked (change r).returning) → HasStack o → HasStack (option_map change o)
changed change None more h = tt
changed change (Some r) more h = more r h

same : (change : Rebuild → Rebuild) (o : Option Rebuild) → ((r : Rebuild) → (change r).returning ≡ r.returning) → HasStack o → HasStack (option_map change o)
same change o equal = changed change o (λ r h. subst IsStacked (sym (equal r)) h)

-- a view that has the same update
by-same : (view next : View) → next.rebuild ≡ view.rebuild → HasStack view.rebuild → HasStack next.rebuild
by-same view next equal h = subst HasStack (sym equal) h

-- ---- kinds that leave the update

taken-same : (view : View) (name : Name) (mode : Mode) (found expected : ℕ) → (taken_if view name mode found expected).rebuild ≡ view.rebuild
taken-same view (Lock lock) mode found expected =
    cond_both (found == expected) (with_lock_step view (Taken lock mode)) view (λ (v : View). v.rebuild ≡ view.rebuild) (λ e. refl) (λ e. refl)
taken-same view _ mode found expected = refl

released-same : (view : View) (name : Name) → (released view name).rebuild ≡ view.rebuild
released-same view (Lock lock) = refl
released-same view _ = refl

reserved-same : (view : View) (name : Name) (found expected : ℕ) → (reserved_if view name found expected).rebuild ≡ view.rebuild
reserved-same view (Slot layer slot) found expected =
    cond_both (found == expected) (record view { batches = view.batches ++ new_batch layer slot ∷ [] }) view (λ (v : View). v.rebuild ≡ view.rebuild) (λ e. refl) (λ e. refl)
reserved-same view _ found expected = refl

marked-same : (view : View) (name : Name) (value : ℕ) → (with_mark view name value).rebuild ≡ view.rebuild
marked-same view (Phase index) value = refl
marked-same view _ value = refl

unmarked-same : (view : View) (name : Name) → (with_unmark view name).rebuild ≡ view.rebuild
unmarked-same view (Phase index) = refl
unmarked-same view _ = refl

placed-same : (view : View) (name : Name) (value : ℕ) → (with_place view name value).rebuild ≡ view.rebuild
placed-same view (LocA index) value = refl
placed-same view _ value = refl

taken_back-same : (view : View) (name : Name) → (without_place view name).rebuild ≡ view.rebuild
taken_back-same view (LocA index) = refl
taken_back-same view _ = refl

attached-same : (view : View) (name : Name) → (attached_view view name).rebuild ≡ view.rebuild
attached-same view (Slot layer slot) = refl
attached-same view _ = refl

let_go-same : (view : View) (name : Name) → (let_go_view view name).rebuild ≡ view.rebuild
let_go-same view (Slot layer slot) = refl
let_go-same view _ = refl

pool-same : (view : View) (found value : ℕ) → (pool_by_head view found value).rebuild ≡ view.rebuild
pool-same view found zero = refl
pool-same view found (suc node) =
    cond_both (list_any (λ n. n == node) view.loose) (node_given view node) (node_taken view (found - 1)) (λ (v : View). v.rebuild ≡ view.rebuild) (λ e. refl) (λ e. refl)

widened-same : (task : Task) (index : ℕ) (view : View) (name : Name) (value : ℕ) → (widened_by task index view name value).rebuild ≡ view.rebuild
widened-same (Moving i target) index view name value = refl
widened-same _ index view name value = refl

side-same : (task : Task) (view : View) (name : Name) (value : ℕ) → (side_stored_by task view name value).rebuild ≡ view.rebuild
side-same (Moving i target) view name value = refl
side-same _ view (BoxWord index k) value = refl
side-same _ view name value = refl

removing-same : (view : View) (name : Name) → (removing_by view name).rebuild ≡ view.rebuild
removing-same view (Phase index) = refl
removing-same view _ = refl

cleared-same : (view : View) (name : Name) (value : ℕ) → (location_cleared view name value).rebuild ≡ view.rebuild
cleared-same view (LocB index) value = refl
cleared-same view _ value = refl

to_place-same : (task : Task) (index : ℕ) (view : View) (name : Name) (value : ℕ) → (widened_to_place task index view name value).rebuild ≡ view.rebuild
to_place-same (Placing i) index view name value = refl
to_place-same _ index view name value = refl

-- ---- kinds of an update that leave what it has to give back

slot-same : (name : Name) (found : ℕ) (r : Rebuild) → (with_slot name found r).returning ≡ r.returning
slot-same (Slot layer slot) found r = refl
slot-same _ found r = refl

looked-same : (view : View) (name : Name) (found : ℕ) (r : Rebuild) → (body_looked_at view name found r).returning ≡ r.returning
looked-same view (State index) found r = refl
looked-same view (Phase index) found r = refl
looked-same view (Layer index) found r = refl
looked-same view (LocA index) found r = refl
looked-same view _ found r = refl

entry-same : (name : Name) (value : ℕ) (r : Rebuild) → (with_entry name value r).returning ≡ r.returning
entry-same (Child n k) value r = refl
entry-same _ value r = refl

new_node-same : (layer : ℕ) (name : Name) (value : ℕ) (r : Rebuild) → (with_new_node layer name value r).returning ≡ r.returning
new_node-same layer (Parent n) value r = refl
new_node-same layer _ value r = refl

placed-stack : (view : View) (name : Name) → HasStack view.rebuild → HasStack (placed_by view name).rebuild
placed-stack view (LocB index) = same _ view.rebuild (λ r. refl)
placed-stack view _ = λ h. h

exchanged-stack : (view : View) (name : Name) (found : ℕ) → HasStack view.rebuild → HasStack (exchanged_view view name found).rebuild
exchanged-stack view (Main layer) found = same _ view.rebuild (λ r. refl)
exchanged-stack view _ found = λ h. h

promoted-stack : (view : View) (name : Name) → HasStack view.rebuild → HasStack (promoted_by view name).rebuild
promoted-stack view (LocB index) = same _ view.rebuild (λ r. refl)
promoted-stack view _ = λ h. h

-- ---- kinds that change it

begun-stack : (view : View) (found expected : ℕ) → HasStack view.rebuild → HasStack (update_begun_if view found expected).rebuild
begun-stack view found expected h =
    cond_both (found == expected) (record view { rebuild = Some (new_update view) }) view (λ (v : View). HasStack v.rebuild) (λ e. tt) (λ e. h)

reader-stack : (c : Config) (name : Name) (found : ℕ) (r : Rebuild) → IsStacked r.returning → IsStacked (with_reader c name found r).returning
reader-stack c name found r h =
    let next : Rebuild = record r { readers = r.readers ++ record { name = name; value = found } ∷ [] } in
    cond_both (is_unreached c next) (with_tops next) next (λ (u : Rebuild). IsStacked u.returning) (λ e. (roots-stacked r.merged).0) (λ e. h)

-- ---- events

module _ (before after : Core) (h : AllStacked before) where
  by-steps : (asks : Asking) (kind : Kind) → KeepsStack kind → Steps asks kind before after → AllStacked after
  by-steps asks kind keeps steps =
      let s = steps.step in
      subst AllStacked (sym steps.result)
      (λ seat u at.
      elim (at_set before.views s.seat seat (view_after kind before s) u at) [
        | inl t ↦ subst (λ (v : View). HasStack v.rebuild) t.1 (keeps (learned before s) s.name (found_by before s) s.first s.second (h s.seat s.view steps.allowed.at))
        | inr t ↦ h seat u t.1
      ])

  -- a step of a kind that leaves the update
  aside : (asks : Asking) (kind : Kind) → ((view : View) (name : Name) (found first second : ℕ) → (kind.leaves view name found first second).rebuild ≡ view.rebuild) → Steps asks kind before after → AllStacked after
  aside asks kind equal = by-steps asks kind (λ view name found first second. by-same view (kind.leaves view name found first second) (equal view name found first second))

  update-stacked : UpdateEvent before after → AllStacked after
  update-stacked (begins_update e) = by-steps _ _ (λ view name found first second. begun-stack view found first) e
  update-stacked (loads_arena e) = by-steps _ _ (λ view name found first second. same _ view.rebuild (λ r. refl)) e
  update-stacked (notes_slot e) = by-steps _ _ (λ view name found first second. same _ view.rebuild (slot-same name found)) e
  update-stacked (looks_at_body e) = by-steps _ _ (λ view name found first second. same _ view.rebuild (looked-same view name found)) e
  update-stacked (stores_new_child e) = by-steps _ _ (λ view name found value second. same _ view.rebuild (entry-same name value)) e
  update-stacked (stores_new_bound e) = aside _ _ (λ view name found value second. refl) e
  update-stacked (stores_new_parent layer e) = by-steps _ _ (λ view name found value second. same _ view.rebuild (new_node-same layer name value)) e
  update-stacked (finishes_plan layer e) = by-steps _ _ (λ view name found value second. same _ view.rebuild (new_node-same layer name value)) e
  update-stacked (loads_parent_to_place index e) = aside _ _ (λ view name found first second. refl) e
  update-stacked (widens_low_to_place index e) = aside _ _ (λ view name found value second. to_place-same view.call.task index view name value) e
  update-stacked (widens_high_to_place index e) = aside _ _ (λ view name found value second. to_place-same view.call.task index view name value) e
  update-stacked (places_noted e) = by-steps _ _ (λ view name found first second. placed-stack view name) e
  update-stacked (places_phase e) = aside _ _ (λ view name found first second. refl) e
  update-stacked (gives_up index e) = by-steps _ _ (λ view name found first second. same _ view.rebuild (λ r. refl)) e
  update-stacked (exchanges_main e) = by-steps _ _ (λ view name found first second. exchanged-stack view name found) e
  update-stacked (clears_slot e) = by-steps _ _ (λ view name found first second. same _ view.rebuild (λ r. refl)) e
  update-stacked (promotes e) = aside _ _ (λ view name found first second. refl) e
  update-stacked (clears_second e) = by-steps _ _ (λ view name found first second. promoted-stack view name) e
  update-stacked (finds_second e) =
      by-steps _ _
      (λ view name found first second s.
      cond_both (found == 0) (promoted_by view name) view (λ (v : View). HasStack v.rebuild) (λ e. promoted-stack view name s) (λ e. s)) e
  update-stacked (loads_reader e) = by-steps _ _ (λ view name found first second. changed _ view.rebuild (reader-stack view.config name found)) e
  update-stacked (loads_returned e) = aside _ _ (λ view name found first second. refl) e
  update-stacked (links_returned e) = aside _ _ (λ view name found first second. refl) e
  update-stacked (gives_returned e) = by-steps _ _ (λ view name found first second. changed _ view.rebuild (λ r. tops-stacked (known_word view) r.returning)) e
  update-stacked (switches_arena e) = by-steps _ _ (λ view name found first second. same _ view.rebuild (λ r. refl)) e
  update-stacked (ends_update e) = by-steps _ _ (λ view name found first second s. tt) e

  event-stacked : Event before after → AllStacked after
  event-stacked (opens_pass e) =
      subst AllStacked (sym e.result)
      (λ seat u at.
      elim (at_split before e.seat _ _ seat u at) [
        | is_left p equal ↦ subst (λ (v : View). HasStack v.rebuild) equal tt
        | is_right p equal ↦ subst (λ (v : View). HasStack v.rebuild) equal tt
        | is_other p old ↦ h seat u old
      ])
  event-stacked (splits_visitor e) =
      subst AllStacked (sym e.result)
      (λ seat u at.
      elim (at_split before e.seat _ _ seat u at) [
        | is_left p equal ↦ subst (λ (v : View). HasStack v.rebuild) equal (h e.seat e.view e.at)
        | is_right p equal ↦ subst (λ (v : View). HasStack v.rebuild) equal tt
        | is_other p old ↦ h seat u old
      ])
  event-stacked (joins_visitor e) =
      subst AllStacked (sym e.result)
      (λ seat u at.
      elim (at_join before e.seat e.other (joined_view e.view e.visitor) seat u at) [
        | is_spent equal ↦ subst (λ (v : View). HasStack v.rebuild) equal tt
        | is_joined p equal ↦ subst (λ (v : View). HasStack v.rebuild) equal (h e.seat e.view e.at)
        | is_old old ↦ h seat u old
      ])
  event-stacked (looks e) = aside _ _ (λ view name found first second. refl) e
  event-stacked (of_locks (loads_lock e)) = aside _ _ (λ view name found first second. refl) e
  event-stacked (of_locks (takes_read e)) = aside _ _ (λ view name found first second. taken-same view name _ found first) e
  event-stacked (of_locks (takes_write e)) = aside _ _ (λ view name found first second. taken-same view name _ found first) e
  event-stacked (of_locks (releases e)) = aside _ _ (λ view name found first second. released-same view name) e
  event-stacked (of_lists (loads_list e)) = aside _ _ (λ view name found first second. refl) e
  event-stacked (of_lists (stores_link e)) = aside _ _ (λ view name found first second. refl) e
  event-stacked (of_lists (stores_head e)) = aside _ _ (λ view name found first second. refl) e
  event-stacked (of_bodies (stores_field e)) = aside _ _ (λ view name found first second. refl) e
  event-stacked (of_bodies (creates e)) = aside _ _ (λ view name found first second. refl) e
  event-stacked (of_bodies (destroys e)) = aside _ _ (λ view name found first second. refl) e
  event-stacked (of_bodies (loads_body e)) = aside _ _ (λ view name found first second. refl) e
  event-stacked (of_bodies (sets_user e)) = aside _ _ (λ view name found first second. refl) e
  event-stacked (of_batches (loads_slot e)) = aside _ _ (λ view name found first second. refl) e
  event-stacked (of_batches (reserves e)) = aside _ _ (λ view name found first second. reserved-same view name found first) e
  event-stacked (of_batches (marks e)) = aside _ _ (λ view name found value second. marked-same view name value) e
  event-stacked (of_batches (stores_node e)) = aside _ _ (λ view name found first second. refl) e
  event-stacked (of_batches (places e)) = aside _ _ (λ view name found value second. placed-same view name value) e
  event-stacked (of_batches (attaches e)) = aside _ _ (λ view name found first second. attached-same view name) e
  event-stacked (of_batches (takes_back e)) = aside _ _ (λ view name found first second. taken_back-same view name) e
  event-stacked (of_batches (unmarks e)) = aside _ _ (λ view name found first second. unmarked-same view name) e
  event-stacked (of_batches (lets_slot_go e)) = aside _ _ (λ view name found first second. let_go-same view name) e
  event-stacked (of_pool (stores_pool_link e)) = aside _ _ (λ view name found first second. refl) e
  event-stacked (of_pool (stores_pool_head e)) = aside _ _ (λ view name found value second. pool-same view found value) e
  event-stacked (of_pool (stores_pool_count e)) = aside _ _ (λ view name found first second. refl) e
  event-stacked (of_walks (begins_walk e)) = aside _ _ (λ view name found first second. refl) e
  event-stacked (of_walks (ends_walk e)) = aside _ _ (λ view name found first second. refl) e
  event-stacked (of_walks (walks_slot e)) = aside _ _ (λ view name found first second. refl) e
  event-stacked (of_walks (walks_main e)) = aside _ _ (λ view name found first second. refl) e
  event-stacked (of_walks (walks_child e)) = aside _ _ (λ view name found first second. refl) e
  event-stacked (of_walks (walks_bound e)) = aside _ _ (λ view name found first second. refl) e
  event-stacked (of_moves (widens_low index e)) = aside _ _ (λ view name found value second. widened-same view.call.task index view name value) e
  event-stacked (of_moves (widens_high index e)) = aside _ _ (λ view name found value second. widened-same view.call.task index view name value) e
  event-stacked (of_moves (loads_parent index e)) = aside _ _ (λ view name found first second. refl) e
  event-stacked (of_moves (stores_side e)) = aside _ _ (λ view name found value second. side-same view.call.task view name value) e
  event-stacked (of_moves (stores_last_side e)) = aside _ _ (λ view name found first second. refl) e
  event-stacked (of_removals (removes e)) = aside _ _ (λ view name found first second. removing-same view name) e
  event-stacked (of_removals (clears_entry e)) = aside _ _ (λ view name found first second. refl) e
  event-stacked (of_removals (clears_location e)) = aside _ _ (λ view name found value second. cleared-same view name value) e
  event-stacked (of_updates e) = update-stacked e

-- ---- runs

opening-stacked : (c : Config) → AllStacked (opening c)
opening-stacked c zero view at = subst (λ (v : View). HasStack v.rebuild) (some-injective _ view at) tt
opening-stacked c (suc seat) view at = absurd (some-ne-none view (sym at))

all-stacked : (c : Config) (last : Core) → Run (opening c) last → AllStacked last
all-stacked c last begins = opening-stacked c
all-stacked c last (goes_on {last = middle} run event) = event-stacked middle last (all-stacked c middle run) event

pub run-stacked : (c : Config) (last : Core) → Run (opening c) last → (seat : ℕ) (view : View) (r : Rebuild) → IsViewAt last seat view → view.rebuild ≡ Some r → IsStacked r.returning
run-stacked c last run seat view r at has = subst HasStack has (all-stacked c last run seat view at)
