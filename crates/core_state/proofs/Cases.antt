-- Events by cases: what holds of each step of any kind, and of seats that are opened, split and joined, holds of all events.
use Rattle.std.proofs.Common.{◌≡◌, ℕ, None, refl}
use Rattle.word_map.specs.declared.name.Name.{Name}
use Rattle.core_state.specs.declared.view.View.{View}
use Rattle.core_state.specs.Core.{Core}
use Rattle.core_state.specs.Kind.{Kind, Asking, Steps}
use Rattle.core_state.specs.Seats.{Opens, Visits, Joins}
use Rattle.core_state.specs.Event.{Event, opens_pass, splits_visitor, joins_visitor, looks, of_locks, of_lists, of_bodies, of_batches, of_pool, of_walks, of_moves, of_removals, of_updates, loads_lock, takes_read, takes_write, releases, loads_list, stores_link, stores_head, stores_field, creates, destroys, loads_body, sets_user, loads_slot, reserves, marks, stores_node, places, attaches, takes_back, unmarks, lets_slot_go, stores_pool_link, stores_pool_head, stores_pool_count, begins_walk, ends_walk, walks_slot, walks_main, walks_child, walks_bound, widens_low, widens_high, loads_parent, stores_side, stores_last_side, removes, clears_entry, clears_location}
use Rattle.core_state.specs.UpdateEvent.{UpdateEvent, begins_update, loads_arena, notes_slot, looks_at_body, stores_new_child, stores_new_bound, stores_new_parent, finishes_plan, loads_parent_to_place, widens_low_to_place, widens_high_to_place, places_noted, places_phase, gives_up, exchanges_main, clears_slot, promotes, clears_second, finds_second, loads_reader, loads_returned, links_returned, gives_returned, switches_arena, ends_update}

-- an event of an update is a step of a kind that makes no entry
pub update-case : {P : Type 0} (before after : Core) → ((asks : Asking) (kind : Kind) → ((view : View) (name : Name) (value : ℕ) → kind.entry view name value ≡ None) → Steps asks kind before after → P) → UpdateEvent before after → P
update-case before after steps (begins_update e) = steps _ _ (λ view name value. refl) e
update-case before after steps (loads_arena e) = steps _ _ (λ view name value. refl) e
update-case before after steps (notes_slot e) = steps _ _ (λ view name value. refl) e
update-case before after steps (looks_at_body e) = steps _ _ (λ view name value. refl) e
update-case before after steps (stores_new_child e) = steps _ _ (λ view name value. refl) e
update-case before after steps (stores_new_bound e) = steps _ _ (λ view name value. refl) e
update-case before after steps (stores_new_parent layer e) = steps _ _ (λ view name value. refl) e
update-case before after steps (finishes_plan layer e) = steps _ _ (λ view name value. refl) e
update-case before after steps (loads_parent_to_place index e) = steps _ _ (λ view name value. refl) e
update-case before after steps (widens_low_to_place index e) = steps _ _ (λ view name value. refl) e
update-case before after steps (widens_high_to_place index e) = steps _ _ (λ view name value. refl) e
update-case before after steps (places_noted e) = steps _ _ (λ view name value. refl) e
update-case before after steps (places_phase e) = steps _ _ (λ view name value. refl) e
update-case before after steps (gives_up index e) = steps _ _ (λ view name value. refl) e
update-case before after steps (exchanges_main e) = steps _ _ (λ view name value. refl) e
update-case before after steps (clears_slot e) = steps _ _ (λ view name value. refl) e
update-case before after steps (promotes e) = steps _ _ (λ view name value. refl) e
update-case before after steps (clears_second e) = steps _ _ (λ view name value. refl) e
update-case before after steps (finds_second e) = steps _ _ (λ view name value. refl) e
update-case before after steps (loads_reader e) = steps _ _ (λ view name value. refl) e
update-case before after steps (loads_returned e) = steps _ _ (λ view name value. refl) e
update-case before after steps (links_returned e) = steps _ _ (λ view name value. refl) e
update-case before after steps (gives_returned e) = steps _ _ (λ view name value. refl) e
update-case before after steps (switches_arena e) = steps _ _ (λ view name value. refl) e
update-case before after steps (ends_update e) = steps _ _ (λ view name value. refl) e

-- an event opens a pass, splits off a visitor or joins one, or is a step of some kind
pub event-case : {P : Type 0} (before after : Core) → (Opens before after → P) → (Visits before after → P) → (Joins before after → P) → ((asks : Asking) (kind : Kind) → Steps asks kind before after → P) → Event before after → P
event-case before after opens visits joins steps (opens_pass e) = opens e
event-case before after opens visits joins steps (splits_visitor e) = visits e
event-case before after opens visits joins steps (joins_visitor e) = joins e
event-case before after opens visits joins steps (looks e) = steps _ _ e
event-case before after opens visits joins steps (of_locks (loads_lock e)) = steps _ _ e
event-case before after opens visits joins steps (of_locks (takes_read e)) = steps _ _ e
event-case before after opens visits joins steps (of_locks (takes_write e)) = steps _ _ e
event-case before after opens visits joins steps (of_locks (releases e)) = steps _ _ e
event-case before after opens visits joins steps (of_lists (loads_list e)) = steps _ _ e
event-case before after opens visits joins steps (of_lists (stores_link e)) = steps _ _ e
event-case before after opens visits joins steps (of_lists (stores_head e)) = steps _ _ e
event-case before after opens visits joins steps (of_bodies (stores_field e)) = steps _ _ e
event-case before after opens visits joins steps (of_bodies (creates e)) = steps _ _ e
event-case before after opens visits joins steps (of_bodies (destroys e)) = steps _ _ e
event-case before after opens visits joins steps (of_bodies (loads_body e)) = steps _ _ e
event-case before after opens visits joins steps (of_bodies (sets_user e)) = steps _ _ e
event-case before after opens visits joins steps (of_batches (loads_slot e)) = steps _ _ e
event-case before after opens visits joins steps (of_batches (reserves e)) = steps _ _ e
event-case before after opens visits joins steps (of_batches (marks e)) = steps _ _ e
event-case before after opens visits joins steps (of_batches (stores_node e)) = steps _ _ e
event-case before after opens visits joins steps (of_batches (places e)) = steps _ _ e
event-case before after opens visits joins steps (of_batches (attaches e)) = steps _ _ e
event-case before after opens visits joins steps (of_batches (takes_back e)) = steps _ _ e
event-case before after opens visits joins steps (of_batches (unmarks e)) = steps _ _ e
event-case before after opens visits joins steps (of_batches (lets_slot_go e)) = steps _ _ e
event-case before after opens visits joins steps (of_pool (stores_pool_link e)) = steps _ _ e
event-case before after opens visits joins steps (of_pool (stores_pool_head e)) = steps _ _ e
event-case before after opens visits joins steps (of_pool (stores_pool_count e)) = steps _ _ e
event-case before after opens visits joins steps (of_walks (begins_walk e)) = steps _ _ e
event-case before after opens visits joins steps (of_walks (ends_walk e)) = steps _ _ e
event-case before after opens visits joins steps (of_walks (walks_slot e)) = steps _ _ e
event-case before after opens visits joins steps (of_walks (walks_main e)) = steps _ _ e
event-case before after opens visits joins steps (of_walks (walks_child e)) = steps _ _ e
event-case before after opens visits joins steps (of_walks (walks_bound e)) = steps _ _ e
event-case before after opens visits joins steps (of_moves (widens_low index e)) = steps _ _ e
event-case before after opens visits joins steps (of_moves (widens_high index e)) = steps _ _ e
event-case before after opens visits joins steps (of_moves (loads_parent index e)) = steps _ _ e
event-case before after opens visits joins steps (of_moves (stores_side e)) = steps _ _ e
event-case before after opens visits joins steps (of_moves (stores_last_side e)) = steps _ _ e
event-case before after opens visits joins steps (of_removals (removes e)) = steps _ _ e
event-case before after opens visits joins steps (of_removals (clears_entry e)) = steps _ _ e
event-case before after opens visits joins steps (of_removals (clears_location e)) = steps _ _ e
event-case before after opens visits joins steps (of_updates e) = update-case before after (λ asks kind none made. steps asks kind made) e
