-- Bounds of trees only widen: of the steps that store one of a node that stands each makes it wider.
use Rattle.std.proofs.Common.{◌≡◌, ◌≢◌, refl, ap, sym, ◌∙◌, subst, arith}
use Rattle.std.proofs.lemmas.Option.{same_Some}
use Rattle.word_map.specs.declared.name.Name.{Name}
use Rattle.word_map.specs.declared.name.Name.TheVariants.{Lock, SlotHead, SlotNext, State, User, BoxWord, Bound, Slot, Phase, LocA, PoolNext, PoolHead, PoolFree, Reader, Parent, Child, LocB}
use Rattle.core_state.specs.Core.{Core, word_of}
use Rattle.core_state.specs.Kind.{Steps}
use Rattle.core_state.specs.Event.{Event, opens_pass, splits_visitor, joins_visitor, looks, loads_lock, takes_read, takes_write, releases, loads_list, stores_link, stores_head, stores_field, creates, destroys, loads_body, sets_user, loads_slot, reserves, marks, places, attaches, takes_back, unmarks, lets_slot_go, stores_pool_link, stores_pool_head, stores_pool_count, stores_node, of_locks, of_lists, of_bodies, of_batches, of_pool, begins_walk, ends_walk, walks_slot, walks_main, walks_child, walks_bound, of_walks, widens_low, widens_high, loads_parent, stores_side, stores_last_side, of_moves, removes, clears_entry, clears_location, of_removals, of_updates}
use Rattle.core_state.specs.Formed.{IsFormed}
use Rattle.core_state.specs.Looking.{look}
use Rattle.core_state.specs.Locking.{load_lock, take_read, take_write, release}
use Rattle.core_state.specs.Lists.{load_list, store_link, store_head}
use Rattle.core_state.specs.Lives.{IsFieldOf, store_field, create, destroy, load_body, set_user}
use Rattle.core_state.specs.Batches.{MayStoreNode, load_slot, reserve, mark, store_node, place_body, attach, take_back, unmark, let_slot_go}
use Rattle.core_state.specs.Pool.{store_pool_link, store_pool_head, store_pool_count}
use Rattle.core_state.specs.Walks.{begin_walk, end_walk, walk_slot, walk_main, walk_child, walk_bound}
use Rattle.core_state.specs.Moving.{load_parent_moving, store_side, store_last_side}
use Rattle.core_move.proofs.BoundsAside.{as_wide, aside, on_load, on_other}
use Rattle.core_move.proofs.WidenSteps.{widen_low-widens, widen_high-widens}
use Rattle.core_state.specs.Removing.{the_first, the_second, remove, clear_entry, clear_location}
use Rattle.core_state.specs.Invariants.{Invariants}
use Rattle.core_update.proofs.UpdatesWiden.{update_widens}
use Rattle.core_batch.proofs.Owning.{batch-home}
use Rattle.core_state.specs.Nodes.{Nodes, Stands, node_in}
use Rattle.core_state.specs.TreesSound.{BoundsOnlyWiden}
use Rattle.core_state.specs.Unseen.{IsUnseen}
use Rattle.core_state.proofs.Steps.{word-step-other}
use Rattle.pass_table.specs.FormedForUpdate.{IsFormedForUpdate}
use Rattle.core_state.proofs.Keeping.{visits-unseen, joins-unseen, load-unseen, look-plain, load_lock-plain, load_list-plain, load_body-plain, load_slot-plain}

-- one on a word of an own node: this stands in no tree
on_own : (before after : Core) (h : Invariants before) → Steps MayStoreNode store_node before after → BoundsOnlyWiden h.nodes before after
on_own before after h steps =
    let s = steps.step in
    let asked = steps.allowed.asked in
    let home = batch-home before h.nodes h.places s.seat s.number s.view steps.allowed.at steps.allowed.pass asked.node asked.owns in
    λ n k q stands.
    let apart : Bound n k q ≢ s.name = λ same.
    let own : n ≡ asked.node = same_Some n asked.node (ap node_in same ∙ asked.of_node) in
    subst Stands (ap h.nodes.home own ∙ home) stands in
    let same = ap (λ (c : Core). word_of c (Bound n k q)) steps.result ∙ word-step-other store_node before s (Bound n k q) apart in
    (λ low. omega (arith, same), λ high. omega (arith, same))

-- an event that no invariant sees
unseen : (nodes : Nodes) (before after : Core) → IsUnseen before after → BoundsOnlyWiden nodes before after
unseen nodes before after same = as_wide nodes before after (λ n k q. sym (same.trees.words (Bound n k q) refl))

module _ (before after : Core) (h : Invariants before) where
  pub event_widens : (e : Event before after) → IsFormedForUpdate before after e → BoundsOnlyWiden h.nodes before after
  event_widens (opens_pass e) _ = as_wide h.nodes before after (λ n k q. ap (λ (c : Core). word_of c (Bound n k q)) e.result)
  event_widens (splits_visitor e) _ = unseen h.nodes before after (visits-unseen before after e)
  event_widens (joins_visitor e) _ = unseen h.nodes before after (joins-unseen before after e)
  event_widens (looks e) _ = unseen h.nodes before after (load-unseen _ look before after look-plain e)
  event_widens (of_locks (loads_lock e)) _ = unseen h.nodes before after (load-unseen _ load_lock before after load_lock-plain e)
  event_widens (of_lists (loads_list e)) _ = unseen h.nodes before after (load-unseen _ load_list before after load_list-plain e)
  event_widens (of_bodies (loads_body e)) _ = unseen h.nodes before after (load-unseen _ load_body before after load_body-plain e)
  event_widens (of_batches (loads_slot e)) _ = unseen h.nodes before after (load-unseen _ load_slot before after load_slot-plain e)
  event_widens (of_bodies (stores_field e)) _ =
      let asked = e.allowed.asked in
      on_other h.nodes _ store_field before after e (λ n k q same. subst (λ (name : Name). IsFieldOf e.step.view.config asked.index name e.step.first) (sym same) asked.field)
  event_widens (of_batches (stores_node e)) _ = on_own before after h e
  event_widens (of_locks (takes_read e)) _ = let asked = e.allowed.asked in aside h.nodes _ take_read before after e (Lock asked.lock) asked.names (λ none. none)
  event_widens (of_locks (takes_write e)) _ = let asked = e.allowed.asked in aside h.nodes _ take_write before after e (Lock asked.lock) asked.names (λ none. none)
  event_widens (of_locks (releases e)) _ = let asked = e.allowed.asked in aside h.nodes _ release before after e (Lock asked.lock) asked.names (λ none. none)
  event_widens (of_lists (stores_link e)) _ = let asked = e.allowed.asked in aside h.nodes _ store_link before after e (SlotNext asked.index) asked.names (λ none. none)
  event_widens (of_lists (stores_head e)) _ = let asked = e.allowed.asked in aside h.nodes _ store_head before after e SlotHead asked.names (λ none. none)
  event_widens (of_bodies (creates e)) _ = let asked = e.allowed.asked in aside h.nodes _ create before after e (State asked.index) asked.names (λ none. none)
  event_widens (of_bodies (destroys e)) _ = let asked = e.allowed.asked in aside h.nodes _ destroy before after e (State asked.index) asked.names (λ none. none)
  event_widens (of_bodies (sets_user e)) _ = let asked = e.allowed.asked in aside h.nodes _ set_user before after e (User asked.index) asked.names (λ none. none)
  event_widens (of_batches (reserves e)) _ = let asked = e.allowed.asked in aside h.nodes _ reserve before after e (Slot asked.layer asked.slot) asked.names (λ none. none)
  event_widens (of_batches (marks e)) _ = let asked = e.allowed.asked in aside h.nodes _ mark before after e (Phase asked.index) asked.names (λ none. none)
  event_widens (of_batches (places e)) _ = let asked = e.allowed.asked in aside h.nodes _ place_body before after e (LocA asked.m.index) asked.names (λ none. none)
  event_widens (of_batches (attaches e)) _ = let asked = e.allowed.asked in aside h.nodes _ attach before after e (Slot asked.layer asked.slot) asked.names (λ none. none)
  event_widens (of_batches (takes_back e)) _ = let asked = e.allowed.asked in aside h.nodes _ take_back before after e (LocA asked.m.index) asked.names (λ none. none)
  event_widens (of_batches (unmarks e)) _ = let asked = e.allowed.asked in aside h.nodes _ unmark before after e (Phase asked.m.index) asked.names (λ none. none)
  event_widens (of_batches (lets_slot_go e)) _ = let asked = e.allowed.asked in aside h.nodes _ let_slot_go before after e (Slot asked.layer asked.slot) asked.names (λ none. none)
  event_widens (of_pool (stores_pool_link e)) _ = let asked = e.allowed.asked in aside h.nodes _ store_pool_link before after e (PoolNext asked.node) asked.names (λ none. none)
  event_widens (of_pool (stores_pool_head e)) _ = let asked = e.allowed.asked in aside h.nodes _ store_pool_head before after e PoolHead asked.names (λ none. none)
  event_widens (of_pool (stores_pool_count e)) _ = let asked = e.allowed.asked in aside h.nodes _ store_pool_count before after e PoolFree asked.names (λ none. none)
  event_widens (of_walks (begins_walk e)) _ = let asked = e.allowed.asked in aside h.nodes _ begin_walk before after e (Reader asked.number) asked.names (λ none. none)
  event_widens (of_walks (ends_walk e)) _ = let asked = e.allowed.asked in aside h.nodes _ end_walk before after e (Reader asked.number) asked.names (λ none. none)
  event_widens (of_walks (walks_slot e)) _ = on_load h.nodes _ walk_slot before after e (λ found first. refl)
  event_widens (of_walks (walks_main e)) _ = on_load h.nodes _ walk_main before after e (λ found first. refl)
  event_widens (of_walks (walks_child e)) _ = on_load h.nodes _ walk_child before after e (λ found first. refl)
  event_widens (of_walks (walks_bound e)) _ = on_load h.nodes _ walk_bound before after e (λ found first. refl)
  event_widens (of_moves (widens_low index e)) _ = widen_low-widens index h.nodes before after e
  event_widens (of_moves (widens_high index e)) _ = widen_high-widens index h.nodes before after e
  event_widens (of_moves (loads_parent index e)) _ = let asked = e.allowed.asked in aside h.nodes _ (load_parent_moving index) before after e (Parent asked.node) asked.names (λ none. none)
  event_widens (of_moves (stores_side e)) _ = let asked = e.allowed.asked in aside h.nodes _ store_side before after e (BoxWord asked.index asked.side) asked.names (λ none. none)
  event_widens (of_moves (stores_last_side e)) _ = let asked = e.allowed.asked in aside h.nodes _ store_last_side before after e (BoxWord asked.index 5) asked.names (λ none. none)
  event_widens (of_removals (removes e)) _ = let asked = e.allowed.asked in aside h.nodes _ remove before after e (Phase asked.index) asked.names (λ none. none)
  event_widens (of_removals (clears_entry e)) _ = let asked = e.allowed.asked in aside h.nodes _ clear_entry before after e (Child asked.node asked.child) asked.names (λ none. none)
  event_widens (of_removals (clears_location e)) _ =
      elim (e.allowed.asked) [
        | the_first index names cleared none ↦ aside h.nodes _ clear_location before after e (LocA index) names (λ none. none)
        | the_second index names cleared first none ↦ aside h.nodes _ clear_location before after e (LocB index) names (λ none. none)
      ]
  event_widens (of_updates e) formed = update_widens before after h formed e

-- what an event asks of the form of a core that is formed
pub for_update : (before after : Core) (e : Event before after) → IsFormed before → IsFormedForUpdate before after e
for_update before after (of_updates e) formed = formed
for_update before after (opens_pass e) formed = tt
for_update before after (splits_visitor e) formed = tt
for_update before after (joins_visitor e) formed = tt
for_update before after (looks e) formed = tt
for_update before after (of_locks e) formed = tt
for_update before after (of_lists e) formed = tt
for_update before after (of_bodies e) formed = tt
for_update before after (of_batches e) formed = tt
for_update before after (of_pool e) formed = tt
for_update before after (of_walks e) formed = tt
for_update before after (of_moves e) formed = tt
for_update before after (of_removals e) formed = tt
