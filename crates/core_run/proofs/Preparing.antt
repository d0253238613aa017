-- Steps on batches and on the pool, and what they ask as tests, but for the attaching of a batch.
use Rattle.std.proofs.Common.{◌≡◌, ℕ, suc, ◌+◌, ◌-◌, Contains, Option, Some, None, refl, ap, sym}
use Rattle.word_map.specs.declared.name.Name.{Name}
use Rattle.word_map.specs.declared.name.Name.TheVariants.{State, Phase, Layer, LocA, PoolHead, PoolNext, PoolFree, Slot}
use Rattle.word_map.specs.Names.{pool_lock, stripe_of}
use Rattle.core_state.specs.declared.view.Mode.TheVariants.{Write}
use Rattle.core_state.specs.declared.view.Task.{Task}
use Rattle.core_state.specs.declared.view.Task.TheVariants.{Nothing, Pooling}
use Rattle.core_state.specs.declared.view.Marked.{Marked}
use Rattle.core_state.specs.declared.view.Batch.{Batch}
use Rattle.core_state.specs.declared.view.View.{View}
use Rattle.core_state.specs.View.{known_word}
use Rattle.core_state.specs.Encoding.{place, phase_out, phase_join, reserved_by}
use Rattle.core_state.specs.Core.{word_of}
use Rattle.core_run.proofs.Tests.{◌>>=◌, same?, at_most?, above_zero?, false?, place?, some?, empty?, filled?, some_in?, member?, holds?, pass?, idle?, pooling?}
use Rattle.core_run.proofs.Steps.{Test, Move, act}
use Rattle.core_state.specs.Bodies.{IsForSlot}
use Rattle.core_state.specs.Nodes.{node_in}
use Rattle.core_state.specs.Batches.{HasBatch, HasMarked, batch_nodes_of, MayLoadSlot, load_slot, MayReserve, reserve, MayMark, mark, MayUnmark, unmark, MayStoreNode, store_node, MayPlace, place_body, MayTakeBack, take_back, MayLetSlotGo, let_slot_go}
use Rattle.core_state.specs.Pool.{IsPoolTask, HasPool, MayStorePoolLink, store_pool_link, takes_node, gives_node, MayStorePoolHead, store_pool_head, counts_changes, MayStorePoolCount, store_pool_count}
use Rattle.core_state.specs.Event.{of_batches, of_pool, loads_slot, reserves, marks, stores_node, places, takes_back, unmarks, lets_slot_go, stores_pool_link, stores_pool_head, stores_pool_count}

-- ---- slots

abbrev pub may_load_slot? : Test MayLoadSlot
may_load_slot? view (Slot layer slot) first second = Some (layer, slot, refl)
may_load_slot? view _ first second = None

abbrev pub loads_slot_word : (seat layer slot : ℕ) → Move
loads_slot_word seat layer slot = act load_slot may_load_slot? (λ before after s. of_batches (loads_slot s)) seat (Slot layer slot) 0 0

abbrev pub may_reserve? : Test MayReserve
may_reserve? view (Slot layer slot) expected new = do
  pass ← pass? view
  empty ← same? expected 0
  own ← same? new (reserved_by pass.0)
  Some (record { layer = layer; slot = slot; number = pass.0; names = refl; pass = pass.1; empty = empty; own = own })
may_reserve? view _ expected new = None

abbrev pub reserves_slot : (seat layer slot : ℕ) → Move
reserves_slot seat layer slot = act reserve may_reserve? (λ before after s. of_batches (reserves s)) seat (Slot layer slot) 0 (reserved_by seat)

abbrev pub for_slot? : (layer slot : ℕ) (batch : Batch) → Option (IsForSlot layer slot batch)
for_slot? layer slot batch = do
  of_layer ← same? batch.layer layer
  of_slot ← same? batch.slot slot
  Some (of_layer, of_slot)

abbrev pub batch? : (view : View) (layer slot : ℕ) → Option ((batch : Batch) × HasBatch view layer slot batch)
batch? view layer slot = do
  t ← some_in? {P = IsForSlot layer slot} (for_slot? layer slot) view.batches
  Some (t.0, record { among = t.1; for_slot = t.2 })

abbrev pub may_let_slot_go? : Test MayLetSlotGo
may_let_slot_go? view (Slot layer slot) value second = do
  batch ← batch? view layer slot
  bare ← empty? batch.0.marked
  empty ← same? value 0
  Some (record { layer = layer; slot = slot; batch = batch.0; names = refl; has = batch.1; bare = bare; empty = empty })
may_let_slot_go? view _ value second = None

abbrev pub lets_go_of_slot : (seat layer slot : ℕ) → Move
lets_go_of_slot seat layer slot = act let_slot_go may_let_slot_go? (λ before after s. of_batches (lets_slot_go s)) seat (Slot layer slot) 0 0

-- ---- bodies

abbrev pub may_mark? : Test MayMark
may_mark? view (Phase index) (suc (suc slot)) second = do
  batch ← batch? view (known_word view (Layer index)) slot
  stripe ← holds? view (stripe_of view.config index) Write
  idle ← idle? view.call.task
  live ← at_most? 256 (known_word view (State index))
  out ← same? (known_word view (Phase index)) phase_out
  joins ← same? (suc (suc slot)) (phase_join slot)
  Some (record { index = index; layer = known_word view (Layer index); slot = slot; batch = batch.0; names = refl; has = batch.1; stripe = stripe; idle = idle; live = live; out = out; in_layer = refl; joins = joins })
may_mark? view _ value second = None

abbrev pub marks_body : (seat index slot : ℕ) → Move
marks_body seat index slot = act mark may_mark? (λ before after s. of_batches (marks s)) seat (Phase index) (phase_join slot) 0

-- a body that some batch has marked
abbrev HasMarkedAt : View → ℕ → Type 0
HasMarkedAt view index = (batch : Batch) × (m : Marked) × HasMarked view batch m × (m.index ≡ index)

abbrev marked_in? : (view : View) (index : ℕ) (batch : Batch) → Option ((m : Marked) × Contains batch.marked m × (m.index ≡ index))
marked_in? view index batch = some_in? {P = λ m. m.index ≡ index} (λ m. same? m.index index) batch.marked

abbrev pub marked? : (view : View) (index : ℕ) → Option (HasMarkedAt view index)
marked? view index = do
  t ← some_in? {P = λ batch. (m : Marked) × Contains batch.marked m × (m.index ≡ index)} (marked_in? view index) view.batches
  Some (t.0, t.2.0, record { among = t.1; marked = t.2.1 }, t.2.2)

abbrev pub may_place? : Test MayPlace
may_place? view (LocA index) value second = do
  t ← marked? view index
  unplaced ← false? t.1.is_placed
  at ← place? value
  inside ← member? t.0.nodes at.0
  Some (record { batch = t.0; m = t.1; has = t.2; names = ap LocA (sym t.3); unplaced = unplaced; node = at.0; child = at.1; below = at.2; in_batch = inside; at = at.3 })
may_place? view _ value second = None

abbrev pub places_at : (seat index node child : ℕ) → Move
places_at seat index node child = act place_body may_place? (λ before after s. of_batches (places s)) seat (LocA index) (place node child) 0

abbrev pub may_take_back? : Test MayTakeBack
may_take_back? view (LocA index) value second = do
  t ← marked? view index
  stripe ← holds? view (stripe_of view.config t.1.index) Write
  none ← same? value 0
  Some (record { batch = t.0; m = t.1; has = t.2; names = ap LocA (sym t.3); stripe = stripe; none = none })
may_take_back? view _ value second = None

abbrev pub takes_place_back : (seat index : ℕ) → Move
takes_place_back seat index = act take_back may_take_back? (λ before after s. of_batches (takes_back s)) seat (LocA index) 0 0

abbrev pub may_unmark? : Test MayUnmark
may_unmark? view (Phase index) value second = do
  t ← marked? view index
  stripe ← holds? view (stripe_of view.config t.1.index) Write
  idle ← idle? view.call.task
  unplaced ← false? t.1.is_placed
  out ← same? value phase_out
  Some (record { batch = t.0; m = t.1; has = t.2; names = ap Phase (sym t.3); stripe = stripe; idle = idle; unplaced = unplaced; out = out })
may_unmark? view _ value second = None

abbrev pub unmarks_body : (seat index : ℕ) → Move
unmarks_body seat index = act unmark may_unmark? (λ before after s. of_batches (unmarks s)) seat (Phase index) phase_out 0

-- ---- nodes

abbrev pub may_store_node? : Test MayStoreNode
may_store_node? view name value second = do
  node ← some? (node_in name)
  owns ← member? (batch_nodes_of view) node.0
  Some (record { node = node.0; of_node = node.1; owns = owns })

abbrev pub stores_own_node : (seat : ℕ) → Name → ℕ → Move
stores_own_node seat name value = act store_node may_store_node? (λ before after s. of_batches (stores_node s)) seat name value 0

-- ---- the pool

abbrev pub pool_task? : (task : Task) → Option (IsPoolTask task)
pool_task? Nothing = Some tt
pool_task? (Pooling taken given) = Some tt
pool_task? _ = None

abbrev pub has_pool? : (view : View) → Option (HasPool view)
has_pool? view = do
  lock ← holds? view (pool_lock view.config) Write
  idle ← pool_task? view.call.task
  Some (record { lock = lock; idle = idle })

abbrev pub may_link_node? : Test MayStorePoolLink
may_link_node? view (PoolNext node) value second = do
  pool ← has_pool? view
  owns ← member? view.loose node
  link ← same? value (known_word view PoolHead)
  Some (record { node = node; names = refl; pool = pool; owns = owns; link = link })
may_link_node? view _ value second = None

abbrev pub links_node : (seat node : ℕ) → Move
links_node seat node core = act store_pool_link may_link_node? (λ before after s. of_pool (stores_pool_link s)) seat (PoolNext node) (word_of core PoolHead) 0 core

abbrev pub may_take_node? : Test MayStorePoolHead
may_take_node? view PoolHead value second = do
  pool ← has_pool? view
  node ← above_zero? (known_word view PoolHead)
  next ← same? value (known_word view (PoolNext node.0))
  preparing ← filled? view.batches
  Some (record { names = refl; pool = pool; change = takes_node (record { node = node.0; head = node.1; next = next; preparing = preparing }) })
may_take_node? view _ value second = None

abbrev pub takes_first_node : (seat node : ℕ) → Move
takes_first_node seat node core = act store_pool_head may_take_node? (λ before after s. of_pool (stores_pool_head s)) seat PoolHead (word_of core (PoolNext node)) 0 core

abbrev pub may_give_node? : Test MayStorePoolHead
may_give_node? view PoolHead (suc node) second = do
  pool ← has_pool? view
  owns ← member? view.loose node
  link ← same? (known_word view (PoolNext node)) (known_word view PoolHead)
  Some (record { names = refl; pool = pool; change = gives_node (record { node = node; owns = owns; link = link; head = refl }) })
may_give_node? view _ value second = None

abbrev pub gives_node_back : (seat node : ℕ) → Move
gives_node_back seat node = act store_pool_head may_give_node? (λ before after s. of_pool (stores_pool_head s)) seat PoolHead (suc node) 0

abbrev pub may_count_nodes? : Test MayStorePoolCount
may_count_nodes? view PoolFree value second = do
  lock ← holds? view (pool_lock view.config) Write
  task ← pooling? view.call.task
  sum ← same? (value + task.0) (known_word view PoolFree + task.1)
  Some (record { names = refl; lock = lock; count = counts_changes task.0 task.1 task.2 sum })
may_count_nodes? view _ value second = None

-- so many nodes were taken since the count was stored, and so many given
abbrev pub counts_nodes : (seat taken given : ℕ) → Move
counts_nodes seat taken given core = act store_pool_count may_count_nodes? (λ before after s. of_pool (stores_pool_count s)) seat PoolFree (word_of core PoolFree + given - taken) 0 core
