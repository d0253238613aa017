-- The events of the core, by groups, with a constructor for each kind of step, and runs.
use Rattle.std.specs.Prelude.{◌≢◌, ℕ}
use Rattle.core_state.specs.declared.view.Role.TheVariants.{Visitor}
use Rattle.core_state.specs.declared.view.View.{View}
use Rattle.core_state.specs.Core.{Core, IsViewAt}
use Rattle.core_state.specs.Kind.{Steps}
use Rattle.core_state.specs.Seats.{Opens, Visits, Joins}
use Rattle.core_state.specs.Looking.{MayLook, look}
use Rattle.core_state.specs.Locking.{MayLoadLock, load_lock, MayRead, take_read, MayWrite, take_write, MayRelease, release}
use Rattle.core_state.specs.Lists.{MayLoadList, load_list, MayStoreLink, store_link, MayStoreHead, store_head}
use Rattle.core_state.specs.Lives.{MayStoreField, store_field, MayCreate, create, MayDestroy, destroy, MayLoadBody, load_body, MaySetUser, set_user}
use Rattle.core_state.specs.Batches.{MayLoadSlot, load_slot, MayReserve, reserve, MayMark, mark, MayStoreNode, store_node, MayPlace, place_body, MayAttach, attach, MayTakeBack, take_back, MayUnmark, unmark, MayLetSlotGo, let_slot_go}
use Rattle.core_state.specs.Pool.{MayStorePoolLink, store_pool_link, MayStorePoolHead, store_pool_head, MayStorePoolCount, store_pool_count}
use Rattle.core_state.specs.Walks.{MayBegin, begin_walk, MayEnd, end_walk, MayWalkSlot, walk_slot, MayWalkMain, walk_main, MayWalkChild, walk_child, MayWalkBound, walk_bound}
use Rattle.core_state.specs.Moving.{MayWidenLow, widen_low, MayWidenHigh, widen_high, MayLoadParentMoving, load_parent_moving, MayStoreSide, store_side, MayStoreLastSide, store_last_side}
use Rattle.core_state.specs.Removing.{MayRemove, remove, MayClearEntry, clear_entry, MayClearLocation, clear_location}
use Rattle.core_state.specs.UpdateEvent.{UpdateEvent}

-- a step on a lock
pub data LockEvent (before after : Core) : Type 0 where
  loads_lock : Steps MayLoadLock load_lock before after → LockEvent before after
  takes_read : Steps MayRead take_read before after → LockEvent before after
  takes_write : Steps MayWrite take_write before after → LockEvent before after
  releases : Steps MayRelease release before after → LockEvent before after

-- a step on a list of free places
pub data ListEvent (before after : Core) : Type 0 where
  loads_list : Steps MayLoadList load_list before after → ListEvent before after
  stores_link : Steps MayStoreLink store_link before after → ListEvent before after
  stores_head : Steps MayStoreHead store_head before after → ListEvent before after

-- a step on the words of a body
pub data BodyEvent (before after : Core) : Type 0 where
  stores_field : Steps MayStoreField store_field before after → BodyEvent before after
  creates : Steps MayCreate create before after → BodyEvent before after
  destroys : Steps MayDestroy destroy before after → BodyEvent before after
  loads_body : Steps MayLoadBody load_body before after → BodyEvent before after
  sets_user : Steps MaySetUser set_user before after → BodyEvent before after

-- a step on a slot, or on what a batch holds
pub data BatchEvent (before after : Core) : Type 0 where
  loads_slot : Steps MayLoadSlot load_slot before after → BatchEvent before after
  reserves : Steps MayReserve reserve before after → BatchEvent before after
  marks : Steps MayMark mark before after → BatchEvent before after
  stores_node : Steps MayStoreNode store_node before after → BatchEvent before after
  places : Steps MayPlace place_body before after → BatchEvent before after
  attaches : Steps MayAttach attach before after → BatchEvent before after
  takes_back : Steps MayTakeBack take_back before after → BatchEvent before after
  unmarks : Steps MayUnmark unmark before after → BatchEvent before after
  lets_slot_go : Steps MayLetSlotGo let_slot_go before after → BatchEvent before after

-- a step on the pool of batch nodes
pub data PoolEvent (before after : Core) : Type 0 where
  stores_pool_link : Steps MayStorePoolLink store_pool_link before after → PoolEvent before after
  stores_pool_head : Steps MayStorePoolHead store_pool_head before after → PoolEvent before after
  stores_pool_count : Steps MayStorePoolCount store_pool_count before after → PoolEvent before after

-- the beginning or end of a walk, or a load of it
pub data WalkEvent (before after : Core) : Type 0 where
  begins_walk : Steps MayBegin begin_walk before after → WalkEvent before after
  ends_walk : Steps MayEnd end_walk before after → WalkEvent before after
  walks_slot : Steps MayWalkSlot walk_slot before after → WalkEvent before after
  walks_main : Steps MayWalkMain walk_main before after → WalkEvent before after
  walks_child : Steps MayWalkChild walk_child before after → WalkEvent before after
  walks_bound : Steps MayWalkBound walk_bound before after → WalkEvent before after

-- a step of a move
pub data MoveEvent (before after : Core) : Type 0 where
  widens_low : (index : ℕ) → Steps (MayWidenLow index) (widen_low index) before after → MoveEvent before after
  widens_high : (index : ℕ) → Steps (MayWidenHigh index) (widen_high index) before after → MoveEvent before after
  loads_parent : (index : ℕ) → Steps (MayLoadParentMoving index) (load_parent_moving index) before after → MoveEvent before after
  stores_side : Steps MayStoreSide store_side before after → MoveEvent before after
  stores_last_side : Steps MayStoreLastSide store_last_side before after → MoveEvent before after

-- a step of a removal
pub data RemovalEvent (before after : Core) : Type 0 where
  removes : Steps MayRemove remove before after → RemovalEvent before after
  clears_entry : Steps MayClearEntry clear_entry before after → RemovalEvent before after
  clears_location : Steps MayClearLocation clear_location before after → RemovalEvent before after

-- one event leads from the one core to the other; docs/steps.md has the kinds by number
pub data Event (before after : Core) : Type 0 where
  opens_pass : Opens before after → Event before after
  splits_visitor : Visits before after → Event before after
  joins_visitor : Joins before after → Event before after
  looks : Steps MayLook look before after → Event before after
  of_locks : LockEvent before after → Event before after
  of_lists : ListEvent before after → Event before after
  of_bodies : BodyEvent before after → Event before after
  of_batches : BatchEvent before after → Event before after
  of_pool : PoolEvent before after → Event before after
  of_walks : WalkEvent before after → Event before after
  of_moves : MoveEvent before after → Event before after
  of_removals : RemovalEvent before after → Event before after
  of_updates : UpdateEvent before after → Event before after

-- events one after the other
pub data Run (first : Core) : Core → Type 0 where
  begins : Run first first
  goes_on : {last next : Core} → Run first last → Event last next → Run first next

-- of the views that are not on their way to another pass, all but one stand as before
pub record ChangesOne (before after : Core) : Type 0 where
  pub seat : ℕ
  pub others : (other : ℕ) (view : View) → other ≢ seat → IsViewAt before other view → view.role ≢ Visitor → IsViewAt after other view
