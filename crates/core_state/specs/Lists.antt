-- The steps on lists of free places, each under the lock of its list: loads, links and heads.
use Rattle.std.specs.Prelude.{◌≡◌, ℕ, zero, suc, ◌-◌, ◌<◌, ◌≤◌, Bool, nat_le, if◌then◌else◌, [], Option, Some, None}
use Rattle.word_map.specs.declared.config.Config.{Config}
use Rattle.word_map.specs.declared.name.Name.{Name}
use Rattle.word_map.specs.declared.name.Name.TheVariants.{SlotHead, SlotNext, State, Phase, PoolHead, PoolNext, PoolFree}
use Rattle.word_map.specs.Names.{index_lock, pool_lock, stripe_of}
use Rattle.core_state.specs.declared.view.Mode.TheVariants.{Write}
use Rattle.core_state.specs.declared.view.Task.{Task}
use Rattle.core_state.specs.declared.view.Task.TheVariants.{Nothing, Creating, Destroying}
use Rattle.core_state.specs.declared.view.View.{View}
use Rattle.core_state.specs.View.{Holds, known_word}
use Rattle.core_state.specs.Encoding.{phase_out}
use Rattle.core_state.specs.Operation.{load, store}
use Rattle.core_state.specs.Kind.{Kind}

-- the lock of the list that a word is of
abbrev pub list_lock : Config → Name → Option ℕ
list_lock c SlotHead = Some (index_lock c)
list_lock c (SlotNext i) = Some (index_lock c)
list_lock c PoolHead = Some (pool_lock c)
list_lock c (PoolNext n) = Some (pool_lock c)
list_lock c PoolFree = Some (pool_lock c)
list_lock c _ = None

-- the word of a list, under its lock
pub record MayLoadList (view : View) (name : Name) (first second : ℕ) : Type 0 where
  pub lock : ℕ
  pub of_list : list_lock view.config name ≡ Some lock
  pub holds : Holds view lock Write

-- Kind 9, load a word of a list
abbrev pub load_list : Kind
load_list = record {
  operation = load;
  entry = λ view name value. None;
  leaves = λ view name found first second. view;
}

-- ---- the list of free indexes

-- a state word says that a body is live
abbrev pub is_live : ℕ → Bool
is_live state = nat_le 256 state

-- the body at an index of the world is live and out, and the pass holds its stripe to write
pub record IsLiveAndOut (view : View) (index : ℕ) : Type 0 where
  pub below : index < view.config.bodies
  pub stripe : Holds view (stripe_of view.config index) Write
  pub live : 256 ≤ known_word view (State index)
  pub out : known_word view (Phase index) ≡ phase_out

-- the pass has the list's lock, and nothing is half done
pub record HasList (view : View) : Type 0 where
  pub lock : Holds view (index_lock view.config) Write
  pub idle : view.call.task ≡ Nothing

-- storing a link asks that its index is that of a live body, which the list has not; the link is the head
pub record MayStoreLink (view : View) (name : Name) (value second : ℕ) : Type 0 where
  pub index : ℕ
  pub names : name ≡ SlotNext index
  pub list : HasList view
  pub body : IsLiveAndOut view index
  pub link : value ≡ known_word view SlotHead

-- Kind 10, store a link
abbrev pub store_link : Kind
store_link = record {
  operation = store;
  entry = λ view name value. None;
  leaves = λ view name found first second. view;
}

-- taking the first index off: the head becomes its link
pub record TakesFirst (view : View) (value : ℕ) : Type 0 where
  pub index : ℕ
  pub head : known_word view SlotHead ≡ suc index
  pub next : value ≡ known_word view (SlotNext index)

-- putting the index of a live body in front: its link is the head
pub record PutsFirst (view : View) (value : ℕ) : Type 0 where
  pub index : ℕ
  pub body : IsLiveAndOut view index
  pub link : known_word view (SlotNext index) ≡ known_word view SlotHead
  pub head : value ≡ suc index

pub data ChangesHead (view : View) (value : ℕ) : Type 0 where
  takes_first : TakesFirst view value → ChangesHead view value
  puts_first : PutsFirst view value → ChangesHead view value

pub record MayStoreHead (view : View) (name : Name) (value second : ℕ) : Type 0 where
  pub names : name ≡ SlotHead
  pub list : HasList view
  pub change : ChangesHead view value

-- what is under way once a head is stored: where it names a live body, this is to be destroyed, and else the index
-- that was first is taken off for a body that is to be created
abbrev pub task_by_head : View → ℕ → ℕ → Task
task_by_head view found zero = Creating (found - 1)
task_by_head view found (suc index) = if is_live (known_word view (State index)) then Destroying index else Creating (found - 1)

-- the view with another task, of which nothing is done yet
abbrev pub with_task : View → Task → View
with_task view task = record view { call = record { task = task; loads = []; stores = [] } }

-- Kind 11, store a head
abbrev pub store_head : Kind
store_head = record {
  operation = store;
  entry = λ view name value. None;
  leaves = λ view name found value second. with_task view (task_by_head view found value);
}
