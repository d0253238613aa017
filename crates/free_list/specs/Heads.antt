-- What the steps on the list of free indexes tell.
use Rattle.std.specs.Prelude.{◌≡◌, ℕ, suc, ◌<◌, Some, None}
use Rattle.scene_model.specs.Scene.{next_index}
use Rattle.scene_model.specs.Cause.{IsCauseAt, full}
use Rattle.word_map.specs.declared.name.Name.TheVariants.{SlotHead, SlotNext}
use Rattle.core_state.specs.declared.view.Task.{Task}
use Rattle.core_state.specs.declared.view.Task.TheVariants.{Creating, Destroying}
use Rattle.core_state.specs.declared.view.View.{View}
use Rattle.core_state.specs.View.{known_word}
use Rattle.core_state.specs.Guards.{scene_at}
use Rattle.core_state.specs.Lists.{MayLoadList, load_list, MayStoreLink, store_link, MayStoreHead, store_head, with_task}
use Rattle.pass_table.specs.Stepping.{Stepped, Stored}
use Rattle.pass_table.specs.Knowing.{KnowsMore}
use Rattle.pass_table.specs.Calls.{StoresWord}

-- the index is the one that the next body takes
pub record IsFirst (view : View) (index : ℕ) : Type 0 where
  pub below : index < view.config.bodies
  pub free : next_index (scene_at view.config view.known) ≡ Some index

-- The head was loaded, under the lock: where it is 0 a body is live at each index, and otherwise it names the index that
-- the next body takes
pub record LoadedHead (view next : View) (head : ℕ) : Type 0 where
  pub step : Stepped MayLoadList load_list view SlotHead 0 0 head next
  pub more : KnowsMore view next
  pub is : known_word next SlotHead ≡ head
  pub none : head ≡ 0 → IsCauseAt full (scene_at next.config next.known)
  pub some : (index : ℕ) → head ≡ suc index → IsFirst next index

-- the link of an index was loaded
pub record LoadedLink (view next : View) (index link : ℕ) : Type 0 where
  pub step : Stepped MayLoadList load_list view (SlotNext index) 0 0 link next
  pub more : KnowsMore view next
  pub is : known_word next (SlotNext index) ≡ link

-- the view once this task is begun, with what is then known
pub record IsDoing (view next : View) (task : Task) : Type 0 where
  pub rest : next ≡ record (with_task view task) { known = next.known; joined = None }

-- the first index was taken off: the head is its link, a creation is under way, and it is still the one that the next
-- body takes
pub record TookOff (view next : View) (index link : ℕ) : Type 0 where
  pub step : Stored MayStoreHead store_head view SlotHead link next
  pub stores : StoresWord view next SlotHead link
  pub doing : IsDoing view next (Creating index)
  pub first : IsFirst next index

-- the link of an index was stored
pub record LinkedTo (view next : View) (index head : ℕ) : Type 0 where
  pub step : Stored MayStoreLink store_link view (SlotNext index) head next
  pub stores : StoresWord view next (SlotNext index) head
  pub rest : next ≡ record view { known = next.known; joined = None }

-- the index of a live body was put in front, and a destruction is under way
pub record PutInFront (view next : View) (index : ℕ) : Type 0 where
  pub step : Stored MayStoreHead store_head view SlotHead (suc index) next
  pub stores : StoresWord view next SlotHead (suc index)
  pub doing : IsDoing view next (Destroying index)
