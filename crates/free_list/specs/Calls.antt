-- What it asks to take the first place off a list and to put one in front, and what that tells, by the list.
use Rattle.std.specs.Prelude.{◌≡◌, ◌≢◌, ℕ, suc, ◌+◌, ◌<◌, [], ◌∷◌, Contains}
use Rattle.scene_model.specs.Cause.{IsCauseAt, full}
use Rattle.word_map.specs.declared.name.Name.TheVariants.{SlotHead, SlotNext, PoolHead, PoolNext, PoolFree}
use Rattle.core_state.specs.declared.view.Task.TheVariants.{Creating, Destroying}
use Rattle.core_state.specs.declared.view.View.{View}
use Rattle.core_state.specs.View.{known_word}
use Rattle.core_state.specs.Guards.{scene_at}
use Rattle.core_state.specs.Lists.{HasList, IsLiveAndOut}
use Rattle.core_state.specs.Pool.{HasPool, node_taken, node_given}
use Rattle.pass_table.specs.Knowing.{KnowsMore}
use Rattle.pass_table.specs.Calls.{Adds}
use Rattle.free_list.specs.declared.list.Empty.{Empty}
use Rattle.free_list.specs.declared.list.ListName.{ListName}
use Rattle.free_list.specs.declared.list.ListName.TheVariants.{Bodies, Nodes}
use Rattle.free_list.specs.Since.{IsNow, store_at, HasStored}
use Rattle.free_list.specs.Heads.{IsFirst, IsDoing}
use Rattle.free_list.specs.Pool.{taken_in, given_in}

-- ---- free indexes

-- The first index is the pass's: it made no entry. The head named it, and is now what its link was; a creation is under
-- way, all else is as it was, and the next body takes this index
pub record PoppedIndex (view next : View) (index : ℕ) : Type 0 where
  pub adds : Adds view next []
  pub stored : HasStored view next (store_at SlotHead (known_word view (SlotNext index)) ∷ [])
  pub was : known_word view SlotHead ≡ suc index
  pub is : known_word next SlotHead ≡ known_word view (SlotNext index)
  pub doing : IsDoing view next (Creating index)
  pub first : IsFirst next index

-- there is none: the head names none, and a body is live at each index. The pass has what it had
pub record HadNoIndex (view next : View) (empty : Empty) : Type 0 where
  pub more : KnowsMore view next
  pub zero : empty.head ≡ 0
  pub is : known_word view SlotHead ≡ empty.head
  pub every : IsCauseAt full (scene_at next.config next.known)

-- putting an index in front asks that its body is live and out, under its stripe
pub record MayPutIndex (view : View) (index : ℕ) : Type 0 where
  pub list : HasList view
  pub body : IsLiveAndOut view index

-- the index is in front: its link is what the head was, and a destruction is under way. All else is as it was
pub record PushedIndex (view next : View) (index : ℕ) : Type 0 where
  pub adds : Adds view next []
  pub stored : HasStored view next (store_at (SlotNext index) (known_word view SlotHead) ∷ store_at SlotHead (suc index) ∷ [])
  pub is : known_word next SlotHead ≡ suc index
  pub link : known_word next (SlotNext index) ≡ known_word view SlotHead
  pub doing : IsDoing view next (Destroying index)

-- ---- free nodes

-- taking a node asks that the pass prepares a batch: the newest one has the node then
pub record MayTakeNode (view : View) : Type 0 where
  pub pool : HasPool view
  pub preparing : view.batches ≢ []

-- The first node is the newest batch's: the pass made no entry. The head named it, a batch node, and is now what its link
-- was; the count is not stored yet. One node more is taken, and all else is as it was
pub record PoppedNode (view next : View) (node : ℕ) : Type 0 where
  pub adds : Adds view next []
  pub stored : HasStored view next (store_at PoolHead (known_word view (PoolNext node)) ∷ [])
  pub was : known_word view PoolHead ≡ suc node
  pub below : node < view.config.nodes
  pub is : known_word next PoolHead ≡ known_word view (PoolNext node)
  pub count : known_word next PoolFree ≡ known_word view PoolFree
  pub now : IsNow (node_taken view node) next

-- There is none: the head names none, and the pass has taken as many as the count says, with those that it gave. It has
-- what it had
pub record HadNoNode (view next : View) (empty : Empty) : Type 0 where
  pub more : KnowsMore view next
  pub zero : empty.head ≡ 0
  pub is : known_word view PoolHead ≡ empty.head
  pub every : known_word view PoolFree + given_in view.call.task ≡ taken_in view.call.task

-- giving a node asks that the pass is to give it back
pub record MayGiveNode (view : View) (node : ℕ) : Type 0 where
  pub pool : HasPool view
  pub loose : Contains view.loose node

-- The node is in front: its link is what the head was; the count is not stored yet. One node more is given, it is no
-- longer to be given back, and what was stored in it is forgotten. All else is as it was
pub record PushedNode (view next : View) (node : ℕ) : Type 0 where
  pub adds : Adds view next []
  pub stored : HasStored view next (store_at (PoolNext node) (known_word view PoolHead) ∷ store_at PoolHead (suc node) ∷ [])
  pub is : known_word next PoolHead ≡ suc node
  pub link : known_word next (PoolNext node) ≡ known_word view PoolHead
  pub count : known_word next PoolFree ≡ known_word view PoolFree
  pub now : IsNow (node_given view node) next

-- ---- either list

abbrev pub MayPop : ListName → View → Type 0
MayPop Bodies view = HasList view
MayPop Nodes view = MayTakeNode view

abbrev pub Popped : ListName → View → View → ℕ → Type 0
Popped Bodies view next item = PoppedIndex view next item
Popped Nodes view next item = PoppedNode view next item

abbrev pub WasEmpty : ListName → View → View → Empty → Type 0
WasEmpty Bodies view next empty = HadNoIndex view next empty
WasEmpty Nodes view next empty = HadNoNode view next empty

abbrev pub MayPush : ListName → View → ℕ → Type 0
MayPush Bodies view item = MayPutIndex view item
MayPush Nodes view item = MayGiveNode view item

abbrev pub Pushed : ListName → View → View → ℕ → Type 0
Pushed Bodies view next item = PushedIndex view next item
Pushed Nodes view next item = PushedNode view next item
