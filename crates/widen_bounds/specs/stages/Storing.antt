-- How the box words of a body are stored, once its bounds are widened.
use Rattle.std.specs.Prelude.{◌≡◌, ◌⊎◌, ℕ, ◌<◌, List, [], slice_index}
use Rattle.fixed_box.specs.FixBox.{words_of}
use Rattle.fixed_box.specs.declared.fix_box.FixBox.{FixBox}
use Rattle.body_ident.specs.Id.{Id}
use Rattle.scene_model.specs.declared.body_view.Phase.TheVariants.{Out, In}
use Rattle.word_map.specs.declared.name.Name.TheVariants.{BoxWord}
use Rattle.word_map.specs.Names.{stripe_of}
use Rattle.core_state.specs.declared.view.Mode.TheVariants.{Write}
use Rattle.core_state.specs.declared.view.Task.TheVariants.{Nothing, Moving}
use Rattle.core_state.specs.declared.view.Call.{Call}
use Rattle.core_state.specs.declared.view.View.{View}
use Rattle.core_state.specs.View.{Holds, known_word}
use Rattle.core_state.specs.Encoding.{sides_of, place}
use Rattle.core_state.specs.Moving.{HasClimbed, MayStoreSide, store_side, MayStoreLastSide, store_last_side}
use Rattle.pass_table.specs.Stepping.{Stored}
use Rattle.pass_table.specs.Settled.{KnowsPhase, KnowsFirst, KnowsSecond}

-- from a location, if the word names one, all bounds up to the root are widened for a box of these words
abbrev pub HasClimbedFrom : Call → List ℕ → ℕ → Type 0
HasClimbedFrom call target at = (n k : ℕ) → k < 4 → at ≡ place n k → HasClimbed call (sides_of target) n k

-- the body may get this box: it is in the broad phase, and the bounds from both of its locations are widened; or it is out
pub data GetsBox (id : Id) (to : FixBox) (view : View) : Type 0 where
  where_widened : (first second : ℕ) → KnowsPhase id In view → view.call.task ≡ Moving id.index (words_of to) → KnowsFirst id first view → KnowsSecond id second view
      → HasClimbedFrom view.call (words_of to) first → HasClimbedFrom view.call (words_of to) second → GetsBox id to view
  as_it_is_out : KnowsPhase id Out view → (view.call.task ≡ Nothing) ⊎ (view.call.task ≡ Moving id.index []) → GetsBox id to view

-- under its stripe, and the first sides of the box, so many, are stored
pub record IsBoxing (id : Id) (to : FixBox) (side : ℕ) (view : View) : Type 0 where
  pub stripe : Holds view (stripe_of view.config id.index) Write
  pub below : id.index < view.config.bodies
  pub gets : GetsBox id to view
  pub stored : (q : ℕ) → q < side → known_word view (BoxWord id.index q) ≡ slice_index (words_of to) q

-- a side of the box but the last was stored, by one step
abbrev pub StoresSideOf : Id → FixBox → ℕ → View → View → Type 0
StoresSideOf id to side view next = Stored MayStoreSide store_side view (BoxWord id.index side) (slice_index (words_of to) side) next

-- the last one was
abbrev pub StoresLastOf : Id → FixBox → View → View → Type 0
StoresLastOf id to view next = Stored MayStoreLastSide store_last_side view (BoxWord id.index 5) (slice_index (words_of to) 5) next
