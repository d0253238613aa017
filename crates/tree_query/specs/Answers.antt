-- What a walk that collects leaves, what its labels say, and what a whole query leaves.
use Rattle.std.specs.Prelude.{◌≡◌, ◌↔◌, ℕ, ◌%◌, ◌<◌, true, false, List, [], ◌∷◌, ◌++◌, length}
use Rattle.std.specs.Int.{bit_at}
use Rattle.fixed_box.specs.declared.shape.Shape.{Shape}
use Rattle.fixed_box.specs.Touch.{Touch}
use Rattle.scene_model.specs.History.{IsRightAnswer}
use Rattle.word_map.specs.declared.config.Config.{Config}
use Rattle.core_state.specs.declared.item.Store.{Store}
use Rattle.core_state.specs.declared.view.View.{View}
use Rattle.core_state.specs.View.{IsPass}
use Rattle.core_state.specs.Walking.{Query, asked_words}
use Rattle.core_state.specs.WalkRecord.{IsCandidate}
use Rattle.core_query.specs.WholeRecord.{IsWholeRecord}
use Rattle.pass_table.specs.Calls.{Adds}
use Rattle.pass_table.specs.Work.{Tells, HasDone, idle}
use Rattle.tree_query.specs.declared.finder.Finder.{Finder}
use Rattle.tree_query.specs.Finding.{has_index, seq_of, ids_of}
use Rattle.tree_query.specs.Walking.{HasWalked, reader_store}
use Rattle.tree_query.specs.Checking.{AreAllChecked, HoldsDue, points_between, steps_of}

-- ---- the reader word

-- what a walk stores in the reader word of its pass: twice one more than the value that stood there
abbrev pub raised : ℕ → ℕ → ℕ → List Store
raised number first second = reader_store number first ∷ reader_store number second ∷ []

-- a layer of the world is asked
abbrev pub AsksAny : Config → ℕ → Type 0
AsksAny c mask = (layer : ℕ) × (layer < c.layers) × (bit_at mask layer ≡ 1)

-- At the labels `slots` and `root` the reader word was raised once, where a layer is asked, and at `walked` twice, the second
-- time from an odd value, so that it is even again
pub record SaysWalk (mask : ℕ) (start next : View) (label : ℕ) : Type 0 where
  pub number : ℕ
  pub pass : IsPass start number
  pub first : ℕ
  pub adds : Adds start next []
  pub inside : label < 2 → AsksAny start.config mask → Tells start next (reader_store number first ∷ [])
  pub after : label ≡ 2 → (second : ℕ) × (second % 2 ≡ 1) × Tells start next (raised number first second)

-- ---- a walk

-- The pass has walked, its reader word is even again, and all else that it has is as it was, but for what it knows. Its record
-- is that of a whole walk of the asked layers. The finder holds just the candidates of the record, each a body of the world,
-- and each body that a query has to find is among them
pub record HasCollected (shape : Shape) (mask : ℕ) (start next : View) (finder : Finder) : Type 0 where
  pub number : ℕ
  pub pass : IsPass start number
  pub first : ℕ
  pub second : ℕ
  pub walked : HasWalked start next (raised number first second)
  pub odd : second % 2 ≡ 1
  pub ended : next.walk.is_on ≡ false
  pub query : Query
  pub asks : (query.mask ≡ mask) × (query.shape ≡ shape)
  pub whole : IsWholeRecord query [] (asked_words start.config mask) next.walk.loads
  pub loads : finder.loads ≡ length next.walk.loads
  pub candidates : (index : ℕ) → (has_index finder index ≡ true) ↔ IsCandidate shape next.walk.loads index
  pub below : (index : ℕ) → has_index finder index ≡ true → index < start.config.bodies
  pub seqs : (index : ℕ) → has_index finder index ≡ true → seq_of finder index ≡ 0
  pub due : HoldsDue shape mask start next finder

-- ---- a query

-- A walk left these candidates, and then each of them was checked, ascending by index, under its own stripe, which was taken to
-- read, once; no other lock was taken. What is left is a right answer for the whole time of the call
pub record HasQueried (shape : Shape) (mask : ℕ) (start next : View) (finder : Finder) : Type 0 where
  pub mid : View
  pub found : Finder
  pub collected : HasCollected shape mask start mid found
  pub checks : HasDone mid next (idle mid)
  pub checked : AreAllChecked shape mask mid next found finder
  pub locks : next.locks ≡ mid.locks ++ steps_of start.config (ids_of found)
  pub right : IsRightAnswer (Touch shape) mask start.config.bodies (points_between start next) (ids_of finder)
