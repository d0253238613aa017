-- How a walk by turns goes on, and what each turn of it owes.
use Rattle.std.specs.Prelude.{◌≡◌, ◌≢◌, ℕ, ◌+◌, ◌-◌, ◌^◌, ◌==◌, ◌<◌, ◌≤◌, Bool, true, false, nat_lt, if◌then◌else◌, [], ◌∷◌, Option, Some, None}
use Rattle.word_map.specs.declared.name.Name.TheVariants.{Child as ChildName}
use Rattle.core_state.specs.declared.view.View.{View}
use Rattle.core_state.specs.View.{IsPass}
use Rattle.core_state.specs.WalkRecord.{IsLoaded}
use Rattle.core_state.specs.Walking.{Query, Position}
use Rattle.pass_table.specs.Turning.{AtMostOneStep, MadeBy, HasReached}
use Rattle.pass_table.specs.Labels.{SaysNew}
use Rattle.tree_query.specs.declared.finder.Finder.{Finder}
use Rattle.tree_query.specs.declared.walk.WalkStage.{WalkStage}
use Rattle.tree_query.specs.declared.walk.WalkStage.TheVariants.{Begin, Word, Ended}
use Rattle.tree_query.specs.declared.walk.Walk.{Walk}
use Rattle.tree_query.specs.Finding.{has_index, room_of}
use Rattle.tree_query.specs.Walking.{HasWalked, reader_store}
use Rattle.tree_query.specs.Collecting.{Trip, IsCollecting}
use Rattle.tree_query.specs.Answers.{SaysWalk, HasCollected}
use Rattle.tree_query.specs.stages.WalkPlaces.{IsNextLayer, IsSized, is_reading, is_at_side, IsAtPlace, KeepsPlan}

-- ---- what holds

-- it has not begun: the pass does not walk, and nothing is found
pub record IsBeforeWalk (start : View) (walk : Walk) (finder : Finder) (view : View) : Type 0 where
  pub layer : walk.layer ≡ walk.lowest
  pub slot : walk.slot ≡ 0
  pub stack : walk.stack.items ≡ []
  pub walked : HasWalked start view []
  pub rests : view.walk.is_on ≡ false
  pub none : (index : ℕ) → has_index finder index ≡ false
  pub loads : finder.loads ≡ 0

-- a walk of a call that began at this view and stored the reader word once
abbrev pub trip_of : View → ℕ → ℕ → Query → Trip
trip_of start number first query = record { start = start; told = reader_store number first ∷ []; query = query }

-- it is under way, at a place of its query, and its finder holds what it found
pub record IsOnWalk (start : View) (walk : Walk) (finder : Finder) (view : View) : Type 0 where
  pub number : ℕ
  pub first : ℕ
  pub pass : IsPass start number
  pub query : Query
  pub asks : query.mask ≡ walk.mask
  pub at : Position
  pub place : IsAtPlace start.config walk at
  pub collecting : IsCollecting (trip_of start number first query) walk.shape finder view at
  pub loaded : is_at_side walk.stage ≡ true → IsLoaded view.walk.loads (ChildName walk.node walk.child) walk.word × (walk.word ≢ 0)
  pub above : walk.lowest ≤ walk.layer
  pub within : walk.layer ≤ start.config.layers

-- The walk that was begun as the first one, with a finder of this room, has come to this. When it has ended, it has collected
-- all that it is to collect
pub record IsWalkGoing (room : ℕ) (first : Walk) (start : View) (walk : Walk) (finder : Finder) (view : View) : Type 0 where
  pub plan : KeepsPlan first walk
  pub sized : IsSized start.config walk
  pub lowest : IsNextLayer walk.mask start.config.layers 0 walk.lowest
  pub roomy : room_of finder ≡ room
  pub fits : start.config.bodies ≤ room
  pub before : walk.stage ≡ Begin → IsBeforeWalk start walk finder view
  pub reads : is_reading walk.stage ≡ true → IsOnWalk start walk finder view
  pub ended : walk.stage ≡ Ended → HasCollected walk.shape walk.mask start view finder

-- it was begun at some time, and goes on
pub record IsUnderWalk (walk : Walk) (finder : Finder) (view : View) : Type 0 where
  pub room : ℕ
  pub first : Walk
  pub start : View
  pub goes : IsWalkGoing room first start walk finder view

-- ---- turns

-- a walk loads less than 2 ^ 32 words
abbrev pub walk_left : WalkStage → ℕ → ℕ
walk_left Begin loads = 2 ^ 32 + 3
walk_left Ended loads = 1
walk_left _ loads = (2 ^ 32 + 2) - loads

-- the label of a walk under way: whether the main word of its lowest layer was read, or is next
abbrev pub label_under_way : Bool → Bool → Option ℕ
label_under_way past main = if past then Some 1 else if main then Some 0 else None

abbrev pub is_past_lowest : Walk → Bool
is_past_lowest walk = nat_lt walk.lowest walk.layer

abbrev pub walk_label_at : Walk → WalkStage → Option ℕ
walk_label_at walk Begin = None
walk_label_at walk Ended = Some 2
walk_label_at walk Word = label_under_way (is_past_lowest walk) (walk.slot == walk.slots)
walk_label_at walk _ = label_under_way (is_past_lowest walk) false

abbrev pub walk_label : Walk → Option ℕ
walk_label walk = walk_label_at walk walk.stage

-- what a turn owes: a step or none, no entry, less to do, and that the walk goes on and its labels say what they are to say
pub record IsWalkTurn (before after : Walk) (held finder : Finder) (view next : View) : Type 0 where
  pub step : AtMostOneStep view next
  pub made : MadeBy view next None
  pub fewer : walk_left after.stage finder.loads < walk_left before.stage held.loads
  pub keeps : (room : ℕ) (first : Walk) (start : View) → IsWalkGoing room first start before held view → IsWalkGoing room first start after finder next
  pub labelled : (label : ℕ) → HasReached (walk_label before) label → HasReached (walk_label after) label
  pub says : (room : ℕ) (first : Walk) (start : View) → IsWalkGoing room first start before held view → SaysNew (walk_label before) (walk_label after) (SaysWalk before.mask start next)
