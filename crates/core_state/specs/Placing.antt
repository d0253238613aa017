-- The steps by which an update places the bodies that it noted in the new trees, or gives them up.
use Rattle.std.specs.Prelude.{◌≡◌, ◌≢◌, ◌⊎◌, ℕ, ◌<◌, ◌≤◌, ◌==◌, true, if◌then◌else◌, [], ◌∷◌, ◌++◌, Contains, Some, None}
use Rattle.scene_model.specs.declared.body_view.Phase.TheVariants.{In}
use Rattle.word_map.specs.declared.name.Name.{Name}
use Rattle.word_map.specs.declared.name.Name.TheVariants.{State, Phase, Layer, BoxWord, LocA, LocB, Child, Bound, Parent}
use Rattle.word_map.specs.Names.{stripe_of}
use Rattle.core_state.specs.declared.view.Mode.TheVariants.{Write}
use Rattle.core_state.specs.declared.view.Task.{Task}
use Rattle.core_state.specs.declared.view.Task.TheVariants.{Nothing, Placing}
use Rattle.core_state.specs.declared.view.Noted.{Noted}
use Rattle.core_state.specs.declared.view.Rebuild.{Rebuild}
use Rattle.core_state.specs.declared.view.View.{View}
use Rattle.core_state.specs.View.{Holds, known_word}
use Rattle.core_state.specs.Encoding.{place, phase_out, phase_in, phase_join}
use Rattle.core_state.specs.Updates.{HasUpdate, IsNoted, IsStillMerged}
use Rattle.core_state.specs.Operation.{load, store, fetch_min, fetch_max}
use Rattle.core_state.specs.Kind.{Kind}
use Rattle.core_state.specs.Lists.{with_task}
use Rattle.core_state.specs.Moving.{IsKnownIn, IsSettled, HasComeTo, HasClimbed, with_load, with_store}
use Rattle.core_state.specs.Noting.{with_update}

-- ---- a body that looks as it was noted

-- it is settled, in the broad phase, and has the state and the location with which it was noted
pub record IsKnownAsNoted (view : View) (noted : Noted) : Type 0 where
  pub settled : IsSettled view noted.index
  pub inside : IsKnownIn view noted.index In
  pub state : known_word view (State noted.index) ≡ noted.state
  pub location : known_word view (LocA noted.index) ≡ noted.location

-- the trees are planned, and the update has done nothing with the body yet
pub record IsToPlace (view : View) (index : ℕ) : Type 0 where
  pub r : Rebuild
  pub noted : Noted
  pub update : view.rebuild ≡ Some r
  pub planned : r.is_planned ≡ true
  pub among : Contains r.noted noted
  pub of_body : noted.index ≡ index
  pub unplaced : ¬ Contains r.placed index
  pub kept : ¬ Contains r.given_up index
  pub unpromoted : ¬ Contains r.promoted index
  pub as_noted : IsKnownAsNoted view noted

-- the place that is planned for the body
abbrev pub IsPlannedPlace : View → ℕ → ℕ → ℕ → Type 0
IsPlannedPlace view index n k = (k < 4) × HasUpdate view (λ r. IsNoted r index (λ noted. noted.place ≡ place n k))

-- ---- bounds are widened

-- it begins at the planned place, and goes on at a place that it has come to
pub data WidensToPlace (view : View) (index n k : ℕ) : Type 0 where
  begins_placing : view.call.task ≡ Nothing → IsPlannedPlace view index n k → WidensToPlace view index n k
  goes_on_placing : view.call.task ≡ Placing index → HasComeTo view.call (IsPlannedPlace view index) n k → WidensToPlace view index n k

-- the side is that of the box of the body
pub record MayWidenToPlace (index : ℕ) (view : View) (n k q value : ℕ) : Type 0 where
  pub to_place : IsToPlace view index
  pub side : value ≡ known_word view (BoxWord index q)
  pub widens : WidensToPlace view index n k

pub record MayWidenLowToPlace (index : ℕ) (view : View) (name : Name) (value second : ℕ) : Type 0 where
  pub node : ℕ
  pub child : ℕ
  pub side : ℕ
  pub names : name ≡ Bound node child side
  pub is_low : side < 3
  pub may : MayWidenToPlace index view node child side value

pub record MayWidenHighToPlace (index : ℕ) (view : View) (name : Name) (value second : ℕ) : Type 0 where
  pub node : ℕ
  pub child : ℕ
  pub side : ℕ
  pub names : name ≡ Bound node child side
  pub is_high : 3 ≤ side
  pub may : MayWidenToPlace index view node child side value

-- the view after a side was widened: the placing has begun, or gone on
abbrev pub widened_to_place : Task → ℕ → View → Name → ℕ → View
widened_to_place (Placing i) index view name value = with_store view name value
widened_to_place _ index view name value = with_store (with_task view (Placing index)) name value

-- Kind 34, widen a low side to place the body at an index
abbrev pub widen_low_placing : ℕ → Kind
widen_low_placing index = record {
  operation = fetch_min;
  entry = λ view name value. None;
  leaves = λ view name found value second. widened_to_place view.call.task index view name value;
}

-- Kind 35, widen a high side
abbrev pub widen_high_placing : ℕ → Kind
widen_high_placing index = record {
  operation = fetch_max;
  entry = λ view name value. None;
  leaves = λ view name found value second. widened_to_place view.call.task index view name value;
}

-- loading a parent asks that the placing has come to a place of the node
pub record MayLoadParentPlacing (index : ℕ) (view : View) (name : Name) (first second : ℕ) : Type 0 where
  pub node : ℕ
  pub child : ℕ
  pub names : name ≡ Parent node
  pub to_place : IsToPlace view index
  pub task : view.call.task ≡ Placing index
  pub come : HasComeTo view.call (IsPlannedPlace view index) node child

-- Kind 36, load a parent to place the body at an index
abbrev pub load_parent_placing : ℕ → Kind
load_parent_placing index = record {
  operation = load;
  entry = λ view name value. None;
  leaves = λ view name found first second. with_load view name found;
}

-- ---- the body is placed, or given up

-- placing a body asks that all bounds from its planned place up contain its box
pub record MayPlaceNoted (view : View) (name : Name) (value second : ℕ) : Type 0 where
  pub index : ℕ
  pub node : ℕ
  pub child : ℕ
  pub names : name ≡ LocB index
  pub task : view.call.task ≡ Placing index
  pub to_place : IsToPlace view index
  pub below : child < 4
  pub planned : to_place.noted.place ≡ place node child
  pub at : value ≡ to_place.noted.place
  pub climbed : HasClimbed view.call (λ q. known_word view (BoxWord index q)) node child

-- a body whose phase names a slot is not done before its phase is stored
abbrev pub with_placed : ℕ → View → View
with_placed index view = with_update (λ r. record r { placed = r.placed ++ index ∷ [] })
    (with_task view (if known_word view (Phase index) == phase_in then Nothing else Placing index))

abbrev pub placed_by : View → Name → View
placed_by view (LocB index) = with_placed index view
placed_by view name = view

-- Kind 44, place a body
abbrev pub place_noted : Kind
place_noted = record {
  operation = store;
  entry = λ view name value. None;
  leaves = λ view name found first second. placed_by view name;
}

-- then storing its phase asks that it still looks as it was noted, and that the update has not given it up
pub record MayPlacePhase (view : View) (name : Name) (value second : ℕ) : Type 0 where
  pub index : ℕ
  pub slot : ℕ
  pub r : Rebuild
  pub noted : Noted
  pub names : name ≡ Phase index
  pub task : view.call.task ≡ Placing index
  pub update : view.rebuild ≡ Some r
  pub planned : r.is_planned ≡ true
  pub among : Contains r.noted noted
  pub of_body : noted.index ≡ index
  pub placed : Contains r.placed index
  pub kept : ¬ Contains r.given_up index
  pub as_noted : IsKnownAsNoted view noted
  pub joined : known_word view (Phase index) ≡ phase_join slot
  pub goes_in : value ≡ phase_in

-- Kind 45, store the phase of a body that is placed
abbrev pub place_phase : Kind
place_phase = record {
  operation = store;
  entry = λ view name value. None;
  leaves = λ view name found first second. with_task view Nothing;
}

-- a body is not the one that was noted, or is no longer in a tree that the update replaces: it is out, or in the tree of a
-- slot that is not merged, or it stands still with another state or location. Each of these stands under the stripe
pub data IsGone (view : View) (r : Rebuild) (noted : Noted) : Type 0 where
  is_out : known_word view (Phase noted.index) ≡ phase_out → IsGone view r noted
  is_elsewhere : (slot : ℕ) → 256 ≤ known_word view (State noted.index) → known_word view (Phase noted.index) ≡ phase_join slot
      → ((root : ℕ) → ¬ IsStillMerged r (known_word view (Layer noted.index)) slot root) → IsGone view r noted
  is_another : IsSettled view noted.index → (known_word view (State noted.index) ≢ noted.state) ⊎ (known_word view (LocA noted.index) ≢ noted.location)
      → IsGone view r noted

pub record MayGiveUp (index : ℕ) (view : View) (name : Name) (value second : ℕ) : Type 0 where
  pub node : ℕ
  pub child : ℕ
  pub r : Rebuild
  pub noted : Noted
  pub names : name ≡ Child node child
  pub update : view.rebuild ≡ Some r
  pub planned : r.is_planned ≡ true
  pub idle : view.call.task ≡ Nothing
  pub among : Contains r.noted noted
  pub of_body : noted.index ≡ index
  pub below : child < 4
  pub at : noted.place ≡ place node child
  pub unplaced : ¬ Contains r.placed index
  pub kept : ¬ Contains r.given_up index
  pub stripe : Holds view (stripe_of view.config index) Write
  pub gone : IsGone view r noted
  pub none : value ≡ 0

-- Kind 46, give the body at an index up
abbrev pub give_up : ℕ → Kind
give_up index = record {
  operation = store;
  entry = λ view name value. None;
  leaves = λ view name found first second. with_update (λ r. record r { given_up = r.given_up ++ index ∷ [] }) view;
}
