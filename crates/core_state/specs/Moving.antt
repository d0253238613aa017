-- The steps of a move: bounds are widened for the box that a body is to have, from its locations up to the roots, and then
-- its box words are stored.
use Rattle.std.specs.Prelude.{◌≡◌, ◌≢◌, ◌⊎◌, ℕ, ◌+◌, ◌<◌, ◌≤◌, ◌==◌, if◌then◌else◌, List, [], ◌∷◌, ◌++◌, length, Contains, Option, None, option_map, slice_index}
use Rattle.fixed_box.specs.FixBox.{words_of}
use Rattle.fixed_box.specs.declared.fix_box.FixBox.{FixBox}
use Rattle.scene_model.specs.declared.body_view.Phase.{Phase}
use Rattle.scene_model.specs.declared.body_view.Phase.TheVariants.{Out, Held, In}
use Rattle.scene_model.specs.declared.entry.Entry.{Entry}
use Rattle.scene_model.specs.declared.entry.Entry.TheVariants.{Move}
use Rattle.scene_model.specs.Step.{HasBody}
use Rattle.word_map.specs.declared.name.Name.{Name}
use Rattle.word_map.specs.declared.name.Name.TheVariants.{State, BoxWord, LocA, LocB, Bound, Parent}
use Rattle.word_map.specs.Names.{stripe_of}
use Rattle.core_state.specs.declared.view.Mode.TheVariants.{Write}
use Rattle.core_state.specs.declared.view.Task.{Task}
use Rattle.core_state.specs.declared.view.Task.TheVariants.{Nothing, Moving}
use Rattle.core_state.specs.declared.view.Call.{Call}
use Rattle.core_state.specs.declared.view.View.{View}
use Rattle.core_state.specs.View.{Holds, known_word}
use Rattle.core_state.specs.Encoding.{Sides, sides_of, place}
use Rattle.core_state.specs.Boxes.{box_of}
use Rattle.core_state.specs.Operation.{load, store, fetch_min, fetch_max}
use Rattle.core_state.specs.Kind.{Kind}
use Rattle.core_state.specs.Lists.{with_task}
use Rattle.core_state.specs.Guards.{scene_at}

-- ---- a body that stands still

-- the body is live, as the pass knows the scene, and in this phase
abbrev pub IsKnownIn : View → ℕ → Phase → Type 0
IsKnownIn view index phase = HasBody (scene_at view.config view.known) index (λ r. r.phase ≡ phase)

-- the pass holds the stripe of a live body that no batch holds: then all words of the body are what the pass knows
pub record IsSettled (view : View) (index : ℕ) : Type 0 where
  pub stripe : Holds view (stripe_of view.config index) Write
  pub live : 256 ≤ known_word view (State index)
  pub unheld : HasBody (scene_at view.config view.known) index (λ r. r.phase ≢ Held)

-- a location of the body, as the pass knows it
abbrev pub IsKnownLocation : View → ℕ → ℕ → ℕ → Type 0
IsKnownLocation view index n k = (k < 4) × ((known_word view (LocA index) ≡ place n k) ⊎ (known_word view (LocB index) ≡ place n k))

-- ---- climbing

-- what a call loaded, and what it stored
abbrev pub HasLoaded : Call → Name → ℕ → Type 0
HasLoaded call name value = Contains call.loads (record { name = name; value = value })

abbrev pub HasStored : Call → Name → ℕ → Type 0
HasStored call name value = Contains call.stores (record { name = name; value = value })

abbrev pub with_load : View → Name → ℕ → View
with_load view name value = record view { call = record view.call { loads = view.call.loads ++ record { name = name; value = value } ∷ [] } }

abbrev pub with_store : View → Name → ℕ → View
with_store view name value = record view { call = record view.call { stores = view.call.stores ++ record { name = name; value = value } ∷ [] } }

-- a place that a climb has come to: one that it begins at, or one that a parent names which it has loaded
pub data HasComeTo (call : Call) (Begins : ℕ → ℕ → Type 0) (n k : ℕ) : Type 0 where
  at_start : Begins n k → HasComeTo call Begins n k
  by_parent : (m : ℕ) → k < 4 → HasLoaded call (Parent m) (place n k) → HasComeTo call Begins n k

-- the six sides at a place are widened for a box
abbrev pub HasWidened : Call → Sides → ℕ → ℕ → Type 0
HasWidened call box n k = (q : ℕ) → q < 6 → HasStored call (Bound n k q) (box q)

-- and so are those of all places above it, up to a node whose parent was found to be 0
pub data HasClimbed (call : Call) (box : Sides) : ℕ → ℕ → Type 0 where
  to_root : (n k : ℕ) → HasWidened call box n k → HasLoaded call (Parent n) 0 → HasClimbed call box n k
  to_parent : (n k m j : ℕ) → HasWidened call box n k → j < 4 → HasLoaded call (Parent n) (place m j) → HasClimbed call box m j → HasClimbed call box n k

-- ---- bounds are widened

-- a move begins with the first side, at a location of the body
pub record BeginsMove (view : View) (index n k q : ℕ) : Type 0 where
  pub idle : view.call.task ≡ Nothing
  pub first : q ≡ 0
  pub location : IsKnownLocation view index n k

-- a side of the box that the body is to have: one that it has come to before, or the next one, which is at least the one
-- that it is opposite to
pub data IsSideOfTarget (target : List ℕ) (q value : ℕ) : Type 0 where
  an_old : q < length target → value ≡ slice_index target q → IsSideOfTarget target q value
  the_next : q ≡ length target → ((a : ℕ) → q ≡ 3 + a → slice_index target a ≤ value) → IsSideOfTarget target q value

-- a move goes on at a place that it has come to
pub record GoesOnMoving (view : View) (index n k q value : ℕ) : Type 0 where
  pub target : List ℕ
  pub task : view.call.task ≡ Moving index target
  pub side : IsSideOfTarget target q value
  pub come : HasComeTo view.call (IsKnownLocation view index) n k

pub data WidensForMove (view : View) (index n k q value : ℕ) : Type 0 where
  begins_move : BeginsMove view index n k q → WidensForMove view index n k q value
  goes_on_moving : GoesOnMoving view index n k q value → WidensForMove view index n k q value

-- the body is in the broad phase, and the side is that of a coordinate
pub record MayWiden (index : ℕ) (view : View) (n k q value : ℕ) : Type 0 where
  pub settled : IsSettled view index
  pub inside : IsKnownIn view index In
  pub low : 1 ≤ value
  pub high : value ≤ 16777216
  pub widens : WidensForMove view index n k q value

pub record MayWidenLow (index : ℕ) (view : View) (name : Name) (value second : ℕ) : Type 0 where
  pub node : ℕ
  pub child : ℕ
  pub side : ℕ
  pub names : name ≡ Bound node child side
  pub is_low : side < 3
  pub may : MayWiden index view node child side value

pub record MayWidenHigh (index : ℕ) (view : View) (name : Name) (value second : ℕ) : Type 0 where
  pub node : ℕ
  pub child : ℕ
  pub side : ℕ
  pub names : name ≡ Bound node child side
  pub is_high : 3 ≤ side
  pub may : MayWiden index view node child side value

-- the side of a word of a bound
abbrev pub side_in : Name → ℕ
side_in (Bound n k q) = q
side_in _ = 0

-- the box so far, with a side more where that is the next one
abbrev pub target_with : List ℕ → ℕ → ℕ → List ℕ
target_with target q value = if q == length target then target ++ value ∷ [] else target

-- the view after a side was widened: a move has begun, or gone on
abbrev pub widened_by : Task → ℕ → View → Name → ℕ → View
widened_by (Moving i target) index view name value =
    record view { call = record view.call { task = Moving i (target_with target (side_in name) value); stores = view.call.stores ++ record { name = name; value = value } ∷ [] } }
widened_by _ index view name value = with_store (with_task view (Moving index (value ∷ []))) name value

-- Kind 34, widen a low side for a move of the body at an index
abbrev pub widen_low : ℕ → Kind
widen_low index = record {
  operation = fetch_min;
  entry = λ view name value. None;
  leaves = λ view name found value second. widened_by view.call.task index view name value;
}

-- Kind 35, widen a high side
abbrev pub widen_high : ℕ → Kind
widen_high index = record {
  operation = fetch_max;
  entry = λ view name value. None;
  leaves = λ view name found value second. widened_by view.call.task index view name value;
}

-- loading a parent asks that the move has come to a place of the node
pub record MayLoadParentMoving (index : ℕ) (view : View) (name : Name) (first second : ℕ) : Type 0 where
  pub node : ℕ
  pub child : ℕ
  pub target : List ℕ
  pub names : name ≡ Parent node
  pub settled : IsSettled view index
  pub task : view.call.task ≡ Moving index target
  pub come : HasComeTo view.call (IsKnownLocation view index) node child

-- Kind 36, load a parent in a move of the body at an index
abbrev pub load_parent_moving : ℕ → Kind
load_parent_moving index = record {
  operation = load;
  entry = λ view name value. None;
  leaves = λ view name found first second. with_load view name found;
}

-- ---- box words

-- a body in the broad phase gets the box for which all bounds above its locations are widened
pub record IsWidenedFor (view : View) (index : ℕ) (target : List ℕ) : Type 0 where
  pub inside : IsKnownIn view index In
  pub task : view.call.task ≡ Moving index target
  pub six : length target ≡ 6
  pub climbed : (n k : ℕ) → IsKnownLocation view index n k → HasClimbed view.call (sides_of target) n k

-- one that is out gets any; it stands in no tree
pub record IsOutToMove (view : View) (index : ℕ) : Type 0 where
  pub outside : IsKnownIn view index Out
  pub task : (view.call.task ≡ Nothing) ⊎ (view.call.task ≡ Moving index [])

pub data StoresSide (view : View) (index q value : ℕ) : Type 0 where
  of_target : (target : List ℕ) → IsWidenedFor view index target → value ≡ slice_index target q → StoresSide view index q value
  of_body_out : IsOutToMove view index → StoresSide view index q value

pub record MayStoreSide (view : View) (name : Name) (value second : ℕ) : Type 0 where
  pub index : ℕ
  pub side : ℕ
  pub names : name ≡ BoxWord index side
  pub not_last : side < 5
  pub settled : IsSettled view index
  pub low : 1 ≤ value
  pub high : value ≤ 16777216
  pub stores : StoresSide view index side value

-- the view after a box word was stored: a move of a body that is out has begun, or a move went on
abbrev pub side_stored_by : Task → View → Name → ℕ → View
side_stored_by (Moving i target) view name value = with_store view name value
side_stored_by _ view (BoxWord index k) value = with_store (with_task view (Moving index [])) (BoxWord index k) value
side_stored_by _ view name value = view

-- Kind 37, store a box word
abbrev pub store_side : Kind
store_side = record {
  operation = store;
  entry = λ view name value. None;
  leaves = λ view name found value second. side_stored_by view.call.task view name value;
}

-- the box of a body with its last side
abbrev pub box_with_last : View → ℕ → ℕ → Sides
box_with_last view index value = λ q. if q == 5 then value else known_word view (BoxWord index q)

pub data StoresBox (view : View) (index : ℕ) (bounds : FixBox) : Type 0 where
  as_target : IsWidenedFor view index (words_of bounds) → StoresBox view index bounds
  as_body_out : IsOutToMove view index → StoresBox view index bounds

pub record MayStoreLastSide (view : View) (name : Name) (value second : ℕ) : Type 0 where
  pub index : ℕ
  pub names : name ≡ BoxWord index 5
  pub settled : IsSettled view index
  pub bounds : FixBox
  pub box : (q : ℕ) → q < 6 → box_with_last view index value q ≡ slice_index (words_of bounds) q
  pub stores : StoresBox view index bounds

-- the entry of a move: to the box that the words then say
abbrev pub move_of : View → Name → ℕ → Option Entry
move_of view (BoxWord index k) value = option_map (λ bounds. Move index bounds) (box_of (box_with_last view index value))
move_of view _ value = None

-- Kind 38, store the last box word
abbrev pub store_last_side : Kind
store_last_side = record {
  operation = store;
  entry = λ view name value. move_of view name value;
  leaves = λ view name found value second. with_task view Nothing;
}
