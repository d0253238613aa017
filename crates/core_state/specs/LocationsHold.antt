-- The locations hold: a location of a body leads to its entry, and all bounds from there up contain its box.
use Rattle.std.specs.Prelude.{◌≡◌, ◌≢◌, ◌⊎◌, ℕ, ◌<◌, ◌≤◌, Bool, true, false, List, length, Contains, option_map, Some, IsNone, ⊤}
use Rattle.std.specs.List.{list_any}
use Rattle.fixed_box.specs.FixBox.{words_of}
use Rattle.scene_model.specs.declared.body_view.Phase.TheVariants.{Out, Held, In}
use Rattle.scene_model.specs.Scene.{Record, record_at}
use Rattle.scene_model.specs.Step.{HasBody}
use Rattle.word_map.specs.declared.name.Name.{Name}
use Rattle.word_map.specs.declared.name.Name.TheVariants.{Phase, BoxWord, LocA, LocB, Child, Bound, Parent, Main, Slot}
use Rattle.core_state.specs.declared.item.Store.{Store}
use Rattle.core_state.specs.declared.view.Task.{Task}
use Rattle.core_state.specs.declared.view.Task.TheVariants.{Moving, Removing, Placing}
use Rattle.core_state.specs.declared.view.Marked.{Marked}
use Rattle.core_state.specs.declared.view.Batch.{Batch}
use Rattle.core_state.specs.declared.view.Noted.{Noted}
use Rattle.core_state.specs.declared.view.Rebuild.{Rebuild}
use Rattle.core_state.specs.declared.view.View.{View}
use Rattle.core_state.specs.Core.{Core}
use Rattle.core_state.specs.Scope.{Scope, Sight, sight, scene_in, HasPass, EachPass}
use Rattle.core_state.specs.Encoding.{body_child, place, phase_in, phase_join, layer_of, Sides, sides_of, Covers, bound_in}
use Rattle.core_state.specs.Parts.{call_on_places, update_on_places}
use Rattle.core_state.specs.Nodes.{Nodes, made, under, superseded, Stands, IsLive, IsPublished, Above}
use Rattle.core_state.specs.Bodies.{has_box_word, all_batches}
use Rattle.core_state.specs.Updates.{EachUpdate, HasUpdate, IsStillMerged, IsNoted, IsSameBody, IsPlacing, IsDone}

abbrev pub is_location_word : Name → Bool
is_location_word (Phase i) = true
is_location_word (BoxWord i k) = true
is_location_word (LocA i) = true
is_location_word (LocB i) = true
is_location_word (Child n k) = true
is_location_word (Bound n k q) = true
is_location_word (Parent n) = true
is_location_word _ = false

-- it reads those words, the history, and of each view the call that moves, removes or places a body, the batches, and
-- where the update places bodies
abbrev pub location_scope : Scope
location_scope = record {
  names = is_location_word;
  reads_history = true;
  part = λ bare view. record bare { call = call_on_places view.call; batches = view.batches; rebuild = option_map update_on_places view.rebuild };
}

-- every bound from a place up to the root contains the box
abbrev pub Encloses : Sight → ℕ → ℕ → Sides → Type 0
Encloses s n k box = (a b : ℕ) → Above s.word n k a b → Covers (bound_in s.word a b) box

-- the box words of a body as they stand
abbrev pub box_in : Sight → ℕ → Sides
box_in s i = λ q. s.word (BoxWord i q)

-- a location word of a body: the one it has, or the one that an update gives it
abbrev pub IsLocation : Sight → ℕ → ℕ → ℕ → Type 0
IsLocation s i n k = (k < 4) × ((s.word (LocA i) ≡ place n k) ⊎ (s.word (LocB i) ≡ place n k))

-- a body in the broad phase is at its location: its entry is there, and bounds contain its box and its box words
pub record IsAt (nodes : Nodes) (s : Sight) (i : ℕ) (r : Record) (n k : ℕ) : Type 0 where
  pub stands : Stands (nodes.home n)
  pub entry : s.word (Child n k) ≡ body_child i
  pub bounds : Encloses s n k (sides_of (words_of r.bounds))
  pub box_words : Encloses s n k (box_in s i)

-- ---- bodies that are not in the broad phase

-- some pass takes this body out of the broad phase
abbrev pub Removes : Task → ℕ → Type 0
Removes (Removing index) i = index ≡ i
Removes _ i = ⊥

abbrev pub IsRemoved : Sight → ℕ → Type 0
IsRemoved s i = (number : ℕ) × HasPass s number (λ view. Removes view.call.task i)

-- a location word was stored
abbrev pub is_location_store : Name → Bool
is_location_store (LocA i) = true
is_location_store (LocB i) = true
is_location_store _ = false

abbrev pub has_cleared_location : List Store → Bool
has_cleared_location stores = list_any (λ s. is_location_store s.name) stores

-- while it is taken out, its entries are cleared before its locations, each entry once
abbrev pub IsPartlyCleared : Nodes → Sight → View → ℕ → Type 0
IsPartlyCleared nodes s view i = (n k : ℕ) → IsLocation s i n k → Stands (nodes.home n) × ((s.word (Child n k) ≡ 0)
    ⊎ ((s.word (Child n k) ≡ body_child i) × (has_cleared_location view.call.stores ≡ false) × ¬ Contains view.call.stores (record { name = Child n k; value = 0 })))

-- a body that is taken out: its first location is in a tree that others may reach
pub record IsTakenOut (nodes : Nodes) (s : Sight) (view : View) (i : ℕ) : Type 0 where
  pub out : HasBody (scene_in s) i (λ r. r.phase ≡ Out)
  pub cleared : IsPartlyCleared nodes s view i
  pub live : (n k : ℕ) → k < 4 → s.word (LocA i) ≡ place n k → IsLive (nodes.home n)

-- the location of a body that a batch holds: 0, and then its place in the nodes of the batch
abbrev pub IsPlannedIn : Sight → Batch → Marked → Type 0
IsPlannedIn s batch m = ((m.is_placed ≡ false) × (s.word (LocA m.index) ≡ 0))
    ⊎ ((m.is_placed ≡ true) × (s.word (LocA m.index) ≡ m.place) × ((n k : ℕ) × (k < 4) × (m.place ≡ place n k) × Contains batch.nodes n))

-- ---- bodies that are in it

-- some update is about to place the body, or has not exchanged the trees of the layer
abbrev pub IsPlacedNow : Sight → ℕ → Type 0
IsPlacedNow s i = (number : ℕ) × HasPass s number (λ view. IsPlacing view.call.task i)

abbrev pub IsUnexchanged : Sight → ℕ → Type 0
IsUnexchanged s layer = (number : ℕ) × HasPass s number (λ view. HasUpdate view (λ r. length r.swapped ≤ layer))

-- the tree in which the first location of a body has to be, by its phase: that of its slot, where it has a second one only
-- while it is placed; or the main tree, where a second one is the same, or the trees are still to be exchanged; or, where
-- it has a second location, a tree that the update replaces
pub data IsWhere (nodes : Nodes) (s : Sight) (i layer n : ℕ) : Type 0 where
  in_slot : (t : ℕ) → s.word (Phase i) ≡ phase_join t → nodes.home n ≡ under (Slot layer t)
      → (s.word (LocB i) ≡ 0) ⊎ IsPlacedNow s i → IsWhere nodes s i layer n
  in_main : s.word (Phase i) ≡ phase_in → nodes.home n ≡ under (Main layer)
      → (s.word (LocB i) ≡ 0) ⊎ ((s.word (LocB i) ≡ s.word (LocA i)) ⊎ IsUnexchanged s layer) → IsWhere nodes s i layer n
  in_old : (number : ℕ) (name : Name) → s.word (Phase i) ≡ phase_in → s.word (LocB i) ≢ 0 → nodes.home n ≡ superseded number name
      → layer_of name ≡ Some layer → IsWhere nodes s i layer n
  in_merged : (number t root : ℕ) → s.word (Phase i) ≡ phase_in → s.word (LocB i) ≢ 0 → nodes.home n ≡ under (Slot layer t)
      → HasPass s number (λ view. HasUpdate view (λ r. IsStillMerged r layer t root)) → IsWhere nodes s i layer n

-- a second location is the place that the update, whose trees are planned, planned for the body, which it has placed and not
-- promoted; and the body that was noted is the one that is live
abbrev pub IsSecondFor : Sight → ℕ → Rebuild → Type 0
IsSecondFor s i r = (r.is_planned ≡ true) × Contains r.placed i × ¬ Contains r.promoted i × IsNoted r i (λ n. (s.word (LocB i) ≡ n.place) × IsSameBody s n)

abbrev pub IsSecond : Sight → ℕ → Type 0
IsSecond s i = (number : ℕ) × HasPass s number (λ view. HasUpdate view (IsSecondFor s i))

-- a body that an update noted has its place in the new tree of its layer: its entry stands there until it was found gone
-- or taken out, and from then on nothing. Once the update has done with the body, an entry that stands is its second
-- location
pub record IsPlannedAt (nodes : Nodes) (s : Sight) (number : ℕ) (view : View) (r : Rebuild) (noted : Noted) : Type 0 where
  pub node : ℕ
  pub child : ℕ
  pub below : child < 4
  pub at : noted.place ≡ place node child
  pub made_for : nodes.home node ≡ made number noted.layer
  pub entry : (s.word (Child node child) ≡ body_child noted.index) ⊎ (s.word (Child node child) ≡ 0)
  pub undone : ¬ IsDone view r noted.index → s.word (Child node child) ≡ body_child noted.index
  pub of_done : IsDone view r noted.index → s.word (Child node child) ≡ body_child noted.index → s.word (LocB noted.index) ≡ noted.place

-- once the trees of its layer are exchanged, its place is in the published one
abbrev pub IsPublishedAt : Nodes → Rebuild → Noted → Type 0
IsPublishedAt nodes r noted = r.is_planned ≡ true → noted.layer < length r.swapped
    → (n : ℕ) × (k : ℕ) × (k < 4) × (noted.place ≡ place n k) × (nodes.home n ≡ under (Main noted.layer))

-- ---- those who climb

-- the box that a pass gives a body
abbrev pub GivesBox : Task → ℕ → Sides → Type 0
GivesBox (Moving index target) i box = (index ≡ i) × (box ≡ sides_of target)
GivesBox _ i box = ⊥

-- all six sides of it are known
abbrev pub HasSixSides : Task → Type 0
HasSixSides (Moving index target) = length target ≡ 6
HasSixSides _ = ⊤

-- once a box word is stored, the new box is whole, and enclosed at every location of the body
abbrev pub IsWidened : Sight → View → Type 0
IsWidened s view = (i n k : ℕ) (box : Sides) → GivesBox view.call.task i box → has_box_word view.call.stores ≡ true → IsLocation s i n k
    → HasSixSides view.call.task × Encloses s n k box

-- a bound that it widened is still as wide
abbrev pub IsStillWide : Sight → View → Type 0
IsStillWide s view = (n k q value : ℕ) → Contains view.call.stores (record { name = Bound n k q; value = value }) →
    (q < 3 → s.word (Bound n k q) ≤ value) × (3 ≤ q → value ≤ s.word (Bound n k q))

-- the places that it climbs from: the locations of the body that it moves, the planned place of the one that it places
abbrev pub ClimbsFrom : Sight → View → Task → ℕ → ℕ → Type 0
ClimbsFrom s view (Moving index target) n k = IsLocation s index n k
ClimbsFrom s view (Placing index) n k = (k < 4) × HasUpdate view (λ r. IsNoted r index (λ noted. noted.place ≡ place n k))
ClimbsFrom s view _ n k = ⊥

-- the node of each parent word that it has loaded is on the way up from one of those, and the word stands
abbrev pub IsOnItsWay : Sight → View → Type 0
IsOnItsWay s view = (m value : ℕ) → Contains view.call.loads (record { name = Parent m; value = value }) →
    (s.word (Parent m) ≡ value) × ((n : ℕ) × (k : ℕ) × (b : ℕ) × ClimbsFrom s view view.call.task n k × Above s.word n k m b)

-- and each place whose bound it has widened is above one of those
abbrev pub IsWidenedOnWay : Sight → View → Type 0
IsWidenedOnWay s view = (a b q value : ℕ) → Contains view.call.stores (record { name = Bound a b q; value = value }) →
    (n : ℕ) × (k : ℕ) × ClimbsFrom s view view.call.task n k × Above s.word n k a b

-- who gives a body another box, or places it, has found it live and not held
abbrev pub IsUnheld : Sight → Task → Type 0
IsUnheld s (Moving index target) = HasBody (scene_in s) index (λ r. r.phase ≢ Held)
IsUnheld s (Placing index) = HasBody (scene_in s) index (λ r. r.phase ≢ Held)
IsUnheld s _ = ⊤

pub record LocationsHoldIn (nodes : Nodes) (s : Sight) : Type 0 where
  pub at : (i : ℕ) (r : Record) (n k : ℕ) → record_at (scene_in s) i ≡ Some r → r.phase ≡ In → IsLocation s i n k → IsAt nodes s i r n k
  -- each body in a published tree is at a location of its own
  pub entries : (i n k : ℕ) → IsPublished (nodes.home n) → k < 4 → s.word (Child n k) ≡ body_child i → IsLocation s i n k
  -- the entries of a tree that an update has made are at the places that it planned
  pub made_entries : (i n k number l : ℕ) → nodes.home n ≡ made number l → k < 4 → s.word (Child n k) ≡ body_child i →
      HasPass s number (λ view. HasUpdate view (λ r. IsNoted r i (λ noted. (noted.place ≡ place n k) × (noted.layer ≡ l))))
  -- and each body that it noted is planned at one of them, until the trees of its layer are exchanged
  pub planned : EachUpdate s (λ number view r. (noted : Noted) → Contains r.noted noted → r.is_planned ≡ true → length r.swapped ≤ noted.layer
      → IsPlannedAt nodes s number view r noted)
  pub published : EachUpdate s (λ number view r. (noted : Noted) → Contains r.noted noted → IsPublishedAt nodes r noted)
  -- a first location is in the tree that the phase says
  pub first : (i : ℕ) (r : Record) (n k : ℕ) → record_at (scene_in s) i ≡ Some r → r.phase ≡ In → k < 4 → s.word (LocA i) ≡ place n k → IsWhere nodes s i r.layer n
  -- each body in the broad phase has one
  pub located : (i : ℕ) (r : Record) → record_at (scene_in s) i ≡ Some r → r.phase ≡ In → s.word (LocA i) ≢ 0
  pub second : (i : ℕ) → s.word (LocB i) ≢ 0 → IsSecond s i
  -- an index that is not live has no location, and neither has a body that is out, but for one that is being taken out
  pub dead : (i : ℕ) → IsNone (record_at (scene_in s) i) → (s.word (LocA i) ≡ 0) × (s.word (LocB i) ≡ 0)
  pub out : (i : ℕ) → HasBody (scene_in s) i (λ r. r.phase ≡ Out) → ¬ IsRemoved s i → (s.word (LocA i) ≡ 0) × (s.word (LocB i) ≡ 0)
  pub removed : EachPass s (λ number view. (i : ℕ) → Removes view.call.task i → IsTakenOut nodes s view i)
  pub held : (batch : Batch) (m : Marked) → Contains (all_batches s) batch → Contains batch.marked m → IsPlannedIn s batch m × (s.word (LocB m.index) ≡ 0)
  pub unheld : EachPass s (λ number view. IsUnheld s view.call.task)
  -- who gives a body another box has widened all bounds first
  pub widened : EachPass s (λ number view. IsWidened s view)
  pub still_wide : EachPass s (λ number view. IsStillWide s view)
  -- who climbs begins at a node of a tree
  pub climbs_from : EachPass s (λ number view. (n k : ℕ) → ClimbsFrom s view view.call.task n k → Stands (nodes.home n))
  pub on_its_way : EachPass s (λ number view. IsOnItsWay s view)
  pub widened_on_way : EachPass s (λ number view. IsWidenedOnWay s view)

abbrev pub LocationsHold : Nodes → Core → Type 0
LocationsHold nodes core = LocationsHoldIn nodes (sight location_scope core)
