-- The steps of a removal: a body is taken out of the broad phase, then its entries are cleared, and then its locations.
use Rattle.std.specs.Prelude.{◌≡◌, ℕ, Option, Some, None}
use Rattle.scene_model.specs.declared.body_view.Phase.TheVariants.{In}
use Rattle.scene_model.specs.declared.entry.Entry.{Entry}
use Rattle.scene_model.specs.declared.entry.Entry.TheVariants.{Remove}
use Rattle.word_map.specs.declared.name.Name.{Name}
use Rattle.word_map.specs.declared.name.Name.TheVariants.{Phase, LocA, LocB, Child}
use Rattle.core_state.specs.declared.view.Task.TheVariants.{Nothing, Removing}
use Rattle.core_state.specs.declared.view.View.{View}
use Rattle.core_state.specs.View.{known_word}
use Rattle.core_state.specs.Encoding.{phase_out}
use Rattle.core_state.specs.Operation.{store}
use Rattle.core_state.specs.Kind.{Kind}
use Rattle.core_state.specs.Lists.{with_task}
use Rattle.core_state.specs.Moving.{IsKnownIn, IsSettled, IsKnownLocation, HasStored, with_store}

-- taking a body out asks that it is in the broad phase, and that nothing is half done
pub record MayRemove (view : View) (name : Name) (value second : ℕ) : Type 0 where
  pub index : ℕ
  pub names : name ≡ Phase index
  pub settled : IsSettled view index
  pub inside : IsKnownIn view index In
  pub idle : view.call.task ≡ Nothing
  pub out : value ≡ phase_out

abbrev pub removal_of : Name → Option Entry
removal_of (Phase index) = Some (Remove index)
removal_of _ = None

abbrev pub removing_by : View → Name → View
removing_by view (Phase index) = with_task view (Removing index)
removing_by view name = view

-- Kind 39, take a body out
abbrev pub remove : Kind
remove = record {
  operation = store;
  entry = λ view name value. removal_of name;
  leaves = λ view name found first second. removing_by view name;
}

-- clearing an entry asks that it stands at a location of the body that is taken out
pub record MayClearEntry (view : View) (name : Name) (value second : ℕ) : Type 0 where
  pub index : ℕ
  pub node : ℕ
  pub child : ℕ
  pub names : name ≡ Child node child
  pub task : view.call.task ≡ Removing index
  pub location : IsKnownLocation view index node child
  pub none : value ≡ 0

-- Kind 40, clear an entry
abbrev pub clear_entry : Kind
clear_entry = record {
  operation = store;
  entry = λ view name value. None;
  leaves = λ view name found value second. with_store view name value;
}

-- the pass takes the body out, and has cleared its entry at each location
pub record HasClearedEntries (view : View) (index : ℕ) : Type 0 where
  pub task : view.call.task ≡ Removing index
  pub cleared : (n k : ℕ) → IsKnownLocation view index n k → HasStored view.call (Child n k) 0

-- the first location is cleared before the second
pub data MayClearLocation (view : View) (name : Name) (value second : ℕ) : Type 0 where
  the_first : (index : ℕ) → name ≡ LocA index → HasClearedEntries view index → value ≡ 0 → MayClearLocation view name value second
  the_second : (index : ℕ) → name ≡ LocB index → HasClearedEntries view index → known_word view (LocA index) ≡ 0 → value ≡ 0 → MayClearLocation view name value second

-- with the second the removal ends
abbrev pub location_cleared : View → Name → ℕ → View
location_cleared view (LocB index) value = with_task view Nothing
location_cleared view name value = with_store view name value

-- Kind 41, clear a location
abbrev pub clear_location : Kind
clear_location = record {
  operation = store;
  entry = λ view name value. None;
  leaves = λ view name found value second. location_cleared view name value;
}
