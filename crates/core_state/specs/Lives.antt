-- The steps on the words of bodies: what a body is to be, its creation and destruction, loads, and user numbers.
use Rattle.std.specs.Prelude.{◌≡◌, ℕ, ◌+◌, ◌-◌, ◌%◌, ◌^◌, ◌<◌, ◌≤◌, Option, Some, None, option_map, slice_index}
use Rattle.fixed_box.specs.FixBox.{words_of}
use Rattle.fixed_box.specs.declared.fix_box.FixBox.{FixBox}
use Rattle.scene_model.specs.declared.entry.Entry.{Entry}
use Rattle.scene_model.specs.declared.entry.Entry.TheVariants.{Create, Destroy, SetUser}
use Rattle.word_map.specs.declared.config.Config.{Config}
use Rattle.word_map.specs.declared.name.Name.{Name}
use Rattle.word_map.specs.declared.name.Name.TheVariants.{State, Phase, Layer, User, BoxWord, LocA, LocB}
use Rattle.word_map.specs.Names.{index_lock, stripe_of}
use Rattle.core_state.specs.declared.view.Mode.{Mode}
use Rattle.core_state.specs.declared.view.Mode.TheVariants.{Write}
use Rattle.core_state.specs.declared.view.Task.TheVariants.{Nothing, Creating, Destroying}
use Rattle.core_state.specs.declared.view.View.{View}
use Rattle.core_state.specs.View.{Holds, known_word}
use Rattle.core_state.specs.Boxes.{box_of}
use Rattle.core_state.specs.Operation.{load, store}
use Rattle.core_state.specs.Kind.{Kind}
use Rattle.core_state.specs.Lists.{IsLiveAndOut, with_task}

-- ---- creation

-- the pass took the index off the list of free ones, whose lock it holds
pub record IsCreating (view : View) (index : ℕ) : Type 0 where
  pub lock : Holds view (index_lock view.config) Write
  pub task : view.call.task ≡ Creating index

-- a value for a word of a body that is to be: a layer, a user number of 32 bits, the word of a coordinate
abbrev pub IsFieldOf : Config → ℕ → Name → ℕ → Type 0
IsFieldOf c i (Layer j) value = (j ≡ i) × (value < c.layers)
IsFieldOf c i (User j) value = (j ≡ i) × (value < 2 ^ 32)
IsFieldOf c i (BoxWord j k) value = (j ≡ i) × (1 ≤ value) × (value ≤ 16777216)
IsFieldOf c i _ value = ⊥

pub record MayStoreField (view : View) (name : Name) (value second : ℕ) : Type 0 where
  pub index : ℕ
  pub creating : IsCreating view index
  pub field : IsFieldOf view.config index name value

-- Kind 12, store what a body is to be
abbrev pub store_field : Kind
store_field = record {
  operation = store;
  entry = λ view name value. None;
  leaves = λ view name found first second. view;
}

-- the eight words of a body that is to be are those of one
pub record HasFields (view : View) (index : ℕ) (bounds : FixBox) : Type 0 where
  pub layer : known_word view (Layer index) < view.config.layers
  pub user : known_word view (User index) < 2 ^ 32
  pub bounds_words : (k : ℕ) → k < 6 → known_word view (BoxWord index k) ≡ slice_index (words_of bounds) k

-- the state word of an index at which a further body is created
abbrev pub created_state : ℕ → ℕ
created_state state = (state + 1) % 256 + 256

pub record MayCreate (view : View) (name : Name) (value second : ℕ) : Type 0 where
  pub index : ℕ
  pub names : name ≡ State index
  pub creating : IsCreating view index
  pub bounds : FixBox
  pub fields : HasFields view index bounds
  pub state : value ≡ created_state (known_word view (State index))

-- the entry of a creation: the body that those words say
abbrev pub created_by : View → ℕ → Option Entry
created_by view index =
    option_map (λ bounds. Create index (known_word view (Layer index)) bounds (known_word view (User index)))
    (box_of (λ k. known_word view (BoxWord index k)))

abbrev pub creation_of : View → Name → Option Entry
creation_of view (State index) = created_by view index
creation_of view _ = None

-- Kind 13, create
abbrev pub create : Kind
create = record {
  operation = store;
  entry = λ view name value. creation_of view name;
  leaves = λ view name found first second. with_task view Nothing;
}

-- ---- destruction

-- the pass has put the index of a live body in front of the list of free ones, whose lock it holds
pub record MayDestroy (view : View) (name : Name) (value second : ℕ) : Type 0 where
  pub index : ℕ
  pub names : name ≡ State index
  pub lock : Holds view (index_lock view.config) Write
  pub task : view.call.task ≡ Destroying index
  pub body : IsLiveAndOut view index
  pub state : value ≡ known_word view (State index) - 256

abbrev pub destruction_of : Name → Option Entry
destruction_of (State index) = Some (Destroy index)
destruction_of _ = None

-- Kind 14, destroy
abbrev pub destroy : Kind
destroy = record {
  operation = store;
  entry = λ view name value. destruction_of name;
  leaves = λ view name found first second. with_task view Nothing;
}

-- ---- loads, and user numbers

-- a word of the body at an index
abbrev pub IsOfBody : ℕ → Name → Type 0
IsOfBody i (State j) = j ≡ i
IsOfBody i (Phase j) = j ≡ i
IsOfBody i (Layer j) = j ≡ i
IsOfBody i (User j) = j ≡ i
IsOfBody i (BoxWord j k) = j ≡ i
IsOfBody i (LocA j) = j ≡ i
IsOfBody i (LocB j) = j ≡ i
IsOfBody i _ = ⊥

-- a body's words are loaded under its stripe, its state also under the lock of the list of free indexes
pub data MayLoadBody (view : View) (name : Name) (first second : ℕ) : Type 0 where
  under_stripe : (index : ℕ) (mode : Mode) → IsOfBody index name → Holds view (stripe_of view.config index) mode → MayLoadBody view name first second
  under_list : (index : ℕ) → name ≡ State index → Holds view (index_lock view.config) Write → MayLoadBody view name first second

-- Kind 15, load a word of a body
abbrev pub load_body : Kind
load_body = record {
  operation = load;
  entry = λ view name value. None;
  leaves = λ view name found first second. view;
}

pub record MaySetUser (view : View) (name : Name) (value second : ℕ) : Type 0 where
  pub index : ℕ
  pub names : name ≡ User index
  pub stripe : Holds view (stripe_of view.config index) Write
  pub live : 256 ≤ known_word view (State index)
  pub fits : value < 2 ^ 32

abbrev pub new_user_of : Name → ℕ → Option Entry
new_user_of (User index) value = Some (SetUser index value)
new_user_of _ value = None

-- Kind 16, set the user number of a live body
abbrev pub set_user : Kind
set_user = record {
  operation = store;
  entry = λ view name value. new_user_of name value;
  leaves = λ view name found first second. view;
}
