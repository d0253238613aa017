-- What a law of the core may read: the words of some names, a part of the view of each pass, the history or not.
-- A law is a fact of this and of nothing else, so all that leaves it as it was keeps the law.
use Rattle.std.specs.Prelude.{◌≡◌, ◌≢◌, ℕ, Bool, IsTrue, AllPairs, if◌then◌else◌, List, [], filter_map, Contains, Option, option_map}
use Rattle.scene_model.specs.declared.entry.Made.{Made}
use Rattle.scene_model.specs.Scene.{Scene}
use Rattle.scene_model.specs.History.{scene_after}
use Rattle.word_map.specs.declared.config.Config.{Config}
use Rattle.word_map.specs.declared.name.Name.{Name}
use Rattle.word_map.specs.Layout.{largest}
use Rattle.core_state.specs.declared.view.Role.TheVariants.{Pass}
use Rattle.core_state.specs.declared.view.View.{View}
use Rattle.core_state.specs.Log.{history}
use Rattle.core_state.specs.View.{number_of, IsPass, blank_view}
use Rattle.core_state.specs.Core.{Core, word_of}

-- what a law sees of a core. Of the seats only those of passes are there
pub record Sight : Type 0 where
  pub config : Config
  pub word : Name → ℕ
  pub history : List Made
  pub passes : List View

-- how far a law sees; the part that it reads of a view is put into a view that says nothing but its number
pub record Scope : Type 0 where
  pub names : Name → Bool
  pub reads_history : Bool
  pub part : View → View → View

-- the view of pass `number` that says nothing else
abbrev pub bare_view : ℕ → View
bare_view number = blank_view largest (Pass number 0)

-- what a law sees of a view: nothing of one that is no pass's
abbrev pub part_of : Scope → View → Option View
part_of scope view = option_map (λ number. scope.part (bare_view number) view) (number_of view)

abbrev pub word_in : Scope → Core → Name → ℕ
word_in scope core name = if scope.names name then word_of core name else 0

abbrev pub sight : Scope → Core → Sight
sight scope core = record {
  config = core.config;
  word = word_in scope core;
  history = if scope.reads_history then history core.log else [];
  passes = filter_map (part_of scope) core.views;
}

-- two cores are the same as far as a law sees
pub record IsSameTo (scope : Scope) (a b : Core) : Type 0 where
  pub config : a.config ≡ b.config
  pub words : (name : Name) → IsTrue (scope.names name) → word_of a name ≡ word_of b name
  pub history : IsTrue scope.reads_history → history a.log ≡ history b.log
  pub passes : filter_map (part_of scope) a.views ≡ filter_map (part_of scope) b.views

-- ---- the words of laws

-- the pass of this number has a view of which this holds
abbrev pub HasPass : Sight → ℕ → (View → Type 0) → Type 0
HasPass s number P = (view : View) × Contains s.passes view × IsPass view number × P view

-- each view of a pass, with its number
abbrev pub EachPass : Sight → (ℕ → View → Type 0) → Type 0
EachPass s P = (number : ℕ) (view : View) → Contains s.passes view → IsPass view number → P number view

-- no number stands twice in the list
abbrev pub IsOnce : List ℕ → Type 0
IsOnce numbers = AllPairs (λ a b. a ≢ b) numbers

-- the scene after the history
abbrev pub scene_in : Sight → Scene
scene_in s = scene_after s.config.bodies s.history
