-- The state of the core: the sizes of the world, its log and the views of all seats.
use Rattle.std.specs.Prelude.{◌≡◌, ℕ, ◌-◌, List, [], ◌∷◌}
use mathlib.Core.Option.{some}
use lib.ListN.{get_elem?}
use Rattle.scene_model.specs.Scene.{Scene}
use Rattle.scene_model.specs.History.{scene_after}
use Rattle.word_map.specs.declared.config.Config.{Config}
use Rattle.word_map.specs.declared.name.Name.{Name}
use Rattle.core_state.specs.declared.item.Item.{Item}
use Rattle.core_state.specs.declared.view.Role.TheVariants.{Pass}
use Rattle.core_state.specs.declared.view.View.{View}
use Rattle.core_state.specs.Log.{word, history}
use Rattle.core_state.specs.View.{blank_view}

-- a seat is a place in the list of views; passes have seats, and so have visitors
pub record Core : Type 0 where
  pub config : Config
  pub log : List Item
  pub views : List View

-- the words follow from the log
abbrev pub word_of : Core → Name → ℕ
word_of core name = word core.config core.log name

-- and so does the scene
abbrev pub scene_of : Core → Scene
scene_of core = scene_after core.config.bodies (history core.log)

-- the view of a seat
abbrev pub IsViewAt : Core → ℕ → View → Type 0
IsViewAt core seat view = get_elem? core.views seat ≡ some view

-- a world in which nothing was done: one seat, of pass 0, which may open all others
abbrev pub opening : Config → Core
opening c = record { config = c; log = []; views = blank_view c (Pass 0 (c.passes - 1)) ∷ [] }
