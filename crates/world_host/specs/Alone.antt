-- A pass that is the only one of its world.
use Rattle.std.specs.Prelude.{◌≡◌, ⊤, ℕ, List, [], ◌∷◌, fold}
use Rattle.scene_model.specs.declared.entry.Entry.{Entry}
use Rattle.scene_model.specs.Scene.{Scene}
use Rattle.scene_model.specs.Step.{IsLawful, after_entry}
use Rattle.core_state.specs.declared.view.View.{View}
use Rattle.core_state.specs.Guards.{scene_at}
use Rattle.pass_table.specs.declared.pass.Pass.{Pass}
use Rattle.pass_table.specs.declared.world.World.{World}
use Rattle.pass_table.specs.Passes.{view_of, IsIdle}
use Rattle.pass_table.specs.Belongings.{belongings_of}
use Rattle.pass_table.specs.Work.{Tells}

-- the scene that the pass knows
abbrev pub scene_of : View → Scene
scene_of view = scene_at view.config view.known

-- the pass may begin a call, and nobody else acts in its world
pub record IsLone (world : World) (pass : Pass) : Type 0 where
  pub idle : IsIdle world pass
  pub one : (view_of pass).config.passes ≡ 1

-- entries that are lawful one after another, each in the scene after those before it, where there are so many layers
abbrev pub AreLawful : ℕ → Scene → List Entry → Type 0
AreLawful layers scene [] = ⊤
AreLawful layers scene (entry ∷ later) = IsLawful layers scene entry × AreLawful layers (after_entry scene entry) later

-- a call made these entries, one after another, and no others
pub record MakesEntries (start next : View) (entries : List Entry) : Type 0 where
  pub scene : scene_of next ≡ fold after_entry (scene_of start) entries
  pub lawful : AreLawful start.config.layers (scene_of start) entries
  pub config : next.config ≡ start.config

-- and it stored no word of a slot, nor that of the free nodes, and the pass has what it had
pub record Leaves (start next : View) (entries : List Entry) : Type 0 where
  pub made : MakesEntries start next entries
  pub tells : Tells start next []
  pub keeps : belongings_of next ≡ belongings_of start
