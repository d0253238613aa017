-- What the player keeps between two commands.
use Rattle.std.specs.Prelude.{List, fold}
use Rattle.word_map.specs.declared.config.Config.{Config}
use Rattle.scene_model.specs.declared.entry.Entry.{Entry}
use Rattle.scene_model.specs.Scene.{Scene, empty_scene}
use Rattle.scene_model.specs.Step.{after_entry}
use Rattle.script_player.specs.Books.{Books, no_books}

-- the sizes of the world, the scene, and the books of names and batches
pub record Table : Type 0 where
  pub world : Config
  pub scene : Scene
  pub books : Books

abbrev pub empty_table : Config → Table
empty_table world = record { world = world; scene = empty_scene world.bodies; books = no_books }

-- the table after entries, with other books
abbrev pub table_with : Table → List Entry → Books → Table
table_with table entries books = record table { scene = fold after_entry table.scene entries; books = books }
