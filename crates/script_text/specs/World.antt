-- The sizes that a world line states.
use Rattle.std.specs.Prelude.{◌≡◌, ℕ, List, [], ◌∷◌, pos, codes, slice_index_or}
use Rattle.word_map.specs.declared.config.Config.{Config}
use Rattle.word_map.specs.Limits.{IsConfig}
use Rattle.script_text.specs.Number.{number_of}
use Rattle.script_text.specs.Command.{world_words}

-- the sizes of a world for one caller
pub record IsForOne (c : Config) : Type 0 where
  pub config : IsConfig c
  pub passes : c.passes ≡ 1

-- sizes that these words spell below `world`
pub record SpellsWorld (args : List (List ℕ)) (c : Config) : Type 0 where
  pub words : world_words c ≡ codes "world" ∷ args
  pub bodies : pos c.bodies ≡ number_of (slice_index_or args 0 [])
  pub layers : pos c.layers ≡ number_of (slice_index_or args 2 [])
  pub for_one : IsForOne c
