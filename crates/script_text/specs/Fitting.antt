-- Commands whose numbers fit their types. Those of boxes, points and segments always do.
use Rattle.std.specs.Prelude.{◌≡◌, ℕ, Bool, true, ◌&&◌, nat_lt, ◌^◌, List}
use Rattle.std.specs.List.{list_all}
use Rattle.word_map.specs.declared.config.TheConstants.{MAX_LAYERS}
use Rattle.script_text.specs.Command.{command_words}
use Rattle.script_text.specs.declared.command.Command.{Command}
use Rattle.script_text.specs.declared.command.Command.TheVariants.{Create, Prepare, User, QueryBox, QueryPoint, QueryRay}

abbrev pub numbers_fit : Command → Bool
numbers_fit (Create name layer bounds user) = nat_lt layer 4294967296 && nat_lt user 4294967296
numbers_fit (Prepare batch layer names) = nat_lt layer 4294967296
numbers_fit (User name user) = nat_lt user 4294967296
numbers_fit (QueryBox mask bounds) = nat_lt mask (2 ^ MAX_LAYERS)
numbers_fit (QueryPoint mask at) = nat_lt mask (2 ^ MAX_LAYERS)
numbers_fit (QueryRay mask segment) = nat_lt mask (2 ^ MAX_LAYERS)
numbers_fit _ = true

abbrev pub all_fit : List Command → Bool
all_fit commands = list_all numbers_fit commands

-- a command with these words
pub record HasWords (words : List (List ℕ)) (c : Command) : Type 0 where
  pub words_are : command_words c ≡ words
  pub fits : numbers_fit c ≡ true
