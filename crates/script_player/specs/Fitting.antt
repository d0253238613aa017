-- Commands that fit a world.
use Rattle.std.specs.Prelude.{ℕ, ◌<◌, ◌≤◌, ⊤, List, [], ◌∷◌, length}
use Rattle.word_map.specs.declared.config.Config.{Config}
use Rattle.script_text.specs.declared.command.Command.{Command}
use Rattle.script_text.specs.declared.command.Command.TheVariants.{Create, Add, Prepare}

-- a layer that a command names is one of so many, and a batch is asked to take no more bodies than there may be
abbrev pub FitsIn : ℕ → ℕ → Command → Type 0
FitsIn layers bodies (Create name layer bounds user) = layer < layers
FitsIn layers bodies (Add names) = length names ≤ bodies
FitsIn layers bodies (Prepare batch layer names) = (layer < layers) × (length names ≤ bodies)
FitsIn layers bodies command = ⊤

abbrev pub AllFitIn : ℕ → ℕ → List Command → Type 0
AllFitIn layers bodies [] = ⊤
AllFitIn layers bodies (command ∷ commands) = FitsIn layers bodies command × AllFitIn layers bodies commands

-- the command fits a world of these sizes
abbrev pub FitsWorld : Config → Command → Type 0
FitsWorld world command = FitsIn world.layers world.bodies command

abbrev pub AllFitWorld : Config → List Command → Type 0
AllFitWorld world commands = AllFitIn world.layers world.bodies commands
