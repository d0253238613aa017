-- What each script keeps: its text, a line for each command, is a script with these commands.
use Rattle.std.specs.Prelude.{◌≡◌, ℕ, ◌+◌, List, true, is_none}
use Rattle.word_map.specs.declared.config.Config.{Config}
use Rattle.word_map.specs.Limits.{IsConfig}
use Rattle.script_text.specs.declared.command.Command.{Command}
use Rattle.script_text.specs.Lines.{lines_of, commands_of}
use Rattle.script_text.specs.Line.{script_fault}
use Rattle.script_text.specs.Fitting.{all_fit}
use Rattle.script_text.specs.Printed.{words_below, text_of}

pub record IsSound (world : Config) (commands : List Command) (actors most_workers : ℕ) : Type 0 where
  pub words : commands_of (lines_of (text_of world commands)) ≡ words_below world commands
  pub no_fault : is_none (script_fault (text_of world commands)) ≡ true
  pub fit : all_fit commands ≡ true
  pub sizes : IsConfig world
  pub passes : world.passes ≡ 1 + actors + most_workers
  -- no command that is built names an actor or has workers
  pub no_actors : actors ≡ 0
  pub no_workers : most_workers ≡ 0
