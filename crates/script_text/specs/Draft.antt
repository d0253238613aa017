-- What a reader has read so far.
use Rattle.std.specs.Prelude.{◌≡◌, ℕ, List, [], ◌∷◌, ◌++◌, true, false, Option, Some, None}
use Rattle.word_map.specs.declared.config.Config.{Config}
use Rattle.script_text.specs.declared.command.Command.{Command}
use Rattle.script_text.specs.declared.command.Command.TheVariants.{Create}
use Rattle.script_text.specs.declared.draft.Draft.{Draft}
use Rattle.script_text.specs.Name.{is_among, add_name}
use Rattle.script_text.specs.Lines.{lines_of, some_command, commands_of}
use Rattle.script_text.specs.Printed.{words_below}
use Rattle.script_text.specs.Fitting.{all_fit}
use Rattle.script_text.specs.Above.{Above, opening, after_command}
use Rattle.script_text.specs.Line.{lines_fault, end_fault, script_fault}

-- what stands above the lines below a world line
abbrev pub above_below : Config → List (List ℕ) → Above
above_below world names = record { started = true; bodies = world.bodies; layers = world.layers; names = names }

abbrev pub above_of : Option Config → List (List ℕ) → Above
above_of None names = opening
above_of (Some world) names = above_below world names

-- what stands above the next line
abbrev pub above_next : Draft → Above
above_next draft = above_of draft.world draft.names

abbrev pub words_of_lines : Option Config → List Command → List (List (List ℕ))
words_of_lines None lines = []
words_of_lines (Some world) lines = words_below world lines

-- the words of the commands so far
abbrev pub words_so_far : Draft → List (List (List ℕ))
words_so_far draft = words_of_lines draft.world draft.lines.items

-- a creation gives a new name; other commands give none
abbrev pub IsNewIn : List (List ℕ) → Command → Type 0
IsNewIn names (Create name layer bounds user) = is_among names name ≡ false
IsNewIn names command = Unit {0}

-- the names from there on
abbrev pub names_with : List (List ℕ) → Command → List (List ℕ)
names_with names (Create name layer bounds user) = add_name names name
names_with names command = names

-- one command more
pub record Keeps (command : Command) (old new : Draft) : Type 0 where
  pub world : new.world ≡ old.world
  pub names : new.names ≡ names_with old.names command
  pub lines : new.lines.items ≡ old.lines.items ++ command ∷ []

-- the words of one line's command more
pub record Adds (words : List (List ℕ)) (old new : Draft) : Type 0 where
  pub text : words_so_far new ≡ words_so_far old ++ some_command words
  pub above : above_next new ≡ after_command (above_next old) words
  pub fit : all_fit old.lines.items ≡ true → all_fit new.lines.items ≡ true

-- these lines more, of which the first has the number 1; the line below them has this number
pub record AddsAll (lines : List (List ℕ)) (old new : Draft) (number : ℕ) : Type 0 where
  pub text : words_so_far new ≡ words_so_far old ++ commands_of lines
  pub fault : lines_fault (above_next old) 1 lines ≡ end_fault (above_next new) number
  pub fit : all_fit old.lines.items ≡ true → all_fit new.lines.items ≡ true

-- all lines of a text were read; the line below them has this number
pub record IsWhole (draft : Draft) (number : ℕ) : Type 0 where
  pub bytes : List ℕ
  pub words : words_so_far draft ≡ commands_of (lines_of bytes)
  pub fault : script_fault bytes ≡ end_fault (above_next draft) number
  pub fit : all_fit draft.lines.items ≡ true
