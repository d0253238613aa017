-- Words as they stand in printed lines, and the text of a script.
use Rattle.std.specs.Prelude.{ℕ, List, [], ◌∷◌, ◌++◌, map, codes}
use Rattle.std.specs.List.{flat_map}
use Rattle.word_map.specs.declared.config.Config.{Config}
use Rattle.script_text.specs.declared.command.Command.{Command}
use Rattle.script_text.specs.Command.{world_words, command_words}

-- words, each behind a space
abbrev pub spaced : List (List ℕ) → List ℕ
spaced words = flat_map (λ word. 32 ∷ word) words

-- words, one space apart
abbrev pub line_text : List (List ℕ) → List ℕ
line_text [] = []
line_text (word ∷ words) = word ++ spaced words

-- lines, each with its newline
abbrev pub lines_text : List (List (List ℕ)) → List ℕ
lines_text lines = flat_map (λ line. line_text line ++ codes "\n") lines

-- the words of a world line and of the commands below it
abbrev pub words_below : Config → List Command → List (List (List ℕ))
words_below world commands = world_words world ∷ map command_words commands

-- their text, a line for each
abbrev pub text_of : Config → List Command → List ℕ
text_of world commands = lines_text (words_below world commands)
