-- The lines of a text, and the words of a line.
use Rattle.std.specs.Prelude.{ℕ, Bool, false, ◌==◌, ◌-◌, ◌&&◌, nat_le, if◌then◌else◌, List, [], ◌∷◌, ◌++◌, map, take, length, slice_index, Option, Some, None}
use Rattle.std.specs.List.{slice_split, list_all, flat_map}
use Rattle.std.specs.Borrow.{Bor}
use Rattle.script_text.specs.declared.code.Code.{Code}
use Rattle.script_text.specs.declared.code.Code.TheVariants as code

-- what stands before a newline, without a carriage return at its end
abbrev pub without_return : List ℕ → List ℕ
without_return line = if slice_index line (length line - 1) == 13 then take (length line - 1) line else line

-- the pieces between newlines are lines, but where nothing stands behind the last newline there is no line
abbrev pub lines_in : List (List ℕ) → List (List ℕ)
lines_in [] = []
lines_in (last ∷ []) = if length last == 0 then [] else last ∷ []
lines_in (line ∷ next ∷ pieces) = without_return line ∷ lines_in (next ∷ pieces)

-- each line ends with a newline, which the last may lack; a carriage return just before a newline is dropped
abbrev pub lines_of : List ℕ → List (List ℕ)
lines_of bytes = lines_in (slice_split (λ b. b == 10) bytes)

-- a space or another letter, digit or sign
abbrev pub is_text_byte : ℕ → Bool
is_text_byte b = nat_le 32 b && nat_le b 126

-- a line with a byte that is not allowed
abbrev pub text_fault : List ℕ → Option Code
text_fault line = if list_all is_text_byte line then None else Some code.Text

-- a word, where there is one between two spaces
abbrev pub some_word : List ℕ → List (List ℕ)
some_word [] = []
some_word (b ∷ word) = (b ∷ word) ∷ []

-- words stand one or more spaces apart
abbrev pub words_of : List ℕ → List (List ℕ)
words_of line = flat_map some_word (slice_split (λ b. b == 32) line)

-- a word that begins with `#`
abbrev pub begins_comment : List ℕ → Bool
begins_comment [] = false
begins_comment (b ∷ word) = b == 35

-- the words of a command; words of which the first begins with `#` are none
abbrev pub command_in : List (List ℕ) → List (List ℕ)
command_in [] = []
command_in (word ∷ words) = if begins_comment word then [] else word ∷ words

-- the words of a line's command, of which there are none where the line has no command
abbrev pub command_of : List ℕ → List (List ℕ)
command_of line = command_in (words_of line)

-- one command's words, where there is a command
abbrev pub some_command : List (List ℕ) → List (List (List ℕ))
some_command [] = []
some_command (word ∷ words) = (word ∷ words) ∷ []

-- the words of each command, in the order of the lines
abbrev pub commands_of : List (List ℕ) → List (List (List ℕ))
commands_of [] = []
commands_of (line ∷ lines) = some_command (command_of line) ++ commands_of lines

-- the bytes of pieces that lie in a longer text
abbrev pub texts : List (Bor (List ℕ)) → List (List ℕ)
texts pieces = map (λ p. p.now) pieces
