-- What is wrong with the lines of a text that is no script.
use Rattle.std.specs.Prelude.{ℕ, ◌+◌, nat_lt, if◌then◌else◌, List, [], ◌∷◌, Option, Some, None}
use Rattle.script_text.specs.declared.code.Code.{Code}
use Rattle.script_text.specs.declared.code.Code.TheVariants as code
use Rattle.script_text.specs.declared.limits.TheConstants.{MAX_LINES}
use Rattle.script_text.specs.Fault.{first_of}
use Rattle.script_text.specs.Lines.{lines_of, text_fault, command_of}
use Rattle.script_text.specs.Above.{Above, opening, after_command}
use Rattle.script_text.specs.Grammar.{command_fault}

-- a line too far down
abbrev pub long_fault : ℕ → Option Code
long_fault number = if nat_lt MAX_LINES number then Some code.Long else None

-- what is wrong with the line that has this number
abbrev pub line_fault : ℕ → Above → List ℕ → Option Code
line_fault number above line = first_of (long_fault number ∷ text_fault line ∷ command_fault above (command_of line) ∷ [])

-- the fault of a line with this number, or else what comes below it
abbrev pub at_line : ℕ → Option Code → Option (ℕ × Code) → Option (ℕ × Code)
at_line number (Some c) below = Some (number, c)
at_line number None below = below

-- a script has a world line; the line after the last one has this number
abbrev pub end_fault : Above → ℕ → Option (ℕ × Code)
end_fault above number = if above.started then None else Some (number, code.World)

-- the first line that has a fault, and the fault; the first of these lines has this number
abbrev pub lines_fault : Above → ℕ → List (List ℕ) → Option (ℕ × Code)
lines_fault above number [] = end_fault above number
lines_fault above number (line ∷ lines) =
    at_line number (line_fault number above line) (lines_fault (after_command above (command_of line)) (number + 1) lines)

-- what is wrong with bytes that are no script
abbrev pub script_fault : List ℕ → Option (ℕ × Code)
script_fault bytes = lines_fault opening 1 (lines_of bytes)
