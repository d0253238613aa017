-- What is wrong with a line, and what a reader of a field answers.
use Rattle.std.specs.Prelude.{◌≡◌, List, [], ◌∷◌, Option, Some, None, Result, Ok, Err}
use Rattle.script_text.specs.declared.code.Code.{Code}
use Rattle.script_text.specs.declared.code.LineError.{LineError}
use Rattle.script_text.specs.declared.code.LineError.TheVariants as errors

-- the first fault of several tests, in their order
abbrev pub first_of : List (Option Code) → Option Code
first_of [] = None
first_of (Some code ∷ tests) = Some code
first_of (None ∷ tests) = first_of tests

-- what a reader answers: where there is no fault, a value with this fact, and else the fault
abbrev pub Reads : {X : Type 0} → Result X Code → Option Code → (X → Type 0) → Type 0
Reads (Ok x) fault P = (fault ≡ None) × P x
Reads (Err code) fault P = fault ≡ Some code

-- the same of a reader that takes memory, of which there may be too little
abbrev pub ReadsInMemory : {X : Type 0} → Result X LineError → Option Code → (X → Type 0) → Type 0
ReadsInMemory (Ok x) fault P = (fault ≡ None) × P x
ReadsInMemory (Err (errors.Fault code)) fault P = fault ≡ Some code
ReadsInMemory (Err errors.Memory) fault P = Unit {0}
