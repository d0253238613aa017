-- What a script is: which bytes spell it, and what is wrong with bytes that spell none.
use Rattle.std.specs.Prelude.{◌≡◌, ℕ, ◌+◌, List, Option, Some, None, Result, Ok, Err}
use Rattle.word_map.specs.Limits.{IsConfig}
use Rattle.script_text.specs.declared.code.Code.{Code}
use Rattle.script_text.specs.declared.code.LineError.{LineError}
use Rattle.script_text.specs.declared.code.LineError.TheVariants as errors
use Rattle.script_text.specs.declared.script.Script.{Script}
use Rattle.script_text.specs.declared.script.ScriptFault.{ScriptFault}
use Rattle.script_text.specs.declared.script.ScriptFault.TheVariants as faults
use Rattle.script_text.specs.Lines.{lines_of, commands_of}
use Rattle.script_text.specs.Printed.{words_below}
use Rattle.script_text.specs.World.{IsForOne}
use Rattle.script_text.specs.declared.draft.Draft.{Draft}
use Rattle.script_text.specs.Draft.{words_so_far}

-- the words of a script's commands
abbrev pub script_words : Script → List (List (List ℕ))
script_words script = words_below script.world script.lines

-- the words of the bytes' commands are those of the script
abbrev pub Spells : List ℕ → Script → Type 0
Spells bytes script = commands_of (lines_of bytes) ≡ script_words script

-- what reading all lines answers: where none has a fault, something with this fact, and else the first line that
-- has one, and its fault
abbrev pub ReadsScript : {X : Type 0} → Result X ScriptFault → Option (ℕ × Code) → (X → Type 0) → Type 0
ReadsScript (Ok x) fault P = (fault ≡ None) × P x
ReadsScript (Err (faults.At line c)) fault P = fault ≡ Some (line, c)
ReadsScript (Err faults.Memory) fault P = Unit {0}

-- what reading some of the lines answers: where it stops, the fault of all of them
abbrev pub ReadsOn : {X : Type 0} → Result X ScriptFault → Option (ℕ × Code) → (X → Type 0) → Type 0
ReadsOn (Ok x) fault P = P x
ReadsOn (Err (faults.At line c)) fault P = fault ≡ Some (line, c)
ReadsOn (Err faults.Memory) fault P = Unit {0}

-- the fault of a line with this number
abbrev pub fault_at : ℕ → LineError → ScriptFault
fault_at line (errors.Fault c) = faults.At line c
fault_at line errors.Memory = faults.Memory

-- the script has the commands of a draft
pub record IsFinished (draft : Draft) (script : Script) : Type 0 where
  pub words : script_words script ≡ words_so_far draft
  pub for_one : IsForOne script.world
  pub actors : script.actors ≡ 0
  pub most_workers : script.most_workers ≡ 0

-- the script is the one that the bytes spell
pub record IsScriptOf (bytes : List ℕ) (script : Script) : Type 0 where
  pub text : Spells bytes script
  pub config : IsConfig script.world
  pub passes : script.world.passes ≡ 1 + script.actors + script.most_workers
