-- How a run may end, and what holds then.
use Rattle.std.specs.Prelude.{◌≡◌, ◌⊎◌, ℕ, ◌+◌, List, ◌++◌, Option, codes, decimal}
use Rattle.world_io.specs.Bytes.{Appended, AppendedPart}
use Rattle.world_io.specs.Faults.{Rose, next_count}
use Rattle.script_text.specs.declared.code.Code.{Code}
use Rattle.script_text.specs.declared.code.Code.TheVariants as code
use Rattle.script_text.specs.declared.script.Script.{Script}
use Rattle.broadphase.specs.declared.form.Form.{Form}
use Rattle.broadphase.specs.declared.form.Form.TheVariants.{Play, Check}
use Rattle.broadphase.specs.declared.status.Status.{Status}
use Rattle.broadphase.specs.declared.status.Status.TheVariants as statuses
use Rattle.broadphase.specs.declared.reading.TheConstants.{MAX_BYTES}
use Rattle.broadphase.specs.Reading.{GaveCount, GaveAtMost, ScriptRead, FaultRead}
use Rattle.script_player.specs.Report.{serial_report}

abbrev pub code_text : Code → List ℕ
code_text code.Long = codes "long"
code_text code.Text = codes "text"
code_text code.Word = codes "word"
code_text code.World = codes "world"
code_text code.Block = codes "block"
code_text code.Trace = codes "trace"
code_text code.Count = codes "count"
code_text code.Name = codes "name"
code_text code.Number = codes "number"
code_text code.Range = codes "range"
code_text code.Actor = codes "actor"
code_text code.Later = codes "later"

-- what is written of a bad line
abbrev pub fault_text : ℕ → Code → List ℕ
fault_text line c = codes "line " ++ decimal line ++ codes ": " ++ code_text c ++ codes "\n"

-- what is written of a script
abbrev pub answer_text : Form → Script → List ℕ
answer_text Play script = serial_report script
answer_text Check script = codes "ok\n"

-- a script was read, and all that is to be written of it was written
pub record Answered (form : Form) (left rest before after : Option (List ℕ)) : Type 0 where
  pub script : Script
  pub read : ScriptRead left rest script
  pub wrote : Appended before after (answer_text form script)

-- a script was read, and a first part of that was written
pub record AnsweredPart (form : Form) (left rest before after : Option (List ℕ)) : Type 0 where
  pub script : Script
  pub read : ScriptRead left rest script
  pub wrote : AppendedPart before after (answer_text form script)

-- the bytes that were read are no script, and the line that says so was written
pub record Refused (left rest before after : Option (List ℕ)) : Type 0 where
  pub line : ℕ
  pub c : Code
  pub read : FaultRead left rest line c
  pub wrote : Appended before after (fault_text line c)

-- the same of a first part of that line
pub record RefusedPart (left rest before after : Option (List ℕ)) : Type 0 where
  pub line : ℕ
  pub c : Code
  pub read : FaultRead left rest line c
  pub wrote : AppendedPart before after (fault_text line c)

-- where memory is wanting, a first part of a report may have been written; a check writes nothing then
abbrev pub WantedMemory : Form → (left rest before after : Option (List ℕ)) → Type 0
WantedMemory Play left rest before after = (after ≡ before) ⊎ AnsweredPart Play left rest before after
WantedMemory Check left rest before after = after ≡ before

-- the source's count of faults by how a run ended: a read that fails is the last one, and ends it so
abbrev pub CountsReads : Status → ℕ → ℕ → Type 0
CountsReads statuses.ReadFault s s' = s' ≡ next_count s
CountsReads _ s s' = s' ≡ s

-- what a command has read and written, by how it ended; s is the source's count of faults, k the sink's
abbrev pub Ends : Form → Status → (left rest before after : Option (List ℕ)) → (s s' k k' : ℕ) → Type 0
Ends form statuses.Done left rest before after s s' k k' = Answered form left rest before after
Ends form statuses.Usage left rest before after s s' k k' = ⊥
Ends form statuses.BadScript left rest before after s s' k k' = Refused left rest before after
Ends form statuses.ReadFault left rest before after s s' k k' = Rose s s' × GaveAtMost left rest MAX_BYTES × (after ≡ before)
Ends form statuses.WriteFault left rest before after s s' k k' = Rose k k' × (AnsweredPart form left rest before after ⊎ RefusedPart left rest before after)
Ends form statuses.Memory left rest before after s s' k k' = GaveAtMost left rest MAX_BYTES × WantedMemory form left rest before after
Ends form statuses.TooLong left rest before after s s' k k' = GaveCount left rest (MAX_BYTES + 1) × (after ≡ before)
