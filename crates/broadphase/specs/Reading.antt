-- How much a source gave, where not all that it gave is kept.
use Rattle.std.specs.Prelude.{◌≡◌, ◌++◌, ℕ, ◌+◌, ◌≤◌, List, Option, Some, None, length}
use Rattle.world_io.specs.Bytes.{Gave, GaveAll}
use Rattle.world_io.specs.Faults.{next_count}
use Rattle.script_text.specs.declared.code.Code.{Code}
use Rattle.script_text.specs.declared.script.Script.{Script}
use Rattle.script_text.specs.Line.{script_fault}
use Rattle.script_text.specs.Script.{IsScriptOf}
use Rattle.broadphase.specs.declared.reading.ParseEnd.{ParseEnd}
use Rattle.broadphase.specs.declared.reading.ParseEnd.TheVariants as ends
use Rattle.broadphase.specs.declared.reading.TheConstants.{MAX_BYTES}

-- a source gave this many bytes
pub record GaveCount (old new : Option (List ℕ)) (count : ℕ) : Type 0 where
  pub bytes : List ℕ
  pub gave : Gave old new bytes
  pub exact : length bytes ≡ count

-- a source gave this many bytes, or fewer
pub record GaveAtMost (old new : Option (List ℕ)) (most : ℕ) : Type 0 where
  pub bytes : List ℕ
  pub gave : Gave old new bytes
  pub bound : length bytes ≤ most

-- a source gave this many bytes, and they were added to a list
pub record AddsGiven (old new : Option (List ℕ)) (before after : List ℕ) (count : ℕ) : Type 0 where
  pub bytes : List ℕ
  pub gave : Gave old new bytes
  pub exact : length bytes ≡ count
  pub added : after ≡ before ++ bytes

-- the source gave all its bytes, and they spell the script
pub record ScriptRead (left rest : Option (List ℕ)) (script : Script) : Type 0 where
  pub bytes : List ℕ
  pub all : GaveAll left rest bytes
  pub within : length bytes ≤ MAX_BYTES
  pub is_script : IsScriptOf bytes script
  pub no_fault : script_fault bytes ≡ None

-- the source gave all its bytes, and this line of them is the first that is no line of a script, for this fault
pub record FaultRead (left rest : Option (List ℕ)) (line : ℕ) (c : Code) : Type 0 where
  pub bytes : List ℕ
  pub all : GaveAll left rest bytes
  pub within : length bytes ≤ MAX_BYTES
  pub bad : script_fault bytes ≡ Some (line, c)

-- what holds where no script was read; a read that fails is the last one
abbrev pub EndsRead : Option (List ℕ) → Option (List ℕ) → ℕ → ℕ → ParseEnd → Type 0
EndsRead left rest before after (ends.BadScript line c) = FaultRead left rest line c × (after ≡ before)
EndsRead left rest before after ends.ReadFault = GaveAtMost left rest MAX_BYTES × (after ≡ next_count before)
EndsRead left rest before after ends.TooLong = GaveCount left rest (MAX_BYTES + 1) × (after ≡ before)
EndsRead left rest before after ends.Memory = GaveAtMost left rest MAX_BYTES × (after ≡ before)
