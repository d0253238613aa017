-- How a run ends.
use Rattle.std.proofs.Common.{◌≡◌, ◌≢◌, ◌≤◌, ◌<◌, ◌+◌, ℕ, List, [], ◌∷◌, ◌++◌, map, length, get_or, Option, Some, None, String, string_bytes, ◌⊎◌, inl, inr, refl, ap, sym, subst, ◌∙◌, length-append, arith}
use Rattle.std.specs.Global.{Global}
use Rattle.world_io.specs.Bytes.{Gave, GaveAll, Appended, AppendedPart}
use Rattle.world_io.specs.Faults.{Rose}
use Rattle.world_io.proofs.BytesLemmas.{GaveAll-told, Gave-nothing}
use Rattle.broadphase.specs.Reading.{GaveAtMost, ScriptRead}
use Rattle.script_text.specs.declared.script.Script.{Script}
use Rattle.script_text.specs.Line.{script_fault}
use Rattle.broadphase.specs.declared.status.Status.{Status}
use Rattle.broadphase.specs.declared.status.Status.TheVariants as statuses
use Rattle.broadphase.specs.declared.reading.TheConstants.{MAX_BYTES}
use Rattle.broadphase.specs.declared.form.Form.{Form}
use Rattle.broadphase.specs.Form.{form_of, Asks}
use Rattle.broadphase.specs.declared.form.Form.TheVariants.{Play, Check}
use Rattle.broadphase.specs.Ended.{Answered, AnsweredPart, WantedMemory, Ends, answer_text}

-- one word
pub only_word : (words : List (String Global)) (item : String Global) → 1 ≤ length words → length words < 2 → item ≡ get_or words 0 item → map string_bytes words ≡ string_bytes item ∷ []
only_word [] item some one e = absurd (omega arith)
only_word (w ∷ []) item some one e = ap (λ (s : String Global). string_bytes s ∷ []) (sym e)
only_word (w ∷ v ∷ words) item some one e = absurd (omega arith)

-- words that are not one ask for nothing
pub not_one : (words : List (String Global)) → length words ≢ 1 → form_of (map string_bytes words) ≡ None
not_one [] h = refl
not_one (w ∷ []) h = absurd (h refl)
not_one (w ∷ v ∷ words) h = refl

-- what holds by one name of a status holds by another
pub at_status : (form : Form) (r s : Status) (left rest before after : Option (List ℕ)) (f f' k k' : ℕ) → Ends form r left rest before after f f' k k' → r ≡ s
    → Ends form s left rest before after f f' k k'
at_status form r s left rest before after f f' k k' ends e = subst (λ (t : Status). Ends form t left rest before after f f' k k') e ends

too_many : (bytes given : List ℕ) (rest : Option (List ℕ)) → Gave (Some bytes) rest given → length bytes ≤ MAX_BYTES → length given ≡ MAX_BYTES + 1 → ⊥
too_many bytes given None gave within exact = cc
too_many bytes given (Some more) gave within exact =
    let e : bytes ≡ given ++ more = cc in
    omega (arith, ap length e, length-append given more)

-- a script is answered, or there is want of memory
pub answers : (form : Form) (r : Status) (bytes : List ℕ) (left rest before after : Option (List ℕ)) (f f' k k' : ℕ) → Ends form r left rest before after f f' k k'
    → left ≡ Some bytes → length bytes ≤ MAX_BYTES → (Rose f f' → ⊥) → (Rose k k' → ⊥) → script_fault bytes ≡ None → (r ≡ statuses.Done) ⊎ (r ≡ statuses.Memory)
answers form statuses.Done bytes left rest before after f f' k k' ends told within no_read no_write script = inl refl
answers form statuses.Usage bytes left rest before after f f' k k' ends told within no_read no_write script = absurd ends
answers form statuses.BadScript bytes left rest before after f f' k k' ends told within no_read no_write script =
    let read = ends.read in
    let same = (GaveAll-told bytes rest read.bytes (subst (λ (l : Option (List ℕ)). GaveAll l rest read.bytes) told read.all)).0 in
    let none : script_fault read.bytes ≡ None = ap script_fault (sym same) ∙ script in
    let bad = sym none ∙ read.bad in
    absurd cc
answers form statuses.ReadFault bytes left rest before after f f' k k' ends told within no_read no_write script = absurd (no_read ends.0)
answers form statuses.WriteFault bytes left rest before after f f' k k' ends told within no_read no_write script = absurd (no_write ends.0)
answers form statuses.Memory bytes left rest before after f f' k k' ends told within no_read no_write script = inr refl
answers form statuses.TooLong bytes left rest before after f f' k k' ends told within no_read no_write script =
    absurd (too_many bytes ends.0.bytes rest (subst (λ (l : Option (List ℕ)). Gave l rest ends.0.bytes) told ends.0.gave) within ends.0.exact)

-- what is no script is refused, or there is want of memory
pub refuses : (form : Form) (r : Status) (bytes : List ℕ) (left rest before after : Option (List ℕ)) (f f' k k' : ℕ) → Ends form r left rest before after f f' k k'
    → left ≡ Some bytes → length bytes ≤ MAX_BYTES → (Rose f f' → ⊥) → (Rose k k' → ⊥) → (script_fault bytes ≡ None → ⊥) → (r ≡ statuses.BadScript) ⊎ (r ≡ statuses.Memory)
refuses form statuses.Done bytes left rest before after f f' k k' ends told within no_read no_write none =
    let read = ends.read in
    let same = (GaveAll-told bytes rest read.bytes (subst (λ (l : Option (List ℕ)). GaveAll l rest read.bytes) told read.all)).0 in
    absurd (none (ap script_fault same ∙ read.no_fault))
refuses form statuses.Usage bytes left rest before after f f' k k' ends told within no_read no_write none = absurd ends
refuses form statuses.BadScript bytes left rest before after f f' k k' ends told within no_read no_write none = inl refl
refuses form statuses.ReadFault bytes left rest before after f f' k k' ends told within no_read no_write none = absurd (no_read ends.0)
refuses form statuses.WriteFault bytes left rest before after f f' k k' ends told within no_read no_write none = absurd (no_write ends.0)
refuses form statuses.Memory bytes left rest before after f f' k k' ends told within no_read no_write none = inr refl
refuses form statuses.TooLong bytes left rest before after f f' k k' ends told within no_read no_write none =
    absurd (too_many bytes ends.0.bytes rest (subst (λ (l : Option (List ℕ)). Gave l rest ends.0.bytes) told ends.0.gave) within ends.0.exact)

-- words ask for one command at most
pub same_form : (words : List (String Global)) (o : Option Form) (form asked : Form) → o ≡ form_of (map string_bytes words) → o ≡ Some form → Asks words asked → form ≡ asked
same_form words o form asked e some asks = let both : Some form ≡ Some asked = sym some ∙ (e ∙ asks) in cc

-- want of memory: nothing was written, or a first part of a report
pub nothing_of_it : (form : Form) (left rest before after : Option (List ℕ)) → after ≡ before → WantedMemory form left rest before after
nothing_of_it Play left rest before after e = inl e
nothing_of_it Check left rest before after e = e

pub part_of_it : (form : Form) (left rest before after : Option (List ℕ)) → (form ≡ Check → ⊥) → AnsweredPart form left rest before after → WantedMemory form left rest before after
part_of_it Play left rest before after other part = inr part
part_of_it Check left rest before after other part = absurd (other refl)

-- what was read where all bytes were, and what was read at most
all_of_it : (left rest : Option (List ℕ)) (bytes : List ℕ) → GaveAll left rest bytes → length bytes ≤ MAX_BYTES → GaveAtMost left rest (MAX_BYTES + 1)
all_of_it left rest bytes all within = record { bytes = bytes; gave = all.gave; bound = omega (arith, within) }

at_most : (left rest : Option (List ℕ)) → GaveAtMost left rest MAX_BYTES → GaveAtMost left rest (MAX_BYTES + 1)
at_most left rest gave = record { bytes = gave.bytes; gave = gave.gave; bound = omega (arith, gave.bound) }

-- a source that was not read gave nothing
pub not_read : (left rest : Option (List ℕ)) (most : ℕ) → rest ≡ left → GaveAtMost left rest most
not_read left rest most e = record { bytes = []; gave = subst (λ (o : Option (List ℕ)). Gave left o []) (sym e) (Gave-nothing left); bound = omega arith }

-- however a run ends, no more was read than one byte past the limit
pub stops : (form : Form) (r : Status) (left rest before after : Option (List ℕ)) (f f' k k' : ℕ) → Ends form r left rest before after f f' k k' → GaveAtMost left rest (MAX_BYTES + 1)
stops form statuses.Done left rest before after f f' k k' ends = all_of_it left rest ends.read.bytes ends.read.all ends.read.within
stops form statuses.Usage left rest before after f f' k k' ends = absurd ends
stops form statuses.BadScript left rest before after f f' k k' ends = all_of_it left rest ends.read.bytes ends.read.all ends.read.within
stops form statuses.ReadFault left rest before after f f' k k' ends = at_most left rest ends.1
stops form statuses.WriteFault left rest before after f f' k k' (rose, inl part) = all_of_it left rest part.read.bytes part.read.all part.read.within
stops form statuses.WriteFault left rest before after f f' k k' (rose, inr part) = all_of_it left rest part.read.bytes part.read.all part.read.within
stops form statuses.Memory left rest before after f f' k k' ends = at_most left rest ends.0
stops form statuses.TooLong left rest before after f f' k k' ends = record { bytes = ends.0.bytes; gave = ends.0.gave; bound = omega (arith, ends.0.exact) }

-- a script was read, which wrote nothing, and then this was written of it
pub answered : (form : Form) (script : Script) (left rest before mid after : Option (List ℕ)) → ScriptRead left rest script → mid ≡ before → Appended mid after (answer_text form script)
    → Answered form left rest before after
answered form script left rest before mid after read same wrote =
    record { script = script; read = read; wrote = subst (λ (o : Option (List ℕ)). Appended o after (answer_text form script)) same wrote }

pub answered_part : (form : Form) (script : Script) (left rest before mid after : Option (List ℕ)) → ScriptRead left rest script → mid ≡ before → AppendedPart mid after (answer_text form script)
    → AnsweredPart form left rest before after
answered_part form script left rest before mid after read same wrote =
    record { script = script; read = read; wrote = subst (λ (o : Option (List ℕ)). AppendedPart o after (answer_text form script)) same wrote }
