-- Reading line after line.
use Rattle.std.proofs.Common.{◌≡◌, ℕ, ◌+◌, ◌≤◌, ltb, true, is_none, map, List, [], ◌∷◌, ◌++◌, Option, Some, None, Result, Ok, Err, refl, ap, sym, ◌∙◌, append_assoc, inl, inr, arith}
use Rattle.std.proofs.lemmas.Bool.{cases_Bool, ltb-false}
use Rattle.std.proofs.lemmas.List.{append-nil}
use Rattle.script_text.specs.declared.code.Code.{Code}
use Rattle.script_text.specs.declared.draft.Draft.{Draft}
use Rattle.script_text.specs.Lines.{lines_of, command_of, some_command, commands_of}
use Rattle.script_text.specs.Above.{Above, opening}
use Rattle.word_map.specs.declared.config.Config.{Config}
use Rattle.script_text.specs.declared.command.Command.{Command}
use Rattle.script_text.specs.declared.script.Script.{Script}
use Rattle.script_text.specs.declared.script.ScriptFault.{ScriptFault}
use Rattle.script_text.specs.declared.script.ScriptFault.TheVariants as faults
use Rattle.script_text.specs.Script.{ReadsScript, IsFinished, IsScriptOf}
use Rattle.script_text.specs.Draft.{Adds, AddsAll, IsWhole, above_next, words_so_far}
use Rattle.script_text.specs.Fitting.{all_fit}
use Rattle.script_text.specs.Printed.{line_text, lines_text, words_below, text_of}
use Rattle.script_text.specs.Sound.{IsSound}
use Rattle.script_text.proofs.Reprinting.{reads_again, lines_again, commands_again}
use Rattle.script_text.specs.Line.{line_fault, lines_fault, script_fault}
use Rattle.script_text.specs.declared.limits.TheConstants.{MAX_LINES}

-- the lines of a text down to the rest were added, and what is left to find is all that there is to find
pub record HasAdded (old : Draft) (text : List ℕ) (new : Draft) (number : ℕ) (rest : List ℕ) : Type 0 where
  pub fault : lines_fault (above_next new) number (lines_of rest) ≡ lines_fault (above_next old) 1 (lines_of text)
  pub words : words_so_far new ++ commands_of (lines_of rest) ≡ words_so_far old ++ commands_of (lines_of text)
  pub low : 1 ≤ number
  pub high : number ≤ MAX_LINES + 1
  pub fit : all_fit old.lines.items ≡ true → all_fit new.lines.items ≡ true

-- a line without a fault is not too far down
not_long : (n : ℕ) (above : Above) (line : List ℕ) → line_fault n above line ≡ None → n ≤ MAX_LINES
not_long n above line h =
    elim (cases_Bool (ltb MAX_LINES n)) [
      | inl long ↦ absurd (let e = rw long at h in cc)
      | inr short ↦ ltb-false MAX_LINES n short
    ]

pub one_more : (old new newer : Draft) (text rest line below : List ℕ) (n : ℕ) → HasAdded old text new n rest → lines_of rest ≡ line ∷ lines_of below
    → line_fault n (above_next new) line ≡ None → Adds (command_of line) new newer → HasAdded old text newer (n + 1) below
one_more old new newer text rest line below n h e none adds =
    let short = not_long n (above_next new) line none in
    let go_on : lines_fault (above_next new) n (lines_of rest) ≡ lines_fault (above_next newer) (n + 1) (lines_of below) = rw (e, none, adds.above) refl in
    record {
      fault = sym go_on ∙ h.fault;
      words =
          ap (λ (ws : List (List (List ℕ))). ws ++ commands_of (lines_of below)) adds.text
          ∙ append_assoc (words_so_far new) (some_command (command_of line)) (commands_of (lines_of below))
          ∙ ap (λ (ls : List (List ℕ)). words_so_far new ++ commands_of ls) (sym e)
          ∙ h.words;
      low = omega (arith, h.low);
      high = omega arith;
      fit = λ start. adds.fit (h.fit start);
    }

pub stops : (old new : Draft) (text rest line below : List ℕ) (n : ℕ) (code : Code) → HasAdded old text new n rest → lines_of rest ≡ line ∷ lines_of below
    → line_fault n (above_next new) line ≡ Some code → lines_fault (above_next old) 1 (lines_of text) ≡ Some (n, code)
stops old new text rest line below n code h e some = rw (← h.fault, e, some) refl

pub all_added : (old new : Draft) (text rest : List ℕ) (n : ℕ) → HasAdded old text new n rest → lines_of rest ≡ [] → AddsAll (lines_of text) old new n
all_added old new text rest n h e = record {
  text = sym (append-nil (words_so_far new)) ∙ (ap (λ (ls : List (List ℕ)). words_so_far new ++ commands_of ls) (sym e) ∙ h.words);
  fault = sym h.fault ∙ rw e refl;
  fit = h.fit;
}

-- what stands above the first line is nothing
pub from_first : (old : Draft) (bytes : List ℕ) → above_next old ≡ opening → script_fault bytes ≡ lines_fault (above_next old) 1 (lines_of bytes)
from_first old bytes e = rw e refl

-- all lines were added to a draft of none
pub whole : (bytes : List ℕ) (old new : Draft) (n : ℕ) → above_next old ≡ opening → words_so_far old ≡ [] → all_fit old.lines.items ≡ true
    → AddsAll (lines_of bytes) old new n → IsWhole new n
whole bytes old new n above none fit adds = record {
  bytes = bytes;
  words = adds.text ∙ ap (λ (ws : List (List (List ℕ))). ws ++ commands_of (lines_of bytes)) none;
  fault = from_first old bytes above ∙ adds.fault;
  fit = adds.fit fit;
}

-- a script of its lines is the one that the bytes spell
pub spelled : (bytes : List ℕ) (old new : Draft) (n : ℕ) (script : Script) → words_so_far old ≡ [] → AddsAll (lines_of bytes) old new n
    → IsFinished new script → IsScriptOf bytes script
spelled bytes old new n script none adds finished = record {
  text = sym (finished.words ∙ (adds.text ∙ ap (λ (ws : List (List (List ℕ))). ws ++ commands_of (lines_of bytes)) none));
  config = finished.for_one.config;
  passes = rw (finished.actors, finished.most_workers) finished.for_one.passes;
}

-- what a reader answers, told of another fault and another fact
pub reads_as : {X : Type 0} (r : Result X ScriptFault) (f g : Option (ℕ × Code)) (P Q : X → Type 0) → g ≡ f → ((x : X) → P x → Q x) → ReadsScript r f P → ReadsScript r g Q
reads_as (Ok x) f g P Q e to h = (e ∙ h.0, to x h.1)
reads_as (Err (faults.At line c)) f g P Q e to h = e ∙ h
reads_as (Err faults.Memory) f g P Q e to h = tt

-- a draft of all lines that has a world line makes a sound script
pub sound : (draft : Draft) (world : Config) (commands : List Command) (n : ℕ) → draft.world ≡ Some world → commands ≡ draft.lines.items → IsWhole draft n
    → IsSound world commands 0 0
sound draft world commands n some same all =
    let for_one = draft.for_one world some in
    let words : words_below world commands ≡ commands_of (lines_of all.bytes) = (rw (some, same) refl) ∙ all.words in
    let no_fault : script_fault all.bytes ≡ None = all.fault ∙ rw some refl in
    let again = reads_again opening 1 1 (lines_of all.bytes) (omega arith) no_fault in
    let text : lines_of (text_of world commands) ≡ map line_text (commands_of (lines_of all.bytes)) = ap (λ (ws : List (List (List ℕ))). lines_of (lines_text ws)) words ∙ lines_again _ again.plain in
    record {
      words = ap commands_of text ∙ (commands_again _ again.plain ∙ sym words);
      no_fault = ap (λ (ls : List (List ℕ)). is_none (lines_fault opening 1 ls)) text ∙ ap (λ (f : Option (ℕ × Code)). is_none f) again.no_fault;
      fit = ap all_fit same ∙ all.fit;
      sizes = for_one.config;
      passes = for_one.passes;
      no_actors = refl;
      no_workers = refl;
    }
