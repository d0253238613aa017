-- The commands of a text that is a script, printed line by line, are read again as the same commands.
use Rattle.std.proofs.Common.{◌≡◌, ℕ, zero, suc, ◌+◌, ◌-◌, ◌<◌, ◌≤◌, eqb, leb, ltb, Bool, true, false, ◌&&◌, List, [], ◌∷◌, ◌++◌, length, map, All, slice_index, Option, Some, None, refl, ap, subst, ◌∙◌, inl, inr, arith, append_assoc, codes}
use Rattle.std.specs.List.{slice_split, flat_map, list_all, onto_first}
use Rattle.std.proofs.lemmas.Bool.{cases_Bool}
use Rattle.std.proofs.lemmas.Bool.Decides.{nat_tests}
use Rattle.std.proofs.lemmas.List.{append-nil}
use Rattle.std.proofs.lemmas.List.Splits.{slice_split_none, slice_split_at}
use Rattle.script_text.specs.declared.limits.TheConstants.{MAX_LINES}
use Rattle.script_text.specs.declared.code.Code.{Code}
use Rattle.script_text.specs.Fault.{first_of}
use Rattle.script_text.specs.Lines.{without_return, lines_of, is_text_byte, text_fault, some_word, words_of, begins_comment, command_in, command_of, some_command, commands_of}
use Rattle.script_text.specs.Above.{Above, after_command}
use Rattle.script_text.specs.Grammar.{command_fault}
use Rattle.script_text.specs.Line.{long_fault, line_fault, at_line, end_fault, lines_fault}
use Rattle.script_text.specs.Printed.{spaced, line_text, lines_text}
use Rattle.script_text.proofs.Cuts.{lines_cut}

both : (a b : Bool) → (a && b) ≡ true → (a ≡ true) × (b ≡ true)
both a b h = grind arith

and_true : (a b : Bool) → a ≡ true → b ≡ true → (a && b) ≡ true
and_true a b h k = grind arith

-- a byte of a word: neither a space nor one that is not allowed
abbrev pub is_word_byte : ℕ → Bool
is_word_byte b = leb 33 b && leb b 126

abbrev pub is_plain : List ℕ → Bool
is_plain [] = false
is_plain (b ∷ word) = list_all is_word_byte (b ∷ word)

-- the words of a command: there are some, and the first begins no comment
pub record IsPlainLine (words : List (List ℕ)) : Type 0 where
  pub some : 0 < length words
  pub plain : list_all is_plain words ≡ true
  pub command : command_in words ≡ words

-- a byte in front of the first part
onto_plain : (b : ℕ) (pieces : List (List ℕ)) → is_word_byte b ≡ true → list_all (list_all is_word_byte) pieces ≡ true
    → list_all (list_all is_word_byte) (onto_first b pieces) ≡ true
onto_plain b [] good all = rw good refl
onto_plain b (piece ∷ pieces) good all = rw good all

-- the parts of a line between its spaces
parts_plain : (line : List ℕ) → list_all is_text_byte line ≡ true → list_all (list_all is_word_byte) (slice_split (λ b. eqb b 32) line) ≡ true
parts_plain [] h = refl
parts_plain (b ∷ line) h =
    let p = both (is_text_byte b) (list_all is_text_byte line) h in
    let rest = parts_plain line p.1 in
    elim (cases_Bool (eqb b 32)) [
      | inl space ↦ rw space rest
      | inr other ↦ rw other (onto_plain b (slice_split (λ b. eqb b 32) line) (grind (arith, nat_tests)) rest)
    ]

-- of these, those that are words
words_plain : (pieces : List (List ℕ)) → list_all (list_all is_word_byte) pieces ≡ true → list_all is_plain (flat_map some_word pieces) ≡ true
words_plain [] h = refl
words_plain ([] ∷ pieces) h = words_plain pieces h
words_plain ((b ∷ word) ∷ pieces) h =
    let p = both (list_all is_word_byte (b ∷ word)) (list_all (list_all is_word_byte) pieces) h in
    rw p.0 (words_plain pieces p.1)

-- the words of a line without a fault of text
line_plain : (line : List ℕ) → text_fault line ≡ None → list_all is_plain (words_of line) ≡ true
line_plain line h = words_plain (slice_split (λ b. eqb b 32) line) (parts_plain line (grind arith))

-- what is no space or newline
no_mark : (mark : ℕ) → mark < 33 → (word : List ℕ) → list_all is_word_byte word ≡ true → All (λ b. eqb b mark ≡ false) word
no_mark mark low [] h k d short = absurd (omega (arith, short))
no_mark mark low (b ∷ word) h zero d short = grind (arith, nat_tests)
no_mark mark low (b ∷ word) h (suc k) d short =
    let p = both (is_word_byte b) (list_all is_word_byte word) h in
    no_mark mark low word p.1 k d (omega (arith, short))

is_word : (word : List ℕ) → is_plain word ≡ true → (some_word word ≡ word ∷ []) × (list_all is_word_byte word ≡ true)
is_word [] h = absurd cc
is_word (b ∷ word) h = (refl, h)

-- words in a line are read again
words_again : (word : List ℕ) (words : List (List ℕ)) → is_plain word ≡ true → list_all is_plain words ≡ true → words_of (word ++ spaced words) ≡ word ∷ words
words_again word [] good all =
    let w = is_word word good in
    ap words_of (append-nil word) ∙ (ap (flat_map some_word) (slice_split_none (λ b. eqb b 32) word (no_mark 32 (omega arith) word w.1)) ∙ (append-nil (some_word word) ∙ w.0))
words_again word (next ∷ words) good all =
    let w = is_word word good in
    let p = both (is_plain next) (list_all is_plain words) all in
    ap (flat_map some_word) (slice_split_at (λ b. eqb b 32) word 32 (next ++ spaced words) (no_mark 32 (omega arith) word w.1) refl)
    ∙ (ap (λ (ws : List (List ℕ)). ws ++ words_of (next ++ spaced words)) w.0 ∙ ap (λ (ws : List (List ℕ)). word ∷ ws) (words_again next words p.0 p.1))

-- so is the command of a line
command_again : (words : List (List ℕ)) → IsPlainLine words → command_of (line_text words) ≡ words
command_again [] plain = absurd (omega (arith, plain.some))
command_again (word ∷ words) plain =
    let p = both (is_plain word) (list_all is_plain words) plain.plain in
    ap command_in (words_again word words p.0 p.1) ∙ plain.command

list_all_append : (p : ℕ → Bool) (xs ys : List ℕ) → list_all p xs ≡ true → list_all p ys ≡ true → list_all p (xs ++ ys) ≡ true
list_all_append p [] ys h k = k
list_all_append p (x ∷ xs) ys h k =
    let q = both (p x) (list_all p xs) h in
    and_true _ _ q.0 (list_all_append p xs ys q.1 k)

bytes_allowed : (word : List ℕ) → list_all is_word_byte word ≡ true → list_all is_text_byte word ≡ true
bytes_allowed [] h = refl
bytes_allowed (b ∷ word) h =
    let p = both (is_word_byte b) (list_all is_word_byte word) h in
    and_true _ _ (grind (arith, nat_tests)) (bytes_allowed word p.1)

-- a line of words has no byte that is not allowed
spaced_allowed : (words : List (List ℕ)) → list_all is_plain words ≡ true → list_all is_text_byte (spaced words) ≡ true
spaced_allowed [] h = refl
spaced_allowed (word ∷ words) h =
    let p = both (is_plain word) (list_all is_plain words) h in
    list_all_append is_text_byte (32 ∷ word) (spaced words) (bytes_allowed word (is_word word p.0).1) (spaced_allowed words p.1)

line_allowed : (words : List (List ℕ)) → list_all is_plain words ≡ true → list_all is_text_byte (line_text words) ≡ true
line_allowed [] h = refl
line_allowed (word ∷ words) h =
    let p = both (is_plain word) (list_all is_plain words) h in
    list_all_append is_text_byte word (spaced words) (bytes_allowed word (is_word word p.0).1) (spaced_allowed words p.1)

-- no line ends with a carriage return
no_return : (line : List ℕ) (k : ℕ) → list_all is_text_byte line ≡ true → eqb (slice_index line k) 13 ≡ false
no_return [] k h = refl
no_return (b ∷ line) zero h = grind (arith, nat_tests)
no_return (b ∷ line) (suc k) h = let p = both (is_text_byte b) (list_all is_text_byte line) h in no_return line k p.1

no_newline : (line : List ℕ) → list_all is_text_byte line ≡ true → All (λ b. eqb b 10 ≡ false) line
no_newline [] h k d short = absurd (omega (arith, short))
no_newline (b ∷ line) h zero d short = grind (arith, nat_tests)
no_newline (b ∷ line) h (suc k) d short =
    let p = both (is_text_byte b) (list_all is_text_byte line) h in
    no_newline line p.1 k d (omega (arith, short))

whole_line : (line : List ℕ) → list_all is_text_byte line ≡ true → without_return line ≡ line
whole_line line h = rw (no_return line (length line - 1) h) refl

-- the words of commands, all of which are plain
pub data ArePlain : List (List (List ℕ)) → Type 0 where
  none : ArePlain []
  more : {words : List (List ℕ)} {rest : List (List (List ℕ))} → IsPlainLine words → ArePlain rest → ArePlain (words ∷ rest)

-- the lines of printed commands
pub lines_again : (commands : List (List (List ℕ))) → ArePlain commands → lines_of (lines_text commands) ≡ map line_text commands
lines_again [] all = refl
lines_again (words ∷ commands) (more plain all) =
    let allowed = line_allowed words plain.plain in
    lines_cut (lines_text (words ∷ commands)) (line_text words) (lines_text commands) (no_newline (line_text words) allowed) (append_assoc (line_text words) (codes "\n") (lines_text commands))
    ∙ (ap (λ (line : List ℕ). line ∷ lines_of (lines_text commands)) (whole_line (line_text words) allowed)
    ∙ ap (λ (lines : List (List ℕ)). line_text words ∷ lines) (lines_again commands all))

some_again : (words : List (List ℕ)) → 0 < length words → some_command words ≡ words ∷ []
some_again [] h = absurd (omega (arith, h))
some_again (word ∷ words) h = refl

-- printed commands are read again
pub commands_again : (commands : List (List (List ℕ))) → ArePlain commands → commands_of (map line_text commands) ≡ commands
commands_again [] all = refl
commands_again (words ∷ commands) (more plain all) =
    rw (command_again words plain, some_again words plain.some) (ap (λ (rest : List (List (List ℕ))). words ∷ rest) (commands_again commands all))

first_none : (a b c : Option Code) → first_of (a ∷ b ∷ c ∷ []) ≡ None → (a ≡ None) × (b ≡ None) × (c ≡ None)
first_none (Some x) b c h = absurd cc
first_none None (Some x) c h = absurd cc
first_none None None (Some x) h = absurd cc
first_none None None None h = (refl, refl, refl)

at_line_none : (number : ℕ) (fault : Option Code) (below : Option (ℕ × Code)) → at_line number fault below ≡ None → (fault ≡ None) × (below ≡ None)
at_line_none number (Some c) below h = absurd cc
at_line_none number None below h = (refl, h)

-- a line that is not further down is not too far down
earlier : (n m : ℕ) → m ≤ n → long_fault n ≡ None → long_fault m ≡ None
earlier n m less h =
    elim (cases_Bool (ltb MAX_LINES m)) [
      | inl long ↦ absurd (let further : ltb MAX_LINES n ≡ true = grind (arith, nat_tests) in let e = rw further at h in cc)
      | inr short ↦ rw short refl
    ]

-- what is read again of some lines: their commands are plain, and, printed, have no fault
pub record ReadsAgain (above : Above) (number : ℕ) (commands : List (List (List ℕ))) : Type 0 where
  pub plain : ArePlain commands
  pub no_fault : lines_fault above number (map line_text commands) ≡ None

ended : (above : Above) (n m : ℕ) → end_fault above n ≡ None → end_fault above m ≡ None
ended above n m h = elim (cases_Bool above.started) [
  | inl started ↦ rw started refl
  | inr not_yet ↦ absurd (let e = rw not_yet at h in cc)
]

-- a line's command, where there is one, is all its words
all_words : (words : List (List ℕ)) (word : List ℕ) (rest : List (List ℕ)) → command_in words ≡ word ∷ rest → words ≡ word ∷ rest
all_words [] word rest h = absurd cc
all_words (first ∷ words) word rest h = elim (cases_Bool (begins_comment first)) [
  | inl comment ↦ absurd (let e = rw comment at h in cc)
  | inr command ↦ rw command at h
]

plain_command : (line word : List ℕ) (rest : List (List ℕ)) → text_fault line ≡ None → command_of line ≡ word ∷ rest → IsPlainLine (word ∷ rest)
plain_command line word rest allowed e =
    let all : words_of line ≡ word ∷ rest = all_words (words_of line) word rest e in
    record {
      some = omega arith;
      plain = subst (λ (ws : List (List ℕ)). list_all is_plain ws ≡ true) all (line_plain line allowed);
      command = subst (λ (ws : List (List ℕ)). command_in ws ≡ word ∷ rest) all e;
    }

-- the line of a command has no fault where the line that it was read from had none, further down
no_line_fault : (above : Above) (m : ℕ) (words : List (List ℕ)) → IsPlainLine words → long_fault m ≡ None → command_fault above words ≡ None
    → line_fault m above (line_text words) ≡ None
no_line_fault above m words plain short good =
    rw (short, line_allowed words plain.plain, command_again words plain, good) refl

-- a line and the lines below it, of which this is known from any line on
line_again : (above : Above) (n m : ℕ) (line : List ℕ) (lines words : List (List ℕ)) → command_of line ≡ words → m ≤ n
    → line_fault n above line ≡ None → lines_fault (after_command above (command_of line)) (n + 1) lines ≡ None
    → ((next : Above) (k : ℕ) → k ≤ n + 1 → lines_fault next (n + 1) lines ≡ None → ReadsAgain next k (commands_of lines))
    → ReadsAgain above m (some_command words ++ commands_of lines)
line_again above n m line lines [] e less here below rest =
    rest above m (omega arith) (subst (λ (ws : List (List ℕ)). lines_fault (after_command above ws) (n + 1) lines ≡ None) e below)
line_again above n m line lines (word ∷ words) e less here below rest =
    let no_fault = first_none (long_fault n) (text_fault line) (command_fault above (command_of line)) here in
    let plain = plain_command line word words no_fault.1 e in
    let further : m + 1 ≤ n + 1 = omega (arith, less) in
    let again = rest (after_command above (word ∷ words)) (m + 1) further (subst (λ (ws : List (List ℕ)). lines_fault (after_command above ws) (n + 1) lines ≡ None) e below) in
    let good : command_fault above (word ∷ words) ≡ None = subst (λ (ws : List (List ℕ)). command_fault above ws ≡ None) e no_fault.2 in
    record {
      plain = more plain again.plain;
      no_fault = rw (no_line_fault above m (word ∷ words) plain (earlier n m less no_fault.0) good, command_again (word ∷ words) plain) again.no_fault;
    }

-- lines without a fault, printed command by command from a line on that is not further down
pub reads_again : (above : Above) (n m : ℕ) (lines : List (List ℕ)) → m ≤ n → lines_fault above n lines ≡ None → ReadsAgain above m (commands_of lines)
reads_again above n m [] less h = record { plain = none; no_fault = ended above n m h }
reads_again above n m (line ∷ lines) less h =
    let here = at_line_none n (line_fault n above line) _ h in
    line_again above n m line lines (command_of line) refl less here.0 here.1 (λ next k few none. reads_again next (n + 1) k lines few none)
