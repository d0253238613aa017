-- The commands of a script fit its world.
use Rattle.std.proofs.Common.{◌≡◌, ℕ, ◌+◌, ◌<◌, ◌≤◌, ◌^◌, Bool, true, false, ◌&&◌, cond, eqb, ltb, leb, List, [], ◌∷◌, ◌++◌, map, length, Option, Some, None, is_none, pos, nat_abs, refl, subst, ◌∙◌, inl, inr, arith}
use Rattle.std.specs.Bool.{⊤}
use Rattle.std.specs.Char.{digit_value}
use Rattle.std.specs.Fmt.{decimal}
use Rattle.std.specs.Str.Parse.{digits_value, IsNumeral}
use Rattle.std.proofs.lemmas.Fmt.{decimal_is_IsNumeral}
use Rattle.std.proofs.lemmas.Bool.{cases_Bool, eqb-true}
use Rattle.std.proofs.lemmas.Bool.Decides.{nat_tests}
use Rattle.script_text.specs.declared.code.Code.{Code}
use Rattle.script_text.specs.declared.code.Code.TheVariants.{Count, Range}
use Rattle.script_text.specs.declared.command.Command.{Command}
use Rattle.script_text.specs.declared.command.Command.TheVariants.{Create, Add, Prepare}
use Rattle.script_text.specs.declared.script.Script.{Script}
use Rattle.script_text.specs.Above.{Above, opening, after_command}
use Rattle.script_text.specs.Command.{box_words, world_words, command_words}
use Rattle.script_text.specs.Fault.{first_of}
use Rattle.script_text.specs.Fields.{count_fault, layer_fault}
use Rattle.script_text.specs.Fitting.{numbers_fit, all_fit}
use Rattle.script_text.specs.Grammar.{create_fault, bodies_fault, prepare_fault, command_fault}
use Rattle.script_text.specs.Keyword.{keyword_of}
use Rattle.script_text.specs.Line.{long_fault, at_line, lines_fault, script_fault}
use Rattle.script_text.specs.Lines.{lines_of, text_fault, command_of, some_command, commands_of}
use Rattle.script_text.specs.Name.{name_fault, new_name_fault}
use Rattle.script_text.specs.Number.{number_of, number_fault}
use Rattle.script_text.specs.Printed.{words_below, text_of}
use Rattle.script_text.proofs.Drafts.{above_after, after_words}
use Rattle.script_player.specs.Fitting.{FitsIn, AllFitIn}

-- ---- lines without a fault

-- none of these commands, one below another, has a fault
abbrev AreGood : Above → List (List (List ℕ)) → Type 0
AreGood above [] = ⊤
AreGood above (words ∷ later) = (command_fault above words ≡ None) × AreGood (after_command above words) later

good_line : (number : ℕ) (long text command : Option Code) (below : Option (ℕ × Code)) → at_line number (first_of (long ∷ text ∷ command ∷ [])) below ≡ None
    → (command ≡ None) × (below ≡ None)
good_line number (Some c) text command below h = absurd cc
good_line number None (Some c) command below h = absurd cc
good_line number None None (Some c) below h = absurd cc
good_line number None None None below h = (refl, h)

good_more : (above : Above) (words : List (List ℕ)) (later : List (List (List ℕ))) → command_fault above words ≡ None → AreGood (after_command above words) later
    → AreGood above (some_command words ++ later)
good_more above [] later good rest = rest
good_more above (word ∷ words) later good rest = (good, rest)

good_lines : (lines : List (List ℕ)) (above : Above) (number : ℕ) → lines_fault above number lines ≡ None → AreGood above (commands_of lines)
good_lines [] above number h = tt
good_lines (line ∷ lines) above number h =
    let words = command_of line in
    let below = lines_fault (after_command above words) (number + 1) lines in
    let good = good_line number (long_fault number) (text_fault line) (command_fault above words) below h in
    good_more above words (commands_of lines) good.0 (good_lines lines (after_command above words) (number + 1) good.1)

-- ---- numbers

value_of_numeral : (word : List ℕ) (n : ℕ) → IsNumeral 10 word → digits_value 10 word ≡ n → nat_abs (number_of word) ≡ n
value_of_numeral [] n is e = absurd (omega (arith, is.0))
value_of_numeral (c ∷ ds) n is e = elim (cases_Bool (eqb c 45)) [
  | inl minus ↦
      let low : digit_value 45 < 10 = subst (λ (k : ℕ). digit_value k < 10) (eqb-true c 45 minus) is.1.0 in
      absurd (omega (arith, low))
  | inr digit ↦ rw digit e
]

value_of_decimal : (n : ℕ) → n < 2 ^ 64 → nat_abs (number_of (decimal n)) ≡ n
value_of_decimal n small = let d = decimal_is_IsNumeral n small in value_of_numeral (decimal n) n d.0 d.1

-- ---- what commands name

first_none : (a : Option Code) (later : List (Option Code)) → first_of (a ∷ later) ≡ None → (a ≡ None) × (first_of later ≡ None)
first_none (Some c) later h = absurd cc
first_none None later h = (refl, h)

below_limit : (b : Bool) → cond b None (Some Range) ≡ None → b ≡ true
below_limit true h = refl
below_limit false h = absurd cc

within_count : (b : Bool) → cond b None (Some Count) ≡ None → b ≡ true
within_count true h = refl
within_count false h = absurd cc

layer_below : (layers : ℕ) (word : List ℕ) → layer_fault layers word ≡ None → ltb (nat_abs (number_of word)) layers ≡ true
layer_below layers word h =
    below_limit (ltb (nat_abs (number_of word)) layers) (first_none _ [] (first_none (number_fault (pos 0) (pos 7) word) _ h).1).0

create_layer : (names : List (List ℕ)) (layers : ℕ) (name word : List ℕ) (rest : List (List ℕ)) → create_fault names layers (name ∷ word ∷ rest) ≡ None
    → ltb (nat_abs (number_of word)) layers ≡ true
create_layer names layers name word (x0 ∷ y0 ∷ z0 ∷ x1 ∷ y1 ∷ z1 ∷ user ∷ []) h =
    layer_below layers word (first_none (layer_fault layers word) _ (first_none (new_name_fault names name) _ h).1).0
create_layer names layers name word _ h = absurd cc

both : (a b : Bool) → (a && b) ≡ true → (a ≡ true) × (b ≡ true)
both a b h = grind arith

few : (lo most : ℕ) (args : List (List ℕ)) → count_fault lo most args ≡ None → length args ≤ most
few lo most args h =
    let two = both (leb lo (length args)) (leb (length args) most) (within_count (leb lo (length args) && leb (length args) most) h) in
    grind (arith, nat_tests)

-- the layer's word is that of the layer
of_layer : (layers layer : ℕ) → layer < 2 ^ 64 → ltb (nat_abs (number_of (decimal layer))) layers ≡ true → layer < layers
of_layer layers layer small below = let value = value_of_decimal layer small in grind (arith, nat_tests)

fits_in : (above : Above) (c : Command) → above.started ≡ true → numbers_fit c ≡ true → command_fault above (command_words c) ≡ None → FitsIn above.layers above.bodies c
unfolding keyword_of
fits_in above (Create name layer bounds user) started fits good =
    let fit = both (ltb layer 4294967296) (ltb user 4294967296) fits in
    let small : layer < 2 ^ 64 = grind (arith, nat_tests) in
    of_layer above.layers layer small (create_layer above.names above.layers name (decimal layer) (box_words bounds ++ decimal user ∷ []) (rw started at good))
fits_in above (Add names) started fits good =
    let h : bodies_fault above.names above.bodies names ≡ None = rw started at good in
    few 1 above.bodies names (first_none (count_fault 1 above.bodies names) _ h).0
fits_in above (Prepare batch layer names) started fits good =
    let h : prepare_fault above.names above.bodies above.layers (batch ∷ decimal layer ∷ names) ≡ None = rw started at good in
    let small : layer < 2 ^ 64 = grind (arith, nat_tests) in
    let counted = first_none (count_fault 0 above.bodies names) _ h in
    let named = first_none (name_fault batch) _ counted.1 in
    (of_layer above.layers layer small (layer_below above.layers (decimal layer) (first_none (layer_fault above.layers (decimal layer)) _ named.1).0), few 0 above.bodies names counted.0)
fits_in above c started fits good = tt

same_world : (above : Above) (c : Command) → ((above_after above c).started ≡ above.started) × (((above_after above c).layers ≡ above.layers) × ((above_after above c).bodies ≡ above.bodies))
same_world above (Create name layer bounds user) = (refl, (refl, refl))
same_world above c = (refl, (refl, refl))

all_fit_in : (commands : List Command) (above : Above) → above.started ≡ true → all_fit commands ≡ true → AreGood above (map command_words commands)
    → AllFitIn above.layers above.bodies commands
all_fit_in [] above started fits good = tt
all_fit_in (c ∷ commands) above started fits good =
    let fit = both (numbers_fit c) (all_fit commands) fits in
    let next = after_words above c (command_words c) refl in
    let same = same_world above c in
    let later : AreGood (above_after above c) (map command_words commands) = subst (λ (a : Above). AreGood a (map command_words commands)) next good.1 in
    let rest = all_fit_in commands (above_after above c) (same.0 ∙ started) fit.1 later in
    let layers : AllFitIn above.layers (above_after above c).bodies commands = subst (λ (n : ℕ). AllFitIn n (above_after above c).bodies commands) same.1.0 rest in
    (fits_in above c started fit.0 good.0, subst (λ (n : ℕ). AllFitIn above.layers n commands) same.1.1 layers)

none_of : {X : Type 0} (o : Option X) → is_none o ≡ true → o ≡ None
none_of None h = refl
none_of (Some x) h = absurd cc

pub script_fits : (script : Script) → AllFitIn script.world.layers script.world.bodies script.lines
script_fits script =
    let text = text_of script.world script.lines in
    let good : AreGood opening (words_below script.world script.lines) =
    subst (AreGood opening) script.sound.words (good_lines (lines_of text) opening 1 (none_of (script_fault text) script.sound.no_fault)) in
    let above = after_command opening (world_words script.world) in
    let layers : above.layers ≡ script.world.layers = value_of_decimal script.world.layers (omega (arith, script.sound.sizes.layers)) in
    let bodies : above.bodies ≡ script.world.bodies = value_of_decimal script.world.bodies (omega (arith, script.sound.sizes.bodies)) in
    let first = subst (λ (n : ℕ). AllFitIn n above.bodies script.lines) layers (all_fit_in script.lines above refl script.sound.fit good.1) in
    subst (λ (n : ℕ). AllFitIn script.world.layers n script.lines) bodies first
