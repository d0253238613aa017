-- Decimal texts, and the number that is read back from one.
use Rattle.std.proofs.Common.{◌≡◌, ◌≢◌, ℕ, ◌^◌, ◌<◌, ◌≤◌, zero, suc, List, length, get_or, Result, Ok, sym, ap, subst, arith}
use Rattle.std.specs.Fmt.{decimal}
use Rattle.std.specs.Str.{IsUtf8}
use Rattle.std.specs.Str.Parse.{AllDigits, digits_value, ParsesUnsigned}
use Rattle.std.proofs.lemmas.Fmt.{digits_decimal, decimal_nonempty, decimal_digit, first_decimal, decimal-digits_value, parse-decimal, length-decimal-le, IsAscii-decimal}
use Rattle.std.proofs.lemmas.Grind.{common_steps}
use Rattle.std.proofs.lemmas.Result.{OkIff-at_ok}
use Rattle.std.proofs.lemmas.Str.{IsUtf8-from_ascii}
use Rattle.body_ident.specs.Text.{IsPlain}
use Rattle.std.proofs.lemmas.Str.Parse.{IsNumeralModel, numerals_by_value, tells_digits, parse_plain, not_in_digits}

own : IsNumeralModel (AllDigits 10) (digits_value 10)
own = numerals_by_value (AllDigits 10) tells_digits

-- no text of a number holds a colon, or begins with a plus
pub decimal_no_colon : (n : ℕ) → n < 2 ^ 64 → (i : ℕ) → i < length (decimal n) → get_or (decimal n) i 0 ≢ 58
decimal_no_colon n small i within = not_in_digits own (decimal n) 58 (digits_decimal own n small) (λ r. omega (arith, r)) i within

decimal_no_plus : (n : ℕ) → n < 2 ^ 64 → get_or (decimal n) 0 0 ≢ 43
decimal_no_plus n small = not_in_digits own (decimal n) 43 (digits_decimal own n small) (λ r. omega (arith, r)) 0 (decimal_nonempty n small)

-- a text of a number begins with a zero only where it is that zero
decimal_no_zeros : (n : ℕ) → n < 2 ^ 64 → get_or (decimal n) 0 0 ≡ 48 → length (decimal n) ≡ 1
decimal_no_zeros zero small first = ap length (decimal_digit 0 (omega arith))
decimal_no_zeros (suc n) small first = absurd (omega (arith, first_decimal (suc n) (omega arith) small))

-- what is not plain, or no text, is the text of no number
pub no_number_unless_plain : (bytes : List ℕ) (n end : ℕ) → ¬ (IsPlain bytes) → end < 2 ^ 64 → n < end → decimal n ≡ bytes → ⊥
no_number_unless_plain bytes n end not_plain small below e =
    let fits : n < 2 ^ 64 = omega arith in
    not_plain (subst IsPlain e (decimal_no_plus n fits, decimal_no_zeros n fits))

pub no_number_unless_text : (bytes : List ℕ) (n end : ℕ) → ¬ (IsUtf8 bytes) → end < 2 ^ 64 → n < end → decimal n ≡ bytes → ⊥
no_number_unless_text bytes n end not_text small below e =
    let fits : n < 2 ^ 64 = omega arith in
    not_text (subst IsUtf8 e (IsUtf8-from_ascii (decimal n) (IsAscii-decimal n fits)))

-- a text of a number is read as that number
pub number_of_parse : {E : Type 0} (bytes : List ℕ) (read : Result ℕ E) (n end : ℕ) → ParsesUnsigned 32 10 bytes read → end < 2 ^ 32 → n < end → decimal n ≡ bytes → read ≡ Ok n
number_of_parse bytes read n end parsed small below e = parse-decimal 32 n bytes read (omega arith) (omega arith) (sym e) parsed

-- a plain text that is read as a number is the text of that number
pub decimal_of_parse : {E : Type 0} (bytes : List ℕ) (read : Result ℕ E) (n : ℕ) → ParsesUnsigned 32 10 bytes read → read ≡ Ok n → IsPlain bytes → decimal n ≡ bytes
decimal_of_parse bytes read n parsed ok plain =
    let told = OkIff-at_ok read _ _ n (parse_plain own 32 bytes read parsed plain.0) ok in
    rw (told.1) (decimal-digits_value own bytes told.0.0 told.0.1 plain.1 (omega (arith, told.0.2)))

pub ruleset numbers = (no_number_unless_plain, no_number_unless_text, number_of_parse, decimal_of_parse)

-- how long the numbers of an id are at most
pub short_seq : (n : ℕ) → n < 2 ^ 8 → length (decimal n) ≤ 3
short_seq n small = length-decimal-le 3 n (omega arith) (omega arith) (omega arith)

pub short_index : (n : ℕ) → n < 2 ^ 23 → length (decimal n) ≤ 7
short_index n small = length-decimal-le 7 n (omega arith) (omega arith) (omega arith)

pub ruleset short_numbers = (short_seq, short_index, decimal_nonempty, common_steps)
