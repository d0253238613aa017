-- Digits and what they stand for.
use Rattle.std.proofs.Common.{◌≡◌, ◌≤◌, ◌+◌, ◌*◌, ℕ, ◌<◌, Bool, true, ◌&&◌, length, List, [], ◌∷◌, get_or, take, arith}
use Rattle.std.specs.List.{list_all}
use Rattle.std.specs.Str.Parse.{AllDigits, digits_value}
use Rattle.std.proofs.lemmas.Bool.Decides.{nat_tests}
use Rattle.std.proofs.lemmas.Str.{digit_value_digit}
use Rattle.std.proofs.lemmas.Str.Parse.{digit_at, tells_digits}
use Rattle.std.proofs.lemmas.Int.Digits.{digits_value_more}
use Rattle.script_text.specs.Number.{is_digit}

digit_range : (c : ℕ) → is_digit c ≡ true → (48 ≤ c) × (c ≤ 57)
digit_range c h = grind (arith, nat_tests)

both : (a b : Bool) → (a && b) ≡ true → (a ≡ true) × (b ≡ true)
both a b h = grind arith

pub all_digits : (ds : List ℕ) → list_all is_digit ds ≡ true → AllDigits 10 ds
all_digits [] h = tells_digits.empty
all_digits (c ∷ cs) h = let p = both (is_digit c) (list_all is_digit cs) h in tells_digits.more c cs (digit_range c p.0) (all_digits cs p.1)

-- one digit more
pub value_more : (ds : List ℕ) (i : ℕ) → list_all is_digit ds ≡ true → i < length ds → (48 ≤ get_or ds i 0) × (digits_value 10 (take (i + 1) ds) + 48 ≡ digits_value 10 (take i ds) * 10 + get_or ds i 0)
value_more ds i h lt =
    let range = digit_at ds i (all_digits ds h) lt in
    let one = digit_value_digit (get_or ds i 0) range in
    (range.0, omega (arith, digits_value_more 10 ds i lt))
