-- Numbers in a script.
use Rattle.std.specs.Prelude.{ℕ, Bool, false, not, ◌&&◌, ◌||◌, ◌==◌, if◌then◌else◌, List, [], ◌∷◌, length, Option, Some, None, ℤ, pos, negsuc, neg_ℤ, ◌≤ℤ◌, ◌≤◌, ◌≡◌, min, suc, int_le, nat_le, bytes_eq, codes}
use Rattle.std.specs.List.{list_all}
use Rattle.std.specs.Fmt.{decimal, signed_decimal}
use Rattle.std.specs.Str.Parse.{digits_value}
use Rattle.script_text.specs.declared.code.Code.{Code}
use Rattle.script_text.specs.declared.code.Code.TheVariants as code

abbrev pub is_digit : ℕ → Bool
is_digit c = nat_le 48 c && nat_le c 57

-- the digit 0, or digits of which the first is not 0
abbrev pub is_natural : List ℕ → Bool
is_natural [] = false
is_natural (d ∷ ds) = list_all is_digit (d ∷ ds) && (not (d == 48) || length ds == 0)

-- such digits, or a minus and such digits but the lone 0
abbrev pub is_number : List ℕ → Bool
is_number [] = false
is_number (c ∷ ds) = if c == 45 then is_natural ds && not (bytes_eq ds (codes "0")) else is_natural (c ∷ ds)

-- what a number's word stands for
abbrev pub number_of : List ℕ → ℤ
number_of [] = pos 0
number_of (c ∷ ds) = if c == 45 then neg_ℤ (pos (digits_value 10 ds)) else pos (digits_value 10 (c ∷ ds))

-- a word that has to be a number from lo to hi
abbrev pub number_fault : ℤ → ℤ → List ℕ → Option Code
number_fault lo hi word =
    if is_number word
    then (if int_le lo (number_of word) && int_le (number_of word) hi then None else Some code.Range)
    else Some code.Number

-- a number, cut off at a bound on both sides
abbrev pub cut_off : ℕ → ℤ → ℤ
cut_off far (pos n) = pos (min n far)
cut_off far (negsuc n) = neg_ℤ (pos (min (suc n) far))

-- the word is the text of this number, which lies from lo to hi
pub record Spells (word : List ℕ) (lo hi n : ℤ) : Type 0 where
  pub text : word ≡ signed_decimal n
  pub value : n ≡ number_of word
  pub low : lo ≤ℤ n
  pub high : n ≤ℤ hi

-- the same of a number without a minus
pub record SpellsNatural (word : List ℕ) (lo hi n : ℕ) : Type 0 where
  pub text : word ≡ decimal n
  pub value : pos n ≡ number_of word
  pub low : lo ≤ n
  pub high : n ≤ hi
