-- Names in a script.
use Rattle.std.specs.Prelude.{ℕ, Bool, not, ◌&&◌, ◌||◌, ◌==◌, if◌then◌else◌, List, [], ◌∷◌, ◌++◌, length, nat_le, bytes_eq, Option, Some, None}
use Rattle.std.specs.List.{list_all, list_any}
use Rattle.script_text.specs.declared.code.Code.{Code}
use Rattle.script_text.specs.declared.code.Code.TheVariants as code

-- a small letter, a digit or a low line
abbrev pub is_name_byte : ℕ → Bool
is_name_byte b = (nat_le 97 b && nat_le b 122) || (nat_le 48 b && nat_le b 57) || b == 95

-- 1 to 32 of them
abbrev pub is_name : List ℕ → Bool
is_name word = nat_le 1 (length word) && nat_le (length word) 32 && list_all is_name_byte word

-- a word is among names
abbrev pub is_among : List (List ℕ) → List ℕ → Bool
is_among names word = list_any (bytes_eq word) names

-- names and one more, where it is not among them
abbrev pub add_name : List (List ℕ) → List ℕ → List (List ℕ)
add_name names name = if is_among names name then names else names ++ name ∷ []

-- a word that has to be a name
abbrev pub name_fault : List ℕ → Option Code
name_fault word = if is_name word then None else Some code.Name

-- a word that has to be a name which was not created above
abbrev pub new_name_fault : List (List ℕ) → List ℕ → Option Code
new_name_fault names word = if is_name word && not (is_among names word) then None else Some code.Name

-- a word that has to be a name which was created above
abbrev pub known_name_fault : List (List ℕ) → List ℕ → Option Code
known_name_fault names word = if is_among names word then None else Some code.Name

-- words that all have to be such names
abbrev pub known_names_fault : List (List ℕ) → List (List ℕ) → Option Code
known_names_fault names words = if list_all (is_among names) words then None else Some code.Name
