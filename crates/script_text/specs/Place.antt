-- The places of names.
use Rattle.std.specs.Prelude.{◌≡◌, ℕ, ◌+◌, Bool, true, if◌then◌else◌, List, [], ◌∷◌, length, map, nat_le, nat_lt, Option, Some, None, bytes_eq, Vec}
use Rattle.std.specs.List.{list_all}
use Rattle.std.specs.Ordering.{nat_cmp}
use Rattle.std.specs.Cmp.Lexicographic.{slice_cmp}
use Rattle.std.specs.BTreeMap.{BTreeMap, get_by}

-- the first name that equals a word, where the first name has the place n
abbrev pub place_from : ℕ → List (List ℕ) → List ℕ → Option ℕ
place_from n [] word = None
place_from n (name ∷ names) word = if bytes_eq word name then Some n else place_from (n + 1) names word

-- the place of the first name that equals a word; the first of all has the place 0
abbrev pub place_of : List (List ℕ) → List ℕ → Option ℕ
place_of names word = place_from 0 names word

-- an entry more among entries that ascend by their places
abbrev pub put_by_place : {K : Type 0} → K × ℕ → List (K × ℕ) → List (K × ℕ)
put_by_place e [] = e ∷ []
put_by_place e (f ∷ entries) = if nat_le e.1 f.1 then e ∷ f ∷ entries else f ∷ put_by_place e entries

-- entries in the order of their places
abbrev pub by_place : {K : Type 0} → List (K × ℕ) → List (K × ℕ)
by_place [] = []
by_place (e ∷ entries) = put_by_place e (by_place entries)

-- whether the places of entries are all below a number
abbrev pub are_below : {K : Type 0} → ℕ → List (K × ℕ) → Bool
are_below n entries = list_all (λ e. nat_lt e.1 n) entries

-- the names that a map has places of, in the order of these
abbrev pub names_of : {A : Type 0} → BTreeMap (Vec ℕ A) ℕ → List (List ℕ)
names_of places = map (λ e. e.0.items) (by_place places.entries)

-- what a map from names to places has at a word
abbrev pub noted_at : {A : Type 0} → BTreeMap (Vec ℕ A) ℕ → List ℕ → Option ℕ
noted_at places word = get_by (λ k. slice_cmp nat_cmp word k.items) places

-- a map has the place of each of its names, and no place is left out
pub record IsIndex {A : Type 0} (places : BTreeMap (Vec ℕ A) ℕ) : Type 0 where
  pub at : (word : List ℕ) → noted_at places word ≡ place_of (names_of places) word
  pub below : are_below (length places.entries) places.entries ≡ true
