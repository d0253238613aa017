-- What names stand for, one after another.
use Rattle.std.proofs.Common.{◌≡◌, ℕ, ◌+◌, ◌<◌, ◌≤◌, List, [], ◌∷◌, ◌++◌, length, drop, get_or, Option, Some, None, refl, ap, sym, ◌∙◌, option_map, option_and_then, append_assoc, add-one, drop-cons}
use Rattle.std.proofs.lemmas.List.{append-nil, drop_all}
use Rattle.script_player.specs.declared.books.Known.{Known}
use Rattle.script_player.specs.Books.{Books, known_at, known_all}

-- these were found of the first names, so many
pub record HasFound (books : Books) (names : List (List ℕ)) (found : List Known) (i : ℕ) : Type 0 where
  pub rest : known_all books names ≡ option_map (λ others. found ++ others) (known_all books (drop i names))

same_map : (o : Option (List Known)) → o ≡ option_map (λ others. [] ++ others) o
same_map None = refl
same_map (Some xs) = refl

pub found_none : (books : Books) (names : List (List ℕ)) → HasFound books names [] 0
found_none books names = record { rest = same_map (known_all books names) }

-- what is found behind a name's own
first_of_all : (o : Option Known) (later : Option (List Known)) (found : List Known) (known : Known) → o ≡ Some known
    → option_map (λ others. found ++ others) (option_and_then (λ k. option_map (λ others. k ∷ others) later) o) ≡ option_map (λ others. (found ++ known ∷ []) ++ others) later
first_of_all o None found known e = rw e refl
first_of_all o (Some xs) found known e = rw e (ap Some (sym (append_assoc found (known ∷ []) xs)))

pub found_more : (books : Books) (names : List (List ℕ)) (found : List Known) (i : ℕ) (d : List ℕ) (known : Known) → HasFound books names found i → i < length names
    → known_at books (get_or names i d) ≡ Some known → HasFound books names (found ++ known ∷ []) (i + 1)
found_more books names found i d known h below at =
    let next : drop i names ≡ get_or names i d ∷ drop (i + 1) names = rw add-one (drop-cons names i d below) in
    record { rest = h.rest ∙ ap (λ (ns : List (List ℕ)). option_map (λ others. found ++ others) (known_all books ns)) next ∙ first_of_all (known_at books (get_or names i d)) (known_all books (drop (i + 1) names)) found known at }

none_first : (o : Option Known) (later : Option (List Known)) (found : List Known) → o ≡ None
    → option_map (λ others. found ++ others) (option_and_then (λ k. option_map (λ others. k ∷ others) later) o) ≡ None
none_first o later found e = rw e refl

pub found_stop : (books : Books) (names : List (List ℕ)) (found : List Known) (i : ℕ) (d : List ℕ) → HasFound books names found i → i < length names
    → known_at books (get_or names i d) ≡ None → None ≡ known_all books names
found_stop books names found i d h below at =
    let next : drop i names ≡ get_or names i d ∷ drop (i + 1) names = rw add-one (drop-cons names i d below) in
    sym (h.rest ∙ ap (λ (ns : List (List ℕ)). option_map (λ others. found ++ others) (known_all books ns)) next ∙ none_first (known_at books (get_or names i d)) (known_all books (drop (i + 1) names)) found at)

pub found_all : (books : Books) (names : List (List ℕ)) (found : List Known) (i : ℕ) → HasFound books names found i → length names ≤ i → Some found ≡ known_all books names
found_all books names found i h end =
    sym (h.rest ∙ ap (λ (ns : List (List ℕ)). option_map (λ others. found ++ others) (known_all books ns)) (drop_all i names end) ∙ ap Some (append-nil found))
