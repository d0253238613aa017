-- Names of the books that stand for indexes of the world.
use Rattle.std.proofs.Common.{◌≡◌, ℕ, ◌<◌, Bool, true, false, cond, List, [], ◌∷◌, ◌++◌, Option, Some, None, option_and_then, refl, subst}
use Rattle.std.specs.Prelude.{All, IfSome, option_map}
use Rattle.std.specs.List.{slice_get}
use Rattle.std.proofs.lemmas.Option.{slice_get_within, get_or_from_slice_get, same_Some}
use Rattle.std.proofs.lemmas.List.Elements.{All-nil, All-cons, All-append}
use Rattle.script_text.specs.Name.{is_among}
use Rattle.script_text.specs.Place.{place_of}
use Rattle.script_player.specs.declared.books.Known.{Known}
use Rattle.script_player.specs.Books.{Books, with_name, known_at, known_all}
use Rattle.world_host.specs.Shown.{AreNamesBelow}

abbrev IsBelow : ℕ → Known → Type 0
IsBelow bodies k = k.id.index < bodies

-- one that is kept is below
found-below : (bodies : ℕ) (known : List (Option Known)) (k : Known) (o : Option ℕ) → AreNamesBelow bodies known → option_and_then (λ place. option_and_then (λ own. own) (slice_get known place)) o ≡ Some k → IsBelow bodies k
found-below bodies known k None below e = absurd cc
found-below bodies known k (Some place) below e = at (slice_get known place) refl e
  where
    at : (o : Option (Option Known)) → slice_get known place ≡ o → option_and_then (λ own. own) o ≡ Some k → IsBelow bodies k
    at None is e = absurd cc
    at (Some None) is e = absurd cc
    at (Some (Some own)) is e =
        let own_is : own ≡ k = same_Some own k e in
        let within = slice_get_within known place (Some own) is in
        let stands = get_or_from_slice_get known place (Some own) None is in
        let low = subst (λ (o : Option Known). IfSome o (IsBelow bodies)) stands (below place None within) in
        subst (IsBelow bodies) own_is low

pub known-below : (bodies : ℕ) (books : Books) (name : List ℕ) (k : Known) → AreNamesBelow bodies books.known → known_at books name ≡ Some k → k.id.index < bodies
known-below bodies books name k below e = found-below bodies books.known k (place_of books.names name) below e

-- and so are all of several
all-below : (bodies : ℕ) (books : Books) (name : List ℕ) (names : List (List ℕ)) (ks : List Known) (o : Option Known) (rest : Option (List Known)) → AreNamesBelow bodies books.known → known_at books name ≡ o → known_all books names ≡ rest
    → ((others : List Known) → rest ≡ Some others → All (IsBelow bodies) others)
    → option_and_then (λ known. option_map (λ others. known ∷ others) rest) o ≡ Some ks → All (IsBelow bodies) ks
all-below bodies books name names ks None rest below is all later e = absurd cc
all-below bodies books name names ks (Some k) None below is all later e = absurd cc
all-below bodies books name names ks (Some k) (Some others) below is all later e =
    subst (All (IsBelow bodies)) (same_Some (k ∷ others) ks e) (All-cons (IsBelow bodies) k others (known-below bodies books name k below is) (later others refl))

pub known-all-below : (bodies : ℕ) (books : Books) (names : List (List ℕ)) (ks : List Known) → AreNamesBelow bodies books.known → known_all books names ≡ Some ks → All (λ k. k.id.index < bodies) ks
known-all-below bodies books [] ks below e = subst (All (IsBelow bodies)) (same_Some [] ks e) (All-nil (IsBelow bodies))
known-all-below bodies books (name ∷ names) ks below e =
    all-below bodies books name names ks (known_at books name) (known_all books names) below refl refl (λ others is. known-all-below bodies books names others below is) e

-- a name more
kept-below : (bodies : ℕ) (known : List (Option Known)) (own : Option Known) (among : Bool) → AreNamesBelow bodies known → IfSome own (IsBelow bodies) → AreNamesBelow bodies (cond among known (known ++ own ∷ []))
kept-below bodies known own true below low = below
kept-below bodies known own false below low =
    let P : Option Known → Type 0 = λ o. IfSome o (IsBelow bodies) in
    All-append P known (own ∷ []) below (All-cons P own [] low (All-nil P))

pub names-below : (bodies : ℕ) (books : Books) (name : List ℕ) (own : Option Known) → AreNamesBelow bodies books.known → IfSome own (λ k. k.id.index < bodies) → AreNamesBelow bodies (with_name books name own).known
names-below bodies books name own below low = kept-below bodies books.known own (is_among books.names name) below low
