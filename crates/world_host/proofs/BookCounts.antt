-- How many slots and nodes the books keep after a batch comes to them or is spent.
use Rattle.std.proofs.Common.{◌≡◌, ℕ, ◌+◌, ◌<◌, ◌==◌, Bool, cond, List, [], ◌∷◌, ◌++◌, length, Option, Some, None, bytes_eq, inl, inr, refl, ap, sym, ◌∙◌, arith, option_and_then}
use Rattle.std.specs.Prelude.{sum_by}
use Rattle.std.specs.List.{remove, slice_get, position}
use Rattle.std.specs.Option.{option_map_or}
use Rattle.std.proofs.lemmas.List.Quantifiers.{position-Some}
use Rattle.std.proofs.lemmas.List.Sums.{sum_by-append, sum_by-cons, sum_by-remove}
use Rattle.std.proofs.lemmas.Option.{none-some, slice_get_cases, slice_get_within, get_or_from_slice_get}
use Rattle.script_player.specs.declared.books.Batch.{Batch}
use Rattle.script_player.specs.declared.books.Attached.{Attached}
use Rattle.script_player.specs.Books.{Books, slots_kept, nodes_kept, batch_place, batch_named, spent, with_batch, with_attached}
use Rattle.script_player.proofs.Spending.{StandsAt}

-- 1 where a batch of the one layer keeps a slot of the other
abbrev pub keeps : ℕ → ℕ → ℕ
keeps own layer = cond (own == layer) 1 0

last-sum : {X : Type 0} (f : X → ℕ) (xs : List X) (x : X) → sum_by f (xs ++ x ∷ []) ≡ sum_by f xs + f x
last-sum f xs x =
    let parts = sum_by-append f xs (x ∷ []) in
    let one = sum_by-cons f x [] in
    omega (arith, parts, one)

pub batch-slots : (books : Books) (batch : Batch) (layer : ℕ) → slots_kept (with_batch books batch) layer ≡ slots_kept books layer + keeps batch.layer layer
batch-slots books batch layer = let sum = last-sum (λ (b : Batch). keeps b.layer layer) books.prepared batch in omega (arith, sum)

pub batch-nodes : (books : Books) (batch : Batch) → nodes_kept (with_batch books batch) ≡ nodes_kept books + batch.nodes
batch-nodes books batch = let sum = last-sum (λ (b : Batch). b.nodes) books.prepared batch in omega (arith, sum)

pub attached-slots : (books : Books) (own nodes layer : ℕ) → slots_kept (with_attached books own nodes) layer ≡ slots_kept books layer + keeps own layer
attached-slots books own nodes layer = let sum = last-sum (λ (a : Attached). keeps a.layer layer) books.attached (record { layer = own; nodes = nodes }) in omega (arith, sum)

pub attached-nodes : (books : Books) (own nodes : ℕ) → nodes_kept (with_attached books own nodes) ≡ nodes_kept books + nodes
attached-nodes books own nodes = let sum = last-sum (λ (a : Attached). a.nodes) books.attached (record { layer = own; nodes = nodes }) in omega (arith, sum)

pub spent-slots : (books : Books) (name : List ℕ) (batch : Batch) (place : ℕ) → StandsAt books name batch place → (layer : ℕ) → slots_kept (spent books name) layer + keeps batch.layer layer ≡ slots_kept books layer
spent-slots books name batch place s layer =
    let sums = sum_by-remove (λ (b : Batch). keeps b.layer layer) books.prepared place batch s.below in
    let own = ap (λ (b : Batch). keeps b.layer layer) s.at in
    let same = ap (λ (b : Books). slots_kept b layer) s.gone in
    omega (arith, sums, own, same)

place-below : (xs : List Batch) (p : Batch → Bool) (place : ℕ) → position p xs ≡ Some place → place < length xs
place-below [] p place e = absurd (none-some place e)
place-below (x ∷ xs) p place e = (position-Some p (x ∷ xs) place x e).0

-- where there is a place there is a batch
pub named-there : (books : Books) (name : List ℕ) (place : ℕ) → batch_place books name ≡ Some place → batch_named books name ≡ None → ⊥
named-there books name place at none =
    let below = place-below books.prepared (λ b. bytes_eq b.name name) place at in
    let nothing : slice_get books.prepared place ≡ None = ap (λ (o : Option ℕ). option_and_then (slice_get books.prepared) o) (sym at) ∙ none in
    elim ((slice_get_cases books.prepared place).1) [
      | inl found ↦ none-some found.0 (sym nothing ∙ found.2)
      | inr past ↦ let far = past.0 in absurd (omega arith)
    ]

-- the batch that has a name stands at its place
pub stands-at : (books : Books) (name : List ℕ) (batch : Batch) (place : ℕ) → batch_place books name ≡ Some place → batch_named books name ≡ Some batch → StandsAt books name batch place
stands-at books name batch place at named =
    let found : slice_get books.prepared place ≡ Some batch = ap (λ (o : Option ℕ). option_and_then (slice_get books.prepared) o) (sym at) ∙ named in
    record {
      below = slice_get_within books.prepared place batch found;
      at = get_or_from_slice_get books.prepared place batch batch found;
      gone = ap (λ (o : Option ℕ). option_map_or (λ p. record books { prepared = remove books.prepared p }) o books) at;
    }

-- names stand for what they did
known-left : (books : Books) (o : Option ℕ) → (option_map_or (λ place. record books { prepared = remove books.prepared place }) o books).known ≡ books.known
known-left books None = refl
known-left books (Some place) = refl

pub spent-known : (books : Books) (name : List ℕ) → (spent books name).known ≡ books.known
spent-known books name = known-left books (batch_place books name)
