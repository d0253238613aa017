-- The prepared batch that has a name, and the books without it.
use Rattle.std.proofs.Common.{◌≡◌, ℕ, ◌+◌, ◌<◌, List, length, get_or, Option, Some, None, All, refl, ap, sym, subst, ◌∙◌, bytes_eq, inl, inr, arith, option_and_then}
use Rattle.std.specs.List.{remove, AllPairs, slice_get}
use Rattle.std.specs.Option.{option_map_or}
use Rattle.std.proofs.lemmas.List.Quantifiers.{position-Some, all_pairs_remove}
use Rattle.std.proofs.lemmas.List.Edits.{get_or-remove_below, get_or-remove_above, length-remove}
use Rattle.std.proofs.lemmas.List.Sums.{sum_by-remove}
use Rattle.std.proofs.lemmas.Option.{slice_get_within, get_or_from_slice_get}
use Rattle.std.proofs.lemmas.List.{get_or_default}
use Rattle.std.proofs.lemmas.Bool.{cases_lt}
use Rattle.scene_model.specs.declared.entry.Entry.TheVariants.{Join}
use Rattle.scene_model.specs.Scene.{Scene}
use Rattle.scene_model.specs.Step.{IsPossible}
use Rattle.script_player.specs.declared.books.Batch.{Batch}
use Rattle.script_player.specs.Books.{Books, batch_place, batch_named, spent, nodes_kept}
use Rattle.script_player.specs.UnderWay.{AreApart, AreHeld}

-- the place of a batch is one of the list's
pub place_within : (books : Books) (name : List ℕ) (place : ℕ) (d : Batch) → Some place ≡ batch_place books name → place < length books.prepared
place_within books name place d e = (position-Some (λ b. bytes_eq b.name name) books.prepared place d (sym e)).0

-- a batch stands at a place of the list, and is spent from there
pub record StandsAt (books : Books) (name : List ℕ) (batch : Batch) (place : ℕ) : Type 0 where
  pub below : place < length books.prepared
  pub at : get_or books.prepared place batch ≡ batch
  pub gone : spent books name ≡ record books { prepared = remove books.prepared place }

found_at : (books : Books) (batch : Batch) (o : Option ℕ) → option_and_then (slice_get books.prepared) o ≡ Some batch → (place : ℕ) × (o ≡ Some place) × (slice_get books.prepared place ≡ Some batch)
found_at books batch None e = absurd cc
found_at books batch (Some place) e = (place, refl, e)

pub stands_at : (books : Books) (name : List ℕ) (batch : Batch) → batch_named books name ≡ Some batch → (place : ℕ) × StandsAt books name batch place
stands_at books name batch e =
    let found = found_at books batch (batch_place books name) e in (
      found.0,
      record {
        below = slice_get_within books.prepared found.0 batch found.2;
        at = get_or_from_slice_get books.prepared found.0 batch batch found.2;
        gone = ap (λ (o : Option ℕ). option_map_or (λ place. record books { prepared = remove books.prepared place }) o books) found.1;
      },
    )

-- what holds of each item holds of each of the rest
pub All-remove : {X : Type 0} (P : X → Type 0) (xs : List X) (n : ℕ) → n < length xs → All P xs → All P (remove xs n)
All-remove P xs n within h = λ k d below.
    let shorter = length-remove xs n within in
    elim (cases_lt k n) [
      | inl before ↦ subst P (sym (get_or-remove_below xs n d k before within)) (h k d (omega arith))
      | inr behind ↦ subst P (sym (get_or-remove_above xs n d k behind within)) (h (k + 1) d (omega arith))
    ]

-- in what all pairs are, an item and each of the rest are
pub pairs-remove : {X : Type 0} (R : X → X → Type 0) → ((x y : X) → R x y → R y x) → (xs : List X) (n : ℕ) (x : X) → n < length xs → get_or xs n x ≡ x → AllPairs R xs
    → All (λ y. R y x) (remove xs n)
pairs-remove R flip xs n x within at h = λ k d below.
    let shorter = length-remove xs n within in
    let own : get_or xs n d ≡ x = get_or_default xs n d x within ∙ at in
    elim (cases_lt k n) [
      | inl before ↦ subst (λ y. R y x) (sym (get_or-remove_below xs n d k before within)) (subst (R (get_or xs k d)) own (h k n d before within))
      | inr behind ↦
          subst (λ y. R y x) (sym (get_or-remove_above xs n d k behind within))
          (subst (R (get_or xs (k + 1) d)) own (flip (get_or xs n d) (get_or xs (k + 1) d) (h n (k + 1) d (omega arith) (omega arith))))
    ]

pub nodes-spent : (books : Books) (name : List ℕ) (batch : Batch) (place : ℕ) → StandsAt books name batch place → nodes_kept (spent books name) + batch.nodes ≡ nodes_kept books
nodes-spent books name batch place s =
    let sums = sum_by-remove (λ (b : Batch). b.nodes) books.prepared place batch s.below in
    let own = ap (λ (b : Batch). b.nodes) s.at in
    let same = ap (λ (b : Books). nodes_kept b) s.gone in
    omega arith

apart_flipped : (a b : Batch) → AreApart a.indexes b.indexes → AreApart b.indexes a.indexes
apart_flipped a b h = λ index c d. h index d c

-- a prepared batch can be joined
pub batch_can_join : (scene : Scene) (books : Books) (name : List ℕ) (batch : Batch) → AreHeld scene books.prepared → batch_named books name ≡ Some batch
    → IsPossible scene (Join batch.layer batch.indexes)
batch_can_join scene books name batch h e =
    let s = (stands_at books name batch e).1 in
    let place = (stands_at books name batch e).0 in
    subst (λ (b : Batch). IsPossible scene (Join b.layer b.indexes)) s.at (h.can_join place batch s.below)

-- the other batches can be joined still, and hold none of its bodies
pub others_held : (scene : Scene) (books : Books) (name : List ℕ) (batch : Batch) → AreHeld scene books.prepared → batch_named books name ≡ Some batch
    → AreHeld scene (spent books name).prepared × All (λ b. AreApart b.indexes batch.indexes) (spent books name).prepared
others_held scene books name batch h e =
    let place = (stands_at books name batch e).0 in
    let s = (stands_at books name batch e).1 in
    let P : Books → Type 0 = λ b. AreHeld scene b.prepared × All (λ b. AreApart b.indexes batch.indexes) b.prepared in
    subst P (sym s.gone) (
      record {
        can_join = All-remove (λ b. IsPossible scene (Join b.layer b.indexes)) books.prepared place s.below h.can_join;
        apart = all_pairs_remove (λ a b. AreApart a.indexes b.indexes) books.prepared place s.below h.apart;
      },
      pairs-remove (λ a b. AreApart a.indexes b.indexes) apart_flipped books.prepared place batch s.below s.at h.apart,
    )
