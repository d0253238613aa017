-- The batches that are prepared by the books, as a list of their names, layers and numbers of bodies.
use Rattle.std.proofs.Common.{◌≡◌, ℕ, suc, ◌+◌, Bool, true, false, cond, ltb, List, [], ◌∷◌, ◌++◌, length, map, Option, Some, None, refl, ap, sym, subst, ◌∙◌, bytes_eq, inl, inr, arith}
use Rattle.std.specs.Bool.{⊤}
use Rattle.std.specs.List.{remove, position_or_len, find}
use Rattle.std.specs.Option.{option_map_or}
use Rattle.std.proofs.lemmas.Bool.{cases_Bool}
use Rattle.std.proofs.lemmas.Bool.Decides.{nat_tests}
use Rattle.scene_model.specs.Need.{need}
use Rattle.script_player.specs.declared.books.Batch.{Batch}
use Rattle.script_player.specs.Books.{Books, spent}
use Rattle.script_player.specs.Prepared.{Prepared, without}

abbrev pub prepared_of : Batch → Prepared
prepared_of b = record { name = b.name; layer = b.layer; bodies = length b.indexes; indexes = b.indexes }

-- each keeps the nodes of the tree over its bodies
abbrev pub AreSized : List Batch → Type 0
AreSized [] = ⊤
AreSized (b ∷ later) = (b.nodes ≡ need (length b.indexes)) × AreSized later

-- what is prepared by these books, and each has its nodes
pub record Holds (books : Books) (held : List Prepared) : Type 0 where
  pub prepared : map prepared_of books.prepared ≡ held
  pub sized : AreSized books.prepared

pub holds_same : (old new : Books) (held : List Prepared) → new.prepared ≡ old.prepared → Holds old held → Holds new held
holds_same old new held same h =
    record { prepared = ap (λ (bs : List Batch). map prepared_of bs) same ∙ h.prepared; sized = subst AreSized (sym same) h.sized }

pub sized_push : (batches : List Batch) (b : Batch) → AreSized batches → b.nodes ≡ need (length b.indexes) → AreSized (batches ++ b ∷ [])
sized_push [] b h size = (size, tt)
sized_push (a ∷ batches) b h size = (h.0, sized_push batches b h.1 size)

-- the first that passes a test is left out
abbrev leaving : (Batch → Bool) → List Batch → List Batch
leaving p [] = []
leaving p (b ∷ batches) = cond (p b) batches (b ∷ leaving p batches)

first_removed : (p : Batch → Bool) (batches : List Batch)
    → cond (ltb (position_or_len p batches) (length batches)) (remove batches (position_or_len p batches)) batches ≡ leaving p batches
first_removed p [] = refl
first_removed p (b ∷ batches) =
    let n = position_or_len p batches in
    let rest = first_removed p batches in
    elim (cases_Bool (p b)) [
      | inl same ↦
          let some : ltb 0 (length (b ∷ batches)) ≡ true = grind (arith, nat_tests) in
          rw (same, some) refl
      | inr other ↦
          elim (cases_Bool (ltb n (length batches))) [
            | inl within ↦
                let test : ltb (1 + n) (length (b ∷ batches)) ≡ true = grind (arith, nat_tests) in
                let next : 1 + n ≡ suc n = omega arith in
                let removed : remove (b ∷ batches) (1 + n) ≡ b ∷ remove batches n = ap (remove (b ∷ batches)) next in
                rw (other, test) (removed ∙ ap (λ (bs : List Batch). b ∷ bs) (rw within at rest))
            | inr past ↦
                let test : ltb (1 + n) (length (b ∷ batches)) ≡ false = grind (arith, nat_tests) in
                rw (other, test) (ap (λ (bs : List Batch). b ∷ bs) (rw past at rest))
          ]
    ]

spent_place : (books : Books) (test : Bool) (n : ℕ)
    → (option_map_or (λ place. record books { prepared = remove books.prepared place }) (cond test (Some n) None) books).prepared ≡ cond test (remove books.prepared n) books.prepared
spent_place books true n = refl
spent_place books false n = refl

spent_leaves : (books : Books) (name : List ℕ) → (spent books name).prepared ≡ leaving (λ b. bytes_eq b.name name) books.prepared
spent_leaves books name =
    let p : Batch → Bool = λ b. bytes_eq b.name name in
    spent_place books (ltb (position_or_len p books.prepared) (length books.prepared)) (position_or_len p books.prepared) ∙ first_removed p books.prepared

pub spent_attached : (books : Books) (o : Option ℕ) → (option_map_or (λ place. record books { prepared = remove books.prepared place }) o books).attached ≡ books.attached
spent_attached books None = refl
spent_attached books (Some place) = refl

prepared_without : (batches : List Batch) (name : List ℕ) → map prepared_of (leaving (λ b. bytes_eq b.name name) batches) ≡ without name (map prepared_of batches)
prepared_without [] name = refl
prepared_without (b ∷ batches) name = elim (cases_Bool (bytes_eq b.name name)) [
  | inl same ↦ rw same refl
  | inr other ↦ rw other (ap (λ (ps : List Prepared). prepared_of b ∷ ps) (prepared_without batches name))
]

sized_leaving : (batches : List Batch) (p : Batch → Bool) → AreSized batches → AreSized (leaving p batches)
sized_leaving [] p h = tt
sized_leaving (b ∷ batches) p h = elim (cases_Bool (p b)) [
  | inl same ↦ rw same h.1
  | inr other ↦ rw other (h.0, sized_leaving batches p h.1)
]

pub sized_found : (batches : List Batch) (p : Batch → Bool) (b : Batch) → AreSized batches → find p batches ≡ Some b → b.nodes ≡ need (length b.indexes)
sized_found [] p b h e = absurd cc
sized_found (a ∷ batches) p b h e = elim (cases_Bool (p a)) [
  | inl same ↦ let found : Some a ≡ Some b = rw same at e in let own : a ≡ b = cc in subst (λ (b : Batch). b.nodes ≡ need (length b.indexes)) own h.0
  | inr other ↦ sized_found batches p b h.1 (rw other at e)
]

pub holds_spent : (books : Books) (name : List ℕ) (held : List Prepared) → Holds books held → Holds (spent books name) (without name held)
holds_spent books name held h =
    let left = spent_leaves books name in
    record {
      prepared = ap (λ (bs : List Batch). map prepared_of bs) left ∙ prepared_without books.prepared name ∙ ap (without name) h.prepared;
      sized = subst AreSized (sym left) (sized_leaving books.prepared (λ b. bytes_eq b.name name) h.sized);
    }
