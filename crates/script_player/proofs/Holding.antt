-- The bodies that a batch takes, and those that it holds.
use Rattle.std.proofs.Common.{◌≡◌, ℕ, ◌<◌, false, List, [], ◌∷◌, length, get_or, fold, nat_eq, Contains, Option, Some, None, IsSomeAnd, option_map, refl, sym, subst, inl, inr, arith}
use Rattle.std.specs.Bool.{⊤}
use Rattle.std.specs.List.{IsDistinct}
use Rattle.std.proofs.lemmas.List.Elements.{Contains-get_or, recursion_from_All}
use Rattle.std.proofs.lemmas.Map.Keys.{IsDistinct-cons, IsDistinct-tail}
use Rattle.std.proofs.lemmas.Bool.{cases_eq}
use Rattle.std.proofs.lemmas.Bool.Decides.{eqb_tells}
use Rattle.body_ident.specs.Id.{Id}
use Rattle.scene_model.specs.declared.body_view.Phase.TheVariants.{Out, Held}
use Rattle.scene_model.specs.declared.entry.Entry.TheVariants.{Join}
use Rattle.scene_model.specs.Scene.{Scene, Place, Record, record_at}
use Rattle.scene_model.specs.Step.{HasBody, IsPossible, with_phase, in_phase}
use Rattle.scene_model.specs.Shown.{after_shown}
use Rattle.scene_model.proofs.Places.{place_at-with_body_other, place_at-with_change_same}
use Rattle.scene_model.proofs.Lives.{Contains-cons_cases, Contains-cons_tail, head_apart}
use Rattle.scene_model.proofs.Batches.{place_at-fold_phase}
use Rattle.reply_text.specs.declared.refusal.Refusal.{Refusal}
use Rattle.script_player.specs.declared.books.Known.{Known}
use Rattle.script_player.specs.Taking.{Marking, marking_on, marking, mark_refusal, marks, unmarks}
use Rattle.script_player.specs.UnderWay.{AreApart, ArePossible}
use Rattle.script_player.proofs.Marking.{IsReady, is_ready}
use Rattle.script_player.proofs.Follows.{IsHeldIn, fold_marks}

-- bodies can be marked for a layer one after another
abbrev pub CanMarkAll : Scene → ℕ → List ℕ → Type 0
CanMarkAll scene layer [] = ⊤
CanMarkAll scene layer (index ∷ rest) = HasBody scene index (IsReady layer) × CanMarkAll (with_phase Held scene index) layer rest

first_can : (scene : Scene) (layer : ℕ) (i : Id) (o : Option Refusal) (later : Marking) → mark_refusal scene layer i ≡ o
    → CanMarkAll (with_phase Held scene i.index) layer later.indexes → CanMarkAll scene layer (marking_on i.index o later).indexes
first_can scene layer i None later e h = (is_ready scene layer i e, h)
first_can scene layer i (Some refusal) later e h = tt

-- those that a marking marks
pub marking_can : (scene : Scene) (layer : ℕ) (bodies : List Known) → CanMarkAll scene layer (marking scene layer bodies).indexes
marking_can scene layer [] = tt
marking_can scene layer (known ∷ bodies) =
    let after = with_phase Held scene known.id.index in
    first_can scene layer known.id (mark_refusal scene layer known.id) (marking after layer bodies) refl (marking_can after layer bodies)

held_not_ready : (o : Option Record) (layer : ℕ) → IsSomeAnd (option_map (in_phase Held) o) (IsReady layer) → ⊥
held_not_ready None layer h = h
held_not_ready (Some r) layer h = let e = h.0 in cc

-- a body that was just marked is not ready
marked_not_ready : (scene : Scene) (index layer : ℕ) → HasBody (with_phase Held scene index) index (IsReady layer) → ⊥
marked_not_ready scene index layer h =
    held_not_ready (record_at scene index) layer (subst (λ (p : Place). IsSomeAnd p.body (IsReady layer)) (place_at-with_change_same (in_phase Held) scene index) h)

-- all of them were ready before the first mark
pub all_ready : (indexes : List ℕ) (scene : Scene) (layer : ℕ) → CanMarkAll scene layer indexes → (i : ℕ) → Contains indexes i → HasBody scene i (IsReady layer)
all_ready [] scene layer can i c = let below = c.1 in absurd (omega arith)
all_ready (index ∷ rest) scene layer can i c =
    elim (Contains-cons_cases index rest i c) [
      | inl same ↦ subst (λ (k : ℕ). HasBody scene k (IsReady layer)) same can.0
      | inr later ↦
          let after = all_ready rest (with_phase Held scene index) layer can.1 i later in
          elim (cases_eq i index) [
            | inl same ↦ subst (λ (k : ℕ). HasBody scene k (IsReady layer)) (sym same) can.0
            | inr apart ↦ subst (λ (p : Place). IsSomeAnd p.body (IsReady layer)) (place_at-with_body_other scene index i _ apart) after
          ]
    ]

differs : (x y : ℕ) → (x ≡ y → ⊥) → nat_eq x y ≡ false
differs x y apart = elim (eqb_tells x y) [ inl same ↦ absurd (apart same.1) | inr other ↦ other.0 ]

-- none of them is marked twice
pub distinct_marks : (indexes : List ℕ) (scene : Scene) (layer : ℕ) → CanMarkAll scene layer indexes → IsDistinct nat_eq indexes
unfolding IsDistinct
distinct_marks [] scene layer can = tt
distinct_marks (index ∷ rest) scene layer can =
    let after = with_phase Held scene index in
    let new : (y : ℕ) → Contains rest y → index ≡ y → ⊥ =
    λ y c same. marked_not_ready scene index layer (subst (λ (k : ℕ). HasBody after k (IsReady layer)) (sym same) (all_ready rest after layer can.1 y c)) in
    IsDistinct-cons nat_eq index rest
    (recursion_from_All (λ y. nat_eq index y ≡ false) rest (λ k d below. differs index (get_or rest k d) (new (get_or rest k d) (Contains-get_or rest k d below))))
    (distinct_marks rest after layer can.1)

now_held : (o : Option Record) (layer : ℕ) → IsSomeAnd o (IsReady layer) → IsSomeAnd (option_map (in_phase Held) o) (IsHeldIn layer)
now_held None layer h = h
now_held (Some r) layer h = (refl, h.1)

-- and each of them is held then
pub all_held : (indexes : List ℕ) (scene : Scene) (layer : ℕ) → CanMarkAll scene layer indexes → (i : ℕ) → Contains indexes i
    → HasBody (fold (with_phase Held) scene indexes) i (IsHeldIn layer)
all_held indexes scene layer can i c =
    elim (place_at-fold_phase Held indexes scene i) [
      | inl at ↦ subst (λ (p : Place). IsSomeAnd p.body (IsHeldIn layer)) (sym at.1) (now_held (record_at scene i) layer (all_ready indexes scene layer can i c))
      | inr not ↦ absurd (not.0 c)
    ]

-- so they can be joined
pub marks_can_join : (indexes : List ℕ) (scene : Scene) (layer : ℕ) → 0 < length indexes → CanMarkAll scene layer indexes
    → IsPossible (fold (with_phase Held) scene indexes) (Join layer indexes)
marks_can_join indexes scene layer some can =
    (some, distinct_marks indexes scene layer can, λ k d below. all_held indexes scene layer can (get_or indexes k d) (Contains-get_or indexes k d below))

-- bodies that are held can be let go one after another
pub can_let_go : (indexes : List ℕ) (scene : Scene) → IsDistinct nat_eq indexes → ((i : ℕ) → Contains indexes i → HasBody scene i (λ r. r.phase ≡ Held))
    → ArePossible scene (unmarks indexes)
can_let_go [] scene distinct held = tt
can_let_go (index ∷ rest) scene distinct held = (
  held index (0, omega arith, refl),
  can_let_go rest (with_phase Out scene index) (IsDistinct-tail nat_eq index rest distinct)
      (λ i c.
      subst (λ (p : Place). IsSomeAnd p.body (λ r. r.phase ≡ Held)) (sym (place_at-with_body_other scene index i _ (head_apart index rest distinct i c)))
      (held i (Contains-cons_tail index rest i c))),
)

in_held : (layer : ℕ) (o : Option Record) → IsSomeAnd o (IsHeldIn layer) → IsSomeAnd o (λ r. r.phase ≡ Held)
in_held layer None h = h
in_held layer (Some r) h = h.0

-- the bodies of a batch that can be joined are held
pub join_held : (scene : Scene) (layer : ℕ) (indexes : List ℕ) → IsPossible scene (Join layer indexes) → (i : ℕ) → Contains indexes i → HasBody scene i (IsHeldIn layer)
join_held scene layer indexes h i c = subst (λ (k : ℕ). HasBody scene k (IsHeldIn layer)) c.2 (h.2 c.0 i c.1)

pub join_can_let_go : (scene : Scene) (layer : ℕ) (indexes : List ℕ) → IsPossible scene (Join layer indexes) → ArePossible scene (unmarks indexes)
join_can_let_go scene layer indexes h = can_let_go indexes scene h.1 (λ i c. in_held layer (record_at scene i) (join_held scene layer indexes h i c))

pub marks_can_let_go : (indexes : List ℕ) (scene : Scene) (layer : ℕ) → CanMarkAll scene layer indexes → ArePossible (fold after_shown scene (marks indexes)) (unmarks indexes)
marks_can_let_go indexes scene layer can =
    subst (λ (s : Scene). ArePossible s (unmarks indexes)) (sym (fold_marks indexes scene))
    (can_let_go indexes (fold (with_phase Held) scene indexes) (distinct_marks indexes scene layer can)
    (λ i c. in_held layer (record_at (fold (with_phase Held) scene indexes) i) (all_held indexes scene layer can i c)))

never_ready_and_held : (o : Option Record) (a b : ℕ) → IsSomeAnd o (IsReady a) → IsSomeAnd o (IsHeldIn b) → ⊥
never_ready_and_held None a b ready held = ready
never_ready_and_held (Some r) a b ready held = let out = ready.0 in let h = held.0 in cc

-- a batch that can be joined holds none of the bodies that are ready
pub held_apart : (scene : Scene) (layer asked : ℕ) (held indexes : List ℕ) → IsPossible scene (Join layer held) → CanMarkAll scene asked indexes → AreApart held indexes
held_apart scene layer asked held indexes h can = λ i c d. never_ready_and_held (record_at scene i) asked layer (all_ready indexes scene asked can i d) (join_held scene layer held h i c)
