-- What a change of the scene leaves to the batches that are prepared.
use Rattle.std.proofs.Common.{◌≡◌, ◌≢◌, ℕ, ◌+◌, ◌<◌, ◌≤◌, List, [], ◌∷◌, length, get_or, fold, Contains, All, Option, Some, None, IfSome, IsSome, IsNone, IsSomeAnd, is_some, option_map, refl, ap, sym, subst, ◌∙◌, inl, inr, arith}
use Rattle.std.proofs.lemmas.List.{get_or_past}
use Rattle.std.proofs.lemmas.List.Elements.{Contains-get_or}
use Rattle.std.proofs.lemmas.Bool.{cases_eq}
use Rattle.std.proofs.lemmas.Bool.Decides.{nat_tests}
use Rattle.std.proofs.lemmas.Option.{cond_some, same_Some}
use Rattle.scene_model.specs.declared.body_view.Phase.{Phase}
use Rattle.scene_model.specs.declared.body_view.Phase.TheVariants.{Out, Held}
use Rattle.scene_model.specs.declared.entry.Entry.TheVariants.{Destroy, Join}
use Rattle.scene_model.specs.Scene.{Scene, Place, Record, unused, place_at, record_at, next_of, next_index}
use Rattle.scene_model.specs.Step.{HasBody, IsPossible, with_change, with_phase, with_new_body, in_phase}
use Rattle.scene_model.specs.Shown.{after_shown}
use Rattle.scene_model.specs.Consistent.{IsLatest, IsConsistent}
use Rattle.scene_model.proofs.Places.{live_used, place_at-with_body_other, place_at-with_change_same}
use Rattle.scene_model.proofs.Kept.{KeepsBody, IsConsistent-with_change, IsConsistent-join}
use Rattle.scene_model.proofs.Lives.{IsBegun, IsConsistent-push, IsConsistent-reuse, IsConsistent-destroy}
use Rattle.scene_model.proofs.Creations.{place_at-with_new_body_other}
use Rattle.scene_model.proofs.Batches.{place_at-fold_phase}
use Rattle.script_player.specs.declared.books.Batch.{Batch}
use Rattle.script_player.specs.Taking.{marks, unmarks}
use Rattle.script_player.specs.UnderWay.{AreApart, AreHeld, IsSound}

abbrev pub IsHeldIn : ℕ → Record → Type 0
IsHeldIn layer r = (r.phase ≡ Held) × (r.layer ≡ layer)

-- a scene is sound if the one before it was, and bodies that were held are held still, but for those at some indexes
pub record Follows (old new : Scene) (touched : List ℕ) : Type 0 where
  pub bodies : new.bodies ≡ old.bodies
  pub sound : IsSound old → IsSound new
  pub held : (index layer : ℕ) → ¬ Contains touched index → HasBody old index (IsHeldIn layer) → HasBody new index (IsHeldIn layer)

pub Follows-refl : (scene : Scene) → Follows scene scene []
Follows-refl scene = record { bodies = refl; sound = λ s. s; held = λ index layer none h. h }

pub Follows-same : (old new : Scene) → new ≡ old → Follows old new []
Follows-same old new e = subst (λ (s : Scene). Follows old s []) (sym e) (Follows-refl old)

-- ---- batches

join_kept : (old new : Scene) (touched : List ℕ) (layer : ℕ) (indexes : List ℕ) → Follows old new touched → AreApart indexes touched
    → IsPossible old (Join layer indexes) → IsPossible new (Join layer indexes)
join_kept old new touched layer indexes f apart h =
    (h.0, h.1, λ k d below. f.held (get_or indexes k d) layer (apart (get_or indexes k d) (Contains-get_or indexes k d below)) (h.2 k d below))

-- batches that hold none of the bodies that are touched can be joined still
pub AreHeld-kept : (old new : Scene) (touched : List ℕ) (prepared : List Batch) → Follows old new touched → All (λ b. AreApart b.indexes touched) prepared
    → AreHeld old prepared → AreHeld new prepared
AreHeld-kept old new touched prepared f apart h = record {
  can_join = λ k d below. join_kept old new touched (get_or prepared k d).layer (get_or prepared k d).indexes f (apart k d below) (h.can_join k d below);
  apart = h.apart;
}

pub apart_from_none : (indexes : List ℕ) → AreApart indexes []
apart_from_none indexes = λ index c d. let below = d.1 in omega arith

pub all_apart_from_none : (prepared : List Batch) → All (λ b. AreApart b.indexes []) prepared
all_apart_from_none prepared = λ k d below. apart_from_none (get_or prepared k d).indexes

-- ---- a change of one body

at_other : (old new : Scene) (index : ℕ) (P : Record → Type 0) → place_at new index ≡ place_at old index → HasBody old index P → HasBody new index P
at_other old new index P same h = subst (λ (p : Place). IsSomeAnd p.body P) (sym same) h

held_at_change : (f : Record → Record) (layer : ℕ) (o : Option Record) → ((r : Record) → IsHeldIn layer r → IsHeldIn layer (f r)) → IsSomeAnd o (IsHeldIn layer) → IsSomeAnd (option_map f o) (IsHeldIn layer)
held_at_change f layer None keeps h = h
held_at_change f layer (Some r) keeps h = keeps r h

-- a change that keeps bodies held
pub Follows-change : (f : Record → Record) (scene : Scene) (index : ℕ) → KeepsBody f → ((layer : ℕ) (r : Record) → IsHeldIn layer r → IsHeldIn layer (f r))
    → Follows scene (with_change f scene index) []
Follows-change f scene index body keeps = record {
  bodies = refl;
  sound = λ s. (s.0, IsConsistent-with_change f body s.0 scene index s.1);
  held = λ i layer none h.
      elim (cases_eq i index) [
        | inl same ↦
            let P : ℕ → Type 0 = λ k. HasBody scene k (IsHeldIn layer) → HasBody (with_change f scene index) k (IsHeldIn layer) in
            let at : HasBody scene index (IsHeldIn layer) → HasBody (with_change f scene index) index (IsHeldIn layer) =
            λ held. subst (λ (p : Place). IsSomeAnd p.body (IsHeldIn layer)) (sym (place_at-with_change_same f scene index)) (held_at_change f layer (record_at scene index) (keeps layer) held) in
            subst P (sym same) at h
        | inr apart ↦ at_other scene (with_change f scene index) i (IsHeldIn layer) (place_at-with_body_other scene index i _ apart) h
      ];
}

never_both : (o : Option Record) (layer : ℕ) (P : Record → Type 0) → ((r : Record) → P r → r.phase ≡ Held → ⊥) → IsSomeAnd o P → IsSomeAnd o (IsHeldIn layer) → ⊥
never_both None layer P refuted p h = h
never_both (Some r) layer P refuted p h = refuted r p h.0

-- a change of a body that is not held
unheld : (scene new : Scene) (index : ℕ) (P : Record → Type 0) → ((r : Record) → P r → r.phase ≡ Held → ⊥) → HasBody scene index P
    → ((other : ℕ) → other ≢ index → place_at new other ≡ place_at scene other)
    → (i layer : ℕ) → HasBody scene i (IsHeldIn layer) → HasBody new i (IsHeldIn layer)
unheld scene new index P refuted p others i layer h =
    elim (cases_eq i index) [
      | inl same ↦ absurd (never_both (record_at scene index) layer P refuted p (subst (λ (k : ℕ). HasBody scene k (IsHeldIn layer)) same h))
      | inr apart ↦ at_other scene new i (IsHeldIn layer) (others i apart) h
    ]

pub Follows-unheld : (f : Record → Record) (scene : Scene) (index : ℕ) (P : Record → Type 0) → KeepsBody f → ((r : Record) → P r → r.phase ≡ Held → ⊥) → HasBody scene index P
    → Follows scene (with_change f scene index) []
Follows-unheld f scene index P body refuted p = record {
  bodies = refl;
  sound = λ s. (s.0, IsConsistent-with_change f body s.0 scene index s.1);
  held = λ i layer none h. unheld scene (with_change f scene index) index P refuted p (λ other apart. place_at-with_body_other scene index other _ apart) i layer h;
}

pub live : (o : Option Record) (P : Record → Type 0) → IsSomeAnd o P → IsSome o
live None P h = absurd h
live (Some r) P h = refl

pub Follows-destroy : (scene : Scene) (index : ℕ) → HasBody scene index (λ r. r.phase ≡ Out) → Follows scene (after_shown scene (Destroy index)) []
Follows-destroy scene index out = record {
  bodies = refl;
  sound = λ s. (s.0, IsConsistent-destroy s.0 scene index (live (record_at scene index) (λ r. r.phase ≡ Out) out) (live_used scene index (λ r. r.phase ≡ Out) out) s.1);
  held = λ i layer none h. unheld scene (after_shown scene (Destroy index)) index (λ r. r.phase ≡ Out) (λ r p q. cc) out (λ other apart. place_at-with_body_other scene index other None apart) i layer h;
}

-- ---- a body that begins

latest_in_more : (o : Option Record) (a b creations : ℕ) → a ≤ b → IfSome o (IsLatest a creations) → IfSome o (IsLatest b creations)
latest_in_more None a b creations le h = tt
latest_in_more (Some r) a b creations le h = record { latest = h.latest; in_layers = omega (arith, h.in_layers) }

IsConsistent-more : (a b : ℕ) (scene : Scene) → a ≤ b → IsConsistent a scene → IsConsistent b scene
IsConsistent-more a b scene le h = record {
  room = h.room;
  freed_once = h.freed_once;
  freed_empty = h.freed_empty;
  empty_freed = h.empty_freed;
  latest = λ index. latest_in_more (record_at scene index) a b (place_at scene index).creations le (h.latest index);
}

IsConsistent-new_body : (layers : ℕ) (scene : Scene) (freed : List ℕ) (index : ℕ) (place : Place) → scene.freed ≡ freed
    → next_of freed (length scene.places) scene.bodies ≡ Some index → IsBegun layers place → IsConsistent layers scene
    → IsConsistent layers (with_new_body freed scene index place)
IsConsistent-new_body layers scene [] index place none next begun h =
    let room : length scene.places < scene.bodies = grind (arith, nat_tests, cond_some _ _ _ next) in
    IsConsistent-push layers scene place none room begun h
IsConsistent-new_body layers scene (first ∷ rest) index place freed next begun h =
    let same : first ≡ index = same_Some _ _ next in
    IsConsistent-reuse layers scene index rest place (freed ∙ ap (λ (i : ℕ). i ∷ rest) same) begun h

-- no body is live at the index that the next one takes
next_empty : (layers : ℕ) (scene : Scene) (freed : List ℕ) (index : ℕ) → scene.freed ≡ freed → next_of freed (length scene.places) scene.bodies ≡ Some index
    → IsConsistent layers scene → IsNone (record_at scene index)
next_empty layers scene [] index none next h =
    let at : length scene.places ≡ index = (cond_some _ _ _ next).1 in
    ap (λ (p : Place). is_some p.body) (get_or_past scene.places index unused (omega arith))
next_empty layers scene (first ∷ rest) index freed next h =
    let same : first ≡ index = same_Some _ _ next in
    let first_freed : Contains (first ∷ rest) index = (0, omega arith, same) in
    (h.freed_empty index (subst (λ (xs : List ℕ). Contains xs index) (sym freed) first_freed)).1

same_bodies : (freed : List ℕ) (scene : Scene) (index : ℕ) (place : Place) → (with_new_body freed scene index place).bodies ≡ scene.bodies
same_bodies [] scene index place = refl
same_bodies (first ∷ rest) scene index place = refl

nobody : (o : Option Record) (P : Record → Type 0) → IsNone o → IsSomeAnd o P → ⊥
nobody None P none h = h
nobody (Some r) P none h = cc

pub Follows-new : (scene : Scene) (index layer : ℕ) (place : Place) → IsSound scene → next_index scene ≡ Some index → ((layers : ℕ) → layer < layers → IsBegun layers place)
    → Follows scene (with_new_body scene.freed scene index place) []
Follows-new scene index layer place sound next begun = record {
  bodies = same_bodies scene.freed scene index place;
  sound = λ s.
      let layers = s.0 + layer + 1 in
      (layers, IsConsistent-new_body layers scene scene.freed index place refl next (begun layers (omega arith)) (IsConsistent-more s.0 layers scene (omega arith) s.1));
  held = λ i l none h.
      elim (cases_eq i index) [
        | inl same ↦
            let empty = next_empty sound.0 scene scene.freed index refl next sound.1 in
            absurd (nobody (record_at scene index) (IsHeldIn l) empty (subst (λ (k : ℕ). HasBody scene k (IsHeldIn l)) same h))
        | inr apart ↦ at_other scene (with_new_body scene.freed scene index place) i (IsHeldIn l) (place_at-with_new_body_other scene scene.freed index i place next apart) h
      ];
}

-- ---- several bodies

pub fold_marks : (indexes : List ℕ) (scene : Scene) → fold after_shown scene (marks indexes) ≡ fold (with_phase Held) scene indexes
fold_marks [] scene = refl
fold_marks (index ∷ rest) scene = fold_marks rest (with_phase Held scene index)

pub fold_unmarks : (indexes : List ℕ) (scene : Scene) → fold after_shown scene (unmarks indexes) ≡ fold (with_phase Out) scene indexes
fold_unmarks [] scene = refl
fold_unmarks (index ∷ rest) scene = fold_unmarks rest (with_phase Out scene index)

bodies-fold : (phase : Phase) (indexes : List ℕ) (scene : Scene) → (fold (with_phase phase) scene indexes).bodies ≡ scene.bodies
bodies-fold phase [] scene = refl
bodies-fold phase (index ∷ rest) scene = bodies-fold phase rest (with_phase phase scene index)

held_again : (o : Option Record) (layer : ℕ) → IsSomeAnd o (IsHeldIn layer) → IsSomeAnd (option_map (in_phase Held) o) (IsHeldIn layer)
held_again None layer h = h
held_again (Some r) layer h = (refl, h.1)

-- a phase that is set at several indexes touches these, unless it is to be held
pub Follows-fold : (phase : Phase) (indexes : List ℕ) (scene : Scene) → Follows scene (fold (with_phase phase) scene indexes) indexes
Follows-fold phase indexes scene = record {
  bodies = bodies-fold phase indexes scene;
  sound = λ s. (s.0, IsConsistent-join phase s.0 indexes scene s.1);
  held = λ i layer none h.
      elim (place_at-fold_phase phase indexes scene i) [
        | inl at ↦ absurd (none at.0)
        | inr not ↦ at_other scene (fold (with_phase phase) scene indexes) i (IsHeldIn layer) not.1 h
      ];
}

pub Follows-hold : (indexes : List ℕ) (scene : Scene) → Follows scene (fold (with_phase Held) scene indexes) []
Follows-hold indexes scene = record {
  bodies = bodies-fold Held indexes scene;
  sound = λ s. (s.0, IsConsistent-join Held s.0 indexes scene s.1);
  held = λ i layer none h.
      elim (place_at-fold_phase Held indexes scene i) [
        | inl at ↦ subst (λ (p : Place). IsSomeAnd p.body (IsHeldIn layer)) (sym at.1) (held_again (record_at scene i) layer h)
        | inr not ↦ at_other scene (fold (with_phase Held) scene indexes) i (IsHeldIn layer) not.1 h
      ];
}
