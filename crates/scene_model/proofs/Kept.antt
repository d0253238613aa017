-- Consistency is kept by changes of a body in place.
use Rattle.std.proofs.Common.{◌≡◌, ℕ, List, [], ◌∷◌, length, fold, refl, sym, ◌∙◌, subst, Option, Some, None, option_map, is_some, IfSome, arith, inl, inr}
use Rattle.std.proofs.lemmas.List.{length-set}
use Rattle.std.proofs.lemmas.Bool.{cases_eq}
use Rattle.scene_model.specs.declared.body_view.Phase.{Phase}
use Rattle.scene_model.specs.Scene.{Scene, Place, Record, place_at, record_at}
use Rattle.scene_model.specs.Step.{with_change, with_phase}
use Rattle.scene_model.specs.Consistent.{IsLatest, IsConsistent}
use Rattle.scene_model.proofs.Places.{place_at-with_body_other, place_at-with_change_same}

-- a place that may have another body now, of the same creation and layer
pub record IsSameBody (old new : Place) : Type 0 where
  pub creations : new.creations ≡ old.creations
  pub live : is_some new.body ≡ is_some old.body
  pub latest : (layers : ℕ) → IfSome old.body (IsLatest layers old.creations) → IfSome new.body (IsLatest layers new.creations)

IsSameBody-refl : (place : Place) → IsSameBody place place
IsSameBody-refl place = record { creations = refl; live = refl; latest = λ layers h. h }

-- the change is of what no consistency speaks of
pub record KeepsBody (f : Record → Record) : Type 0 where
  pub generation : (r : Record) → (f r).generation ≡ r.generation
  pub layer : (r : Record) → (f r).layer ≡ r.layer

IsSameBody-change : (f : Record → Record) → KeepsBody f → (creations : ℕ) (body : Option Record)
    → IsSameBody (record { creations = creations; body = body }) (record { creations = creations; body = option_map f body })
IsSameBody-change f keeps creations None = record { creations = refl; live = refl; latest = λ layers h. h }
IsSameBody-change f keeps creations (Some r) = record {
  creations = refl;
  live = refl;
  latest = λ layers h. record { latest = keeps.generation r ∙ h.latest; in_layers = rw (keeps.layer r) h.in_layers };
}

IsSameBody-with_change : (f : Record → Record) → KeepsBody f → (scene : Scene) (index other : ℕ)
    → IsSameBody (place_at scene other) (place_at (with_change f scene index) other)
IsSameBody-with_change f keeps scene index other =
    elim (cases_eq other index) [
      | inl same ↦
          let at : IsSameBody (place_at scene index) (place_at (with_change f scene index) index) =
          rw (place_at-with_change_same f scene index) (IsSameBody-change f keeps (place_at scene index).creations (record_at scene index)) in
          subst (λ (k : ℕ). IsSameBody (place_at scene k) (place_at (with_change f scene index) k)) (sym same) at
      | inr apart ↦ rw (place_at-with_body_other scene index other (option_map f (record_at scene index)) apart) (IsSameBody-refl (place_at scene other))
    ]

pub IsConsistent-with_change : (f : Record → Record) → KeepsBody f → (layers : ℕ) (scene : Scene) (index : ℕ)
    → IsConsistent layers scene → IsConsistent layers (with_change f scene index)
IsConsistent-with_change f keeps layers scene index h =
    let used : length (with_change f scene index).places ≡ length scene.places = length-set scene.places index _ in
    let same = IsSameBody-with_change f keeps scene index in
    record {
      room = omega arith;
      freed_once = h.freed_once;
      freed_empty = λ i in_freed. (omega (arith, (h.freed_empty i in_freed).0), (same i).live ∙ (h.freed_empty i in_freed).1);
      empty_freed = λ i below none. h.empty_freed i (omega arith) (sym (same i).live ∙ none);
      latest = λ i. (same i).latest layers (h.latest i);
    }

KeepsBody-phase : (phase : Phase) → KeepsBody (λ r. record r { phase = phase })
KeepsBody-phase phase = record { generation = λ r. refl; layer = λ r. refl }

pub IsConsistent-with_phase : (phase : Phase) (layers : ℕ) (scene : Scene) (index : ℕ) → IsConsistent layers scene → IsConsistent layers (with_phase phase scene index)
IsConsistent-with_phase phase = IsConsistent-with_change _ (KeepsBody-phase phase)

pub IsConsistent-join : (phase : Phase) (layers : ℕ) (indexes : List ℕ) (scene : Scene) → IsConsistent layers scene → IsConsistent layers (fold (with_phase phase) scene indexes)
IsConsistent-join phase layers [] scene h = h
IsConsistent-join phase layers (index ∷ rest) scene h = IsConsistent-join phase layers rest (with_phase phase scene index) (IsConsistent-with_phase phase layers scene index h)
