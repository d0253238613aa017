-- Each lawful history leads to a consistent scene.
use Rattle.std.proofs.Common.{◌≡◌, ℕ, ◌<◌, List, [], ◌∷◌, ◌++◌, length, refl, ◌∙◌, ap, true, Option, Some, None, is_some, IsSomeAnd, arith}
use Rattle.std.proofs.lemmas.Option.{cond_some, same_Some}
use Rattle.std.proofs.lemmas.Bool.Decides.{nat_tests}
use Rattle.std.specs.List.{IsDistinct}
use Rattle.scene_model.specs.declared.entry.Entry.{Entry}
use Rattle.scene_model.specs.declared.entry.Entry.TheVariants.{Create, Destroy, Mark, Unmark, Join, Remove, Move, SetUser}
use Rattle.scene_model.specs.declared.entry.Made.{Made}
use Rattle.scene_model.specs.Scene.{Scene, Place, Record, empty_scene, place_at, record_at, next_of}
use Rattle.scene_model.specs.Step.{IsLawful, created_in, with_new_body, after_entry}
use Rattle.scene_model.specs.History.{scene_from, scene_after, IsLawfulFrom, IsLawfulHistory}
use Rattle.scene_model.specs.Consistent.{IsConsistent}
use Rattle.scene_model.proofs.Places.{live_used}
use Rattle.scene_model.proofs.Kept.{IsConsistent-with_change, IsConsistent-with_phase, IsConsistent-join}
use Rattle.scene_model.proofs.Lives.{IsBegun, IsConsistent-push, IsConsistent-reuse, IsConsistent-destroy}

pub IsConsistent-empty : (layers bodies : ℕ) → IsConsistent layers (empty_scene bodies)
unfolding IsDistinct
IsConsistent-empty layers bodies = record {
  room = omega arith;
  freed_once = tt;
  freed_empty = λ i c. let below = c.1 in absurd (omega arith);
  empty_freed = λ i below none. absurd (omega arith);
  latest = λ i. tt;
}

-- a body begins at the next index
IsConsistent-with_new_body : (layers : ℕ) (scene : Scene) (freed : List ℕ) (index : ℕ) (place : Place) → scene.freed ≡ freed
    → next_of freed (length scene.places) scene.bodies ≡ Some index → IsBegun layers place
    → IsConsistent layers scene → IsConsistent layers (with_new_body freed scene index place)
IsConsistent-with_new_body layers scene [] index place none next begun h =
    let room : length scene.places < scene.bodies = grind (arith, nat_tests, cond_some _ _ _ next) in
    IsConsistent-push layers scene place none room begun h
IsConsistent-with_new_body layers scene (first ∷ rest) index place freed next begun h =
    let same : first ≡ index = same_Some _ _ next in
    IsConsistent-reuse layers scene index rest place (freed ∙ ap (λ (i : ℕ). i ∷ rest) same) begun h

HasBody-live : (o : Option Record) (P : Record → Type 0) → IsSomeAnd o P → is_some o ≡ true
HasBody-live None P h = absurd h
HasBody-live (Some r) P h = refl

pub IsConsistent-after_entry : (layers : ℕ) (scene : Scene) (entry : Entry) → IsLawful layers scene entry → IsConsistent layers scene → IsConsistent layers (after_entry scene entry)
IsConsistent-after_entry layers scene (Create index layer bounds user) lawful h =
    IsConsistent-with_new_body layers scene scene.freed index (created_in (place_at scene index) layer bounds user) refl lawful.0 (record { latest = refl; in_layers = lawful.1 }) h
IsConsistent-after_entry layers scene (Destroy index) lawful h =
    IsConsistent-destroy layers scene index (HasBody-live (record_at scene index) _ lawful.0) (live_used scene index _ lawful.0) h
IsConsistent-after_entry layers scene (Mark index) lawful h = IsConsistent-with_phase _ layers scene index h
IsConsistent-after_entry layers scene (Unmark index) lawful h = IsConsistent-with_phase _ layers scene index h
IsConsistent-after_entry layers scene (Join layer indexes) lawful h = IsConsistent-join _ layers indexes scene h
IsConsistent-after_entry layers scene (Remove index) lawful h = IsConsistent-with_phase _ layers scene index h
IsConsistent-after_entry layers scene (Move index bounds) lawful h = IsConsistent-with_change _ (record { generation = λ r. refl; layer = λ r. refl }) layers scene index h
IsConsistent-after_entry layers scene (SetUser index user) lawful h = IsConsistent-with_change _ (record { generation = λ r. refl; layer = λ r. refl }) layers scene index h

pub IsConsistent-scene_from : (layers : ℕ) (history : List Made) (scene : Scene) → IsLawfulFrom layers scene history → IsConsistent layers scene → IsConsistent layers (scene_from scene history)
IsConsistent-scene_from layers [] scene lawful h = h
IsConsistent-scene_from layers (made ∷ later) scene lawful h =
    IsConsistent-scene_from layers later (after_entry scene made.entry) lawful.1 (IsConsistent-after_entry layers scene made.entry lawful.0 h)

pub IsConsistent-scene_after : (layers bodies : ℕ) (history : List Made) → IsLawfulHistory layers bodies history → IsConsistent layers (scene_after bodies history)
IsConsistent-scene_after layers bodies history lawful = IsConsistent-scene_from layers history (empty_scene bodies) lawful (IsConsistent-empty layers bodies)

-- ---- a history that goes on

pub scene_from-append : (scene : Scene) (first later : List Made) → scene_from scene (first ++ later) ≡ scene_from (scene_from scene first) later
scene_from-append scene [] later = refl
scene_from-append scene (made ∷ first) later = scene_from-append (after_entry scene made.entry) first later

pub IsLawfulFrom-append : (layers : ℕ) (scene : Scene) (first later : List Made) → IsLawfulFrom layers scene first → IsLawfulFrom layers (scene_from scene first) later → IsLawfulFrom layers scene (first ++ later)
IsLawfulFrom-append layers scene [] later h k = k
IsLawfulFrom-append layers scene (made ∷ first) later h k = (h.0, IsLawfulFrom-append layers (after_entry scene made.entry) first later h.1 k)

pub lawful_parts : (layers : ℕ) (scene : Scene) (first later : List Made) → IsLawfulFrom layers scene (first ++ later) → IsLawfulFrom layers scene first × IsLawfulFrom layers (scene_from scene first) later
lawful_parts layers scene [] later h = (tt, h)
lawful_parts layers scene (made ∷ first) later h =
    let rest = lawful_parts layers (after_entry scene made.entry) first later h.1 in
    ((h.0, rest.0), rest.1)
