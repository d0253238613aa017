-- What stands at an index after a change of the scene at one index.
use Rattle.std.proofs.Common.{◌≡◌, ◌≢◌, ℕ, ◌<◌, length, get_or, refl, sym, ◌∙◌, ap, subst, Option, option_map, IsSomeAnd, inl, inr}
use Rattle.std.proofs.lemmas.List.{get_or-set_same, get_or-set_other, get_or_past, set_past}
use Rattle.std.proofs.lemmas.Bool.{cases_lt}
use Rattle.scene_model.specs.Scene.{Scene, Place, Record, place_at, record_at, unused}
use Rattle.scene_model.specs.Step.{HasBody, with_body, with_change}

-- a body is live only at an index that was used
pub live_used : (scene : Scene) (index : ℕ) (P : Record → Type 0) → HasBody scene index P → index < length scene.places
live_used scene index P h =
    elim (cases_lt index (length scene.places)) [
      | inl below ↦ below
      | inr past ↦ absurd (subst (λ (p : Place). IsSomeAnd p.body P) (get_or_past scene.places index unused past) h)
    ]

pub place_at-with_body_same : (scene : Scene) (index : ℕ) (body : Option Record) → index < length scene.places
    → place_at (with_body scene index body) index ≡ record (place_at scene index) { body = body }
place_at-with_body_same scene index body below = get_or-set_same scene.places index _ unused below

pub place_at-with_body_other : (scene : Scene) (index other : ℕ) (body : Option Record) → other ≢ index
    → place_at (with_body scene index body) other ≡ place_at scene other
place_at-with_body_other scene index other body apart = get_or-set_other scene.places index other _ unused apart

-- past the used indexes there is no body to change
pub place_at-with_change_same : (f : Record → Record) (scene : Scene) (index : ℕ)
    → place_at (with_change f scene index) index ≡ record (place_at scene index) { body = option_map f (record_at scene index) }
place_at-with_change_same f scene index =
    elim (cases_lt index (length scene.places)) [
      | inl below ↦ place_at-with_body_same scene index _ below
      | inr past ↦
          let Same : Place → Type 0 = λ p. p ≡ record p { body = option_map f p.body } in
          ap (λ ps. get_or ps index unused) (set_past scene.places index _ past)
          ∙ subst Same (sym (get_or_past scene.places index unused past)) refl
    ]
