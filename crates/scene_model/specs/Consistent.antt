-- What holds of the scene after each lawful history.
use Rattle.std.specs.Prelude.{◌≡◌, ℕ, ◌<◌, ◌≤◌, length, nat_eq, Contains, IfSome, IsNone}
use Rattle.std.specs.List.{IsDistinct}
use Rattle.scene_model.specs.Scene.{Scene, Record, place_at, record_at}

-- the body is the last that was created at its index, in a layer that there is
pub record IsLatest (layers creations : ℕ) (r : Record) : Type 0 where
  pub latest : r.generation ≡ creations
  pub in_layers : r.layer < layers

-- of the indexes that were used, exactly those are freed at which no body is live, each once
pub record IsConsistent (layers : ℕ) (scene : Scene) : Type 0 where
  pub room : length scene.places ≤ scene.bodies
  pub freed_once : IsDistinct nat_eq scene.freed
  pub freed_empty : (index : ℕ) → Contains scene.freed index → (index < length scene.places) × IsNone (record_at scene index)
  pub empty_freed : (index : ℕ) → index < length scene.places → IsNone (record_at scene index) → Contains scene.freed index
  pub latest : (index : ℕ) → IfSome (record_at scene index) (IsLatest layers (place_at scene index).creations)
