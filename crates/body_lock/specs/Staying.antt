-- What may become of a body while it is locked.
use Rattle.std.specs.Prelude.{◌≡◌, ◌⊎◌, ℕ, List, ◌++◌, Option, Some}
use Rattle.scene_model.specs.declared.body_view.Phase.TheVariants.{Held, In}
use Rattle.scene_model.specs.Scene.{Record, record_at}
use Rattle.core_state.specs.declared.item.Item.{Item}
use Rattle.core_state.specs.declared.view.View.{View}
use Rattle.core_state.specs.Guards.{scene_at}

-- the same body at two times: nothing of it has changed, but that it may have been held first and be in the broad phase
-- later
pub record IsSameBody (early late : Record) : Type 0 where
  pub generation : early.generation ≡ late.generation
  pub layer : early.layer ≡ late.layer
  pub bounds : early.bounds ≡ late.bounds
  pub user : early.user ≡ late.user
  pub phase : (early.phase ≡ late.phase) ⊎ ((early.phase ≡ Held) × (late.phase ≡ In))

-- a body is live at both times, and it is the same
abbrev pub StaysLive : Option Record → Option Record → Type 0
StaysLive (Some early) (Some late) = IsSameBody early late
StaysLive _ _ = ⊥

-- from what the one view knows to what the next one knows, the body at an index stays: so it is between any two points
abbrev pub BodyStays : ℕ → View → View → Type 0
BodyStays index view next = (early mid later : List Item) → next.known ≡ ((view.known ++ early) ++ mid) ++ later
    → StaysLive (record_at (scene_at view.config (view.known ++ early)) index) (record_at (scene_at view.config ((view.known ++ early) ++ mid)) index)
