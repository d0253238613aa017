-- Entries on several bodies: a join, and a batch that is taken and let go.
use Rattle.std.specs.Prelude.{◌≡◌, ℕ, List, map, length, Contains, option_map}
use Rattle.scene_model.specs.declared.body_view.Phase.TheVariants.{In}
use Rattle.scene_model.specs.declared.entry.Entry.TheVariants.{Mark, Unmark}
use Rattle.scene_model.specs.declared.entry.Made.{Made}
use Rattle.scene_model.specs.Scene.{Scene, record_at}
use Rattle.scene_model.specs.Step.{in_phase}

-- the bodies at exactly these indexes came into the broad phase, and nothing else changed
pub record JoinsOnly (old new : Scene) (indexes : List ℕ) : Type 0 where
  pub listed : (index : ℕ) → Contains indexes index → record_at new index ≡ option_map (in_phase In) (record_at old index)
  pub others : (index : ℕ) → ¬ Contains indexes index → record_at new index ≡ record_at old index
  pub freed : new.freed ≡ old.freed
  pub used : length new.places ≡ length old.places
  pub bodies : new.bodies ≡ old.bodies

-- a pass takes bodies for a batch, one after another, and lets them go
abbrev pub marks : ℕ → List ℕ → List Made
marks pass indexes = map (λ index. record { pass = pass; entry = Mark index }) indexes

abbrev pub unmarks : ℕ → List ℕ → List Made
unmarks pass indexes = map (λ index. record { pass = pass; entry = Unmark index }) indexes
