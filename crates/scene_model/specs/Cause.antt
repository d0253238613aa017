-- Refusals, and the scenes in which each is right.
use Rattle.std.specs.Prelude.{◌≡◌, ◌≢◌, ℕ, ◌<◌, ◌%◌, ◌⊎◌, IsSome}
use Rattle.body_ident.specs.Id.{Id}
use Rattle.scene_model.specs.declared.body_view.Phase.TheVariants.{Out, Held, In}
use Rattle.scene_model.specs.Scene.{Scene, Record, record_at}
use Rattle.scene_model.specs.Step.{HasBody}
use Rattle.scene_model.specs.History.{Interval, AtSomePoint}

-- why a call refuses: no body can be created, or what is wrong with the body of an id
pub data Cause : Type 0 where
  full : Cause
  gone : Id → Cause
  in_use : Id → Cause
  not_in : Id → Cause
  held : Id → Cause
  already_in : Id → Cause
  -- it is in another layer than this one, which was asked for
  wrong_layer : Id → ℕ → Cause

-- the body that an id names is live, and this holds of it
abbrev pub HasIdBody : Scene → Id → (Record → Type 0) → Type 0
HasIdBody scene i P = HasBody scene i.index (λ r. (r.generation % 256 ≡ i.seq) × P r)

-- the scene gives this cause
abbrev pub IsCauseAt : Cause → Scene → Type 0
IsCauseAt full scene = (index : ℕ) → index < scene.bodies → IsSome (record_at scene index)
IsCauseAt (gone i) scene = ¬ HasBody scene i.index (λ r. r.generation % 256 ≡ i.seq)
IsCauseAt (in_use i) scene = HasIdBody scene i (λ r. (r.phase ≡ Held) ⊎ (r.phase ≡ In))
IsCauseAt (not_in i) scene = HasIdBody scene i (λ r. r.phase ≡ Out)
IsCauseAt (held i) scene = HasIdBody scene i (λ r. r.phase ≡ Held)
IsCauseAt (already_in i) scene = HasIdBody scene i (λ r. r.phase ≡ In)
IsCauseAt (wrong_layer i layer) scene = HasIdBody scene i (λ r. (r.phase ≡ Out) × (r.layer ≢ layer))

-- a refusal is right for an interval where at some point of it the scene gives its cause
abbrev pub IsCause : ℕ → Interval → Cause → Type 0
IsCause bodies interval cause = AtSomePoint bodies interval (IsCauseAt cause)
