-- What a phase is, and what a phase word says that names a slot.
use Rattle.std.proofs.Common.{◌≡◌, ◌≤◌, ◌⊎◌, ℕ, zero, suc, Some, refl, inl, inr, arith}
use Rattle.std.proofs.lemmas.Bool.{le-ltb}
use Rattle.scene_model.specs.declared.body_view.Phase.{Phase}
use Rattle.scene_model.specs.declared.body_view.Phase.TheVariants.{Out, Held, In}
use Rattle.core_state.specs.Bodies.{phase_by_slot}

pub phase-cases : (phase : Phase) → (phase ≡ Out) ⊎ ((phase ≡ Held) ⊎ (phase ≡ In))
phase-cases Out = inl refl
phase-cases Held = inr (inl refl)
phase-cases In = inr (inr refl)

-- a slot with a tree in it says that the body is in the broad phase
pub slot-in : (word : ℕ) → 1024 ≤ word → phase_by_slot word ≡ Some In
slot-in zero h = absurd (omega arith)
slot-in (suc w) h = let test = le-ltb (suc w) 1024 h in rw test refl
