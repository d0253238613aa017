-- What a pass has alone: a lock that it holds to write, and the bodies that its batches hold.
use Rattle.std.proofs.Common.{◌≡◌, ◌≢◌, ℕ, Contains, sym, ◌∙◌}
use Rattle.std.proofs.lemmas.Option.{none-some}
use Rattle.scene_model.specs.declared.body_view.Phase.TheVariants.{Held}
use Rattle.scene_model.specs.Step.{HasBody}
use Rattle.core_state.specs.declared.view.Mode.{Mode}
use Rattle.core_state.specs.declared.view.Mode.TheVariants.{Write}
use Rattle.core_state.specs.declared.view.Marked.{Marked}
use Rattle.core_state.specs.declared.view.Batch.{Batch}
use Rattle.core_state.specs.declared.view.View.{View}
use Rattle.core_state.specs.View.{IsPass, Holds}
use Rattle.core_state.specs.Core.{Core, IsViewAt}
use Rattle.core_state.specs.Kind.{Kind, Step}
use Rattle.core_state.specs.LocksAgree.{LocksAgree}
use Rattle.core_state.specs.Scope.{sight, scene_in}
use Rattle.core_state.specs.Bodies.{all_batches}
use Rattle.core_state.specs.BodiesAgree.{BodiesAgree, body_scope}
use Rattle.core_state.proofs.Guarding.{writer-alone}
use Rattle.core_state.proofs.Beginning.{contains_flat}
use Rattle.core_guard.proofs.Seats.{seat_seen}

-- ---- what another pass has

module _ (core : Core) (h : BodiesAgree core) (seat number : ℕ) (view : View) (at : IsViewAt core seat view) (pass : IsPass view number) where
  -- the body that a batch of it has marked is held
  pub marked-held : (batch : Batch) (m : Marked) → Contains view.batches batch → Contains batch.marked m → HasBody (scene_in (sight body_scope core)) m.index (λ r. (r.phase ≡ Held) × (r.layer ≡ batch.layer))
  marked-held batch m among marked =
      let seen = seat_seen body_scope core seat number view at pass in
      let all : Contains (all_batches (sight body_scope core)) batch = contains_flat (λ v. v.batches) (sight body_scope core).passes _ batch seen among in
      (h.marked batch m all marked).held

module _ (kind : Kind) (core : Core) (step : Step) (at : IsViewAt core step.seat step.view) (pass : IsPass step.view step.number) (agree : LocksAgree core) (h : BodiesAgree core) where
  -- who writes under a lock has it alone
  pub lock-alone : (lock seat number : ℕ) (view : View) (mode : Mode) → Holds step.view lock Write → seat ≢ step.seat → IsViewAt core seat view → IsPass view number → ¬ Holds view lock mode
  lock-alone lock seat number view mode holds apart found own other =
      none-some mode (sym (writer-alone core lock step.seat seat step.number number step.view view agree at pass holds apart found own) ∙ other)
