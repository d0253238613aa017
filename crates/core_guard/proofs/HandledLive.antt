-- A pass moves, removes or places live bodies only.
use Rattle.std.proofs.Common.{◌≡◌, ◌≢◌, ℕ, Option, Some, None, refl, sym, subst}
use Rattle.std.specs.Prelude.{IsSome, IsSomeAnd}
use Rattle.scene_model.specs.declared.body_view.Phase.TheVariants.{Out, Held}
use Rattle.scene_model.specs.Scene.{Record, record_at}
use Rattle.scene_model.specs.Step.{HasBody}
use Rattle.core_state.specs.declared.view.Task.{Task}
use Rattle.core_state.specs.declared.view.Task.TheVariants.{Moving, Removing, Placing}
use Rattle.core_state.specs.declared.view.Call.{Call}
use Rattle.core_state.specs.declared.view.View.{View}
use Rattle.core_state.specs.View.{IsPass}
use Rattle.core_state.specs.Core.{Core, scene_of, IsViewAt}
use Rattle.core_state.specs.Parts.{call_by_task, call_on_places}
use Rattle.core_state.specs.Nodes.{Nodes}
use Rattle.core_state.specs.Scope.{Sight, sight, scene_in}
use Rattle.core_state.specs.LocationsHold.{LocationsHold, location_scope, IsUnheld, IsTakenOut, Removes}
use Rattle.core_guard.proofs.Leaving.{IsHandled}
use Rattle.core_guard.proofs.Seats.{each-seat}

-- a call that handles a body is seen whole
handling-seen : (call : Call) (i : ℕ) → IsHandled call.task i → call_on_places call ≡ call
handling-seen call i = go call.task
  where
    go : (task : Task) → IsHandled task i → call_by_task task call ≡ call
    go (Moving index target) h = refl
    go (Removing index) h = refl
    go (Placing index) h = refl
    go _ h = absurd h

some-live : (P : Record → Type 0) (o : Option Record) → IsSomeAnd o P → IsSome o
some-live P None h = absurd h
some-live P (Some r) h = refl

task-live : (s : Sight) (task : Task) (i : ℕ) → IsUnheld s task → (Removes task i → HasBody (scene_in s) i (λ r. r.phase ≡ Out)) → IsHandled task i → IsSome (record_at (scene_in s) i)
task-live s (Moving index target) i unheld out h = some-live (λ r. r.phase ≢ Held) (record_at (scene_in s) i) (subst (λ (k : ℕ). HasBody (scene_in s) k (λ r. r.phase ≢ Held)) h unheld)
task-live s (Removing index) i unheld out h = some-live (λ r. r.phase ≡ Out) (record_at (scene_in s) i) (out h)
task-live s (Placing index) i unheld out h = some-live (λ r. r.phase ≢ Held) (record_at (scene_in s) i) (subst (λ (k : ℕ). HasBody (scene_in s) k (λ r. r.phase ≢ Held)) h unheld)
task-live s _ i unheld out h = absurd h

module _ (core : Core) (nodes : Nodes) (law : LocationsHold nodes core) where
  pub handled-live : (seat number : ℕ) (view : View) (i : ℕ) → IsViewAt core seat view → IsPass view number → IsHandled view.call.task i → IsSome (record_at (scene_of core) i)
  handled-live seat number view i found own handled =
      let s = sight location_scope core in
      let seen = handling-seen view.call i handled in
      let unheld = each-seat location_scope (λ k v. refl) core (λ k v. IsUnheld s v.call.task) law.unheld seat number view found own in
      let removed = each-seat location_scope (λ k v. refl) core (λ k v. (j : ℕ) → Removes v.call.task j → IsTakenOut nodes s v j) law.removed seat number view found own in
      task-live s view.call.task i (subst (λ (c : Call). IsUnheld s c.task) seen unheld)
      (λ removes. (removed i (subst (λ (c : Call). Removes c.task i) (sym seen) removes)).out) handled
