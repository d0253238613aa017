-- The steps on locks keep all invariants: they leave all but the locks of their pass, and what it had under way where that is nothing.
use Rattle.std.proofs.Common.{◌≡◌, ◌≢◌, ◌⊎◌, ℕ, List, [], ◌∷◌, ◌++◌, Bool, true, false, cond, eqb, Some, None, refl, ap, sym, ◌∙◌, subst, inl, inr, option_map}
use Rattle.std.specs.Prelude.{flat_map}
use Rattle.std.proofs.lemmas.Bool.{eqb-true}
use Rattle.std.proofs.lemmas.Option.{none-some}
use Rattle.std.proofs.lemmas.List.Sums.{fold-append}
use Rattle.word_map.specs.declared.name.Name.{Name}
use Rattle.word_map.specs.declared.name.Name.TheVariants.{Lock, Phase, BoxWord, Slot}
use Rattle.word_map.specs.Names.{pool_lock}
use Rattle.core_state.specs.declared.view.Mode.{Mode}
use Rattle.core_state.specs.declared.view.Mode.TheVariants.{Read, Write}
use Rattle.core_state.specs.declared.view.LockStep.{LockStep}
use Rattle.core_state.specs.declared.view.LockStep.TheVariants.{Taken}
use Rattle.core_state.specs.declared.view.Task.{Task}
use Rattle.core_state.specs.declared.view.Task.TheVariants.{Nothing}
use Rattle.core_state.specs.declared.view.Batch.{Batch}
use Rattle.core_state.specs.declared.view.Call.{Call}
use Rattle.core_state.specs.declared.view.View.{View}
use Rattle.core_state.specs.Log.{history}
use Rattle.core_state.specs.View.{mode_of, mode_after, Holds, HoldsNot}
use Rattle.core_state.specs.Core.{Core, word_of}
use Rattle.core_state.specs.Kind.{Asking, Kind, Step, Steps, learned, found_by, view_after, after_step}
use Rattle.core_state.specs.Formed.{IsFormed}
use Rattle.core_state.specs.Locking.{with_lock_step, taken_if, released, take, MayRead, take_read, MayWrite, take_write, MayRelease, release}
use Rattle.core_state.specs.Bodies.{phase_by}
use Rattle.core_state.specs.Nodes.{nodes_in}
use Rattle.core_state.specs.Parts.{task_on_pool, update_on_nodes}
use Rattle.core_state.specs.Pool.{IsPoolTask}
use Rattle.core_state.specs.NodesInOnePlace.{NodesInOnePlace, node_scope, IsPooling}
use Rattle.core_state.specs.LocksAgree.{LocksAgree}
use Rattle.core_state.specs.BodiesAgree.{BodiesAgree}
use Rattle.core_state.specs.Invariants.{Invariants}
use Rattle.core_state.proofs.Beginning.{record_body}
use Rattle.core_state.proofs.Steps.{word-step-other}
use Rattle.core_guard.proofs.BodiesAside.{IsAsideWord as IsOffBodies, IsPoolCall, same_calls, pool_calls, BodiesAgree-aside}
use Rattle.core_guard.proofs.BodiesStep.{batch-part}
use Rattle.core_guard.proofs.Leaving.{Lawful, IsIdle}
use Rattle.core_guard.proofs.ListSteps.{IsAsideWord, Invariants-aside}
use Rattle.core_guard.proofs.LockSteps.{read-takes, write-takes, LocksAgree-take, LocksAgree-release}
use Rattle.core_guard.proofs.LockWords.{Takes}
use Rattle.core_guard.proofs.NodesLeft.{NodesInOnePlace-stays, unseen-pool, unseen-update, same-nodes}

-- a view after a step on a lock
pub record IsRelocked (v w : View) : Type 0 where
  pub batches : w.batches ≡ v.batches
  pub loose : w.loose ≡ v.loose
  pub written : w.written ≡ v.written
  pub rebuild : w.rebuild ≡ v.rebuild
  pub walk : w.walk ≡ v.walk
  pub call : ((w.call ≡ v.call) × ((lock : ℕ) (mode : Mode) → Holds v lock mode → Holds w lock mode)) ⊎ ((v.call.task ≡ Nothing) × (w.call.task ≡ Nothing))

-- a lock more leaves the others as they were
mode-taken : (steps : List LockStep) (taken lock : ℕ) (mode held : Mode) → mode_of steps taken ≡ None → mode_of steps lock ≡ Some held → mode_of (steps ++ Taken taken mode ∷ []) lock ≡ Some held
mode-taken steps taken lock mode held none holds = fold-append (mode_after lock) None steps (Taken taken mode ∷ []) ∙ go (eqb taken lock) refl
  where
    go : (test : Bool) → eqb taken lock ≡ test → cond (eqb taken lock) (Some mode) (mode_of steps lock) ≡ Some held
    go true e = absurd (none-some held (sym none ∙ (ap (mode_of steps) (eqb-true taken lock e) ∙ holds)))
    go false e = rw e holds

-- whether it was taken or not
taken-view : (view : View) (lock : ℕ) (mode : Mode) (test : Bool) → HoldsNot view lock → IsRelocked view (cond test (with_lock_step view (Taken lock mode)) view)
taken-view view lock mode true free = record {
  batches = refl;
  loose = refl;
  written = refl;
  rebuild = refl;
  walk = refl;
  call = inl (refl, λ other held holds. mode-taken view.locks lock other mode held free holds);
}
taken-view view lock mode false free = record { batches = refl; loose = refl; written = refl; rebuild = refl; walk = refl; call = inl (refl, λ other held holds. holds) }

released-view : (view : View) (lock : ℕ) → view.call.task ≡ Nothing → IsRelocked view (released view (Lock lock))
released-view view lock done = record { batches = refl; loose = refl; written = refl; rebuild = refl; walk = refl; call = inr (done, refl) }

-- ---- what it leaves

module _ (kind : Kind) (core : Core) (step : Step) (a : Lawful core step) (lock : ℕ) (names : step.name ≡ Lock lock) (entry : (value : ℕ) → kind.entry step.view step.name value ≡ None)
    (w : IsRelocked (learned core step) (kind.leaves (learned core step) step.name (found_by core step) step.first step.second)) where
  abbrev Last : View
  Last = view_after kind core step

  abbrev not_a_lock : Name → Type 0
  not_a_lock name = (lock : ℕ) → name ≢ Lock lock

  other : (name : Name) → not_a_lock name → word_of (after_step kind core step) name ≡ word_of core name
  other name none = word-step-other kind core step name (λ same. none lock (same ∙ names))

  calls : IsPoolCall step.view Last
  calls =
      elim (w.call) [
        | inl same ↦ same_calls same.0 (λ lock holds. same.1 lock Write holds)
        | inr none ↦ pool_calls (subst IsPoolTask (sym none.0) tt) (subst IsPoolTask (sym none.1) tt)
      ]

  bodies : BodiesAgree (after_step kind core step)
  bodies =
      let slot = λ (l t : ℕ). other (Slot l t) (λ lock e. absurd cc) in
      BodiesAgree-aside kind core step a (record { word = subst IsOffBodies (sym names) tt; entry = entry; call = calls })
      (λ i r e old. ap (λ (x : ℕ). phase_by (word_of core (Phase i)) x) (slot r.layer _) ∙ old)
      (batch-part kind core step a.at a.pass (history core.log) a.laws.bodies w.batches
      (record { forth = λ i r e held. record_body _ _ r e (held, refl); boxes = λ i r e held k. other (BoxWord i k) (λ lock e. absurd cc); back = λ i held. held })
      (λ i. other (Phase i) (λ lock e. absurd cc)) slot)

  pools : task_on_pool Last.call.task ≡ task_on_pool step.view.call.task
  pools =
      elim (w.call) [
        | inl same ↦ ap (λ (c : Call). task_on_pool c.task) same.0
        | inr none ↦ ap task_on_pool (none.1 ∙ sym none.0)
      ]

  pool-lock : IsPooling (task_on_pool Last.call.task) → Holds step.view (pool_lock core.config) Write → Holds Last (pool_lock core.config) Write
  pool-lock pooling holds =
      elim (w.call) [
        | inl same ↦ same.1 (pool_lock core.config) Write holds
        | inr none ↦ absurd (subst (λ (t : Task). IsPooling (task_on_pool t)) none.1 pooling)
      ]

  idle : (Last.call ≡ step.view.call) ⊎ (IsIdle step.view.call.task × IsIdle Last.call.task)
  idle =
      elim (w.call) [
        | inl same ↦ inl same.0
        | inr none ↦ inr (subst IsIdle (sym none.0) tt, subst IsIdle (sym none.1) tt)
      ]

  places : NodesInOnePlace a.laws.nodes (after_step kind core step)
  places =
      let hidden : node_scope.names step.name ≡ false = ap node_scope.names names in
      NodesInOnePlace-stays kind core step a (unseen-pool kind core step hidden pools pool-lock)
      (same-nodes kind core step (ap (λ (l : List Batch). flat_map (λ (b : Batch). b.nodes) l) w.batches) w.loose (ap nodes_in w.rebuild))
      (unseen-update kind core step hidden (ap (option_map update_on_nodes) w.rebuild))

  Invariants-locked : LocksAgree (after_step kind core step) → Invariants (after_step kind core step)
  Invariants-locked locks =
      Invariants-aside kind core step a
      (record { aside = subst IsAsideWord (sym names) tt; entry = entry; batches = w.batches; written = w.written; walk = w.walk; rebuild = w.rebuild; call = idle }) locks bodies places

-- ---- the steps

taken : (core : Core) (step : Step) (a : Lawful core step) (mode : Mode) (lock number : ℕ) → Takes mode step lock number → Invariants (after_step (take mode) core step)
taken core step a mode lock number takes =
    Invariants-locked (take mode) core step a lock takes.names (λ value. refl)
    (subst (λ (n : Name). IsRelocked (learned core step) (taken_if (learned core step) n mode (found_by core step) step.first)) (sym takes.names)
    (taken-view (learned core step) lock mode (eqb (found_by core step) step.first) takes.free))
    (LocksAgree-take core step a mode lock number takes)

-- such a step is made by a pass, and all laws hold before it
lawful-of : (asks : Asking) (kind : Kind) (before after : Core) → (steps : Steps asks kind before after) → Invariants before → Lawful before steps.step
lawful-of asks kind before after steps laws = record { at = steps.allowed.at; pass = steps.allowed.pass; laws = laws }

pub Invariants-reads : (before after : Core) → Steps MayRead take_read before after → Invariants before → Invariants after
Invariants-reads before after steps laws =
    let asked = steps.allowed.asked in
    subst Invariants (sym steps.result) (taken before steps.step (lawful-of MayRead take_read before after steps laws) Read asked.lock asked.number (read-takes steps.step asked))

pub Invariants-writes : (before after : Core) → Steps MayWrite take_write before after → Invariants before → Invariants after
Invariants-writes before after steps laws =
    let asked = steps.allowed.asked in
    subst Invariants (sym steps.result) (taken before steps.step (lawful-of MayWrite take_write before after steps laws) Write asked.lock asked.number (write-takes steps.step asked))

-- the form is asked for as well: it bounds the word from which the bit is taken away
pub Invariants-releases : (before after : Core) → IsFormed before → Steps MayRelease release before after → Invariants before → Invariants after
Invariants-releases before after formed steps laws =
    let step = steps.step in
    let asked = steps.allowed.asked in
    let a = lawful-of MayRelease release before after steps laws in
    let view = learned before step in
    subst Invariants (sym steps.result)
    (Invariants-locked release before step a asked.lock asked.names (λ value. refl)
    (subst (λ (n : Name). IsRelocked view (released view n)) (sym asked.names) (released-view view asked.lock asked.done))
    (LocksAgree-release before step a formed steps.allowed.named asked))
