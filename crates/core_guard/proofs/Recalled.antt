-- A step that changes the call of its pass, and nothing else of its view.
use Rattle.std.proofs.Common.{◌≡◌, ℕ, false, None, IsTrue, option_map, ap, ◌∙◌}
use Rattle.std.proofs.lemmas.Bool.{false≢true}
use Rattle.core_state.specs.declared.view.Task.{Task}
use Rattle.core_state.specs.declared.view.Call.{Call}
use Rattle.core_state.specs.declared.view.View.{View}
use Rattle.core_state.specs.Core.{Core}
use Rattle.core_state.specs.Kind.{Kind, Step, learned, found_by, log_after, after_step}
use Rattle.core_state.specs.Parts.{call_at, task_on_pool, update_on_nodes}
use Rattle.core_state.specs.Scope.{Scope, Sight, sight, bare_view}
use Rattle.core_state.specs.LocksAgree.{LocksAgree, lock_scope}
use Rattle.core_state.specs.NodesInOnePlace.{NodesInOnePlace, NodesInOnePlaceIn, node_scope}
use Rattle.core_state.proofs.Frames.{frame, step-same}
use Rattle.core_guard.proofs.Leaving.{Acts, lawful, Last}
use Rattle.core_guard.proofs.LockSteps.{LocksAgree-other}

module _ (kind : Kind) (core : Core) (step : Step) where
  abbrev pub Recalls : Call → Type 0
  Recalls call = kind.leaves (learned core step) step.name (found_by core step) step.first step.second ≡ record (learned core step) { call = call }

  -- what a scope sees of the view afterwards
  abbrev pub with_known : View → View
  with_known v = record v { config = step.view.config; role = step.view.role; known = log_after kind core step; joined = None }

  module _ (call : Call) (recalls : Recalls call) where
    pub recalled : Last kind core step ≡ record step.view { call = call; known = log_after kind core step; joined = None }
    recalled = ap with_known recalls

    pub call-is : (Last kind core step).call ≡ call
    call-is = ap (λ (v : View). v.call) recalled

    pub task-is : (Last kind core step).call.task ≡ call.task
    task-is = ap (λ (c : Call). c.task) call-is

    pub same-part : (scope : Scope) → scope.part (bare_view step.number) (record step.view { call = call; known = log_after kind core step; joined = None }) ≡ scope.part (bare_view step.number) step.view
        → scope.part (bare_view step.number) (Last kind core step) ≡ scope.part (bare_view step.number) step.view
    same-part scope same = ap (λ (v : View). scope.part (bare_view step.number) v) recalled ∙ same

    -- a law that sees neither the word nor the call
    pub law-unseen : Acts core step → (scope : Scope) (Law : Sight → Type 0) → scope.names step.name ≡ false → (IsTrue scope.reads_history → (value : ℕ) → kind.entry step.view step.name value ≡ None)
        → scope.part (bare_view step.number) (record step.view { call = call; known = log_after kind core step; joined = None }) ≡ scope.part (bare_view step.number) step.view
        → Law (sight scope core) → Law (sight scope (after_step kind core step))
    law-unseen a scope Law hidden plain same =
        frame scope Law core (after_step kind core step) (step-same scope kind core step a.at a.pass (record { name = λ stored. hidden; entry = plain; part = same-part scope same }))

    -- locks and nodes are where they were, where the word is none of theirs and the pool is none of the call's matter
    pub LocksAgree-recalled : Acts core step → lock_scope.names step.name ≡ false → LocksAgree (after_step kind core step)
    LocksAgree-recalled a hidden = LocksAgree-other core step (lawful a) kind hidden (ap (λ (v : View). v.locks) recalled)

    pub NodesInOnePlace-recalled : (a : Acts core step) → node_scope.names step.name ≡ false → task_on_pool call.task ≡ task_on_pool step.view.call.task → NodesInOnePlace a.laws.nodes (after_step kind core step)
    NodesInOnePlace-recalled a hidden pool =
        law-unseen a node_scope (NodesInOnePlaceIn a.laws.nodes) hidden (λ reads. absurd (false≢true reads))
        (ap
        (λ (t : Task). record (bare_view step.number) { locks = step.view.locks; call = call_at t; batches = step.view.batches; loose = step.view.loose; rebuild = option_map update_on_nodes step.view.rebuild })
        pool) a.laws.places
