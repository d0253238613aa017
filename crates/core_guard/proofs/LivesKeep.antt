-- The steps on bodies keep all invariants: what a body is to be, its creation, its destruction, its user number.
use Rattle.std.proofs.Common.{◌≡◌, ℕ, option_map, false, refl, ap, sym, subst}
use Rattle.std.proofs.lemmas.Bool.{false≢true}
use Rattle.word_map.specs.declared.config.Config.{Config}
use Rattle.word_map.specs.declared.name.Name.{Name}
use Rattle.word_map.specs.declared.name.Name.TheVariants.{Layer, User, BoxWord}
use Rattle.core_state.specs.declared.view.View.{View}
use Rattle.core_state.specs.Core.{Core}
use Rattle.core_state.specs.Kind.{Kind, Step, view_after, after_step}
use Rattle.core_state.specs.Lives.{IsFieldOf, MayStoreField, store_field, MayCreate, create, MayDestroy, destroy, MaySetUser, set_user}
use Rattle.core_state.specs.LocksAgree.{lock_scope}
use Rattle.core_state.specs.BodiesAgree.{BodiesAgree}
use Rattle.core_state.specs.NodesInOnePlace.{NodesInOnePlaceIn, node_scope}
use Rattle.core_state.specs.Parts.{call_at, task_on_pool, update_on_nodes}
use Rattle.core_state.specs.Frame.{IsOutside}
use Rattle.core_state.specs.Scope.{bare_view}
use Rattle.core_state.specs.Invariants.{Invariants}
use Rattle.core_state.proofs.Frames.{frame, step-same}
use Rattle.core_guard.proofs.HandledLive.{handled-live}
use Rattle.core_guard.proofs.Leaving.{Acts, acts-of, lawful, Touches}
use Rattle.core_guard.proofs.LivesAgree.{BodiesAgree-store_field, BodiesAgree-create, BodiesAgree-destroy, BodiesAgree-set_user}
use Rattle.core_guard.proofs.LivesTouch.{touches-store_field, touches-create, touches-destroy, touches-set_user}
use Rattle.core_guard.proofs.LockSteps.{LocksAgree-other}
use Rattle.core_guard.proofs.Touched.{Invariants-touches, IsKept}

-- a word of a body is none of a lock or of the pool
record IsOfBodies (name : Name) : Type 0 where
  locks : lock_scope.names name ≡ false
  pool : node_scope.names name ≡ false

field-name : (c : Config) (i : ℕ) (name : Name) (value : ℕ) → IsFieldOf c i name value → IsOfBodies name
field-name c i (Layer j) value h = record { locks = refl; pool = refl }
field-name c i (User j) value h = record { locks = refl; pool = refl }
field-name c i (BoxWord j k) value h = record { locks = refl; pool = refl }
field-name c i _ value h = absurd h

module _ (kind : Kind) (core : Core) (step : Step) (a : Acts core step) (name : IsOfBodies step.name) where
  abbrev Last : View
  Last = view_after kind core step

  -- where trees are left, and the own view in all that such a step does not change, bodies are what is left to be shown
  kept-lives : Touches kind core step a.laws.nodes a.laws.nodes → Last.locks ≡ step.view.locks → Last.batches ≡ step.view.batches → Last.loose ≡ step.view.loose → task_on_pool Last.call.task ≡ task_on_pool step.view.call.task
      → BodiesAgree (after_step kind core step) → Invariants (after_step kind core step)
  kept-lives t locks batches loose pool bodies =
      let bare = bare_view step.number in
      let outside : IsOutside node_scope kind core step = record {
        name = λ stored. name.pool;
        entry = λ reads. absurd (false≢true reads);
        part = λ i. record bare { locks = locks i; call = call_at (pool i); batches = batches i; loose = loose i; rebuild = option_map update_on_nodes (t.leaves.rebuild i) };
      } in
      Invariants-touches kind core step a a.laws.nodes t (LocksAgree-other core step (lawful a) kind name.locks locks) bodies
      (frame node_scope (NodesInOnePlaceIn a.laws.nodes) core (after_step kind core step) (step-same node_scope kind core step a.at a.pass outside) a.laws.places)

pub Invariants-store_field : IsKept MayStoreField store_field
Invariants-store_field before after steps formed guards h =
    let step = steps.step in
    let asked = steps.allowed.asked in
    let a = acts-of MayStoreField store_field before after steps formed guards h in
    let bodies = subst BodiesAgree steps.result (BodiesAgree-store_field before after steps formed guards h.locks h.bodies) in
    subst Invariants (sym steps.result)
    (kept-lives store_field before step a (field-name step.view.config asked.index step.name step.first asked.field) (touches-store_field before step a (handled-live before h.nodes h.locations) asked) refl refl refl (refl) bodies)

pub Invariants-create : IsKept MayCreate create
Invariants-create before after steps formed guards h =
    let step = steps.step in
    let asked = steps.allowed.asked in
    let a = acts-of MayCreate create before after steps formed guards h in
    let bodies = subst BodiesAgree steps.result (BodiesAgree-create before after steps formed guards h.locks h.bodies) in
    subst Invariants (sym steps.result)
    (kept-lives create before step a (let same = asked.names in record { locks = ap lock_scope.names same; pool = ap node_scope.names same }) (touches-create before step a (handled-live before h.nodes h.locations) asked) refl refl refl (sym (ap task_on_pool asked.creating.task)) bodies)

pub Invariants-destroy : IsKept MayDestroy destroy
Invariants-destroy before after steps formed guards h =
    let step = steps.step in
    let asked = steps.allowed.asked in
    let a = acts-of MayDestroy destroy before after steps formed guards h in
    let bodies = subst BodiesAgree steps.result (BodiesAgree-destroy before after steps formed guards h.locks h.bodies) in
    subst Invariants (sym steps.result)
    (kept-lives destroy before step a (let same = asked.names in record { locks = ap lock_scope.names same; pool = ap node_scope.names same }) (touches-destroy before step a asked) refl refl refl (sym (ap task_on_pool asked.task)) bodies)

pub Invariants-set_user : IsKept MaySetUser set_user
Invariants-set_user before after steps formed guards h =
    let step = steps.step in
    let asked = steps.allowed.asked in
    let a = acts-of MaySetUser set_user before after steps formed guards h in
    let bodies = subst BodiesAgree steps.result (BodiesAgree-set_user before after steps formed guards h.locks h.bodies) in
    subst Invariants (sym steps.result)
    (kept-lives set_user before step a (let same = asked.names in record { locks = ap lock_scope.names same; pool = ap node_scope.names same }) (touches-set_user before step a asked) refl refl refl (refl) bodies)
