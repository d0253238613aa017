-- The bodies agree after each step on the pool.
use Rattle.std.proofs.Common.{◌≡◌, ◌≢◌, ◌↔◌, ℕ, ◌-◌, List, None, refl, ap, sym, ◌∙◌, subst, inl}
use Rattle.word_map.specs.declared.name.Name.{Name}
use Rattle.word_map.specs.declared.name.Name.TheVariants.{Phase, BoxWord, PoolHead, PoolNext, PoolFree, Slot}
use Rattle.core_state.specs.declared.view.Task.{Task}
use Rattle.core_state.specs.declared.view.Task.TheVariants.{Nothing, Pooling}
use Rattle.core_state.specs.declared.view.Batch.{Batch}
use Rattle.core_state.specs.declared.view.View.{View}
use Rattle.core_state.specs.Core.{Core, word_of}
use Rattle.core_state.specs.Kind.{Kind, Step, view_after, after_step}
use Rattle.core_state.specs.Bodies.{phase_by, all_batches}
use Rattle.core_state.specs.BodiesAgree.{BodiesAgree, body_scope}
use Rattle.core_state.specs.Pool.{IsPoolTask, one_taken, one_given, MayStorePoolLink, store_pool_link, MayStorePoolHead, store_pool_head, MayStorePoolCount, store_pool_count}
use Rattle.core_state.specs.Scope.{sight}
use Rattle.core_state.proofs.Steps.{word-step-other}
use Rattle.core_guard.proofs.BodiesStep.{HoldsSlot}
use Rattle.core_guard.proofs.Leaving.{Acts, lawful}
use Rattle.core_batch.proofs.BatchesStep.{ChangesBatches, batch-part, slot-kept}
use Rattle.core_guard.proofs.BodiesAside.{IsAside, IsAsideWord, IsPoolCall, same_calls, pool_calls, BodiesAgree-aside}
use Rattle.core_batch.proofs.Newest.{newest-changes, newest-holds, newest-held}
use Rattle.core_batch.proofs.PoolHeads.{IsTaking, IsGiving, taking, giving, head-step}
use Rattle.core_batch.proofs.PoolSteps.{IsPoolWord, counting-pool}

-- batches that stay as they were
pub same-batches : (all from : List Batch) → ChangesBatches all from from
same-batches all from = record {
  apart = λ h. h;
  keyed = λ y among. inl (y, among, refl, refl);
  marks = refl;
  back = λ y m among marked. (y, among, marked, refl, refl, λ n inside. inside);
  forth = λ x m among marked. (x, among, marked);
}

pool_aside : (name : Name) → IsPoolWord name → IsAsideWord name
pool_aside PoolHead h = tt
pool_aside (PoolNext n) h = tt
pool_aside PoolFree h = tt
pool_aside _ h = absurd h

-- a task on the pool with one node more is one
pub taken_task : (task : Task) → IsPoolTask task → IsPoolTask (one_taken task)
taken_task Nothing h = tt
taken_task (Pooling taken given) h = tt
taken_task _ h = absurd h

pub given_task : (task : Task) → IsPoolTask task → IsPoolTask (one_given task)
given_task Nothing h = tt
given_task (Pooling taken given) h = tt
given_task _ h = absurd h

module _ (kind : Kind) (core : Core) (step : Step) (a : Acts core step) (of_pool : IsPoolWord step.name) where
  abbrev Last : View
  Last = view_after kind core step

  apart : (name : Name) → ¬ IsPoolWord name → name ≢ step.name
  apart name none same = none (subst IsPoolWord (sym same) of_pool)

  -- slots are held as before
  pub BodiesAgree-pool : ((value : ℕ) → kind.entry step.view step.name value ≡ None) → IsPoolCall step.view Last
      → (batches : ChangesBatches (all_batches (sight body_scope core)) step.view.batches Last.batches) → ((l t : ℕ) → HoldsSlot l t step.view ↔ HoldsSlot l t Last) → BodiesAgree (after_step kind core step)
  BodiesAgree-pool entry call batches holds =
      let leaves : IsAside kind core step = record { word = pool_aside step.name of_pool; entry = entry; call = call } in
      let stands : (l t : ℕ) → word_of (after_step kind core step) (Slot l t) ≡ word_of core (Slot l t) = λ l t. word-step-other kind core step (Slot l t) (apart (Slot l t) (λ none. none)) in
      BodiesAgree-aside kind core step (lawful a) leaves
      (λ i r e old. ap (λ (w : ℕ). phase_by (word_of core (Phase i)) w) (stands r.layer (word_of core (Phase i) - 2)) ∙ old)
      (batch-part kind core step a batches (λ i. word-step-other kind core step (Phase i) (apart (Phase i) (λ none. none)))
      (λ i k. word-step-other kind core step (BoxWord i k) (apart (BoxWord i k) (λ none. none)))
      (λ l t number below. slot-kept kind core step a batches l t number below (stands l t) (holds l t)))

-- ---- a link, and the count

pub BodiesAgree-store_pool_link : (core : Core) (step : Step) (a : Acts core step) → MayStorePoolLink step.view step.name step.first step.second → BodiesAgree (after_step store_pool_link core step)
BodiesAgree-store_pool_link core step a asked =
    BodiesAgree-pool store_pool_link core step a (subst IsPoolWord (sym asked.names) tt) (λ value. refl) (same_calls refl (λ lock holds. holds)) (same-batches (all_batches (sight body_scope core)) step.view.batches)
    (λ l t. (λ has. has, λ has. has))

pub BodiesAgree-store_pool_count : (core : Core) (step : Step) (a : Acts core step) → MayStorePoolCount step.view step.name step.first step.second → BodiesAgree (after_step store_pool_count core step)
BodiesAgree-store_pool_count core step a asked =
    BodiesAgree-pool store_pool_count core step a (subst IsPoolWord (sym asked.names) tt) (λ value. refl) (pool_calls (counting-pool step.view step.first asked.count) tt)
    (same-batches (all_batches (sight body_scope core)) step.view.batches) (λ l t. (λ has. has, λ has. has))

-- ---- the head

module _ (core : Core) (step : Step) (a : Acts core step) (asked : MayStorePoolHead step.view step.name step.first step.second) where
  abbrev Head : View
  Head = view_after store_pool_head core step

  abbrev all : List Batch
  all = all_batches (sight body_scope core)

  abbrev IsHolding : ℕ → ℕ → List Batch → Type 0
  IsHolding l t xs = HoldsSlot l t (record Head { batches = xs })

  pub taken-changes : (x : ℕ) → IsTaking core step x → ChangesBatches all step.view.batches Head.batches
  taken-changes x t = subst (λ (to : List Batch). ChangesBatches all step.view.batches to) (sym (ap (λ (v : View). v.batches) t.left)) (newest-changes x all step.view.batches)

  pub given-changes : (x : ℕ) → IsGiving core step x → ChangesBatches all step.view.batches Head.batches
  given-changes x g = subst (λ (to : List Batch). ChangesBatches all step.view.batches to) (sym (ap (λ (v : View). v.batches) g.left)) (same-batches all step.view.batches)

  pub BodiesAgree-store_pool_head : BodiesAgree (after_step store_pool_head core step)
  BodiesAgree-store_pool_head =
      let of_pool : IsPoolWord step.name = subst IsPoolWord (sym asked.names) tt in
      elim (head-step core step a asked) [
        | taking x t ↦
            let is : Head.batches ≡ _ = ap (λ (v : View). v.batches) t.left in
            BodiesAgree-pool store_pool_head core step a of_pool (λ value. refl)
            (pool_calls asked.pool.idle (subst IsPoolTask (sym (ap (λ (v : View). v.call.task) t.left)) (taken_task step.view.call.task asked.pool.idle))) (taken-changes x t)
            (λ l s. (
              λ has. subst (IsHolding l s) (sym is) (newest-holds x step.view.batches l s has),
              λ has. newest-held x step.view.batches l s (subst (IsHolding l s) is has),
            ))
        | giving x g ↦
            let is : Head.batches ≡ step.view.batches = ap (λ (v : View). v.batches) g.left in
            BodiesAgree-pool store_pool_head core step a of_pool (λ value. refl)
            (pool_calls asked.pool.idle (subst IsPoolTask (sym (ap (λ (v : View). v.call.task) g.left)) (given_task step.view.call.task asked.pool.idle))) (given-changes x g)
            (λ l s. (λ has. subst (IsHolding l s) (sym is) has, λ has. subst (IsHolding l s) is has))
      ]
