-- What others' steps between two turns of giving a batch up leave as it was.
use Rattle.std.proofs.Common.{◌≡◌, ℕ, List, [], ◌∷◌, ◌++◌, Bool, Option, Some, None, cond, append_assoc, refl, ap, sym, ◌∙◌, subst}
use Rattle.std.proofs.lemmas.Bool.{eq-eqb}
use Rattle.std.proofs.lemmas.List.Sums.{fold-append}
use Rattle.word_map.specs.declared.config.Config.{Config}
use Rattle.word_map.specs.declared.name.Name.{Name}
use Rattle.word_map.specs.declared.name.Name.TheVariants.{PoolHead, PoolNext, PoolFree}
use Rattle.word_map.specs.Names.{pool_lock, stripe_of}
use Rattle.core_state.specs.declared.item.Item.{Item}
use Rattle.core_state.specs.declared.view.Mode.{Mode}
use Rattle.core_state.specs.declared.view.Mode.TheVariants.{Write}
use Rattle.core_state.specs.declared.view.LockStep.{LockStep}
use Rattle.core_state.specs.declared.view.LockStep.TheVariants.{Taken as TakenStep}
use Rattle.core_state.specs.declared.view.Batch.{Batch}
use Rattle.core_state.specs.declared.view.View.{View}
use Rattle.core_state.specs.Log.{IsPrefix}
use Rattle.core_state.specs.View.{Holds, HoldsNot, mode_of, mode_after}
use Rattle.core_state.specs.Guards.{guard_of, by_lock}
use Rattle.core_state.specs.Quietly.{IsSteady, of_pass}
use Rattle.pass_table.specs.Knowing.{KnowsMore}
use Rattle.pass_table.specs.Holding.{IsAtRest}
use Rattle.pass_table.specs.TakeTurns.{taking-later}
use Rattle.pass_table.proofs.TakingTurns.{taking-anew}
use Rattle.pass_table.proofs.Calling.{steady-more}
use Rattle.batch_add.specs.declared.giving_up.GiveStage.{GiveStage}
use Rattle.batch_add.specs.declared.giving_up.GiveStage.TheVariants.{Striping, Striped, Cleared, Unmarked, Bare, Locking, Locked, Next, Headed, Linked, Given, Counted}
use Rattle.batch_add.specs.declared.giving_up.GivingUp.{GivingUp}
use Rattle.pass_table.specs.Work.{Work}
use Rattle.pass_table.proofs.WorkLater.{worked-sizes, worked-mode, worked-more}
use Rattle.batch_add.specs.Parts.{StoresFrom}
use Rattle.batch_add.specs.stages.GivingUp.{WorksFree, WorksUnder, KnowsFree, IsPutting, AtGiving, IsGivingUp}

-- ---- locks

-- the lock that was taken last is held
last-taken : (steps : List LockStep) (lock : ℕ) → mode_of (steps ++ TakenStep lock Write ∷ []) lock ≡ Some Write
last-taken steps lock =
    fold-append (mode_after lock) None steps (TakenStep lock Write ∷ []) ∙ ap (λ (t : Bool). cond {A = Option Mode} t (Some Write) (mode_of steps lock)) (eq-eqb lock lock refl)

module _ (start view : View) (w : Work) (rest : IsAtRest start) where
  pub free-lock : WorksFree start view w → (lock : ℕ) → HoldsNot view lock
  free-lock work lock = worked-mode start view _ work.worked rest lock ∙ work.free lock

  pub under-lock : (lock : ℕ) → WorksUnder lock start view w → Holds view lock Write
  under-lock lock work = worked-mode start view _ work.worked rest lock ∙ last-taken work.steps lock

  -- the lock of the pool
  pub under-pool : WorksUnder (pool_lock start.config) start view w → Holds view (pool_lock view.config) Write
  under-pool work = subst (λ (c : Config). Holds view (pool_lock c) Write) (sym (worked-sizes start view _ work.worked)) (under-lock (pool_lock start.config) work)

  -- and of a body
  pub under-stripe : (index : ℕ) → WorksUnder (stripe_of start.config index) start view w → Holds view (stripe_of view.config index) Write
  under-stripe index work = subst (λ (c : Config). Holds view (stripe_of c index) Write) (sym (worked-sizes start view _ work.worked)) (under-lock (stripe_of start.config index) work)

-- a word that the lock of the pool guards
pub pool-steady : (view : View) (name : Name) → Holds view (pool_lock view.config) Write → guard_of view.config name ≡ Some (pool_lock view.config) → IsSteady view name
pool-steady view name holds guarded = of_pass (by_lock (pool_lock view.config) Write holds guarded)

-- ---- others' steps

module _ (start view next : View) (w : Work) (more : KnowsMore view next) where
  pub free-more : WorksFree start view w → WorksFree start next w
  free-more work = record { steps = work.steps; free = work.free; worked = worked-more start view next _ work.worked more }

  pub under-more : (lock : ℕ) → WorksUnder lock start view w → WorksUnder lock start next w
  under-more lock work = record { steps = work.steps; free = work.free; worked = worked-more start view next _ work.worked more }

-- what was stored, and in the place of what, stays so
pub from-later : (start view next : View) (name : Name) (old new : ℕ) → IsPrefix view.known next.known → StoresFrom start view name old new → StoresFrom start next name old new
from-later start view next name old new more from = record {
  since = from.since;
  item = from.item;
  later = from.later ++ more.0;
  parts = more.1 ∙ (ap (λ (l : List Item). l ++ more.0) from.parts ∙ append_assoc (start.known ++ from.since) (from.item ∷ from.later) more.0);
  pass = from.pass;
  named = from.named;
  is = from.is;
  was = from.was;
}

module _ (start : View) (before : List Batch) (batch : Batch) (after : List Batch) (view next : View) (rest : IsAtRest start) (more : KnowsMore view next) where
  -- how many nodes were free
  pub free-known : (free : ℕ) → Holds view (pool_lock view.config) Write → KnowsFree start before batch after view free → KnowsFree start before batch after next free
  free-known free holds knows = record { known = steady-more view next PoolFree more (pool-steady view PoolFree holds refl) ∙ knows.known; most = knows.most }

  module _ (free given : ℕ) (put : IsPutting start before batch after view free given) where
    pub put-pool : Holds view (pool_lock view.config) Write
    put-pool = under-pool start view _ rest put.work

    abbrev pub put-later : IsPutting start before batch after next free given
    put-later = record { at = put.at; work = under-more start view next _ more _ put.work; knows = free-known free put-pool put.knows }

  give-later : (stage : GiveStage) → AtGiving start before batch after view stage → AtGiving start before batch after next stage
  give-later (Striping done taking) h = (h.0, free-more start view next _ more h.1, taking-anew _ view taking next (taking-later _ view taking view next more h.2))
  give-later (Striped done) h = (h.0, under-more start view next _ more _ h.1)
  give-later (Cleared done) h = (h.0, under-more start view next _ more _ h.1)
  give-later (Unmarked done) h = (h.0, under-more start view next _ more _ h.1)
  give-later Bare h = free-more start view next _ more h
  give-later (Locking taking) h = (h.0, free-more start view next _ more h.1, taking-anew _ view taking next (taking-later _ view taking view next more h.2))
  give-later Locked h = (h.0, under-more start view next _ more _ h.1)
  give-later (Next free given) h = put-later free given h
  give-later (Headed free given head) h = (put-later free given h.0, steady-more view next PoolHead more (pool-steady view PoolHead (put-pool free given h.0) refl) ∙ h.1, h.2)
  give-later (Linked free given) h =
      let holds = put-pool free given h.0 in (
        put-later free given h.0,
        steady-more view next (PoolNext h.0.at.node) more (pool-steady view (PoolNext h.0.at.node) holds refl)
            ∙ (h.1 ∙ sym (steady-more view next PoolHead more (pool-steady view PoolHead holds refl))),
      )
  give-later (Given free) h = (h.0, under-more start view next _ more _ h.1, free-known free (under-pool start view _ rest h.1) h.2)
  give-later Counted h = (h.0, h.1, under-more start view next _ more _ h.2, from-later start view next PoolFree _ _ (more.since, more.known) h.3)

pub giving-later : (first : GivingUp) (start : View) (operation : GivingUp) (view next : View) → KnowsMore view next → IsGivingUp first start operation view → IsGivingUp first start operation next
giving-later first start operation view next more giving = record {
  kept = giving.kept;
  some = giving.some;
  each = λ before batch after begun. give-later start before batch after view next begun.rest more operation.stage (giving.each before batch after begun);
}
