-- How the work of giving a batch up goes on by a step.
use Rattle.std.proofs.Common.{◌≡◌, ℕ, List, [], ◌∷◌, ◌++◌, Bool, true, false, Option, Some, None, cond, eqb, refl, ap, sym, ◌∙◌, subst}
use Rattle.std.proofs.lemmas.List.{append-nil}
use Rattle.std.proofs.lemmas.List.Sums.{fold-append}
use Rattle.scene_model.specs.declared.entry.Entry.{Entry}
use Rattle.scene_model.specs.declared.entry.Made.{Made}
use Rattle.word_map.specs.declared.name.Name.{Name}
use Rattle.word_map.specs.declared.name.Name.TheVariants.{Lock}
use Rattle.core_state.specs.declared.item.Store.{Store}
use Rattle.core_state.specs.declared.view.Mode.{Mode}
use Rattle.core_state.specs.declared.view.Mode.TheVariants.{Write}
use Rattle.core_state.specs.declared.view.LockStep.{LockStep}
use Rattle.core_state.specs.declared.view.LockStep.TheVariants.{Taken as TakenStep, Released}
use Rattle.core_state.specs.declared.view.Task.TheVariants.{Nothing}
use Rattle.core_state.specs.declared.view.Call.{Call}
use Rattle.core_state.specs.declared.view.Batch.{Batch}
use Rattle.core_state.specs.declared.view.View.{View}
use Rattle.core_state.specs.View.{mode_of, mode_after}
use Rattle.pass_table.specs.Knowing.{StoresAlone}
use Rattle.pass_table.specs.Turning.{MadeBy}
use Rattle.pass_table.specs.Holding.{LetGo, IsAtRest}
use Rattle.pass_table.specs.Trying.{Waited}
use Rattle.pass_table.specs.declared.take_op.TakeOp.{TakeOp}
use Rattle.pass_table.specs.TakeTurns.{taking_of, IsTaking, HasTaken}
use Rattle.pass_table.proofs.TakingTurns.{taking-anew}
use Rattle.pass_table.specs.Calls.{StoresWord}
use Rattle.pass_table.specs.Work.{is_told, is_shown, Work, HasWorked, HasDone, outcome_of}
use Rattle.batch_add.specs.Parts.{stored_as}
use Rattle.batch_add.specs.stages.GivingUp.{at_locks, WorksFree, WorksUnder}
use Rattle.pass_table.proofs.Working.{worked-waited, worked-taken, worked-released, worked-told, worked-untold, worked-done}

-- ---- locks

-- the lock that was taken last is let go
free-again : (steps : List LockStep) (lock : ℕ) → ((other : ℕ) → mode_of steps other ≡ None) → (other : ℕ) → mode_of ((steps ++ TakenStep lock Write ∷ []) ++ Released lock ∷ []) other ≡ None
free-again steps lock free other =
    fold-append (mode_after other) None (steps ++ TakenStep lock Write ∷ []) (Released lock ∷ [])
    ∙ (ap (λ (o : Option Mode). cond {A = Option Mode} (eqb lock other) None o)
    (fold-append (mode_after other) None steps (TakenStep lock Write ∷ []) ∙ ap (λ (o : Option Mode). cond {A = Option Mode} (eqb lock other) (Some Write) o) (free other))
    ∙ go (eqb lock other))
  where
    go : (t : Bool) → cond {A = Option Mode} t None (cond {A = Option Mode} t (Some Write) None) ≡ None
    go true = refl
    go false = refl

module _ (start view next : View) (w : Work) (lock : ℕ) where
  pub free-waited : Waited view next → MadeBy view next None → StoresAlone view next (Lock lock) → WorksFree start view w → WorksFree start next w
  free-waited waited by alone work = record { steps = work.steps; free = work.free; worked = worked-waited start view next _ work.worked lock waited by alone }

  -- and it is to be taken still
  pub free-goes : (after : TakeOp) → IsTaking (taking_of lock Write) view after next → MadeBy view next None → WorksFree start view w → WorksFree start next w × IsTaking (taking_of lock Write) next after next
  free-goes after goes by work = (free-waited goes.waited by goes.alone work, taking-anew _ view after next goes)

  pub free-taken : HasTaken (taking_of lock Write) view next → MadeBy view next None → WorksFree start view w → WorksUnder lock start next w
  free-taken taken by work = record { steps = work.steps; free = work.free; worked = worked-taken start view next _ work.worked lock Write taken by }

  pub under-released : (found : ℕ) → LetGo view lock found next → w.task ≡ Nothing → WorksUnder lock start view w → WorksFree start next w
  under-released found go none work = record {
    steps = (work.steps ++ TakenStep lock Write ∷ []) ++ Released lock ∷ [];
    free = free-again work.steps lock work.free;
    worked = worked-released start view next _ work.worked lock found go none;
  }

-- with no lock held and nothing half done the call has ended
pub free-done : (start view : View) (w : Work) → IsAtRest start → w.task ≡ Nothing → WorksFree start view w → HasDone start view (outcome_of w)
free-done start view w rest none work = worked-done start view _ work.worked rest none work.free

-- ---- stores

-- what is left of the view, in the form in which a store is told
pub left-of : (view next : View) (call : Call) (batches : List Batch) (loose : List ℕ) (written : List Store)
    → next ≡ record view { known = next.known; joined = None; call = call; batches = batches; loose = loose; written = written }
    → next ≡ record view { known = next.known; joined = next.joined; call = next.call; batches = batches; loose = loose; written = written }
left-of view next call batches loose written left =
    left
    ∙ (λ i. record view {
      known = next.known;
      joined = sym (ap (λ (v : View). v.joined) left) i;
      call = sym (ap (λ (v : View). v.call) left) i;
      batches = batches;
      loose = loose;
      written = written;
    })

-- a word was stored under a lock or under none, which left the pass with this task, these batches and these nodes
module _ (start view next : View) (w : Work) (name : Name) (value : ℕ) (call : Call) (batches : List Batch) (loose : List ℕ) (written : List Store) (word : StoresWord view next name value)
    (left : next ≡ record view { known = next.known; joined = None; call = call; batches = batches; loose = loose; written = written }) where
  abbrev stored_work : List Entry → List Store → Work
  stored_work entries stores = record w { task = call.task; entries = entries; stores = stores; batches = batches; loose = loose; written = written }

  doing : next.call.task ≡ call.task
  doing = ap (λ (v : View). v.call.task) left

  -- one that is not told, without an entry and with one
  pub under-stored : (lock : ℕ) → MadeBy view next None → is_shown w.places name ≡ false → StoresAlone view next name → WorksUnder lock start view w → WorksUnder lock start next (stored_work w.entries w.stores)
  under-stored lock by quiet alone work = record {
    steps = work.steps;
    free = work.free;
    worked =
        subst (λ (e : List Entry). HasWorked start next (at_locks (stored_work e w.stores) (work.steps ++ TakenStep lock Write ∷ []))) (append-nil w.entries)
        (worked-untold start view next _ work.worked name value None call.task batches loose written word by doing (left-of view next call batches loose written left) quiet alone);
  }

  pub under-made : (lock : ℕ) (made : Made) → MadeBy view next (Some made) → is_shown w.places name ≡ false → StoresAlone view next name → WorksUnder lock start view w
      → WorksUnder lock start next (stored_work (w.entries ++ made.entry ∷ []) w.stores)
  under-made lock made by quiet alone work = record {
    steps = work.steps;
    free = work.free;
    worked = worked-untold start view next _ work.worked name value (Some made) call.task batches loose written word by doing (left-of view next call batches loose written left) quiet alone;
  }

  -- and one that is told
  told_on : (steps : List LockStep) → MadeBy view next None → is_told name ≡ true → HasWorked start view (at_locks w steps)
      → HasWorked start next (at_locks (stored_work w.entries (w.stores ++ stored_as name value ∷ [])) steps)
  told_on steps by shown worked =
      subst (λ (e : List Entry). HasWorked start next (at_locks (stored_work e (w.stores ++ stored_as name value ∷ [])) steps)) (append-nil w.entries)
      (worked-told start view next _ worked name value None call.task batches loose written word by doing (left-of view next call batches loose written left) shown)

  pub free-told : MadeBy view next None → is_told name ≡ true → WorksFree start view w → WorksFree start next (stored_work w.entries (w.stores ++ stored_as name value ∷ []))
  free-told by shown work = record { steps = work.steps; free = work.free; worked = told_on work.steps by shown work.worked }

  pub under-told : (lock : ℕ) → MadeBy view next None → is_told name ≡ true → WorksUnder lock start view w → WorksUnder lock start next (stored_work w.entries (w.stores ++ stored_as name value ∷ []))
  under-told lock by shown work = record { steps = work.steps; free = work.free; worked = told_on (work.steps ++ TakenStep lock Write ∷ []) by shown work.worked }
