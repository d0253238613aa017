-- After each call on batches its pass is at rest, and what it leaves of what the pass had.
use Rattle.std.proofs.Common.{◌≡◌, ℕ, List, Result, Ok, Err, IfOk, IfErr, ap, sym, ◌∙◌, subst}
use Rattle.body_ident.specs.Id.{Id}
use Rattle.core_state.specs.declared.view.View.{View}
use Rattle.core_state.specs.View.{mode_of}
use Rattle.pass_table.specs.Belongings.{belongings_of}
use Rattle.pass_table.specs.Holding.{IsAtRest}
use Rattle.batch_add.specs.declared.answers.PrepareRefused.{PrepareRefused}
use Rattle.batch_add.specs.declared.answers.PrepareRefused.TheVariants.{Memory, Empty, NoSlot, NoNodes, Gone, Held, AlreadyIn, WrongLayer}
use Rattle.batch_add.specs.declared.prepared.Prepared.{Prepared}
use Rattle.batch_add.specs.Prepared.{IsGood, IsApart, HasAttached}
use Rattle.batch_add.specs.Answers.{IsPrepareAnswer, PrepareAnswers, HasAborted}
use Rattle.batch_add.proofs.Staying.{good-kept, apart-back}

-- no turn answers want of memory
pub answers-so : (layer : ℕ) (ids : List Id) (start next : View) (answer : Result Prepared PrepareRefused) → IsPrepareAnswer layer ids start next answer → PrepareAnswers layer ids start next answer
answers-so layer ids start next (Ok prepared) is = is
answers-so layer ids start next (Err Memory) is = absurd is
answers-so layer ids start next (Err Empty) is = is
answers-so layer ids start next (Err (NoSlot words)) is = is
answers-so layer ids start next (Err (NoNodes need free)) is = is
answers-so layer ids start next (Err (Gone at state)) is = is
answers-so layer ids start next (Err (Held at slot)) is = is
answers-so layer ids start next (Err (AlreadyIn at phase)) is = is
answers-so layer ids start next (Err (WrongLayer at layer_of)) is = is

pub prepare-rest : (layer : ℕ) (ids : List Id) (start next : View) (answer : Result Prepared PrepareRefused) → IsAtRest start → PrepareAnswers layer ids start next answer → IsAtRest next
prepare-rest layer ids start next (Ok prepared) rest h = h.done.rest
prepare-rest layer ids start next (Err Memory) rest h = subst IsAtRest (sym h) rest
prepare-rest layer ids start next (Err Empty) rest h = h.done.rest
prepare-rest layer ids start next (Err (NoSlot words)) rest h = h.1.done.rest
prepare-rest layer ids start next (Err (NoNodes wanted free)) rest h = h.done.rest
prepare-rest layer ids start next (Err (Gone at state)) rest h = h.done.rest
prepare-rest layer ids start next (Err (Held at slot)) rest h = h.done.rest
prepare-rest layer ids start next (Err (AlreadyIn at phase)) rest h = h.done.rest
prepare-rest layer ids start next (Err (WrongLayer at found)) rest h = h.done.rest

pub attached-rest : (prepared : Prepared) (start next : View) → IsAtRest start → HasAttached prepared start next → IsAtRest next
attached-rest prepared start next rest h = record {
  free = λ lock. ap (λ (v : View). mode_of v.locks lock) h.left ∙ rest.free lock;
  done = ap (λ (v : View). v.call.task) h.left ∙ rest.done;
  still = ap (λ (v : View). v.walk.is_on) h.left ∙ rest.still;
}

pub aborted-rest : (prepared : Prepared) (start next : View) → HasAborted prepared start next → IsAtRest next
aborted-rest prepared start next h = h.given.done.rest

-- ---- what is left

-- a refused preparation leaves what the pass had
pub prepare-keeps : (layer : ℕ) (ids : List Id) (start next : View) (answer : Result Prepared PrepareRefused) → PrepareAnswers layer ids start next answer
    → IfErr answer (λ refused. belongings_of next ≡ belongings_of start)
prepare-keeps layer ids start next (Ok prepared) h = tt
prepare-keeps layer ids start next (Err Memory) h = ap belongings_of h
prepare-keeps layer ids start next (Err Empty) h = ap belongings_of h.done.left
prepare-keeps layer ids start next (Err (NoSlot words)) h = ap belongings_of h.1.done.left
prepare-keeps layer ids start next (Err (NoNodes wanted free)) h = ap belongings_of h.done.left
prepare-keeps layer ids start next (Err (Gone at state)) h = ap belongings_of h.done.left
prepare-keeps layer ids start next (Err (Held at slot)) h = ap belongings_of h.done.left
prepare-keeps layer ids start next (Err (AlreadyIn at phase)) h = ap belongings_of h.done.left
prepare-keeps layer ids start next (Err (WrongLayer at found)) h = ap belongings_of h.done.left

-- and each preparation leaves the batches that are good
pub prepare-others : (layer : ℕ) (ids : List Id) (start next : View) (answer : Result Prepared PrepareRefused) → PrepareAnswers layer ids start next answer
    → (other : Prepared) → IsGood other start → IsGood other next
prepare-others layer ids start next (Ok prepared) h other good = h.others other good
prepare-others layer ids start next (Err refused) h other good = good-kept other start next (prepare-keeps layer ids start next (Err refused) h) good

-- the new one is good, and apart from them
pub prepare-good : (layer : ℕ) (ids : List Id) (start next : View) (answer : Result Prepared PrepareRefused) → PrepareAnswers layer ids start next answer
    → IfOk answer (λ batch. IsGood batch next)
prepare-good layer ids start next (Ok prepared) h = h.good
prepare-good layer ids start next (Err refused) h = tt

pub prepare-apart : (layer : ℕ) (ids : List Id) (start next : View) (answer : Result Prepared PrepareRefused) → PrepareAnswers layer ids start next answer
    → IfOk answer (λ batch. (other : Prepared) → IsGood other start → IsApart other batch)
prepare-apart layer ids start next (Ok prepared) h = h.apart
prepare-apart layer ids start next (Err refused) h = tt

-- and they are apart from it
pub prepare-beside : (layer : ℕ) (ids : List Id) (start next : View) (answer : Result Prepared PrepareRefused) → PrepareAnswers layer ids start next answer
    → IfOk answer (λ batch. (other : Prepared) → IsGood other start → IsApart batch other)
prepare-beside layer ids start next (Ok prepared) h = λ other good. apart-back other prepared (h.apart other good)
prepare-beside layer ids start next (Err refused) h = tt
