-- The turns of a part, as turns of the preparation.
use Rattle.std.specs.Prelude.{option_and_then}
use Rattle.std.proofs.Common.{◌≡◌, ℕ, ◌+◌, ◌<◌, Option, Result, inl, ap, sym, ◌∙◌, subst}
use Rattle.core_state.specs.declared.view.View.{View}
use Rattle.pass_table.specs.declared.take_op.TakeOp.{TakeOp}
use Rattle.pass_table.specs.declared.turn.Turn.TheVariants.{More, Again}
use Rattle.pass_table.specs.Turning.{AtMostOneStep, MadeBy, Turned, LoadsNow}
use Rattle.pass_table.proofs.TakingTurns.{loads-none}
use Rattle.pass_table.proofs.Calling.{turned-more, turned-again}
use Rattle.batch_add.specs.declared.answers.PrepareRefused.{PrepareRefused}
use Rattle.batch_add.specs.declared.prepared.Prepared.{Prepared}
use Rattle.batch_add.specs.declared.prepare_op.PrepareOp.{PrepareOp}
use Rattle.batch_add.specs.declared.prepare_op.Undone.{Undone}
use Rattle.batch_add.specs.stages.GivingUp.{give_takes}
use Rattle.batch_add.specs.stages.Preparing.{BeginsUndoing, entry_of, prepare_left, takes_at, prepare_takes, IsPreparing, IsPrepareTurn}

module _ (before after : PrepareOp) (view next : View) (step : AtMostOneStep view next) (made : MadeBy view next (entry_of after))
    (keeps : (first : PrepareOp) (start : View) → IsPreparing first start before view → IsPreparing first start after next) where
  -- the part ends, and the next one has fewer turns to make
  pub goes-on : prepare_left after < prepare_left before → LoadsNow view next (prepare_takes after) → IsPrepareTurn More before after view next
  goes-on less loads = record { step = step; made = made; turned = inl less; loads = loads; keeps = keeps; answered = λ first start h. tt }

  -- the part goes on, after which so many turns more are left
  module _ (T : Type 0) (more part_before part_after : ℕ) (is_before : prepare_left before ≡ more + part_before) (is_after : prepare_left after ≡ more + part_after)
      (takes_before takes_after : Option TakeOp) (same_before : prepare_takes before ≡ takes_before) (same_after : prepare_takes after ≡ takes_after) where
    pub part-more : Turned {T = T} More view next takes_before part_before part_after → LoadsNow view next takes_after → IsPrepareTurn More before after view next
    part-more turned loads = record {
      step = step;
      made = made;
      turned =
          subst (λ (t : Option TakeOp). Turned {T = Result Prepared PrepareRefused} More view next t (prepare_left before) (prepare_left after)) (sym same_before)
          (subst (λ (n : ℕ). Turned {T = Result Prepared PrepareRefused} More view next takes_before n (prepare_left after)) (sym is_before)
          (subst (λ (n : ℕ). Turned {T = Result Prepared PrepareRefused} More view next takes_before (more + part_before) n) (sym is_after)
          (turned-more T (Result Prepared PrepareRefused) more view next takes_before part_before part_after turned)));
      loads = subst (LoadsNow view next) (sym same_after) loads;
      keeps = keeps;
      answered = λ first start h. tt;
    }

    pub part-again : (lock word : ℕ) → Turned {T = T} (Again lock word) view next takes_before part_before part_after → LoadsNow view next takes_after → IsPrepareTurn (Again lock word) before after view next
    part-again lock word turned loads = record {
      step = step;
      made = made;
      turned =
          subst (λ (t : Option TakeOp). Turned {T = Result Prepared PrepareRefused} (Again lock word) view next t (prepare_left before) (prepare_left after)) (sym same_before)
          (subst (λ (n : ℕ). Turned {T = Result Prepared PrepareRefused} (Again lock word) view next takes_before n (prepare_left after)) (sym is_before)
          (subst (λ (n : ℕ). Turned {T = Result Prepared PrepareRefused} (Again lock word) view next takes_before (more + part_before) n) (sym is_after)
          (turned-again T (Result Prepared PrepareRefused) more view next takes_before part_before part_after lock word turned)));
      loads = subst (LoadsNow view next) (sym same_after) loads;
      keeps = keeps;
      answered = λ first start h. tt;
    }

-- where undoing is begun, no word was loaded of the lock that it takes
pub undoing-loads : (view next : View) (after before : PrepareOp) (undone : Undone) → BeginsUndoing before undone after next → LoadsNow view next (prepare_takes after)
undoing-loads view next after before undone begins =
    subst (LoadsNow view next) (sym (ap (takes_at after) begins.stage ∙ ap (option_and_then give_takes) begins.is)) (loads-none view next (give_takes begins.giving) begins.unloaded)
