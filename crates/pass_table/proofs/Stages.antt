-- Turns of an operation that goes on from stage to stage.
use Rattle.std.proofs.Common.{◌≡◌, ℕ, ◌+◌, ◌<◌, Option, Some, None, inl, sym, subst}
use Rattle.scene_model.specs.declared.entry.Made.{Made}
use Rattle.core_state.specs.declared.view.View.{View}
use Rattle.pass_table.specs.declared.take_op.TakeOp.{TakeOp}
use Rattle.pass_table.specs.declared.turn.Turn.{Turn}
use Rattle.pass_table.specs.declared.turn.Turn.TheVariants.{More, Again}
use Rattle.pass_table.specs.TakeTurns.{turns_left}
use Rattle.pass_table.specs.Turning.{AtMostOneStep, MadeBy, Turned, LoadsNow, GoesOn, Answers}
use Rattle.pass_table.specs.Calls.{IsTurn}
use Rattle.pass_table.proofs.Calling.{turned-more, turned-again}

-- An operation with stages: the one that it is at, how many turns are left there, the lock that it takes there and what
-- holds there; and the operation that has gone on to a stage without an entry. It is under way at a stage where what
-- holds there does
pub record Staged (T S G : Type 0) : Type 1 where
  pub under_way : S → View → S → View → Type 0
  pub answers : S → View → View → T → Type 0
  pub made : S → Option Made
  pub stage : S → G
  pub left : G → ℕ
  pub takes : G → Option TakeOp
  pub at : S → View → View → G → Type 0
  pub to : S → G → S
  pub reached : (operation : S) (after : G) → stage (to operation after) ≡ after
  pub unmade : (operation : S) (after : G) → made (to operation after) ≡ None
  pub holds : (first : S) (start : View) (operation : S) (view : View) → under_way first start operation view → at first start view (stage operation)
  pub goes : (first : S) (start : View) (operation : S) (after : G) (view next : View) → under_way first start operation view → at first start next after → under_way first start (to operation after) next

-- what a turn of it owes
abbrev pub IsTurnOf : {T S G : Type 0} → Staged T S G → Turn T → S → S → View → View → Type 0
IsTurnOf staged turn before after view next = IsTurn staged.under_way staged.answers (λ operation. staged.left (staged.stage operation)) staged.made (λ operation. staged.takes (staged.stage operation)) turn before after view next

-- a turn that made no entry, and after which the operation is at a stage
module _ {T S G : Type 0} (staged : Staged T S G) (before new : S) (stage after : G) (view next : View) (is : new ≡ staged.to before after) (at : staged.stage before ≡ stage)
    (step : AtMostOneStep view next) (made : MadeBy view next None) (loads : LoadsNow view next (staged.takes after))
    (keeps : (first : S) (start : View) → staged.under_way first start before view → staged.at first start view stage → staged.at first start next after) where
  turn-to : (turn : Turn T) → Turned turn view next (staged.takes stage) (staged.left stage) (staged.left after)
      → (LoadsNow view next (staged.takes (staged.stage (staged.to before after))) → GoesOn turn (LoadsNow view next (staged.takes (staged.stage (staged.to before after)))))
      → ((first : S) (start : View) → staged.under_way first start (staged.to before after) next → GoesOn turn (staged.under_way first start (staged.to before after) next))
      → ((first : S) (start : View) → Answers turn (staged.answers first start next)) → IsTurnOf staged turn before new view next
  turn-to turn turned new goes answers =
      subst (λ (operation : S). IsTurnOf staged turn before operation view next) (sym is) (record {
        step = step;
        made = subst (MadeBy view next) (sym (staged.unmade before after)) made;
        turned =
            subst (λ (g : G). Turned turn view next (staged.takes g) (staged.left g) (staged.left (staged.stage (staged.to before after)))) (sym at)
            (subst (λ (g : G). Turned turn view next (staged.takes stage) (staged.left stage) (staged.left g)) (sym (staged.reached before after)) turned);
        loads = new (subst (λ (g : G). LoadsNow view next (staged.takes g)) (sym (staged.reached before after)) loads);
        keeps = λ first start way.
            goes first start (staged.goes first start before after view next way (keeps first start way (subst (staged.at first start view) at (staged.holds first start before view way))));
        answered = λ first start way. answers first start;
      })

  more-to : (turn : Turn T) → turn ≡ More → Turned {T = T} More view next (staged.takes stage) (staged.left stage) (staged.left after) → IsTurnOf staged turn before new view next
  more-to turn more turned =
      subst (λ (t : Turn T). IsTurnOf staged t before new view next) (sym more) (turn-to More turned (λ l. l) (λ first start way. way) (λ first start. tt))

-- it goes on from one stage to the next
pub went-on : {T S G : Type 0} (staged : Staged T S G) (turn : Turn T) (before new : S) (stage after : G) (view next : View) → turn ≡ More → new ≡ staged.to before after → staged.stage before ≡ stage
    → AtMostOneStep view next → MadeBy view next None → staged.left after < staged.left stage → LoadsNow view next (staged.takes after)
    → ((first : S) (start : View) → staged.under_way first start before view → staged.at first start view stage → staged.at first start next after)
    → IsTurnOf staged turn before new view next
went-on staged turn before new stage after view next more is at step made less loads keeps = more-to staged before new stage after view next is at step made loads keeps turn more (inl less)

-- A turn of an inner operation, each state of which is a stage, with so many turns to make afterwards: there is more to
-- do, or it is to be made again
module _ {T S G I : Type 0} (D : Type 0) (staged : Staged T S G) (stage_of : I → G) (inner_left : I → ℕ) (inner_takes : I → Option TakeOp) (later : ℕ)
    (lefts : (inner : I) → staged.left (stage_of inner) ≡ later + inner_left inner) (takes : (inner : I) → staged.takes (stage_of inner) ≡ inner_takes inner)
    (before new : S) (inner after : I) (view next : View) (is : new ≡ staged.to before (stage_of after)) (at : staged.stage before ≡ stage_of inner)
    (step : AtMostOneStep view next) (made : MadeBy view next None) (loads : LoadsNow view next (inner_takes after))
    (keeps : (first : S) (start : View) → staged.under_way first start before view → staged.at first start view (stage_of inner) → staged.at first start next (stage_of after)) where
  by-stages : (turn : Turn T) → Turned turn view next (inner_takes inner) (later + inner_left inner) (later + inner_left after)
      → Turned turn view next (staged.takes (stage_of inner)) (staged.left (stage_of inner)) (staged.left (stage_of after))
  by-stages turn turned =
      subst (λ (t : Option TakeOp). Turned turn view next t (staged.left (stage_of inner)) (staged.left (stage_of after))) (sym (takes inner))
      (subst (λ (n : ℕ). Turned turn view next (inner_takes inner) n (staged.left (stage_of after))) (sym (lefts inner))
      (subst (λ (n : ℕ). Turned turn view next (inner_takes inner) (later + inner_left inner) n) (sym (lefts after)) turned))

  loads_after : LoadsNow view next (staged.takes (stage_of after))
  loads_after = subst (LoadsNow view next) (sym (takes after)) loads

  pub inner-more : (turn : Turn T) → turn ≡ More → Turned {T = D} More view next (inner_takes inner) (inner_left inner) (inner_left after) → IsTurnOf staged turn before new view next
  inner-more turn more turned =
      more-to staged before new (stage_of inner) (stage_of after) view next is at step made loads_after keeps turn more
      (by-stages More (turned-more D T later view next (inner_takes inner) (inner_left inner) (inner_left after) turned))

  pub inner-again : (lock found : ℕ) → Turned {T = D} (Again lock found) view next (inner_takes inner) (inner_left inner) (inner_left after)
      → IsTurnOf staged (Again lock found) before new view next
  inner-again lock found turned =
      turn-to staged before new (stage_of inner) (stage_of after) view next is at step made loads_after keeps (Again lock found)
      (by-stages (Again lock found) (turned-again D T later view next (inner_takes inner) (inner_left inner) (inner_left after) lock found turned)) (λ l. l) (λ first start way. way) (λ first start. tt)

-- so of taking a lock
module _ {T S G : Type 0} (staged : Staged T S G) (stage_of : TakeOp → G) (later : ℕ) (lefts : (taking : TakeOp) → staged.left (stage_of taking) ≡ later + turns_left taking)
    (takes : (taking : TakeOp) → staged.takes (stage_of taking) ≡ Some taking)
    (before new : S) (taking after : TakeOp) (view next : View) (is : new ≡ staged.to before (stage_of after)) (at : staged.stage before ≡ stage_of taking)
    (step : AtMostOneStep view next) (made : MadeBy view next None) (loads : LoadsNow view next (Some after))
    (keeps : (first : S) (start : View) → staged.under_way first start before view → staged.at first start view (stage_of taking) → staged.at first start next (stage_of after)) where
  pub take-more : (turn : Turn T) → turn ≡ More → Turned {T = Unit {0}} More view next (Some taking) (turns_left taking) (turns_left after) → IsTurnOf staged turn before new view next
  take-more = inner-more (Unit {0}) staged stage_of turns_left Some later lefts takes before new taking after view next is at step made loads keeps

  pub take-again : (lock found : ℕ) → Turned {T = Unit {0}} (Again lock found) view next (Some taking) (turns_left taking) (turns_left after)
      → IsTurnOf staged (Again lock found) before new view next
  take-again = inner-again (Unit {0}) staged stage_of turns_left Some later lefts takes before new taking after view next is at step made loads keeps
