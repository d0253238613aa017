-- What others' steps between two turns of the check of all candidates leave as it was.
use Rattle.std.proofs.Common.{ℕ, ◌++◌, Bool, true, false, None, ap, sym, ◌∙◌}
use Rattle.fixed_box.specs.declared.shape.Shape.{Shape}
use Rattle.core_state.specs.declared.view.View.{View}
use Rattle.core_state.specs.View.{mode_of}
use Rattle.pass_table.specs.Knowing.{KnowsMore}
use Rattle.pass_table.specs.Work.{Outcome, HasDone}
use Rattle.pass_table.proofs.Calling.{adds-more, point-later}
use Rattle.pass_table.proofs.WorkLater.{tells-more, spares-more}
use Rattle.tree_query.specs.declared.check_op.Check.{Check}
use Rattle.tree_query.specs.declared.finder.Finder.{Finder}
use Rattle.tree_query.specs.Finding.{ids_from}
use Rattle.tree_query.specs.Checking.{IsChecking, steps_of}
use Rattle.tree_query.specs.stages.CheckLater.{checking-later}
use Rattle.tree_query.specs.stages.AllChecks.{Going, AtChecks, AreInCheck}

-- a part that was done stays so
pub done-later : (start view next : View) (o : Outcome) → HasDone start view o → KnowsMore view next → HasDone start next o
done-later start view next o done more = record {
  adds = adds-more start view next o.entries (ap (λ (v : View). v.role) done.left) done.adds more;
  tells = tells-more start view next o.stores (ap (λ (v : View). v.role) done.left) done.tells more;
  spares = λ none. spares-more start view next (ap (λ (v : View). v.role) done.left) (done.spares none) more;
  rest = record {
    free = λ lock. ap (λ (v : View). mode_of v.locks lock) more.rest ∙ done.rest.free lock;
    done = ap (λ (v : View). v.call.task) more.rest ∙ done.rest.done;
    still = ap (λ (v : View). v.walk.is_on) more.rest ∙ done.rest.still;
  };
  left =
      more.rest
      ∙ (ap (λ (v : View). record v { known = next.known; joined = None }) done.left
      ∙ (λ i. record start {
        known = next.known;
        joined = sym (ap (λ (v : View). v.joined) more.rest) i;
        locks = sym (ap (λ (v : View). v.locks) more.rest) i;
        call = sym (ap (λ (v : View). v.call) more.rest) i;
        batches = o.batches;
        loose = o.loose;
        written = o.written;
      }));
}

module _ (shape : Shape) (mask : ℕ) (start view next : View) (before finder : Finder) (to : ℕ) (more : KnowsMore view next) where
  pub checked-later : IsChecking shape mask start view before finder to → IsChecking shape mask start next before finder to
  checked-later now = record {
    done = done-later start view next _ now.done more;
    checked = record {
      room = now.checked.room;
      loads = now.checked.loads;
      fewer = now.checked.fewer;
      hits = λ index below has. point-later start view next _ (more.since, more.known) (now.checked.hits index below has);
      others = λ index below was has. point-later start view next _ (more.since, more.known) (now.checked.others index below was has);
    };
    ahead = now.ahead;
    locks = ap (λ (v : View). v.locks ++ steps_of start.config (ids_from before to)) more.rest ∙ now.locks;
  }

  pub at-later : (check : Check) (is_at_one : Bool) → AtChecks shape mask start before finder to check is_at_one view → AtChecks shape mask start before finder to check is_at_one next
  at-later check true at = record { mid = at.mid; checking = at.checking; fresh = at.fresh; goes = checking-later shape mask at.fresh at.mid check view next more at.goes; first = at.first }
  at-later check false at = checked-later at

pub checks-later : (shape : Shape) (mask : ℕ) (first : Going) (start : View) (at : Going) (view next : View) → KnowsMore view next → AreInCheck shape mask first start at view
    → AreInCheck shape mask first start at next
checks-later shape mask first start at view next more way =
    (way.0, at-later shape mask start view next first.finder at.finder at.checks.next more at.checks.check at.checks.is_at_one way.1)
