-- What others' steps between two turns of the widening leave as it was.
use Rattle.std.proofs.Common.{◌≢◌, ℕ, List, ap, sym, ◌∙◌, subst}
use Rattle.fixed_box.specs.FixBox.{words_of}
use Rattle.fixed_box.specs.declared.fix_box.FixBox.{FixBox}
use Rattle.body_ident.specs.Id.{Id}
use Rattle.scene_model.specs.declared.body_view.Phase.TheVariants.{Held, In}
use Rattle.word_map.specs.Names.{stripe_of}
use Rattle.core_state.specs.declared.view.Mode.TheVariants.{Write}
use Rattle.core_state.specs.declared.view.LockStep.{LockStep}
use Rattle.core_state.specs.declared.view.Call.{Call}
use Rattle.core_state.specs.declared.view.View.{View}
use Rattle.core_state.specs.View.{Holds, mode_of}
use Rattle.core_state.specs.Bodies.{has_box_word}
use Rattle.core_state.specs.Encoding.{sides_of}
use Rattle.pass_table.specs.Knowing.{KnowsMore}
use Rattle.pass_table.proofs.Settled.{phase-more, first-more, second-more}
use Rattle.pass_table.proofs.WorkLater.{worked-more}
use Rattle.widen_bounds.specs.declared.widening.Widening.{Widening}
use Rattle.widen_bounds.specs.stages.Widening.{IsMidMove, AtWidening, IsWidening}

in-apart : In ≢ Held
in-apart e = absurd cc

pub mid-later : (id : Id) (target : FixBox) (steps : List LockStep) (start view next : View) (known first second : ℕ) → KnowsMore view next → IsMidMove id target steps start view known first second
    → IsMidMove id target steps start next known first second
mid-later id target steps start view next known first second more move =
    let stripe : Holds view (stripe_of view.config id.index) Write = ap (λ (v : View). mode_of v.locks (stripe_of v.config id.index)) move.calling.left ∙ move.stripe in
    record {
      stripe = move.stripe;
      calling = worked-more start view next _ move.calling more;
      phase = phase-more id Write In in-apart view next stripe move.phase more;
      at_first = first-more id Write In in-apart view next stripe move.phase more first move.at_first;
      at_second = second-more id Write view next second more stripe move.at_second;
      few = move.few;
      no_box_word = λ some. ap (λ (v : View). has_box_word v.call.stores) more.rest ∙ move.no_box_word some;
    }

pub widening-later : (id : Id) (target : FixBox) (steps : List LockStep) (start view next : View) (widening : Widening) → KnowsMore view next → IsWidening id target steps start view widening
    → IsWidening id target steps start next widening
widening-later id target steps start view next widening more w = record {
  known = w.known;
  first = w.first;
  second = w.second;
  move = mid-later id target steps start view next w.known w.first w.second more w.move;
  at = subst (λ (c : Call). AtWidening c (sides_of (words_of target)) w.known w.first w.second widening) (sym (ap (λ (v : View). v.call) more.rest)) w.at;
}
