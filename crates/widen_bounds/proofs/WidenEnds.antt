-- How the widening of bounds for a body in the broad phase begins, and what its end gives.
use Rattle.std.proofs.Common.{◌≡◌, ℕ, List, [], inl, inr, refl, ap, sym, ◌∙◌, subst, arith}
use mathlib.Core.Logic.{∥∥₁_elim}
use Rattle.std.proofs.Props.{props}
use Rattle.fixed_box.specs.FixBox.{words_of}
use Rattle.fixed_box.specs.declared.fix_box.FixBox.{FixBox}
use Rattle.body_ident.specs.Id.{Id}
use Rattle.scene_model.specs.declared.body_view.Phase.TheVariants.{In}
use Rattle.scene_model.specs.Scene.{Scene, record_at}
use Rattle.scene_model.specs.Cause.{HasIdBody}
use Rattle.word_map.specs.declared.name.Name.TheVariants.{LocA, LocB}
use Rattle.core_state.specs.declared.view.LockStep.{LockStep}
use Rattle.core_state.specs.declared.view.Task.TheVariants.{Nothing}
use Rattle.core_state.specs.declared.view.View.{View}
use Rattle.core_state.specs.BodiesCovered.{cover_scope}
use Rattle.core_state.specs.Encoding.{Sides, sides_of}
use Rattle.core_state.specs.Moving.{IsWidenedFor}
use Rattle.core_state.specs.Scope.{sight, scene_in}
use Rattle.core_state.proofs.Beginning.{body_record}
use Rattle.pass_table.specs.Bodies.{IsCurrent}
use Rattle.pass_table.specs.Settled.{KnowsPhase, KnowsFirst, KnowsSecond}
use Rattle.pass_table.specs.Work.{IsCalling}
use Rattle.pass_table.proofs.Bodies.{known-now, scene-known}
use Rattle.pass_table.proofs.Settled.{sound-now}
use Rattle.widen_bounds.specs.declared.widening.Widening.{Widening}
use Rattle.widen_bounds.specs.declared.widening.Widening.TheVariants.{First, Second, Ended}
use Rattle.widen_bounds.specs.stages.Widening.{HoldsStripe, moving_with, AtWidening, IsWidening, IsBegun}
use Rattle.widen_bounds.proofs.WidenAsks.{mid-inside, location-is}
use Rattle.widen_bounds.proofs.WidenTurns.{bottom}

-- ---- a body in the broad phase has a location

some-now : (id : Id) (first second : ℕ) (view : View) → KnowsPhase id In view → KnowsFirst id first view → KnowsSecond id second view → first ≡ 0 → second ≡ 0 → ¬ IsCurrent view
some-now id first second view phase at_first at_second none_first none_second now =
    let s = sight cover_scope now.core in
    let body = body_record (record_at (scene_in s) id.index) _ (subst (λ (x : Scene). HasIdBody x id (λ r. r.phase ≡ In)) (scene-known view now) (phase.body (sound-now view now))) in
    let cover = now.stands.laws.cover.covered id.index body.0 body.1 body.2.1 in
    elim (cover.2.1) [
      | inl e ↦ let zero_word = sym (at_first (sound-now view now)) ∙ (known-now view now (LocA id.index) ∙ e) in absurd (omega arith)
      | inr e ↦ let zero_word = sym at_second ∙ (known-now view now (LocB id.index) ∙ e) in absurd (omega arith)
    ]

-- ---- where it begins

pub widening-begun : (id : Id) (target : FixBox) (steps : List LockStep) (start view : View) (first second : ℕ) (widening : Widening) → ∥ IsCurrent view ∥₁ → HoldsStripe id steps start
    → IsCalling start view steps Nothing [] → KnowsPhase id In view → KnowsFirst id first view → KnowsSecond id second view → IsBegun first second widening → IsWidening id target steps start view widening
widening-begun id target steps start view first second widening current stripe calling phase at_first at_second begun = record {
  known = 0;
  first = first;
  second = second;
  move = record { stripe = stripe; calling = calling; phase = phase; at_first = at_first; at_second = at_second; few = omega arith; no_box_word = λ some. absurd (omega arith) };
  at = there widening begun;
}
  where
    box : Sides
    box = sides_of (words_of target)

    there : (w : Widening) → IsBegun first second w → AtWidening view.call box 0 first second w
    there (First climb later) begun = (begun.1, bottom view.call box 0 first climb begun.0 (inl refl))
    there (Second climb) begun =
        (λ n k below is. let none = begun.0 in absurd (omega arith), inl begun.0, bottom view.call box 0 second climb begun.1 (inl refl))
    there Ended begun = absurd (∥∥₁_elim current (hlevel props) (some-now id first second view phase at_first at_second begun.0 begun.1))

-- ---- its end

-- the body may have its box
pub widened-for : (id : Id) (target : FixBox) (steps : List LockStep) (start view : View) → ∥ IsCurrent view ∥₁ → IsWidening id target steps start view Ended → IsWidenedFor view id.index (words_of target)
widened-for id target steps start view current w = record {
  inside = mid-inside id target steps start view w.known w.first w.second w.move current;
  task = w.move.calling.doing ∙ ap (moving_with id.index (words_of target)) w.at.2;
  six = refl;
  climbed = λ n k location.
      elim (location-is id target steps start view w.known w.first w.second w.move current n k location) [
        | inl e ↦ w.at.0 n k location.0 e
        | inr e ↦ w.at.1 n k location.0 e
      ];
}
