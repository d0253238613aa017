-- What a step on a way up leaves of the whole widening.
use Rattle.std.specs.Prelude.{◌^◌}
use Rattle.std.proofs.Common.{◌≡◌, ◌≢◌, ◌⊎◌, ℕ, ◌+◌, ◌<◌, ◌≤◌, List, Some, None, inl, inr, refl, sym, ◌∙◌, subst, arith}
use Rattle.fixed_box.specs.FixBox.{words_of}
use Rattle.fixed_box.specs.declared.fix_box.FixBox.{FixBox}
use Rattle.body_ident.specs.Id.{Id}
use Rattle.scene_model.specs.declared.body_view.Phase.TheVariants.{In}
use Rattle.core_state.specs.declared.view.LockStep.{LockStep}
use Rattle.core_state.specs.declared.view.Call.{Call}
use Rattle.core_state.specs.declared.view.View.{View}
use Rattle.core_state.specs.Encoding.{Sides, sides_of}
use Rattle.pass_table.specs.Bodies.{IsCurrent}
use Rattle.pass_table.specs.Settled.{KnowsPhase, KnowsFirst, KnowsSecond}
use Rattle.pass_table.specs.Turning.{HasReached}
use Rattle.pass_table.proofs.Settled.{sound-now}
use Rattle.widen_bounds.specs.declared.climbing.Climb.{Climb}
use Rattle.widen_bounds.specs.declared.widening.Widening.{Widening}
use Rattle.widen_bounds.specs.declared.widening.Widening.TheVariants.{First, Second, Ended}
use Rattle.widen_bounds.specs.stages.Widening.{HasClimbedTo, at_begin, IsClimbing, HasClosed, AtWidening, IsWidening, WidensFor, IsBottom, IsBegun, HasWidenedOn, climb_left, widening_left, widening_label, IsWideningTurn}
use Rattle.widen_bounds.specs.stages.Climbing.{Grows, IsClimbTurn}
use Rattle.widen_bounds.proofs.WidenPlaces.{location-stands, node-below, word-below}
use Rattle.widen_bounds.proofs.WidenWays.{closed-grows, none-closed}
use Rattle.widen_bounds.proofs.WidenSays.{label-low, label-on, said}

-- ---- the words of locations

-- they name places of the world
pub first-fits : (id : Id) (first : ℕ) (view : View) → KnowsPhase id In view → KnowsFirst id first view → IsCurrent view → first ≤ 2 ^ 34
first-fits id first view phase is now = word-below view now first (λ n k below names. node-below view now n (location-stands view now id phase n k (below, inl (is (sound-now view now) ∙ names))))

pub second-fits : (id : Id) (second : ℕ) (view : View) → KnowsPhase id In view → KnowsSecond id second view → IsCurrent view → second ≤ 2 ^ 34
second-fits id second view phase is now = word-below view now second (λ n k below names. node-below view now n (location-stands view now id phase n k (below, inr (is ∙ names))))

-- ---- a way begins

pub bottom : (call : Call) (box : Sides) (known at : ℕ) (climb : Climb) → IsBottom at climb → (known ≡ 0) ⊎ (known ≡ 6) → IsClimbing call box known at climb
bottom call box known at climb low so_far = record {
  node = climb.node;
  child = climb.child;
  begins = low.names;
  below = low.below;
  way = subst (λ (l : ℕ). HasClimbedTo call box climb.node climb.child l climb.node climb.child) (sym low.lowest) at_begin;
  low = let none = low.lowest in omega arith;
  inside = low.below;
  sides = let none = low.untouched in omega arith;
  widened = λ q less. let none = low.untouched in absurd (omega arith);
  so_far = elim (so_far) [ inl none ↦ inl (none ∙ sym low.untouched, low.lowest) | inr six ↦ inr six ];
}

-- ---- turns

module _ (index : ℕ) (target : FixBox) (climb : Climb) (view next : View) where
  abbrev box : Sides
  box = sides_of (words_of target)

  -- of the first way
  pub first-on : (second : ℕ) (later : Climb) → IsClimbTurn index target climb (Some later) view next → IsWideningTurn index target (First climb second) (First later second) view next
  first-on second later turn = record {
    step = turn.step;
    made = turn.made;
    current = turn.current;
    fewer = let fewer = turn.fewer in omega arith;
    keeps = keeps;
    labelled = label-on climb later turn.onward;
    says = λ id steps start same w. said id target steps start next (widening_label (First climb second)) (First later second) turn.current (keeps id steps start same w);
  }
    where
      keeps : (id : Id) (steps : List LockStep) (start : View) → id.index ≡ index → IsWidening id target steps start view (First climb second) → IsWidening id target steps start next (First later second)
      keeps id steps start same w =
          let t = turn.keeps id steps start w.known w.first w.second w.first same (record { move = w.move; one = inl refl; climbing = w.at.1 }) in
          record { known = t.later; first = w.first; second = w.second; move = t.goes.move; at = (w.at.0, t.goes.climbing) }

  up-keeps : (second : ℕ) (after : Widening) → IsBegun 0 second after → IsClimbTurn index target climb None view next → (id : Id) (steps : List LockStep) (start : View) → id.index ≡ index
      → IsWidening id target steps start view (First climb second) → IsWidening id target steps start next after
  up-keeps second after begun turn id steps start same w =
      let t = turn.keeps id steps start w.known w.first w.second w.first same (record { move = w.move; one = inl refl; climbing = w.at.1 }) in
      record { known = w.known; first = w.first; second = w.second; move = t.move; at = there after begun t.closed t.all }
    where
      there : (after : Widening) → IsBegun 0 second after → HasClosed next.call box w.first → w.known ≡ 6 → AtWidening next.call box w.known w.first w.second after
      there (First climb later) begun closed six = let names = begun.0.names in absurd (omega arith)
      there (Second climb) begun closed six = (closed, inr six, subst (λ (s : ℕ). IsClimbing next.call box w.known s climb) w.at.0 (bottom next.call box w.known second climb begun.1 (inr six)))
      there Ended begun closed six = (closed, subst (HasClosed next.call box) (sym begun.1 ∙ w.at.0) (none-closed next.call box), six)

  up-fewer : (second : ℕ) (after : Widening) → IsBegun 0 second after → widening_left after < 71 + climb_left climb
  up-fewer second (First later x) begun = let names = begun.0.names in absurd (omega arith)
  up-fewer second (Second later) begun = omega arith
  up-fewer second Ended begun = omega arith

  up-labelled : (second : ℕ) (after : Widening) → IsBegun 0 second after → (label : ℕ) → HasReached (widening_label (First climb second)) label → HasReached (widening_label after) label
  up-labelled second (First later x) begun label reached = let names = begun.0.names in absurd (omega arith)
  up-labelled second (Second later) begun label reached = label-low climb.level climb.side label reached
  up-labelled second Ended begun label reached = let low = label-low climb.level climb.side label reached in omega arith

  -- which is closed
  pub first-up : (second : ℕ) (after : Widening) → IsBegun 0 second after → IsClimbTurn index target climb None view next → IsWideningTurn index target (First climb second) after view next
  first-up second after begun turn = record {
    step = turn.step;
    made = turn.made;
    current = turn.current;
    fewer = up-fewer second after begun;
    keeps = up-keeps second after begun turn;
    labelled = up-labelled second after begun;
    says = λ id steps start same w. said id target steps start next (widening_label (First climb second)) after turn.current (up-keeps second after begun turn id steps start same w);
  }

  -- what was closed stays closed
  first-stays : (known first : ℕ) → (first ≡ 0) ⊎ (known ≡ 6) → (known ≡ 0) ⊎ Grows view.call next.call → HasClosed view.call box first → HasClosed next.call box first
  first-stays known first one grows closed =
      elim (one) [
        | inl none ↦ subst (HasClosed next.call box) (sym none) (none-closed next.call box)
        | inr six ↦ elim (grows) [ inl few ↦ absurd (omega arith) | inr more ↦ closed-grows view.call next.call box more first closed ]
      ]

  -- of the second
  pub second-on : (later : Climb) → IsClimbTurn index target climb (Some later) view next → IsWideningTurn index target (Second climb) (Second later) view next
  second-on later turn = record {
    step = turn.step;
    made = turn.made;
    current = turn.current;
    fewer = turn.fewer;
    keeps = keeps;
    labelled = λ label reached. reached;
    says = λ id steps start same w. said id target steps start next (widening_label (Second climb)) (Second later) turn.current (keeps id steps start same w);
  }
    where
      keeps : (id : Id) (steps : List LockStep) (start : View) → id.index ≡ index → IsWidening id target steps start view (Second climb) → IsWidening id target steps start next (Second later)
      keeps id steps start same w =
          let t = turn.keeps id steps start w.known w.first w.second w.second same (record { move = w.move; one = inr refl; climbing = w.at.2 }) in
          record {
            known = t.later;
            first = w.first;
            second = w.second;
            move = t.goes.move;
            at = (first-stays w.known w.first w.at.1 t.grows w.at.0, elim (w.at.1) [ inl none ↦ inl none | inr six ↦ inr (t.all six) ], t.goes.climbing);
          }

  pub second-up : IsClimbTurn index target climb None view next → IsWideningTurn index target (Second climb) Ended view next
  second-up turn = record {
    step = turn.step;
    made = turn.made;
    current = turn.current;
    fewer = turn.some;
    keeps = keeps;
    labelled = λ label reached. let low = reached in omega arith;
    says = λ id steps start same w. said id target steps start next (widening_label (Second climb)) Ended turn.current (keeps id steps start same w);
  }
    where
      keeps : (id : Id) (steps : List LockStep) (start : View) → id.index ≡ index → IsWidening id target steps start view (Second climb) → IsWidening id target steps start next Ended
      keeps id steps start same w =
          let t = turn.keeps id steps start w.known w.first w.second w.second same (record { move = w.move; one = inr refl; climbing = w.at.2 }) in
          record { known = w.known; first = w.first; second = w.second; move = t.move; at = (first-stays w.known w.first w.at.1 (inr t.grows) w.at.0, t.closed, t.all) }

-- where the second way begins, the word of the second location names a place of the world
pub second-begins : (index : ℕ) (target : FixBox) (climb : Climb) (second : ℕ) (view next : View) → WidensFor index target (First climb second) view → IsClimbTurn index target climb None view next → second ≤ 2 ^ 34
second-begins index target climb second view next way turn =
    let w = way.goes in
    let t = turn.keeps way.id way.steps way.start w.known w.first w.second w.first way.same (record { move = w.move; one = inl refl; climbing = w.at.1 }) in
    second-fits way.id second next t.move.phase (t.move.at_second ∙ sym w.at.0) turn.current

-- ---- turn after turn

module _ (index : ℕ) (target : FixBox) (before : Widening) (view : View) where
  pub on-more : (mid after : Widening) (between next : View) → mid ≢ Ended → HasWidenedOn index target before mid view between → IsWideningTurn index target mid after between next → HasWidenedOn index target before after view next
  on-more mid after between next unended on turn = record {
    keeps = λ id steps start same w. turn.keeps id steps start same (on.keeps id steps start same w);
    goes = λ more. let way = on.goes unended in record { id = way.id; same = way.same; steps = way.steps; start = way.start; goes = turn.keeps way.id way.steps way.start way.same way.goes };
    idle = λ ended. absurd (unended (on.idle ended).0);
  }
