-- A side more is widened at a place on the way up.
use Rattle.std.specs.Prelude.{slice_index, take, Contains}
use Rattle.std.proofs.Common.{◌≡◌, ◌⊎◌, ℕ, zero, suc, ◌-◌, ◌*◌, ◌<◌, ◌≤◌, List, [], ◌∷◌, ◌++◌, false, Some, None, inl, inr, refl, ap, sym, ◌∙◌, subst, arith}
use Rattle.std.proofs.lemmas.Bool.{cases_lt}
use Rattle.std.proofs.lemmas.List.{append-nil}
use Rattle.std.proofs.lemmas.List.Elements.{Contains-push}
use Rattle.fixed_box.specs.FixBox.{words_of}
use Rattle.fixed_box.specs.declared.fix_box.FixBox.{FixBox}
use Rattle.body_ident.specs.Id.{Id}
use Rattle.word_map.specs.declared.name.Name.{Name}
use Rattle.word_map.specs.declared.name.Name.TheVariants.{Bound}
use Rattle.core_state.specs.declared.item.Item.{Item}
use Rattle.core_state.specs.declared.item.Store.{Store}
use Rattle.core_state.specs.declared.view.LockStep.{LockStep}
use Rattle.core_state.specs.declared.view.Task.TheVariants.{Nothing, Moving}
use Rattle.core_state.specs.declared.view.Call.{Call}
use Rattle.core_state.specs.declared.view.View.{View}
use Rattle.core_state.specs.Bodies.{has_box_word}
use Rattle.core_state.specs.Core.{Core}
use Rattle.core_state.specs.Encoding.{Sides, sides_of}
use Rattle.core_state.specs.Event.{of_moves, widens_low, widens_high}
use Rattle.core_state.specs.Kind.{Kind, Asking, Step, left_by, item_of, gained_by}
use Rattle.core_state.specs.Moving.{HasStored, MayWidenLow, widen_low, MayWidenHigh, widen_high, widened_by}
use Rattle.pass_table.specs.Stepping.{step_by, Stepped}
use Rattle.pass_table.specs.Calls.{Advances}
use Rattle.pass_table.proofs.Knowing.{step-alone}
use Rattle.pass_table.proofs.Turning.{one-step, made-none}
use Rattle.pass_table.proofs.Calling.{stepped-stores}
use Rattle.pass_table.proofs.Bodies.{stepped-current}
use Rattle.widen_bounds.specs.declared.climbing.Climb.{Climb}
use Rattle.widen_bounds.specs.stages.Widening.{moving_with, IsMidMove, HasClimbedTo}
use Rattle.widen_bounds.specs.stages.Climbing.{IsOnWay, ClimbsFor, Grows, a_side, HasComeOn, IsClimbTurn}
use Rattle.widen_bounds.proofs.WidenWays.{grows-more, way-grows, no-way}
use Rattle.widen_bounds.proofs.WidenSteps.{bound-beside, body-beside, move-on, next-known, old-known, call-begun, call-moved, left-begun, left-moved, still-none}

-- with a side more less is left
pub side-fewer : (level q : ℕ) → level < 10 → q < 6 → 7 * (10 - level) - suc q < 7 * (10 - level) - q
side-fewer level q low less = omega arith

pub some-left : (level q : ℕ) → level < 10 → q ≤ 6 → 0 < 7 * (10 - level) - q
some-left level q low less = omega arith

module _ (asks : Asking) (kind : Kind) (id : Id) (leaves : (v : View) (name : Name) (f a b : ℕ) → kind.leaves v name f a b ≡ widened_by v.call.task id.index v name a)
    (silent : (v : View) (name : Name) (a : ℕ) → kind.entry v name a ≡ None) (gained : (core : Core) (step : Step) → gained_by kind core step ≡ item_of kind step (left_by kind core step) ∷ [])
    (target : FixBox) (steps : List LockStep) (start view next : View) (known first second at n k level : ℕ) where
  abbrev words : List ℕ
  words = words_of target

  abbrev box : Sides
  box = sides_of words

  abbrev climb_at : ℕ → Climb
  climb_at q = record { node = n; child = k; level = level; side = q }

  module _ (q found : ℕ) (low : q < 6) (goes : IsOnWay id target steps start view known first second at (climb_at q)) (stepped : Stepped asks kind view (Bound n k q) (slice_index words q) 0 found next) where
    abbrev made : Step
    made = step_by stepped.seat view stepped.number (Bound n k q) (slice_index words q) 0

    abbrev item : Item
    item = item_of kind made (left_by kind stepped.before made)

    move-then : (later : ℕ) → next ≡ record view { known = next.known; joined = next.joined; call = next.call } → next.call.task ≡ moving_with id.index words later → later ≤ 6
        → has_box_word next.call.stores ≡ false → IsMidMove id target steps start next later first second
    move-then later left doing few none =
        let sizes : next.config ≡ view.config = ap (λ (v : View). v.config) left in
        let by : Advances view next (item ∷ []) = stepped-stores asks kind view next (Bound n k q) (slice_index words q) 0 found stepped item (gained stepped.before made) refl in
        move-on id target steps start view next known first second goes.move sizes (Bound n k q) later (bound-beside id n k q) (step-alone asks kind view next (Bound n k q) (slice_index words q) 0 found stepped)
        (made-none asks kind view next (Bound n k q) (slice_index words q) 0 found stepped (λ a. silent view (Bound n k q) a)) left doing
        (body-beside id target steps start view next known first second goes.move sizes item by (silent view (Bound n k q) (left_by kind stepped.before made)) (bound-beside id n k q)) few (λ some. none)

    widened-then : (stores : List Store) → next.call.stores ≡ stores ++ record { name = Bound n k q; value = slice_index words q } ∷ [] → ((a : ℕ) → a < q → HasStored next.call (Bound n k a) (box a))
        → (a : ℕ) → a < suc q → HasStored next.call (Bound n k a) (box a)
    widened-then stores is before a less =
        elim (cases_lt a q) [
          | inl old ↦ before a old
          | inr new ↦
              let same : q ≡ a = omega arith in
              let last : HasStored next.call (Bound n k q) (box q) =
              subst (λ (l : List Store). Contains l (record { name = Bound n k q; value = slice_index words q })) (sym is) (Contains-push stores (record { name = Bound n k q; value = slice_index words q }))
              in
              subst (λ (x : ℕ). HasStored next.call (Bound n k x) (box x)) same last
        ]

    comes-on : (later : ℕ) → (known ≡ 6 → later ≡ 6) → (known ≡ 0) ⊎ Grows view.call next.call → IsMidMove id target steps start next later first second
        → HasClimbedTo next.call box goes.climbing.node goes.climbing.child level n k → ((a : ℕ) → a < suc q → HasStored next.call (Bound n k a) (box a)) → ((later ≡ suc q) × (level ≡ 0)) ⊎ (later ≡ 6)
        → HasComeOn id target steps start next view.call known first second at (climb_at (suc q))
    comes-on later all grows move way widened so_far = record {
      later = later;
      all = all;
      grows = grows;
      goes = record {
        move = move;
        one = goes.one;
        climbing = record {
          node = goes.climbing.node;
          child = goes.climbing.child;
          begins = goes.climbing.begins;
          below = goes.climbing.below;
          way = way;
          low = goes.climbing.low;
          inside = goes.climbing.inside;
          sides = low;
          widened = widened;
          so_far = so_far;
        };
      };
    }

    -- a move that had come to these sides goes on
    moved-on : (sides : List ℕ) (later : ℕ) → view.call.task ≡ Moving id.index sides → next.call.task ≡ moving_with id.index words later → 0 < known → later ≤ 6 → (known ≡ 6 → later ≡ 6)
        → ((later ≡ suc q) × (level ≡ 0)) ⊎ (later ≡ 6) → HasComeOn id target steps start next view.call known first second at (climb_at (suc q))
    moved-on sides later task doing some few all so_far =
        let call = call-moved asks kind id.index view next n k q (slice_index words q) found stepped leaves sides task in
        let stores : next.call.stores ≡ view.call.stores ++ record { name = Bound n k q; value = slice_index words q } ∷ [] = ap (λ (c : Call). c.stores) call in
        let grows = grows-more view.call next.call [] (record { name = Bound n k q; value = slice_index words q } ∷ []) (ap (λ (c : Call). c.loads) call ∙ sym (append-nil view.call.loads)) stores in
        comes-on later all (inr grows)
        (move-then later (left-moved asks kind id.index view next n k q (slice_index words q) found stepped leaves sides task) doing few
        (ap has_box_word stores ∙ still-none view.call.stores n k q (slice_index words q) (goes.move.no_box_word some)))
        (way-grows view.call next.call box grows goes.climbing.node goes.climbing.child level n k goes.climbing.way)
        (widened-then view.call.stores stores (λ a less. grows.stores (record { name = Bound n k a; value = box a }) (goes.climbing.widened a less))) so_far

  -- the first side begins the move, and the next ones add to it at the lowest place
  at-first : (q found : ℕ) (low : q < 6) (goes : IsOnWay id target steps start view known first second at (climb_at q)) → Stepped asks kind view (Bound n k q) (slice_index words q) 0 found next → known ≡ q → level ≡ 0
      → HasComeOn id target steps start next view.call known first second at (climb_at (suc q))
  at-first zero found low goes stepped is none =
      let task : view.call.task ≡ Nothing = goes.move.calling.doing ∙ ap (moving_with id.index words) is in
      let call = call-begun asks kind id.index view next n k 0 (slice_index words 0) found stepped leaves task in
      let stores : next.call.stores ≡ record { name = Bound n k 0; value = slice_index words 0 } ∷ [] = ap (λ (c : Call). c.stores) call in
      comes-on 0 found low goes stepped 1 (λ all. absurd (omega arith)) (inl is)
      (move-then 0 found low goes stepped 1 (left-begun asks kind id.index view next n k 0 (slice_index words 0) found stepped leaves task) (ap (λ (c : Call). c.task) call) (omega arith) (ap has_box_word stores))
      (no-way view.call next.call box goes.climbing.node goes.climbing.child level n k none goes.climbing.way)
      (widened-then 0 found low goes stepped [] stores (λ a less. absurd (omega arith))) (inl (refl, none))
  at-first (suc q) found low goes stepped is none =
      let task : view.call.task ≡ Moving id.index (take (suc q) words) = goes.move.calling.doing ∙ ap (moving_with id.index words) is in
      let call = call-moved asks kind id.index view next n k (suc q) (slice_index words (suc q)) found stepped leaves (take (suc q) words) task in
      moved-on (suc q) found low goes stepped (take (suc q) words) (suc (suc q)) task (ap (λ (c : Call). c.task) call ∙ ap (Moving id.index) (next-known target (suc q) low)) (omega arith) low
      (λ all. absurd (omega arith)) (inl (refl, none))

  pub side-on : (q found : ℕ) → q < 6 → IsOnWay id target steps start view known first second at (climb_at q) → Stepped asks kind view (Bound n k q) (slice_index words q) 0 found next
      → HasComeOn id target steps start next view.call known first second at (climb_at (suc q))
  side-on q found low goes stepped =
      elim (goes.climbing.so_far) [
        | inl lowest ↦ at-first q found low goes stepped lowest.0 lowest.1
        | inr all ↦
            let task : view.call.task ≡ Moving id.index words = goes.move.calling.doing ∙ ap (moving_with id.index words) all in
            let call = call-moved asks kind id.index view next n k q (slice_index words q) found stepped leaves words task in
            moved-on q found low goes stepped words 6 task (ap (λ (c : Call). c.task) call ∙ ap (Moving id.index) (old-known target q (slice_index words q) low)) (omega arith) (omega arith) (λ same. refl)
            (inr refl)
      ]

-- ---- the step

module _ (index : ℕ) (target : FixBox) (climb : Climb) (view next : View) (found : ℕ) (way : ClimbsFor index target climb view) where
  abbrev after : Climb
  after = record climb { side = suc climb.side }

  pub low-turn : climb.side < 3 → Stepped (MayWidenLow index) (widen_low index) view (Bound climb.node climb.child climb.side) (slice_index (words_of target) climb.side) 0 found next
      → IsClimbTurn index target climb (Some after) view next
  low-turn low stepped =
      let name = Bound climb.node climb.child climb.side in
      let value = slice_index (words_of target) climb.side in
      record {
        step = one-step (MayWidenLow index) (widen_low index) view next name value 0 found stepped (λ before after steps. of_moves (widens_low index steps));
        made = made-none (MayWidenLow index) (widen_low index) view next name value 0 found stepped (λ a. refl);
        current = stepped-current (MayWidenLow index) (widen_low index) view next name value 0 found stepped;
        some = some-left climb.level climb.side way.goes.climbing.low way.goes.climbing.sides;
        fewer = side-fewer climb.level climb.side way.goes.climbing.low (omega arith);
        onward = a_side (omega arith) refl;
        keeps = λ id steps start known first second at same goes.
            side-on (MayWidenLow id.index) (widen_low id.index) id (λ v x f a b. refl) (λ v x a. refl) (λ core step. refl) target steps start view next known first second at climb.node climb.child climb.level
            climb.side found (omega arith) goes (subst (λ (i : ℕ). Stepped (MayWidenLow i) (widen_low i) view name value 0 found next) (sym same) stepped);
      }

  pub high-turn : climb.side < 6 → Stepped (MayWidenHigh index) (widen_high index) view (Bound climb.node climb.child climb.side) (slice_index (words_of target) climb.side) 0 found next
      → IsClimbTurn index target climb (Some after) view next
  high-turn low stepped =
      let name = Bound climb.node climb.child climb.side in
      let value = slice_index (words_of target) climb.side in
      record {
        step = one-step (MayWidenHigh index) (widen_high index) view next name value 0 found stepped (λ before after steps. of_moves (widens_high index steps));
        made = made-none (MayWidenHigh index) (widen_high index) view next name value 0 found stepped (λ a. refl);
        current = stepped-current (MayWidenHigh index) (widen_high index) view next name value 0 found stepped;
        some = some-left climb.level climb.side way.goes.climbing.low way.goes.climbing.sides;
        fewer = side-fewer climb.level climb.side way.goes.climbing.low low;
        onward = a_side low refl;
        keeps = λ id steps start known first second at same goes.
            side-on (MayWidenHigh id.index) (widen_high id.index) id (λ v x f a b. refl) (λ v x a. refl) (λ core step. refl) target steps start view next known first second at climb.node climb.child climb.level
            climb.side found low goes (subst (λ (i : ℕ). Stepped (MayWidenHigh i) (widen_high i) view name value 0 found next) (sym same) stepped);
      }
