-- Widening a side of a bound in a move, a low side and a high one alike: what the operation does to the word, the target that
-- the move then has, and that the step goes on with a move or begins one.
use Rattle.std.proofs.Common.{◌≡◌, ◌⊎◌, ℕ, ◌<◌, ◌≤◌, List, [], ◌∷◌, ◌++◌, Bool, false, length, None, min, max, refl, ap, sym, ◌∙◌, subst, inl, inr, arith, eq-eqb}
use Rattle.std.specs.Prelude.{slice_index, ◌||◌}
use Rattle.std.proofs.lemmas.Bool.{cases_lt, ne_eqb}
use Rattle.std.proofs.Math.Nat.{min-le_left, min-le_right, min-eq_left, min-eq_right, le-max_left, le-max_right, max-eq_left, max-eq_right}
use Rattle.std.proofs.Math.ListN.{get_or-append}
use Rattle.std.proofs.lemmas.List.{length-append, get_or_push}
use Rattle.word_map.specs.declared.name.Name.TheVariants.{Bound}
use Rattle.core_state.specs.declared.item.Store.{Store}
use Rattle.core_state.specs.declared.view.Task.{Task}
use Rattle.core_state.specs.declared.view.Task.TheVariants.{Moving}
use Rattle.core_state.specs.declared.view.Call.{Call}
use Rattle.core_state.specs.Core.{Core}
use Rattle.core_state.specs.Operation.{Operation, fetch_min, fetch_max, result_of}
use Rattle.core_state.specs.Kind.{Kind, Step, learned}
use Rattle.core_state.specs.Bodies.{is_box_word, has_box_word}
use Rattle.core_state.specs.Moving.{IsKnownLocation, HasComeTo, at_start, BeginsMove, IsSideOfTarget, an_old, the_next, GoesOnMoving, begins_move, goes_on_moving, MayWiden, target_with, side_in, widened_by}
use Rattle.core_move.proofs.MoveSteps.{Under, has_begun, begins_now, target_of, call_under, call_more}
use Rattle.core_guard.proofs.Recalled.{Recalls}

-- ---- both kinds

abbrev pub widening : Operation → ℕ → Kind
widening operation index = record {
  operation = operation;
  entry = λ view name value. None;
  leaves = λ view name found value second. widened_by view.call.task index view name value;
}

-- the operation leaves the word or the operand, a low side no greater than both, a high one no less
pub record IsWider (operation : Operation) (side found first second : ℕ) : Type 0 where
  pub one : (result_of operation found first second ≡ found) ⊎ (result_of operation found first second ≡ first)
  pub word : (side < 3 → result_of operation found first second ≤ found) × (3 ≤ side → found ≤ result_of operation found first second)
  pub operand : (side < 3 → result_of operation found first second ≤ first) × (3 ≤ side → first ≤ result_of operation found first second)

pub min-wider : (side found first second : ℕ) → side < 3 → IsWider fetch_min side found first second
min-wider side found first second low = record {
  one = which;
  word = (λ is. min-le_left found first, λ high. absurd (omega arith));
  operand = (λ is. min-le_right found first, λ high. absurd (omega arith));
}
  where
    which : (min found first ≡ found) ⊎ (min found first ≡ first)
    which = elim (cases_lt found first) [ inl low ↦ inl (min-eq_left (omega arith)) | inr high ↦ inr (min-eq_right (omega arith)) ]

pub max-wider : (side found first second : ℕ) → 3 ≤ side → IsWider fetch_max side found first second
max-wider side found first second high = record {
  one = which;
  word = (λ low. absurd (omega arith), λ is. le-max_left found first);
  operand = (λ low. absurd (omega arith), λ is. le-max_right found first);
}
  where
    which : (max found first ≡ found) ⊎ (max found first ≡ first)
    which = elim (cases_lt found first) [ inl low ↦ inr (max-eq_right (omega arith)) | inr high ↦ inl (max-eq_left (omega arith)) ]

-- ---- the target

-- the target afterwards has all sides that it had, and this one; a whole one stays
pub record IsGrown (target next : List ℕ) (side value : ℕ) : Type 0 where
  pub old : (q : ℕ) → q < length target → (q < length next) × (slice_index next q ≡ slice_index target q)
  pub has : (side < length next) × (slice_index next side ≡ value)
  pub whole : length target ≡ 6 → next ≡ target

target-grown : (target : List ℕ) (side value : ℕ) → side < 6 → IsSideOfTarget target side value → IsGrown target (target_with target side value) side value
target-grown target side value below (an_old low is) =
    let same : target_with target side value ≡ target = rw (ne_eqb side (length target) (λ e. absurd (omega arith))) refl in
    subst (λ (next : List ℕ). IsGrown target next side value) (sym same) (record { old = λ q inside. (inside, refl); has = (low, sym is); whole = λ six. refl })
target-grown target side value below (the_next at order) =
    let same : target_with target side value ≡ target ++ value ∷ [] = rw (eq-eqb side (length target) at) refl in
    subst (λ (next : List ℕ). IsGrown target next side value) (sym same) (record {
      old = λ q inside. (let long = length-append target (value ∷ []) in omega arith, get_or-append target (value ∷ []) 0 q inside);
      has = (let long = length-append target (value ∷ []) in omega arith, get_or_push target value 0 side (sym at));
      whole = λ six. absurd (omega arith);
    })

-- a store of another word is none of a box word
pub box-more : (stored : List Store) (new : Store) → is_box_word new.name ≡ false → has_box_word (stored ++ new ∷ []) ≡ has_box_word stored
box-more [] new none = rw none refl
box-more (first ∷ rest) new none = ap (λ (t : Bool). is_box_word first.name || t) (box-more rest new none)

-- ---- the step goes on with a move, or begins one

module _ (operation : Operation) (index : ℕ) (core : Core) (step : Step) where
  abbrev pub kind : Kind
  kind = widening operation index

  abbrev pub new_store : Store
  new_store = record { name = step.name; value = step.first }

  pub record Goes (node child side : ℕ) : Type 0 where
    pub u : Under index step.view.call
    pub next : List ℕ
    pub come : HasComeTo (call_under index step.view.call u) (IsKnownLocation step.view index) node child
    pub grown : IsGrown (target_of index step.view.call u) next side step.first
    pub recalls : Recalls kind core step (call_more index step.view.call u next new_store)

  module _ (node child side : ℕ) (names : step.name ≡ Bound node child side) (below : side < 6) where
    begins : BeginsMove step.view index node child side → Goes node child side
    begins b = record {
      u = begins_now b.idle;
      next = step.first ∷ [];
      come = at_start b.location;
      grown = record {
        old = λ q inside. absurd (omega arith);
        has = subst (λ (q : ℕ). (q < 1) × (slice_index (step.first ∷ []) q ≡ step.first)) (sym b.first) (omega arith, refl);
        whole = λ six. absurd (omega arith);
      };
      recalls = ap (λ (t : Task). widened_by t index (learned core step) step.name step.first) b.idle;
    }

    goes-on : GoesOnMoving step.view index node child side step.first → Goes node child side
    goes-on g = record {
      u = has_begun g.target g.task;
      next = target_with g.target side step.first;
      come = subst (λ (c : Call). HasComeTo c (IsKnownLocation step.view index) node child) (λ i. record { task = g.task i; loads = step.view.call.loads; stores = step.view.call.stores }) g.come;
      grown = target-grown g.target side step.first below g.side;
      recalls = ap (λ (t : Task). widened_by t index (learned core step) step.name step.first) g.task
          ∙ (λ i. record (learned core step) { call = record { task = Moving index (target_with g.target (side_in (names i)) step.first); loads = step.view.call.loads; stores = step.view.call.stores ++ new_store ∷ [] } });
    }

    pub goes : MayWiden index step.view node child side step.first → Goes node child side
    goes may = elim (may.widens) [ begins_move b ↦ begins b | goes_on_moving g ↦ goes-on g ]
