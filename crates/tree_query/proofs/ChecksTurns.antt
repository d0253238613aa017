-- The turns of the check of all candidates.
use Rattle.std.proofs.Common.{◌≡◌, inl, ℕ, ◌+◌, ◌<◌, ◌++◌, Bool, true, false, Option, Some, None, refl, ap, sym, ◌∙◌, subst, arith}
use Rattle.fixed_box.specs.declared.shape.Shape.{Shape}
use Rattle.core_state.specs.declared.view.View.{View}
use Rattle.core_state.specs.View.{IsPass}
use Rattle.pass_table.specs.declared.turn.Turn.TheVariants.{Done, More, Again}
use Rattle.pass_table.specs.Holding.{IsAtRest}
use Rattle.pass_table.specs.TakeTurns.{LoadedNone}
use Rattle.pass_table.specs.Turning.{IsUnderWay, Turned, LoadsNow}
use Rattle.pass_table.proofs.Calling.{some-left, turned-more, turned-again}
use Rattle.pass_table.proofs.TakingTurns.{loads-none}
use Rattle.pass_table.proofs.Turning.{still-made}
use Rattle.pass_table.proofs.Working.{done-idle}
use Rattle.tree_query.specs.declared.check_op.Check.{Check}
use Rattle.tree_query.specs.declared.check_op.CheckStage.{CheckStage}
use Rattle.tree_query.specs.declared.check_op.CheckStage.TheVariants.{Taking, Striped, Live, Joining, Placed, Inside, Sides, Leaving}
use Rattle.tree_query.specs.declared.checks.Checks.{Checks}
use Rattle.tree_query.specs.declared.finder.Finder.{Finder}
use Rattle.tree_query.specs.Indexes.{IsFirst, HasNone}
use Rattle.tree_query.specs.Finding.{has_index, room_of}
use Rattle.tree_query.specs.Checking.{IsChecking, IsCheckedSo, check_steps}
use Rattle.tree_query.specs.stages.CandidateCheck.{AtCheck, IsInCheck, HasChecked, stage_left, check_left, check_takes, IsCheckTurn}
use Rattle.tree_query.specs.stages.AllChecks.{Going, going, IsAtOne, AtChecks, AreBelow, AreInCheck, AreBegunSo, HasSettled, left_past, left_at, taken_at, AreCheckTurn}
use Rattle.tree_query.proofs.AllChecks.{begins, goes-with, goes-without, all-checked, all-locks}

-- ---- begun

pub checks-begun : (shape : Shape) (mask : ℕ) (checks : Checks) (finder : Finder) (view : View) (number : ℕ) → IsPass view number → IsAtRest view → AreBelow view finder → checks.next ≡ 0 → checks.is_at_one ≡ false
    → AreInCheck shape mask (going checks finder) view (going checks finder) view
checks-begun shape mask checks finder view number pass rest below zero none = (
  below,
  subst (λ (t : Bool). AtChecks shape mask view finder finder checks.next checks.check t view) (sym none)
      (subst (λ (n : ℕ). IsChecking shape mask view view finder finder n) (sym zero) (begins shape mask view finder (done-idle view number pass rest))),
)

-- ---- where it is

module _ (checks : Checks) (finder : Finder) (view : View) where
  -- between two candidates
  pub at-rest : checks.is_at_one ≡ false → (shape : Shape) (mask : ℕ) (first : Going) (start : View) → AreInCheck shape mask first start (going checks finder) view
      → IsChecking shape mask start view first.finder finder checks.next
  at-rest none shape mask first start way = subst (λ (t : Bool). AtChecks shape mask start first.finder finder checks.next checks.check t view) none way.1

  -- or at one
  pub at-one : checks.is_at_one ≡ true → (shape : Shape) (mask : ℕ) (first : Going) (start : View) → AreInCheck shape mask first start (going checks finder) view
      → IsAtOne shape mask start first.finder finder checks.next checks.check view
  at-one one shape mask first start way = subst (λ (t : Bool). AtChecks shape mask start first.finder finder checks.next checks.check t view) one way.1

  -- so it may begin the next check
  pub rests : checks.is_at_one ≡ false → AreBegunSo (going checks finder) view → IsAtRest view
  rests none so = let way = so.2 in (at-rest none so.0 so.1 way.first way.start way.goes).done.rest

  pub picks-below : checks.is_at_one ≡ false → AreBegunSo (going checks finder) view → (index : ℕ) → IsFirst (has_index finder) checks.next index → index < view.config.bodies
  picks-below none so index first =
      let way = so.2 in
      let now = at-rest none so.0 so.1 way.first way.start way.goes in
      subst (λ (v : View). index < v.config.bodies) (sym now.done.left) (way.goes.0 index (sym (now.ahead index first.above) ∙ first.is_in))

-- ---- turns without a step

module _ (shape : Shape) (mask : ℕ) (checks : Checks) (finder : Finder) (view : View) (number : ℕ) (pass : IsPass view number) (none : checks.is_at_one ≡ false) where
  -- the next candidate is picked
  pub picked : (check : Check) (index : ℕ) → IsFirst (has_index finder) checks.next index → index < room_of finder → check.index ≡ index → check_left check ≡ 13 → LoadedNone (check_takes check)
      → IsInCheck shape mask check view check view → AreCheckTurn shape mask More (going checks finder) (going (record checks { check = check; is_at_one = true }) finder) view view
  picked check index first room is left unloaded begun = record {
    step = inl refl;
    made = still-made view number pass;
    turned =
        inl (subst (λ (t : Bool). left_at finder checks.next check true < left_at finder checks.next checks.check t) (sym none)
        (let above = first.above in (omega arith)));
    loads = loads-none view view (check_takes check) unloaded;
    keeps = λ first_op start way. (
      way.0,
      record {
        mid = view;
        checking = at-rest checks finder view none shape mask first_op start way;
        fresh = check;
        goes = begun;
        first = subst (IsFirst (has_index finder) checks.next) (sym is) first;
      },
    );
    answered = λ first_op start way. tt;
  }

  -- or there is none
  pub ended : HasNone (has_index finder) checks.next → AreCheckTurn shape mask (Done tt) (going checks finder) (going checks finder) view view
  ended last = record {
    step = inl refl;
    made = still-made view number pass;
    turned = tt;
    loads = tt;
    keeps = λ first_op start way. tt;
    answered = λ first_op start way.
        let now = at-rest checks finder view none shape mask first_op start way in
        record {
          done = now.done;
          checked = all-checked shape mask start first_op.finder view finder checks.next now last;
          locks = all-locks shape mask start first_op.finder view finder checks.next now last;
        };
  }

-- ---- a turn of the check at hand

-- a check that is under way has a turn left
pub check-left : (check : Check) (view : View) → (shape : Shape) (mask : ℕ) (first : Check) (start : View) → IsInCheck shape mask first start check view → 0 < check_left check
check-left check view shape mask first start way = go check.stage way.3
  where
    go : (stage : CheckStage) → AtCheck shape mask first.index start check.words stage view → 0 < stage_left stage
    go (Taking taking) at = let some = some-left taking in omega arith
    go Striped at = omega arith
    go (Live seq) at = omega arith
    go (Joining seq slot) at = omega arith
    go (Placed seq slot layer) at = omega arith
    go (Inside seq) at = omega arith
    go (Sides seq loaded) at = let room = at.knows.2 in omega arith
    go (Leaving answer) at = omega arith

module _ (shape : Shape) (mask : ℕ) (checks : Checks) (finder : Finder) (check : Check) (view next : View) (one : checks.is_at_one ≡ true) where
  abbrev before : Going
  before = going checks finder

  abbrev after : Going
  after = going (record checks { check = check }) finder

  -- the same candidate is at hand
  still_at : ((first : Check) (start : View) → IsInCheck shape mask first start checks.check view → IsInCheck shape mask first start check next) → (first : Going) (start : View)
      → AreInCheck shape mask first start before view → AreInCheck shape mask first start after next
  still_at keeps first start way =
      let now = at-one checks finder view one shape mask first start way in
      let then = keeps now.fresh now.mid now.goes in (
        way.0,
        subst (λ (t : Bool). AtChecks shape mask start first.finder finder checks.next check t next) (sym one) (record {
          mid = now.mid;
          checking = now.checking;
          fresh = now.fresh;
          goes = then;
          first = subst (IsFirst (has_index finder) checks.next) (now.goes.0 ∙ sym then.0) now.first;
        }),
      )

  -- its check goes on
  pub check-more : IsCheckTurn shape mask More checks.check check view next → AreCheckTurn shape mask More before after view next
  check-more is = record {
    step = is.step;
    made = is.made;
    turned =
        subst (λ (t : Bool). Turned {T = Unit {0}} More view next (taken_at checks.check t) (left_at finder checks.next checks.check t) (left_at finder checks.next check t)) (sym one)
        (turned-more (Option ℕ) (Unit {0}) (left_past finder (checks.next + 1)) view next (check_takes checks.check) (check_left checks.check) (check_left check) is.turned);
    loads = subst (λ (t : Bool). LoadsNow view next (taken_at check t)) (sym one) is.loads;
    keeps = still_at is.keeps;
    answered = λ first start way. tt;
  }

  pub check-again : (lock word : ℕ) → IsCheckTurn shape mask (Again lock word) checks.check check view next → AreCheckTurn shape mask (Again lock word) before after view next
  check-again lock word is = record {
    step = is.step;
    made = is.made;
    turned =
        subst (λ (t : Bool). Turned {T = Unit {0}} (Again lock word) view next (taken_at checks.check t) (left_at finder checks.next checks.check t) (left_at finder checks.next check t)) (sym one)
        (turned-again (Option ℕ) (Unit {0}) (left_past finder (checks.next + 1)) view next (check_takes checks.check) (check_left checks.check) (check_left check) lock word is.turned);
    loads = subst (λ (t : Bool). LoadsNow view next (taken_at check t)) (sym one) is.loads;
    keeps = still_at is.keeps;
    answered = λ first start way. tt;
  }

  -- or it has ended: the candidate stays or is taken out
  module _ (settled : Finder) where
    went_past : (answer : Option ℕ) → HasSettled answer checks.check.index finder settled → (first : Finder) (start : View) (now : IsAtOne shape mask start first finder checks.next checks.check view)
        → HasChecked shape mask now.fresh now.mid next answer → IsChecking shape mask start next first settled (checks.check.index + 1)
    went_past None settles first start now ended =
        goes-without shape mask start first now.mid next finder settled checks.next checks.check.index now.checking now.first (finder.below checks.check.index now.first.is_in) ended.done
        (ended.locks ∙ ap (λ (i : ℕ). now.mid.locks ++ check_steps now.mid.config i) (sym now.goes.0)) settles.0 settles.1 settles.2 settles.3
        (subst (λ (i : ℕ). IsCheckedSo shape mask i now.mid next None) (sym now.goes.0) ended.checked)
    went_past (Some seq) settles first start now ended =
        goes-with shape mask start first now.mid next finder settled checks.next checks.check.index now.checking now.first (finder.below checks.check.index now.first.is_in) ended.done
        (ended.locks ∙ ap (λ (i : ℕ). now.mid.locks ++ check_steps now.mid.config i) (sym now.goes.0)) settles.0 settles.1 seq settles.2 settles.3
        (subst (λ (i : ℕ). IsCheckedSo shape mask i now.mid next (Some seq)) (sym now.goes.0) ended.checked)

    same_room : (answer : Option ℕ) → HasSettled answer checks.check.index finder settled → room_of settled ≡ room_of finder
    same_room None settles = settles.0
    same_room (Some seq) settles = settles.0

    pub check-settled : (answer : Option ℕ) (new : Checks) → IsCheckTurn shape mask (Done answer) checks.check check view next → new ≡ record checks { next = checks.check.index + 1; is_at_one = false; check = check }
        → HasSettled answer checks.check.index finder settled → IsUnderWay (AreInCheck shape mask) before view → AreCheckTurn shape mask More before (going new settled) view next
    check-settled answer new is so settles way =
        let at = at-one checks finder view one shape mask way.first way.start way.goes in
        let above = at.first.above in
        let left = check-left checks.check view shape mask at.fresh at.mid at.goes in
        let room = same_room answer settles in
        subst (λ (c : Checks). AreCheckTurn shape mask More before (going c settled) view next) (sym so) (record {
          step = is.step;
          made = is.made;
          turned = inl (subst (λ (t : Bool). left_past settled (checks.check.index + 1) < left_at finder checks.next checks.check t) (sym one) (omega arith));
          loads = tt;
          keeps = λ first start goes. (
            goes.0,
            let now = at-one checks finder view one shape mask first start goes in
                went_past answer settles first.finder start now (is.answered now.fresh now.mid now.goes),
          );
          answered = λ first start goes. tt;
        })
