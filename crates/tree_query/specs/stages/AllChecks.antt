-- How the check of all candidates goes, turn by turn.
use Rattle.std.specs.Prelude.{◌≡◌, ℕ, ◌+◌, ◌-◌, ◌*◌, ◌<◌, ◌==◌, Bool, true, false, if◌then◌else◌, ◌++◌, Option, Some, None}
use Rattle.fixed_box.specs.declared.shape.Shape.{Shape}
use Rattle.core_state.specs.declared.view.View.{View}
use Rattle.pass_table.specs.declared.take_op.TakeOp.{TakeOp}
use Rattle.pass_table.specs.declared.turn.Turn.{Turn}
use Rattle.pass_table.specs.Turning.{IsUnderWay}
use Rattle.pass_table.specs.Calls.{IsTurn}
use Rattle.pass_table.specs.Work.{HasDone, idle}
use Rattle.tree_query.specs.declared.check_op.Check.{Check}
use Rattle.tree_query.specs.declared.checks.Checks.{Checks}
use Rattle.tree_query.specs.declared.finder.Finder.{Finder}
use Rattle.tree_query.specs.Indexes.{IsFirst}
use Rattle.tree_query.specs.Finding.{has_index, seq_of, room_of, ids_of}
use Rattle.tree_query.specs.Checking.{AreAllChecked, IsChecking, steps_of}
use Rattle.tree_query.specs.stages.CandidateCheck.{IsInCheck, check_left, check_takes}

-- what is being done, and what is left of the candidates so far
pub record Going : Type 0 where
  pub checks : Checks
  pub finder : Finder

abbrev pub going : Checks → Finder → Going
going checks finder = record { checks = checks; finder = finder }

-- ---- stages

-- at a moment those below an index were checked, and since then the first one from there on is being checked
pub record IsAtOne (shape : Shape) (mask : ℕ) (start : View) (before finder : Finder) (next : ℕ) (check : Check) (view : View) : Type 0 where
  pub mid : View
  pub checking : IsChecking shape mask start mid before finder next
  pub fresh : Check
  pub goes : IsInCheck shape mask fresh mid check view
  pub first : IsFirst (has_index finder) next check.index

abbrev pub AtChecks : Shape → ℕ → View → Finder → Finder → ℕ → Check → Bool → View → Type 0
AtChecks shape mask start before finder next check true view = IsAtOne shape mask start before finder next check view
AtChecks shape mask start before finder next check false view = IsChecking shape mask start view before finder next

-- each candidate is one of a body of the world
abbrev pub AreBelow : View → Finder → Type 0
AreBelow start finder = (index : ℕ) → has_index finder index ≡ true → index < start.config.bodies

-- the candidates of the finder are checked with which it was begun
abbrev pub AreInCheck : Shape → ℕ → Going → View → Going → View → Type 0
AreInCheck shape mask first start at view =
    AreBelow start first.finder × AtChecks shape mask start first.finder at.finder at.checks.next at.checks.check at.checks.is_at_one view

-- so for some shape and mask
abbrev pub AreBegunSo : Going → View → Type 0
AreBegunSo at view = (shape : Shape) × (mask : ℕ) × IsUnderWay (AreInCheck shape mask) at view

-- ---- the end

-- all candidates of a finder were checked, each once and under its stripe, and this is left of them
pub record HaveChecked (shape : Shape) (mask : ℕ) (start next : View) (before after : Finder) : Type 0 where
  pub done : HasDone start next (idle start)
  pub checked : AreAllChecked shape mask start next before after
  pub locks : next.locks ≡ start.locks ++ steps_of start.config (ids_of before)

-- the candidate stays with this sequence number, or is taken out
abbrev pub HasSettled : Option ℕ → ℕ → Finder → Finder → Type 0
HasSettled None index finder after =
    (room_of after ≡ room_of finder) × (after.loads ≡ finder.loads) × ((other : ℕ) → has_index after other ≡ if index == other then false else has_index finder other)
    × ((other : ℕ) → seq_of after other ≡ seq_of finder other)
HasSettled (Some seq) index finder after =
    (room_of after ≡ room_of finder) × (after.loads ≡ finder.loads) × ((other : ℕ) → has_index after other ≡ if index == other then true else has_index finder other)
    × ((other : ℕ) → seq_of after other ≡ if index == other then seq else seq_of finder other)

-- ---- turns

-- those that are left past the candidates below an index: at most fourteen for each that may follow, and the last one
abbrev pub left_past : Finder → ℕ → ℕ
left_past finder next = 1 + 14 * (room_of finder - next)

abbrev pub left_at : Finder → ℕ → Check → Bool → ℕ
left_at finder next check true = left_past finder (next + 1) + check_left check
left_at finder next check false = left_past finder next

abbrev pub checks_left : Going → ℕ
checks_left at = left_at at.finder at.checks.next at.checks.check at.checks.is_at_one

-- the lock that is being taken
abbrev pub taken_at : Check → Bool → Option TakeOp
taken_at check true = check_takes check
taken_at check false = None

abbrev pub checks_take : Going → Option TakeOp
checks_take at = taken_at at.checks.check at.checks.is_at_one

-- what a turn owes
abbrev pub AreCheckTurn : Shape → ℕ → Turn (Unit {0}) → Going → Going → View → View → Type 0
AreCheckTurn shape mask turn before after view next =
    IsTurn (AreInCheck shape mask) (λ first start end answer. HaveChecked shape mask start end first.finder after.finder) checks_left (λ at. None) checks_take turn before after view next
