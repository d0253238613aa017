-- Steps that a law does not see.
use Rattle.std.specs.Prelude.{◌≡◌, ℕ, true, false, IsTrue, List, Option, None}
use Rattle.core_state.specs.declared.item.Item.{Item}
use Rattle.core_state.specs.declared.view.Joined.{Joined}
use Rattle.core_state.specs.declared.view.View.{View}
use Rattle.core_state.specs.Operation.{stores}
use Rattle.core_state.specs.Core.{Core}
use Rattle.core_state.specs.Kind.{Kind, Step, found_by, view_after}
use Rattle.core_state.specs.Scope.{Scope, bare_view}

-- the step stores no name that the law speaks of, makes no entry where the law reads the history, and changes no part of
-- the view that it reads
pub record IsOutside (scope : Scope) (kind : Kind) (core : Core) (step : Step) : Type 0 where
  pub name : stores kind.operation (found_by core step) step.first ≡ true → scope.names step.name ≡ false
  pub entry : IsTrue scope.reads_history → (value : ℕ) → kind.entry step.view step.name value ≡ None
  pub part : scope.part (bare_view step.number) (view_after kind core step) ≡ scope.part (bare_view step.number) step.view

-- the law reads nothing of what a pass knows, alone or with another that it meets
abbrev pub ReadsNoLog : Scope → Type 0
ReadsNoLog scope = (bare view : View) (known : List Item) (joined : Option Joined) →
    scope.part bare (record view { known = known; joined = joined }) ≡ scope.part bare view
