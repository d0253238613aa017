-- A walk that is under way, and one that is at its end: nothing is left to read.
use Rattle.std.specs.Prelude.{◌≡◌, ℕ, true, [], length}
use Rattle.scene_model.specs.History.{Interval}
use Rattle.core_state.specs.declared.view.Walk.{Walk}
use Rattle.core_state.specs.declared.view.View.{View}
use Rattle.core_state.specs.Log.{history}
use Rattle.core_state.specs.View.{IsPass}
use Rattle.core_state.specs.Core.{Core, IsViewAt}
use Rattle.core_state.specs.Walking.{Query, resting, Position, Follows, position_of}

-- the pass at a seat walks, and what it has read is what the query reads, in its order
pub record IsWalking (core : Core) (query : Query) (seat number : ℕ) (view : View) : Type 0 where
  pub at : IsViewAt core seat view
  pub pass : IsPass view number
  pub on : view.walk.is_on ≡ true
  pub follows : Follows core.config query view.walk.loads

-- where the walk is
abbrev pub walked_to : Core → Query → View → Position
walked_to core query view = position_of core.config query view.walk.loads

-- no word is left to read and no node to walk
pub record IsAtEnd (at : Position) : Type 0 where
  pub rest : at.rest ≡ []
  pub stack : at.stack ≡ []
  pub spot : at.spot ≡ resting

-- the points of the history since a walk began
abbrev pub since : Core → Walk → Interval
since core walk = record { history = history core.log; from = walk.from; to = length (history core.log) }
