-- How a walk that collects is made by turns, as an operation.
use Rattle.std.specs.Prelude.{◌≡◌, ℕ, Option, Some, None}
use Rattle.core_state.specs.declared.view.View.{View}
use Rattle.pass_table.specs.declared.turn.Turn.{Turn}
use Rattle.pass_table.specs.Knowing.{KnowsMore}
use Rattle.pass_table.specs.Calls.{IsTurn}
use Rattle.pass_table.specs.Labels.{EndsAfter, SaysNew}
use Rattle.pass_table.specs.Turning.{Labelled}
use Rattle.tree_query.specs.declared.finder.Finder.{Finder}
use Rattle.tree_query.specs.declared.collect_op.CollectOp.{CollectOp}
use Rattle.tree_query.specs.Finding.{room_of}
use Rattle.tree_query.specs.Answers.{SaysWalk, HasCollected}
use Rattle.tree_query.specs.stages.WalkTurns.{walk_left, walk_label}
use Rattle.tree_query.specs.stages.WalkLater.{IsWalkingSince, walking-later}

abbrev pub loads_kept : Option Finder → ℕ
loads_kept None = 0
loads_kept (Some finder) = finder.loads

abbrev pub room_kept : Option Finder → ℕ
room_kept None = 0
room_kept (Some finder) = room_of finder

-- it keeps a finder, and its walk goes on with that
pub record IsCollectGoing (first : CollectOp) (start : View) (operation : CollectOp) (view : View) : Type 0 where
  pub finder : Finder
  pub held : operation.finder ≡ Some finder
  pub goes : IsWalkingSince (room_kept first.finder) first.walk start operation.walk finder view

-- at its end the finder is handed out, and has the room that it had
pub record HasHandedOut (first : CollectOp) (start next : View) (finder : Finder) : Type 0 where
  pub collected : HasCollected first.walk.shape first.walk.mask start next finder
  pub room : room_of finder ≡ room_kept first.finder

abbrev pub collect_left : CollectOp → ℕ
collect_left operation = walk_left operation.walk.stage (loads_kept operation.finder)

abbrev pub collect_label : CollectOp → Option ℕ
collect_label operation = walk_label operation.walk

abbrev pub collect_says : CollectOp → View → View → ℕ → Type 0
collect_says first start next label = SaysWalk first.walk.mask start next label

-- what a turn owes
pub record IsCollectTurn (turn : Turn Finder) (before after : CollectOp) (view next : View) : Type 0 where
  pub plain : IsTurn IsCollectGoing HasHandedOut collect_left (λ operation. None) (λ operation. None) turn before after view next
  pub labelled : Labelled turn (collect_label before) (collect_label after)
  pub ends : EndsAfter turn (λ finder. ⊥) (Some 2) (collect_label before)
  pub says : (first : CollectOp) (start : View) → IsCollectGoing first start before view → SaysNew (collect_label before) (collect_label after) (collect_says first start next)

-- a look or a meeting between two turns does no harm
pub collecting_op-later : (first : CollectOp) (start : View) (operation : CollectOp) (view next : View) → KnowsMore view next → IsCollectGoing first start operation view → IsCollectGoing first start operation next
collecting_op-later first start operation view next more going = record {
  finder = going.finder;
  held = going.held;
  goes = walking-later (room_kept first.finder) first.walk start operation.walk going.finder view next more going.goes;
}
