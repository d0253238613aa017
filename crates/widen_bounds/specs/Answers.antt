-- What moving a body answers, and what its labels say.
use Rattle.std.specs.Prelude.{◌≢◌, ℕ, zero, suc, [], ◌∷◌, Result, MatchResult}
use Rattle.fixed_box.specs.FixBox.{words_of}
use Rattle.fixed_box.specs.declared.fix_box.FixBox.{FixBox}
use Rattle.body_ident.specs.Id.{Id}
use Rattle.scene_model.specs.declared.body_view.Phase.TheVariants.{Held as HeldPhase}
use Rattle.scene_model.specs.declared.entry.Entry.TheVariants.{Move}
use Rattle.scene_model.specs.Cause.{HasIdBody}
use Rattle.core_state.specs.declared.view.View.{View}
use Rattle.core_state.specs.Bodies.{IsBetweenBoxes}
use Rattle.core_state.specs.Encoding.{sides_of}
use Rattle.core_state.specs.Guards.{scene_at}
use Rattle.pass_table.specs.Calls.{Adds, MakesAt}
use Rattle.pass_table.specs.Ended.{WasNot}
use Rattle.pass_table.specs.Bodies.{IsGoneAt}
use Rattle.body_look.specs.Found.{IsHeldAt}
use Rattle.widen_bounds.specs.stages.Widening.{KnowsLeafWide, KnowsAllWide}
use Rattle.widen_bounds.specs.declared.answers.HeldAt.{HeldAt}
use Rattle.widen_bounds.specs.declared.answers.MoveRefused.{MoveRefused}
use Rattle.widen_bounds.specs.declared.answers.MoveRefused.TheVariants.{Gone, Held}

-- the id's body was given this box, by the one entry that the call made: just before it, it is live and no batch holds it
pub record HasMoved (id : Id) (to : FixBox) (start next : View) : Type 0 where
  pub adds : Adds start next (Move id.index to ∷ [])
  pub at : MakesAt start next (Move id.index to) (λ log. HasIdBody (scene_at start.config log) id (λ r. r.phase ≢ HeldPhase))

-- why it was refused
abbrev pub WasHeld : Id → View → View → HeldAt → Type 0
WasHeld id start next refused = WasNot start next (IsHeldAt start.config id refused.slot)

abbrev pub WasRefused : Id → View → View → MoveRefused → Type 0
WasRefused id start next (Gone state) = WasNot start next (IsGoneAt start.config id state)
WasRefused id start next (Held slot) = WasNot start next (IsHeldAt start.config id slot)

-- what a move answers is so
abbrev pub IsMoveAnswer : Id → FixBox → View → View → Result (Unit {0}) MoveRefused → Type 0
IsMoveAnswer id to start next answer = MatchResult answer (λ _. HasMoved id to start next) (WasRefused id start next)

-- ---- labels

-- the pass has not moved the body yet: it has made no entry, and stored no word of the box
pub record HasNotMoved (id : Id) (start next : View) : Type 0 where
  pub adds : Adds start next []
  pub whole : ¬ IsBetweenBoxes next id.index

-- at the label `leaf`: the bound at the first location, if there is one, contains the new box, and so does the bound of this
-- node in the node above, if there is one
pub record IsLeafWide (id : Id) (to : FixBox) (start next : View) : Type 0 where
  pub unmoved : HasNotMoved id start next
  pub wide : KnowsLeafWide id.index (sides_of (words_of to)) next

-- at the label `widened`: every bound from both locations up to the roots contains the new box
pub record IsAllWide (id : Id) (to : FixBox) (start next : View) : Type 0 where
  pub unmoved : HasNotMoved id start next
  pub wide : KnowsAllWide id.index (sides_of (words_of to)) next

abbrev pub LabelSays : Id → FixBox → View → View → ℕ → Type 0
LabelSays id to start next zero = IsLeafWide id to start next
LabelSays id to start next (suc more) = IsAllWide id to start next
