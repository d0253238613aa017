-- What taking a body out of the broad phase answers.
use Rattle.std.specs.Prelude.{◌≡◌, ◌≢◌, ℕ, ◌<◌, List, [], ◌∷◌, Result, MatchResult}
use Rattle.body_ident.specs.Id.{Id}
use Rattle.scene_model.specs.declared.body_view.Phase.TheVariants.{In}
use Rattle.scene_model.specs.declared.entry.Entry.TheVariants.{Remove}
use Rattle.scene_model.specs.Cause.{HasIdBody, IsCauseAt, not_in}
use Rattle.word_map.specs.declared.config.Config.{Config}
use Rattle.word_map.specs.declared.name.Name.TheVariants.{Phase}
use Rattle.core_state.specs.declared.item.Item.{Item}
use Rattle.core_state.specs.declared.view.Task.TheVariants.{Removing as RemovingTask}
use Rattle.core_state.specs.declared.view.View.{View}
use Rattle.core_state.specs.Log.{word}
use Rattle.core_state.specs.Guards.{scene_at}
use Rattle.core_state.specs.Encoding.{phase_out}
use Rattle.pass_table.specs.Calls.{Adds, MakesAt}
use Rattle.pass_table.specs.Ended.{WasNot}
use Rattle.pass_table.specs.Bodies.{IsGoneAt}
use Rattle.body_look.specs.Found.{IsHeldAt}
use Rattle.remove_body.specs.declared.answers.RemoveRefused.{RemoveRefused}
use Rattle.remove_body.specs.declared.answers.RemoveRefused.TheVariants.{Gone, NotIn, Held}

-- the id's body was taken out, by the one entry that the call made: just before it, it is live and in the broad phase
pub record HasRemoved (id : Id) (start next : View) : Type 0 where
  pub adds : Adds start next (Remove id.index ∷ [])
  pub at : MakesAt start next (Remove id.index) (λ log. HasIdBody (scene_at start.config log) id (λ r. r.phase ≡ In))

-- at the label `out`: the body was taken out, and of its places nothing is cleared yet
pub record IsJustOut (id : Id) (start next : View) : Type 0 where
  pub removed : HasRemoved id start next
  pub doing : next.call.task ≡ RemovingTask id.index
  pub whole : next.call.stores ≡ []

-- the phase word is this, and it says that the id's body, which is live, is out and not held
pub record IsNotInAt (c : Config) (id : Id) (phase : ℕ) (log : List Item) : Type 0 where
  pub word : word c log (Phase id.index) ≡ phase
  pub out : phase ≡ phase_out
  pub cause : IsCauseAt (not_in id) (scene_at c log)

-- why it was refused
abbrev pub WasRefused : Id → View → View → RemoveRefused → Type 0
WasRefused id start next (Gone state) = WasNot start next (IsGoneAt start.config id state)
WasRefused id start next (NotIn phase) = WasNot start next (IsNotInAt start.config id phase)
WasRefused id start next (Held slot) = WasNot start next (IsHeldAt start.config id slot)

-- what a removal answers is so
abbrev pub IsRemoveAnswer : Id → View → View → Result (Unit {0}) RemoveRefused → Type 0
IsRemoveAnswer id start next answer = MatchResult answer (λ _. HasRemoved id start next) (WasRefused id start next)
