-- What creating and destroying a body answer.
use Rattle.std.specs.Prelude.{◌≡◌, ℕ, ◌+◌, ◌<◌, List, [], ◌∷◌, Result, MatchResult, Some}
use Rattle.fixed_box.specs.declared.fix_box.FixBox.{FixBox}
use Rattle.body_ident.specs.Id.{Id, id_of}
use Rattle.scene_model.specs.declared.entry.Entry.TheVariants.{Create, Destroy}
use Rattle.scene_model.specs.Scene.{Scene, place_at, next_index}
use Rattle.scene_model.specs.Cause.{IsCauseAt, full, HasIdBody, in_use}
use Rattle.word_map.specs.declared.config.Config.{Config}
use Rattle.word_map.specs.declared.name.Name.TheVariants.{SlotHead}
use Rattle.core_state.specs.declared.item.Item.{Item}
use Rattle.core_state.specs.declared.view.View.{View}
use Rattle.core_state.specs.Log.{word}
use Rattle.core_state.specs.Guards.{scene_at}
use Rattle.pass_table.specs.Calls.{Adds, AtPoint, MakesAt}
use Rattle.body_slots.specs.declared.answers.Full.{Full}
use Rattle.scene_model.specs.declared.body_view.Phase.{Phase as BodyPhase}
use Rattle.scene_model.specs.declared.body_view.Phase.TheVariants.{Out}
use Rattle.pass_table.specs.Bodies.{IsGoneAt}
use Rattle.body_slots.specs.declared.answers.DestroyRefused.{DestroyRefused}
use Rattle.body_slots.specs.declared.answers.DestroyRefused.TheVariants.{Gone, InUse}

-- the next body takes the index of this id, and the id is that of the next creation there
pub record IsNextId (scene : Scene) (id : Id) : Type 0 where
  pub free : next_index scene ≡ Some id.index
  pub is : id ≡ id_of id.index ((place_at scene id.index).creations + 1)

-- A body was created, by the one entry that the call made: just before it, the id is that of the next body
pub record HasCreated (layer : ℕ) (bounds : FixBox) (user : ℕ) (start next : View) (id : Id) : Type 0 where
  pub below : id.index < start.config.bodies
  pub adds : Adds start next (Create id.index layer bounds user ∷ [])
  pub at : MakesAt start next (Create id.index layer bounds user) (λ log. IsNextId (scene_at start.config log) id)

-- the head of the list of free indexes names none, and a body is live at each index
pub record IsFullAt (c : Config) (head : ℕ) (log : List Item) : Type 0 where
  pub zero : head ≡ 0
  pub is : head ≡ word c log SlotHead
  pub every : IsCauseAt full (scene_at c log)

-- no body was created: so it was at a point of the call
pub record WasFull (start next : View) (refused : Full) : Type 0 where
  pub adds : Adds start next []
  pub at : AtPoint start next (IsFullAt start.config refused.head)

-- what a creation answers is so
abbrev pub IsCreateAnswer : ℕ → FixBox → ℕ → View → View → Result Id Full → Type 0
IsCreateAnswer layer bounds user start next answer = MatchResult answer (HasCreated layer bounds user start next) (WasFull start next)

-- the id's body was destroyed, by the one entry that the call made: just before it, it is live and out
pub record HasDestroyed (id : Id) (start next : View) : Type 0 where
  pub adds : Adds start next (Destroy id.index ∷ [])
  pub at : MakesAt start next (Destroy id.index) (λ log. HasIdBody (scene_at start.config log) id (λ r. r.phase ≡ Out))

-- nothing was destroyed: so it was at a point of the call
pub record WasGone (id : Id) (start next : View) (state : ℕ) : Type 0 where
  pub adds : Adds start next []
  pub at : AtPoint start next (IsGoneAt start.config id state)

-- the id's body is live, and in this phase, in which it is held or in the broad phase
pub record IsInUseAt (c : Config) (id : Id) (phase : BodyPhase) (log : List Item) : Type 0 where
  pub cause : IsCauseAt (in_use id) (scene_at c log)
  pub is : HasIdBody (scene_at c log) id (λ r. r.phase ≡ phase)

pub record WasInUse (id : Id) (start next : View) (phase : BodyPhase) : Type 0 where
  pub adds : Adds start next []
  pub at : AtPoint start next (IsInUseAt start.config id phase)

-- why it was refused
abbrev pub WasRefused : Id → View → View → DestroyRefused → Type 0
WasRefused id start next (Gone state) = WasGone id start next state
WasRefused id start next (InUse phase) = WasInUse id start next phase

-- what a destruction answers is so
abbrev pub IsDestroyAnswer : Id → View → View → Result (Unit {0}) DestroyRefused → Type 0
IsDestroyAnswer id start next answer = MatchResult answer (λ _. HasDestroyed id start next) (WasRefused id start next)
