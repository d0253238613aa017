-- What the words of a body tell a pass: that a body is gone, and what a body is while its lock is held.
use Rattle.std.specs.Prelude.{◌≡◌, ◌≢◌, ◌⊎◌, ℕ, ◌+◌, ◌-◌, ◌%◌, ◌^◌, ◌<◌, slice_index, List, Some, None, false}
use Rattle.fixed_box.specs.FixBox.{words_of}
use Rattle.body_ident.specs.Id.{Id}
use Rattle.scene_model.specs.Scene.{Record, record_at}
use Rattle.scene_model.specs.History.{creations_in}
use Rattle.scene_model.specs.Cause.{HasIdBody, IsCauseAt, gone}
use Rattle.word_map.specs.declared.config.Config.{Config}
use Rattle.word_map.specs.declared.name.Name.{Name}
use Rattle.word_map.specs.declared.name.Name.TheVariants.{State, Phase, Layer, User, BoxWord, Slot}
use Rattle.word_map.specs.Names.{stripe_of}
use Rattle.core_state.specs.declared.item.Item.{Item}
use Rattle.core_state.specs.declared.view.Mode.{Mode}
use Rattle.core_state.specs.declared.view.Task.TheVariants.{Nothing}
use Rattle.core_state.specs.declared.view.View.{View}
use Rattle.core_state.specs.Log.{word, history}
use Rattle.core_state.specs.View.{IsPass, Holds, HoldsNot, known_word}
use Rattle.core_state.specs.Core.{Core, IsViewAt}
use Rattle.core_state.specs.Bodies.{phase_by}
use Rattle.core_state.specs.Guards.{scene_at}
use Rattle.pass_table.specs.Standing.{Stands}
use Rattle.pass_table.specs.Knowing.{KnowsMore}

-- ---- loads

-- what the pass knows is the whole log of a core that stands, in which it has this view
pub record IsCurrent (view : View) : Type 0 where
  pub core : Core
  pub seat : ℕ
  pub stands : Stands core
  pub at : IsViewAt core seat view
  pub sizes : core.config ≡ view.config
  pub whole : view.known ≡ core.log
  pub alone : view.joined ≡ None

-- a word was loaded: it is as it was when the pass learned the log up to then
pub record Loaded (view next : View) (name : Name) (value : ℕ) : Type 0 where
  pub more : KnowsMore view next
  pub now : IsCurrent next
  pub word : known_word next name ≡ value

-- ---- the state word

-- the state word of an index at which a body with this sequence number is live
abbrev pub live_state : ℕ → ℕ
live_state seq = seq + 256

-- the state word that the pass knows says that the body which the id names is live
abbrev pub KnowsLive : Id → View → Type 0
KnowsLive id view = known_word view (State id.index) ≡ live_state id.seq

-- the state word is this after the log, and it says that the body which the id names is gone
pub record IsGoneAt (c : Config) (id : Id) (state : ℕ) (log : List Item) : Type 0 where
  pub word : word c log (State id.index) ≡ state
  pub cause : IsCauseAt (gone id) (scene_at c log)
  pub other : (state < 256) ⊎ (state % 256 ≢ id.seq)

-- ---- a body under its lock

-- The pass with this number holds the stripe of the body so, nothing is half done, and the state word that it knows says
-- that the body which the id names is live
pub record IsGuarding (number : ℕ) (id : Id) (mode : Mode) (view : View) : Type 0 where
  pub pass : IsPass view number
  pub stripe : Holds view (stripe_of view.config id.index) mode
  pub below : id.index < view.config.bodies
  pub state : KnowsLive id view
  pub done : view.call.task ≡ Nothing

-- so some pass in some mode
abbrev pub IsGuarded : Id → View → Type 0
IsGuarded id view = (number : ℕ) × (mode : Mode) × IsGuarding number id mode view

-- the pass with this number guards the body so, holds no other lock, and does not walk
pub record IsAlone (number : ℕ) (id : Id) (mode : Mode) (view : View) : Type 0 where
  pub guarding : IsGuarding number id mode view
  pub only : (lock : ℕ) → lock ≢ stripe_of view.config id.index → HoldsNot view lock
  pub still : view.walk.is_on ≡ false

-- after all that the pass knows the body that the id names is live, and this holds of it
abbrev pub HasKnownBody : Id → View → (Record → Type 0) → Type 0
HasKnownBody id view P = HasIdBody (scene_at view.config view.known) id P

-- after all that the pass knows the body that the id names is live, and these are its words
pub record IsTold (id : Id) (view : View) : Type 0 where
  pub body : Record
  pub live : record_at (scene_at view.config view.known) id.index ≡ Some body
  pub latest : body.generation ≡ creations_in id.index (history view.known)
  pub sequence : body.generation % 256 ≡ id.seq
  pub layer : known_word view (Layer id.index) ≡ body.layer
  pub in_layers : body.layer < view.config.layers
  pub user : known_word view (User id.index) ≡ body.user
  pub user_fits : body.user < 2 ^ 32
  pub bounds : (k : ℕ) → k < 6 → known_word view (BoxWord id.index k) ≡ slice_index (words_of body.bounds) k
  pub phase : phase_by (known_word view (Phase id.index)) (known_word view (Slot body.layer (known_word view (Phase id.index) - 2))) ≡ Some body.phase
  pub slot : known_word view (Phase id.index) < 2 + view.config.slots
