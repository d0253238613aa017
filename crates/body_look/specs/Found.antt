-- What a look at a body finds, and what that says.
use Rattle.std.specs.Prelude.{◌≡◌, ◌≢◌, ⊤, ℕ, ◌<◌, ◌≤◌, List, Option, Some, None}
use Rattle.body_ident.specs.Id.{Id}
use Rattle.scene_model.specs.declared.body_view.Phase.{Phase as BodyPhase}
use Rattle.scene_model.specs.declared.body_view.Phase.TheVariants.{Out as OutPhase, Held as HeldPhase, In as InPhase}
use Rattle.scene_model.specs.Cause.{IsCauseAt, held}
use Rattle.word_map.specs.declared.config.Config.{Config}
use Rattle.word_map.specs.declared.name.Name.TheVariants.{Phase, Layer, Slot}
use Rattle.core_state.specs.declared.item.Item.{Item}
use Rattle.core_state.specs.declared.view.View.{View}
use Rattle.core_state.specs.Log.{word}
use Rattle.core_state.specs.Guards.{scene_at}
use Rattle.core_state.specs.View.{known_word}
use Rattle.core_state.specs.Encoding.{phase_out, phase_in, phase_join}
use Rattle.pass_table.specs.Bodies.{IsGoneAt, IsTold}
use Rattle.body_look.specs.declared.body_found.BodyFound.{BodyFound}
use Rattle.body_look.specs.declared.body_found.BodyFound.TheVariants.{Gone, Live, Out, In, Held, Joined}
use Rattle.body_look.specs.declared.look_op.LookDepth.{LookDepth}
use Rattle.body_look.specs.declared.look_op.LookDepth.TheVariants.{Life, Phase as ItsPhase}

-- the phase that was found
abbrev pub phase_found : BodyFound → Option BodyPhase
phase_found (Gone state) = None
phase_found Live = None
phase_found Out = Some OutPhase
phase_found In = Some InPhase
phase_found (Held layer slot word) = Some HeldPhase
phase_found (Joined layer slot word) = Some InPhase

-- a look that goes so far tells this: where the body is live, its phase only if it was asked for
abbrev pub IsAsked : LookDepth → BodyFound → Type 0
IsAsked depth (Gone state) = ⊤
IsAsked Life Live = ⊤
IsAsked Life _ = ⊥
IsAsked ItsPhase Live = ⊥
IsAsked ItsPhase _ = ⊤

-- after all that the pass knows the body is live and in this phase, and its phase word is this
pub record IsInPhase (id : Id) (view : View) (phase : BodyPhase) (word : ℕ) : Type 0 where
  pub told : IsTold id view
  pub is : told.body.phase ≡ phase
  pub says : known_word view (Phase id.index) ≡ word

-- the body lies in this layer, and this slot of it has this word
pub record HasSlot (id : Id) (view : View) (layer slot word : ℕ) : Type 0 where
  pub lies : known_word view (Layer id.index) ≡ layer
  pub in_layers : layer < view.config.layers
  pub in_slots : slot < view.config.slots
  pub has : known_word view (Slot layer slot) ≡ word

-- what was found is so after all that the pass knows
abbrev pub IsFound : Id → View → BodyFound → Type 0
IsFound id view (Gone state) = IsGoneAt view.config id state view.known
IsFound id view Live = IsTold id view
IsFound id view Out = IsInPhase id view OutPhase phase_out
IsFound id view In = IsInPhase id view InPhase phase_in
IsFound id view (Held layer slot word) = IsInPhase id view HeldPhase (phase_join slot) × HasSlot id view layer slot word × (word ≢ 0) × (word < 1024)
IsFound id view (Joined layer slot word) = IsInPhase id view InPhase (phase_join slot) × HasSlot id view layer slot word × (1024 ≤ word)

-- ---- a body that a batch holds

-- the phase word names a slot whose word is this, and which is reserved: a batch holds the id's body, which is live
pub record IsHeldAt (c : Config) (id : Id) (found : ℕ) (log : List Item) : Type 0 where
  pub slot : ℕ
  pub joins : word c log (Phase id.index) ≡ phase_join slot
  pub word : word c log (Slot (word c log (Layer id.index)) slot) ≡ found
  pub reserved : (found ≢ 0) × (found < 1024)
  pub cause : IsCauseAt (held id) (scene_at c log)
