-- What stands at an index after an entry, and the state words of live and of other indexes.
use Rattle.std.proofs.Common.{◌≡◌, ◌≢◌, ℕ, ◌+◌, ◌-◌, ◌%◌, ◌<◌, ◌≤◌, List, [], ◌∷◌, length, fold, refl, ◌∙◌, ap, Option, Some, None, option_map, is_some, IsSome, IsNone, IsSomeAnd, ◌⊎◌, inl, inr, arith}
use Rattle.std.proofs.lemmas.Bool.{false≢true}
use Rattle.fixed_box.specs.declared.fix_box.FixBox.{FixBox}
use Rattle.scene_model.specs.declared.body_view.Phase.{Phase}
use Rattle.scene_model.specs.declared.entry.Entry.{Entry}
use Rattle.scene_model.specs.declared.entry.Entry.TheVariants.{Create, Destroy, Join, SetUser}
use Rattle.scene_model.specs.declared.entry.Made.{Made}
use Rattle.scene_model.specs.Scene.{Scene, Place, Record, empty_scene, place_at, record_at, next_index}
use Rattle.scene_model.specs.Step.{created_in, with_new_body, with_phase, after_entry}
use Rattle.scene_model.specs.History.{scene_from, scene_after}
use Rattle.scene_model.specs.Consistent.{IsConsistent}
use Rattle.scene_model.proofs.Places.{live_used, place_at-with_body_same, place_at-with_body_other, place_at-with_change_same}
use Rattle.scene_model.proofs.Creations.{place_at-with_new_body_same, place_at-with_new_body_other}
use Rattle.core_state.specs.Bodies.{state_word}

-- ---- live indexes

-- a body that is live is some record
pub live_some : (o : Option Record) → IsSome o → IsSomeAnd o (λ r. o ≡ Some r)
live_some None h = absurd (false≢true h)
live_some (Some r) h = refl

-- an index with a record is live
pub record_live : (o : Option Record) (r : Record) → o ≡ Some r → IsSome o
record_live o r e = ap is_some e

-- and an index is live or not
pub live_or_dead : (o : Option Record) → ((r : Record) × (o ≡ Some r)) ⊎ IsNone o
live_or_dead None = inr refl
live_or_dead (Some r) = inl (r, refl)

-- where there is none, nothing holds of it
pub none_here : (o : Option Record) (P : Record → Type 0) → IsNone o → ¬ IsSomeAnd o P
none_here None P none h = h
none_here (Some r) P none h = absurd cc

-- a live index was used
pub live_placed : (scene : Scene) (index : ℕ) → IsSome (record_at scene index) → index < length scene.places
live_placed scene index live = live_used scene index _ (live_some (record_at scene index) live)

-- so it is an index of the world
pub live_below : (layers : ℕ) (scene : Scene) (index : ℕ) → IsConsistent layers scene → IsSome (record_at scene index) → index < scene.bodies
live_below layers scene index h live = let used = live_placed scene index live in let room = h.room in omega arith

-- ---- how many indexes there are

bodies-new : (freed : List ℕ) (scene : Scene) (index : ℕ) (place : Place) → (with_new_body freed scene index place).bodies ≡ scene.bodies
bodies-new [] scene index place = refl
bodies-new (first ∷ rest) scene index place = refl

bodies-join : (phase : Phase) (indexes : List ℕ) (scene : Scene) → (fold (with_phase phase) scene indexes).bodies ≡ scene.bodies
bodies-join phase [] scene = refl
bodies-join phase (index ∷ rest) scene = bodies-join phase rest (with_phase phase scene index)

-- no entry changes it
pub bodies-entry : (scene : Scene) (entry : Entry) → (after_entry scene entry).bodies ≡ scene.bodies
bodies-entry scene (Create index layer bounds user) = bodies-new scene.freed scene index (created_in (place_at scene index) layer bounds user)
bodies-entry scene (Join layer indexes) = bodies-join _ indexes scene
bodies-entry scene _ = refl

bodies-from : (scene : Scene) (history : List Made) → (scene_from scene history).bodies ≡ scene.bodies
bodies-from scene [] = refl
bodies-from scene (made ∷ later) = bodies-from (after_entry scene made.entry) later ∙ bodies-entry scene made.entry

-- so it is that of the world
pub bodies-after : (bodies : ℕ) (history : List Made) → (scene_after bodies history).bodies ≡ bodies
bodies-after bodies history = bodies-from (empty_scene bodies) history

-- ---- what stands at an index after an entry

-- a body created at the next index stands there
pub place_at-created : (layers : ℕ) (scene : Scene) (index layer : ℕ) (bounds : FixBox) (user : ℕ) → IsConsistent layers scene → next_index scene ≡ Some index
    → place_at (after_entry scene (Create index layer bounds user)) index ≡ created_in (place_at scene index) layer bounds user
place_at-created layers scene index layer bounds user h next =
    place_at-with_new_body_same scene scene.freed index (created_in (place_at scene index) layer bounds user) next (λ i c. (h.freed_empty i c).0)

pub place_at-created_other : (scene : Scene) (index layer : ℕ) (bounds : FixBox) (user other : ℕ) → next_index scene ≡ Some index → other ≢ index
    → place_at (after_entry scene (Create index layer bounds user)) other ≡ place_at scene other
place_at-created_other scene index layer bounds user other next apart =
    place_at-with_new_body_other scene scene.freed index other (created_in (place_at scene index) layer bounds user) next apart

-- where a body is destroyed none is live, and as many were created
pub place_at-destroyed : (scene : Scene) (index : ℕ) → IsSome (record_at scene index)
    → place_at (after_entry scene (Destroy index)) index ≡ record (place_at scene index) { body = None }
place_at-destroyed scene index live = place_at-with_body_same scene index None (live_placed scene index live)

pub place_at-destroyed_other : (scene : Scene) (index other : ℕ) → other ≢ index → place_at (after_entry scene (Destroy index)) other ≡ place_at scene other
place_at-destroyed_other scene index other apart = place_at-with_body_other scene index other None apart

-- a body with another user number
abbrev pub with_user : ℕ → Record → Record
with_user user r = record r { user = user }

pub place_at-user : (scene : Scene) (index user : ℕ)
    → place_at (after_entry scene (SetUser index user)) index ≡ record (place_at scene index) { body = option_map (with_user user) (record_at scene index) }
place_at-user scene index user = place_at-with_change_same (with_user user) scene index

pub place_at-user_other : (scene : Scene) (index user other : ℕ) → other ≢ index → place_at (after_entry scene (SetUser index user)) other ≡ place_at scene other
place_at-user_other scene index user other apart = place_at-with_body_other scene index other (option_map (with_user user) (record_at scene index)) apart

-- ---- state words

-- that of a live index is 256 more than a sequence number
pub state-live : (at : Place) → IsSome at.body → state_word at ≡ at.creations % 256 + 256
state-live at live = rw live refl

-- and of another a sequence number
pub state-dead : (at : Place) → IsNone at.body → state_word at ≡ at.creations % 256
state-dead at dead = rw dead (omega arith)

pub state-dead_low : (at : Place) → IsNone at.body → state_word at < 256
state-dead_low at dead = omega (arith, state-dead at dead)

-- so the word tells whether a body is live
pub state-tells_live : (at : Place) → 256 ≤ state_word at → IsSome at.body
state-tells_live at high = go at.body refl
  where
    go : (o : Option Record) → at.body ≡ o → IsSome at.body
    go (Some r) e = ap is_some e
    go None e = absurd (omega (arith, state-dead_low at (ap is_some e)))

-- a creation stores the next sequence number, plus 256
pub state-created : (at : Place) (layer : ℕ) (bounds : FixBox) (user : ℕ) → IsNone at.body → state_word (created_in at layer bounds user) ≡ (state_word at + 1) % 256 + 256
state-created at layer bounds user dead = rw (state-dead at dead) (omega arith)

-- a destruction takes the 256 away
pub state-destroyed : (at : Place) → IsSome at.body → state_word (record at { body = None }) ≡ state_word at - 256
state-destroyed at live = omega (arith, state-live at live)

-- another user number leaves the word
pub state-user : (at : Place) (user : ℕ) → state_word (record at { body = option_map (with_user user) at.body }) ≡ state_word at
state-user at user = go at.body refl
  where
    go : (o : Option Record) → at.body ≡ o → state_word (record at { body = option_map (with_user user) at.body }) ≡ state_word at
    go None e = rw e refl
    go (Some r) e = rw e refl
