-- The bodies are covered: each one in the broad phase stands in a published tree of its layer, also while trees are
-- exchanged, and what an update noted of bodies holds or is known not to.
use Rattle.std.specs.Prelude.{◌≡◌, ◌≢◌, ℕ, ◌+◌, ◌*◌, ◌<◌, ◌≤◌, Bool, true, false, length, map, Contains, AllPairs, option_map, Some}
use Rattle.scene_model.specs.declared.body_view.Phase.TheVariants.{In}
use Rattle.scene_model.specs.Scene.{Record, record_at}
use Rattle.scene_model.specs.Step.{HasBody}
use Rattle.word_map.specs.declared.name.Name.{Name}
use Rattle.word_map.specs.declared.name.Name.TheVariants.{State, Phase, Layer, LocA, LocB, Slot}
use Rattle.core_state.specs.declared.view.Merged.{Merged}
use Rattle.core_state.specs.declared.view.Noted.{Noted}
use Rattle.core_state.specs.declared.view.Rebuild.{Rebuild}
use Rattle.core_state.specs.declared.view.View.{View}
use Rattle.core_state.specs.Core.{Core}
use Rattle.core_state.specs.Scope.{Scope, Sight, sight, IsOnce, scene_in}
use Rattle.core_state.specs.Encoding.{place, phase_join, slot_tree, sides_of}
use Rattle.core_state.specs.Parts.{call_at, task_on_cover, update_on_cover}
use Rattle.core_state.specs.Nodes.{Nodes, superseded, IsPublished, IsOfLayer}
use Rattle.core_state.specs.Updates.{EachUpdate, IsOldTree, IsStillMerged, IsNoted, IsSameBody, IsDone}
use Rattle.core_state.specs.LocationsHold.{IsLocation, IsRemoved}
use Rattle.core_state.specs.Space.{HadAs}

abbrev pub is_cover_word : Name → Bool
is_cover_word (State i) = true
is_cover_word (Phase i) = true
is_cover_word (Layer i) = true
is_cover_word (LocA i) = true
is_cover_word (LocB i) = true
is_cover_word (Slot l t) = true
is_cover_word _ = false

-- it reads those words, the history, and of each view which body it removes or places, and what the update noted
abbrev pub cover_scope : Scope
cover_scope = record {
  names = is_cover_word;
  reads_history = true;
  part = λ bare view. record bare { call = call_at (task_on_cover view.call.task); rebuild = option_map update_on_cover view.rebuild };
}

-- the body has a location in a published tree of the layer
abbrev pub IsCovered : Nodes → Sight → ℕ → ℕ → Type 0
IsCovered nodes s i layer = (n : ℕ) × (k : ℕ) × IsLocation s i n k × IsPublished (nodes.home n) × IsOfLayer layer (nodes.home n)

-- the first location of the body is in a tree that the update replaces and that is published still
abbrev pub IsInOldTree : Nodes → Sight → Rebuild → ℕ → Type 0
IsInOldTree nodes s r i = (n : ℕ) × (k : ℕ) × (k < 4) × (s.word (LocA i) ≡ place n k) × IsOldTree r (nodes.home n)

-- the body looks as it was noted
pub record LooksAsNoted (s : Sight) (n : Noted) : Type 0 where
  pub state : s.word (State n.index) ≡ n.state
  pub location : s.word (LocA n.index) ≡ n.location

-- and is as it was noted, but that it may be on its way out of the broad phase
pub record IsAsNoted (s : Sight) (n : Noted) : Type 0 where
  pub looks : LooksAsNoted s n
  pub phase : ¬ IsRemoved s n.index → s.word (Phase n.index) ≡ n.phase
  pub layer : s.word (Layer n.index) ≡ n.layer
  pub same : IsSameBody s n

-- the update has looked at the body and has not done with it
abbrev pub IsOpen : View → Rebuild → ℕ → Type 0
IsOpen view r i = (i < r.passed) × ¬ IsDone view r i

-- what an update noted holds of each body that it has not done with: those that stand in the trees that it replaces are
-- those that look as they were noted
pub record NotesHold (nodes : Nodes) (s : Sight) (view : View) (r : Rebuild) : Type 0 where
  pub all_noted : (i : ℕ) → IsOpen view r i → IsInOldTree nodes s r i → IsNoted r i (λ n. IsAsNoted s n)
  pub still_there : (n : Noted) → Contains r.noted n → IsOpen view r n.index → LooksAsNoted s n → IsInOldTree nodes s r n.index × IsAsNoted s n
  -- each body was noted at a place, which is in a tree that the update replaces as long as it has not done with the body
  pub located : (n : Noted) → Contains r.noted n → n.location ≢ 0
  pub in_old : (n : Noted) → Contains r.noted n → ¬ IsDone view r n.index → (a : ℕ) × (b : ℕ) × (b < 4) × (n.location ≡ place a b) × IsOldTree r (nodes.home a)
  -- one that was placed and stands in such a tree has its place in the new one
  pub placed : (i : ℕ) → Contains r.placed i → IsInOldTree nodes s r i → IsNoted r i (λ n. s.word (LocB i) ≡ n.place)
  -- and one that was given up stands in none
  pub given_up : (i : ℕ) → Contains r.given_up i → ¬ IsInOldTree nodes s r i
  -- each body is noted once, when it was looked at, and with a box that it had since the update began
  pub once : IsOnce (map (λ n. n.index) r.noted)
  pub passed : (n : Noted) → Contains r.noted n → n.index < r.passed
  pub boxes : (n : Noted) → Contains r.noted n → HadAs s r.from n (sides_of n.bounds)
  pub begun : r.from ≤ length s.history

-- the merged trees stand in their slots until these are cleared; each slot is noted once, when it was loaded
pub record KeepsMerged (s : Sight) (r : Rebuild) : Type 0 where
  pub stand : (l t root : ℕ) → IsStillMerged r l t root → s.word (Slot l t) ≡ slot_tree root
  pub read : (m : Merged) → Contains r.merged m → m.layer * s.config.slots + m.slot < r.slots_read
  pub each_once : AllPairs (λ a b. ¬ ((a.layer ≡ b.layer) × (a.slot ≡ b.slot))) r.merged

-- before a main word is exchanged, all bodies that were noted are done
abbrev pub ExchangesDone : View → Rebuild → Type 0
ExchangesDone view r = 0 < length r.swapped → (n : Noted) → Contains r.noted n → IsDone view r n.index

pub record BodiesCoveredIn (nodes : Nodes) (s : Sight) : Type 0 where
  pub covered : (i : ℕ) (r : Record) → record_at (scene_in s) i ≡ Some r → r.phase ≡ In → IsCovered nodes s i r.layer
  -- a body that stood in a superseded tree has its place in the new one
  pub replaced : (i n k number : ℕ) (name : Name) → k < 4 → s.word (LocA i) ≡ place n k → nodes.home n ≡ superseded number name → s.word (LocB i) ≢ 0
  -- a body of a merged slot that is not cleared is to be placed, once it was looked at and until it was placed or removed
  pub to_place : EachUpdate s (λ number view r. (i l t root : ℕ) → i < r.passed → IsStillMerged r l t root → HasBody (scene_in s) i (λ b. b.layer ≡ l)
      → s.word (Phase i) ≡ phase_join t → IsNoted r i (λ n. ¬ IsDone view r i))
  pub notes : EachUpdate s (λ number view r. NotesHold nodes s view r)
  pub merged : EachUpdate s (λ number view r. KeepsMerged s r)
  pub exchanged : EachUpdate s (λ number view r. ExchangesDone view r)

abbrev pub BodiesCovered : Nodes → Core → Type 0
BodiesCovered nodes core = BodiesCoveredIn nodes (sight cover_scope core)
