-- What the words of bodies say, and what passes have under way with a body.
use Rattle.std.specs.Prelude.{◌≡◌, ℕ, zero, suc, ◌+◌, ◌-◌, ◌%◌, Bool, true, false, nat_lt, if◌then◌else◌, List, [], ◌∷◌, ◌++◌, length, flat_map, Option, Some, None, is_some}
use Rattle.std.specs.List.{range_with_len, list_any}
use Rattle.scene_model.specs.declared.body_view.Phase.{Phase}
use Rattle.scene_model.specs.declared.body_view.Phase.TheVariants.{Out, Held, In}
use Rattle.scene_model.specs.Scene.{Scene, Place}
use Rattle.word_map.specs.declared.name.Name.{Name}
use Rattle.word_map.specs.declared.name.Name.TheVariants.{BoxWord}
use Rattle.core_state.specs.declared.item.Store.{Store}
use Rattle.core_state.specs.declared.view.Task.{Task}
use Rattle.core_state.specs.declared.view.Task.TheVariants.{Moving}
use Rattle.core_state.specs.declared.view.Marked.{Marked}
use Rattle.core_state.specs.declared.view.Batch.{Batch}
use Rattle.core_state.specs.declared.view.View.{View}
use Rattle.core_state.specs.Scope.{Sight, HasPass}

-- the state word of an index: the sequence number of the last creation there, and 256 more while a body is live
abbrev pub state_word : Place → ℕ
state_word at = at.creations % 256 + (if is_some at.body then 256 else 0)

-- the phase that a phase word says, with the word of the slot that it names
abbrev pub phase_by_slot : ℕ → Option Phase
phase_by_slot zero = None
phase_by_slot (suc word) = if nat_lt (suc word) 1024 then Some Held else Some In

abbrev pub phase_by : ℕ → ℕ → Option Phase
phase_by zero slot = Some Out
phase_by (suc zero) slot = Some In
phase_by (suc (suc t)) slot = phase_by_slot slot

-- the free indexes in the order in which they are used: the freed ones, and then those never used
abbrev pub free_indexes : Scene → List ℕ
free_indexes scene = scene.freed ++ range_with_len (length scene.places) (scene.bodies - length scene.places)

-- a list of places that begins at a link: 1 more than the first place, and 0 where it ends
abbrev pub IsChain : (ℕ → ℕ) → ℕ → List ℕ → Type 0
IsChain next link [] = link ≡ 0
IsChain next link (at ∷ rest) = (link ≡ suc at) × IsChain next (next at) rest

-- a box word is among the stores
abbrev pub is_box_word : Name → Bool
is_box_word (BoxWord i k) = true
is_box_word _ = false

abbrev pub has_box_word : List Store → Bool
has_box_word stores = list_any (λ s. is_box_word s.name) stores

-- a pass is to give a body another box, and of the box words it has stored some but not all
abbrev pub MovesBody : Task → ℕ → Type 0
MovesBody (Moving index target) i = index ≡ i
MovesBody _ i = ⊥

abbrev pub IsBetweenBoxes : View → ℕ → Type 0
IsBetweenBoxes view i = MovesBody view.call.task i × (has_box_word view.call.stores ≡ true)

-- no pass stands so
abbrev pub HasWholeBox : Sight → ℕ → Type 0
HasWholeBox s i = (number : ℕ) → ¬ HasPass s number (λ view. IsBetweenBoxes view i)

-- ---- batches

-- the batch holds the slot
abbrev pub IsForSlot : ℕ → ℕ → Batch → Type 0
IsForSlot l t batch = (batch.layer ≡ l) × (batch.slot ≡ t)

-- two batches hold two slots
abbrev pub AreOtherSlots : Batch → Batch → Type 0
AreOtherSlots a b = ¬ IsForSlot b.layer b.slot a

-- the batches of all passes, and the bodies that they hold
abbrev pub all_batches : Sight → List Batch
all_batches s = flat_map (λ view. view.batches) s.passes

abbrev pub all_marked : Sight → List Marked
all_marked s = flat_map (λ batch. batch.marked) (all_batches s)
