-- The update under way, if there is one, and what it has done so far.
use Rattle.std.specs.Prelude.{◌≡◌, ◌⊎◌, ℕ, ◌-◌, ◌<◌, ◌≤◌, true, nat_lt, if◌then◌else◌, length, fold, Contains, Option, Some, None, slice_index_or, IfSome, IsSomeAnd}
use Rattle.scene_model.specs.Step.{HasBody}
use Rattle.word_map.specs.declared.config.Config.{Config}
use Rattle.core_state.specs.declared.view.Rebuild.{Rebuild}
use Rattle.core_state.specs.declared.view.Merged.{Merged}
use Rattle.core_state.specs.declared.view.Noted.{Noted}
use Rattle.core_state.specs.declared.view.Task.{Task}
use Rattle.core_state.specs.declared.view.Task.TheVariants.{Placing}
use Rattle.core_state.specs.declared.view.View.{View}
use Rattle.word_map.specs.declared.name.Name.TheVariants.{Main, Slot}
use Rattle.core_state.specs.Nodes.{Home, under}
use Rattle.core_state.specs.Scope.{Sight, EachPass, scene_in}

-- each pass that has an update under way, with it; the laws say that there is one at most
abbrev pub EachUpdate : Sight → (ℕ → View → Rebuild → Type 0) → Type 0
EachUpdate s P = EachPass s (λ number view. IfSome view.rebuild (P number view))

-- the pass has an update under way of which this holds
abbrev pub HasUpdate : View → (Rebuild → Type 0) → Type 0
HasUpdate view P = IsSomeAnd view.rebuild P

-- the arena that the main tree of a layer is in: from the exchange of its main word on, the other one
abbrev pub arena_after : ℕ → ℕ → Option Rebuild → ℕ
arena_after layer arena None = arena
arena_after layer arena (Some r) = elim (r.arena) [
  | None ↦ arena
  | Some old ↦ if nat_lt layer (length r.swapped) then 1 - old else old
]

abbrev pub arena_of : Sight → ℕ → ℕ → ℕ
arena_of s named layer = fold (λ arena view. arena_after layer arena view.rebuild) named s.passes

-- a tree that was found in a slot
abbrev pub merged_tree : ℕ → ℕ → ℕ → Merged
merged_tree l t root = record { layer = l; slot = t; root = root }

-- it is one of those whose slots are not cleared yet
abbrev pub IsStillMerged : Rebuild → ℕ → ℕ → ℕ → Type 0
IsStillMerged r l t root = (k : ℕ) × (r.cleared ≤ k) × (k < length r.merged) × (slice_index_or r.merged k (merged_tree l t root) ≡ merged_tree l t root)

-- a tree that the update is to replace, and that is still published
abbrev pub IsOldTree : Rebuild → Home → Type 0
IsOldTree r (under (Main l)) = length r.swapped ≤ l
IsOldTree r (under (Slot l t)) = (root : ℕ) × IsStillMerged r l t root
IsOldTree r _ = ⊥

-- a node is in the new tree of a layer that the update has planned and not published
abbrev pub IsMadeIn : Config → Rebuild → ℕ → ℕ → Type 0
IsMadeIn c r l n = (r.is_planned ≡ true) × (length r.swapped ≤ l) × (l < c.layers) × Contains r.made (record { layer = l; node = n })

-- the body that was noted is the one that is live now: of the same creation, in the same layer
abbrev pub IsSameBody : Sight → Noted → Type 0
IsSameBody s noted = HasBody (scene_in s) noted.index (λ r. (r.generation ≡ noted.generation) × (r.layer ≡ noted.layer))

-- the body was noted so
abbrev pub IsNoted : Rebuild → ℕ → (Noted → Type 0) → Type 0
IsNoted r i P = (n : Noted) × Contains r.noted n × (n.index ≡ i) × P n

-- the pass is about to place the body
abbrev pub IsPlacing : Task → ℕ → Type 0
IsPlacing (Placing index) i = index ≡ i
IsPlacing _ i = ⊥

-- the update has done with the body: it is placed, and its phase stored where that was due, or it was found gone
abbrev pub IsDone : View → Rebuild → ℕ → Type 0
IsDone view r i = (Contains r.placed i × ¬ IsPlacing view.call.task i) ⊎ Contains r.given_up i
