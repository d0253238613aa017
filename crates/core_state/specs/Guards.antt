-- Which lock guards which word, what else a pass has for itself, and what others may have stored meanwhile.
use Rattle.std.specs.Prelude.{◌≡◌, ◌≢◌, true, ℕ, ◌<◌, ◌≤◌, if◌then◌else◌, List, [], ◌∷◌, ◌++◌, length, map, flat_map, Contains, Option, Some, None, ⊤}
use Rattle.scene_model.specs.declared.body_view.Phase.TheVariants.{Held}
use Rattle.scene_model.specs.Scene.{Scene}
use Rattle.scene_model.specs.Step.{HasBody}
use Rattle.scene_model.specs.History.{scene_after}
use Rattle.word_map.specs.declared.config.Config.{Config}
use Rattle.word_map.specs.declared.name.Name.{Name}
use Rattle.word_map.specs.declared.name.Name.TheVariants.{SlotHead, SlotNext, State, Phase, Layer, User, BoxWord, LocA, LocB, PoolHead, PoolNext, PoolFree, Main, Slot, Update, Arena}
use Rattle.word_map.specs.Names.{index_lock, pool_lock, stripe_of}
use Rattle.core_state.specs.declared.item.Item.{Item}
use Rattle.core_state.specs.declared.view.Mode.{Mode}
use Rattle.core_state.specs.declared.view.Task.TheVariants.{Creating}
use Rattle.core_state.specs.declared.view.Marked.{Marked}
use Rattle.core_state.specs.declared.view.Batch.{Batch}
use Rattle.core_state.specs.declared.view.Rebuild.{Rebuild}
use Rattle.core_state.specs.declared.view.View.{View}
use Rattle.core_state.specs.Log.{word, history}
use Rattle.core_state.specs.View.{IsPass, Holds, own_known}
use Rattle.core_state.specs.Operation.{stores}
use Rattle.core_state.specs.Core.{Core, IsViewAt}
use Rattle.core_state.specs.Nodes.{node_in}
use Rattle.core_state.specs.Updates.{HasUpdate, IsStillMerged}
use Rattle.core_state.specs.Kind.{Kind, Step, found_by, left_by, item_of}

-- the lock that guards a word: only who writes under it stores the word. Some words have none
abbrev pub guard_of : Config → Name → Option ℕ
guard_of c SlotHead = Some (index_lock c)
guard_of c (SlotNext i) = Some (index_lock c)
guard_of c (State i) = Some (index_lock c)
guard_of c PoolHead = Some (pool_lock c)
guard_of c (PoolNext n) = Some (pool_lock c)
guard_of c PoolFree = Some (pool_lock c)
guard_of c (Phase i) = Some (stripe_of c i)
guard_of c (LocB i) = Some (stripe_of c i)
guard_of c _ = None

-- ---- what a pass has for itself

-- the words that a creation stores; its stripe guards them while the body is live
abbrev pub IsBodyWord : ℕ → Name → Type 0
IsBodyWord i (State j) = j ≡ i
IsBodyWord i (Layer j) = j ≡ i
IsBodyWord i (User j) = j ≡ i
IsBodyWord i (BoxWord j k) = j ≡ i
IsBodyWord i _ = ⊥

-- the words of a body that stand still while a batch holds it; anyone may set its user number
abbrev pub IsHeldWord : ℕ → Name → Type 0
IsHeldWord i (State j) = j ≡ i
IsHeldWord i (Phase j) = j ≡ i
IsHeldWord i (Layer j) = j ≡ i
IsHeldWord i (BoxWord j k) = j ≡ i
IsHeldWord i (LocA j) = j ≡ i
IsHeldWord i (LocB j) = j ≡ i
IsHeldWord i _ = ⊥

-- the words of an update: its own, the arena, the main words, and the merged slots that are not cleared
abbrev pub IsUpdateWord : Rebuild → Name → Type 0
IsUpdateWord r Update = ⊤
IsUpdateWord r Arena = ⊤
IsUpdateWord r (Main l) = ⊤
IsUpdateWord r (Slot l t) = (root : ℕ) × IsStillMerged r l t root
IsUpdateWord r _ = ⊥

-- the nodes of an update whose words nobody else stores: all that it has until its trees are planned, since later others
-- climb in them too; and the tops of what is left of merged trees, which nobody reaches any more
abbrev pub private_nodes : Option Rebuild → List ℕ
private_nodes None = []
private_nodes (Some r) = (if r.is_planned then [] else r.nodes) ++ map (λ w. w.node) r.returning

-- a word that nobody else stores
pub data Owns (c : Config) (view : View) (name : Name) : Type 0 where
  by_lock : (lock : ℕ) (mode : Mode) → Holds view lock mode → guard_of c name ≡ Some lock → Owns c view name
  by_creation : (i : ℕ) → view.call.task ≡ Creating i → IsBodyWord i name → Owns c view name
  by_batch : (batch : Batch) → Contains view.batches batch → name ≡ Slot batch.layer batch.slot → Owns c view name
  by_mark : (batch : Batch) (m : Marked) → Contains view.batches batch → Contains batch.marked m → IsHeldWord m.index name → Owns c view name
  by_node : (n : ℕ) → Contains (flat_map (λ b. b.nodes) view.batches ++ (view.loose ++ private_nodes view.rebuild)) n → node_in name ≡ Some n → Owns c view name
  by_update : HasUpdate view (λ r. IsUpdateWord r name) → Owns c view name

-- ---- what others store

-- the scene after a first part of the log
abbrev pub scene_at : Config → List Item → Scene
scene_at c first = scene_after c.bodies (history first)

-- an item that another pass adds to a log
pub record IsQuiet (c : Config) (view : View) (first : List Item) (item : Item) : Type 0 where
  -- it stores no word that this pass has for itself
  pub others : ¬ Owns c view item.name
  -- under the stripe of an index it stores words of the body only while the state word says that none is live there
  pub body : (i : ℕ) (mode : Mode) → Holds view (stripe_of c i) mode → IsBodyWord i item.name → word c first (State i) < 256
  -- and its first location only while a batch holds the body
  pub location : (i : ℕ) (mode : Mode) → Holds view (stripe_of c i) mode → item.name ≡ LocA i → HasBody (scene_at c first) i (λ r. r.phase ≡ Held)

-- so it has been since the last step of each pass of its own
abbrev pub GuardsHold : Core → Type 0
GuardsHold core = (seat number : ℕ) (view : View) (first rest : List Item) (item : Item) → IsViewAt core seat view → IsPass view number
    → core.log ≡ first ++ item ∷ rest → length (own_known view) ≤ length first → IsQuiet core.config view first item

-- what a kind of step owes for this: where it stores a value, it is so for every other pass
abbrev pub KeepsGuards : Kind → Core → Step → Type 0
KeepsGuards kind core step = stores kind.operation (found_by core step) step.first ≡ true → (seat number : ℕ) (view : View) → seat ≢ step.seat
    → IsViewAt core seat view → IsPass view number → IsQuiet core.config view core.log (item_of kind step (left_by kind core step))
