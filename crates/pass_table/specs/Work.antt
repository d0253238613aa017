-- What a call has done since it was begun.
use Rattle.std.specs.Prelude.{◌≡◌, ℕ, ◌==◌, Bool, true, false, not, List, [], ◌∷◌, ◌++◌, filter_map, Option, Some, None}
use mathlib.Core.Bool.{cond}
use Rattle.scene_model.specs.declared.entry.Entry.{Entry}
use Rattle.word_map.specs.declared.name.Name.{Name}
use Rattle.word_map.specs.declared.name.Name.TheVariants.{Slot, PoolFree, Update, Reader, LocA, LocB}
use Rattle.core_state.specs.declared.item.Item.{Item}
use Rattle.core_state.specs.declared.item.Store.{Store}
use Rattle.core_state.specs.declared.view.LockStep.{LockStep}
use Rattle.core_state.specs.declared.view.Task.{Task}
use Rattle.core_state.specs.declared.view.Task.TheVariants.{Nothing}
use Rattle.core_state.specs.declared.view.Batch.{Batch}
use Rattle.core_state.specs.declared.view.View.{View}
use Rattle.core_state.specs.View.{IsPass}
use Rattle.pass_table.specs.Calls.{Adds}
use Rattle.pass_table.specs.Holding.{IsAtRest}

-- ---- stores that are told

-- the words of which each call says what it stored there: slots, the number of free nodes, the update, readers
abbrev pub is_told : Name → Bool
is_told (Slot layer slot) = true
is_told PoolFree = true
is_told Update = true
is_told (Reader number) = true
is_told _ = false

-- the store of an item, if this pass made it and it is told
abbrev pub told_store : ℕ → Item → Option Store
told_store number item = cond (is_told item.name) (cond (item.pass == number) (Some (record { name = item.name; value = item.value })) None) None

abbrev pub told_stores : ℕ → List Item → List Store
told_stores number items = filter_map (told_store number) items

-- the pass has made these stores since, and of those that are told no others
pub record Tells (view next : View) (stores : List Store) : Type 0 where
  pub number : ℕ
  pub pass : IsPass view number
  pub since : List Item
  pub known : next.known ≡ view.known ++ since
  pub told : told_stores number since ≡ stores

-- ---- locations

abbrev pub is_location : Name → Bool
is_location (LocA index) = true
is_location (LocB index) = true
is_location _ = false

-- the pass has stored no location since, not even one that was taken back
pub record SparesLocations (view next : View) : Type 0 where
  pub since : List Item
  pub known : next.known ≡ view.known ++ since
  pub own : (early later : List Item) (item : Item) → since ≡ early ++ item ∷ later → IsPass view item.pass → is_location item.name ≡ false

-- a call has to say that it stored such a word: it is told, or is a location where the call stores none
abbrev pub is_shown : Bool → Name → Bool
is_shown places name = cond (is_told name) true (cond (is_location name) (not places) false)

-- ---- calls

-- how far a call is: its steps on locks, its task, what it made and stored, what the pass has of batches and nodes, and whether
-- it is one that may have stored locations
pub record Work : Type 0 where
  pub steps : List LockStep
  pub task : Task
  pub entries : List Entry
  pub stores : List Store
  pub batches : List Batch
  pub loose : List ℕ
  pub written : List Store
  pub places : Bool

-- one that is begun
abbrev pub begun : View → Work
begun view = record { steps = []; task = Nothing; entries = []; stores = []; batches = view.batches; loose = view.loose; written = view.written; places = false }

-- one step on a lock more
abbrev pub with_lock : Work → LockStep → Work
with_lock w step = record w { steps = w.steps ++ step ∷ [] }

-- A call has done this so far, and all else that the pass has is as it was, but for what it knows
pub record HasWorked (start view : View) (w : Work) : Type 0 where
  pub adds : Adds start view w.entries
  pub tells : Tells start view w.stores
  pub spares : w.places ≡ false → SparesLocations start view
  pub doing : view.call.task ≡ w.task
  pub left : view ≡ record start { known = view.known; joined = view.joined; locks = start.locks ++ w.steps; call = view.call; batches = w.batches; loose = w.loose; written = w.written }

-- A call is under way that made these steps on locks and these entries, and is in the middle of this task. It stored no
-- word that is told, and all else but what the pass knows is as it was
abbrev pub IsCalling : View → View → List LockStep → Task → List Entry → Type 0
IsCalling start view steps task entries =
    HasWorked start view
    (record { steps = steps; task = task; entries = entries; stores = []; batches = start.batches; loose = start.loose; written = start.written; places = false })

-- ---- parts of calls, which begin and end at rest

-- what came of a part: what it made and stored, what the pass has of batches and nodes, and whether it may have stored locations
pub record Outcome : Type 0 where
  pub entries : List Entry
  pub stores : List Store
  pub batches : List Batch
  pub loose : List ℕ
  pub written : List Store
  pub places : Bool

-- the pass is at rest again, and all else that it has is as it was, but for what it knows
pub record HasDone (start next : View) (o : Outcome) : Type 0 where
  pub adds : Adds start next o.entries
  pub tells : Tells start next o.stores
  pub spares : o.places ≡ false → SparesLocations start next
  pub rest : IsAtRest next
  pub left : next ≡ record start { known = next.known; joined = next.joined; locks = next.locks; call = next.call; batches = o.batches; loose = o.loose; written = o.written }

-- of two parts one after the other: what both made and stored, and what the pass has after the second
abbrev pub followed : Outcome → Outcome → Outcome
followed first second = record { entries = first.entries ++ second.entries; stores = first.stores ++ second.stores; batches = second.batches; loose = second.loose; written = second.written; places = cond first.places true second.places }

-- what came of it when nothing is under way any more
abbrev pub outcome_of : Work → Outcome
outcome_of w = record { entries = w.entries; stores = w.stores; batches = w.batches; loose = w.loose; written = w.written; places = w.places }

-- of a pass that does nothing
abbrev pub idle : View → Outcome
idle view = record { entries = []; stores = []; batches = view.batches; loose = view.loose; written = view.written; places = false }
