-- How the view of a pass goes on: what it is but for what is known, and what the pass itself stored meanwhile.
use Rattle.std.specs.Prelude.{◌≡◌, ℕ, ◌==◌, if◌then◌else◌, List, ◌++◌, filter_map, Option, Some, None}
use Rattle.word_map.specs.declared.name.Name.{Name}
use Rattle.core_state.specs.declared.item.Item.{Item}
use Rattle.core_state.specs.declared.item.Store.{Store}
use Rattle.core_state.specs.declared.view.View.{View}
use Rattle.core_state.specs.View.{IsPass}

-- the view is this one, but for what is known by now
abbrev pub IsNow : View → View → Type 0
IsNow shape next = next ≡ record shape { known = next.known; joined = None }

-- a value that was stored at a word
abbrev pub store_at : Name → ℕ → Store
store_at name value = record { name = name; value = value }

-- what an item stored, if it is this pass's
abbrev pub own_store : ℕ → Item → Option Store
own_store number item = if item.pass == number then Some (store_at item.name item.value) else None

-- what this pass stored among items, in order
abbrev pub own_stores : ℕ → List Item → List Store
own_stores number items = filter_map (own_store number) items

-- the pass has stored just these values since, in this order, and no other word
pub record HasStored (view next : View) (stores : List Store) : Type 0 where
  pub number : ℕ
  pub pass : IsPass view number
  pub since : List Item
  pub known : next.known ≡ view.known ++ since
  pub own : own_stores number since ≡ stores
