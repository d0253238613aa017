-- A body that is nowhere: it has no location, and no tree that a word names has an entry of it.
use Rattle.std.specs.Prelude.{◌≡◌, ℕ, ◌<◌}
use Rattle.word_map.specs.declared.name.Name.{Name}
use Rattle.word_map.specs.declared.name.Name.TheVariants.{LocA, LocB, Child}
use Rattle.core_state.specs.declared.view.View.{View}
use Rattle.core_state.specs.View.{IsPass}
use Rattle.core_state.specs.Core.{Core, word_of, IsViewAt}
use Rattle.core_state.specs.Encoding.{NamesRoot, body_child}
use Rattle.core_state.specs.Nodes.{Below}
use Rattle.core_state.specs.Updates.{HasUpdate, IsDone}
use Rattle.core_state.specs.LocationsHold.{Removes}

-- an entry of the body stands in the tree of a main word or of a slot
pub record HasEntry (core : Core) (index : ℕ) : Type 0 where
  pub name : Name
  pub root : ℕ
  pub node : ℕ
  pub child : ℕ
  pub names : NamesRoot name (word_of core name) root
  pub inside : Below (word_of core) root node
  pub low : child < 4
  pub entry : word_of core (Child node child) ≡ body_child index

-- it has no location
abbrev pub HasNoLocation : Core → ℕ → Type 0
HasNoLocation core index = (word_of core (LocA index) ≡ 0) × (word_of core (LocB index) ≡ 0)

pub record IsNowhere (core : Core) (index : ℕ) : Type 0 where
  pub unplaced : HasNoLocation core index
  pub unentered : ¬ HasEntry core index

-- some pass takes it out
abbrev pub IsLeaving : Core → ℕ → Type 0
IsLeaving core index = (seat : ℕ) × (number : ℕ) × (view : View) × IsViewAt core seat view × IsPass view number × Removes view.call.task index

-- a pass makes a tree in which an entry of the body stands, and has not done with the body yet
abbrev pub IsToBeGivenUp : Core → ℕ → ℕ → Type 0
IsToBeGivenUp core number index = (seat : ℕ) × (view : View) × IsViewAt core seat view × IsPass view number × HasUpdate view (λ r. ¬ IsDone view r index)
