-- What the table of a world has at any moment: the words and views of a core that stands.
use Rattle.std.specs.Prelude.{◌≡◌, ℕ, ◌+◌, ◌≤◌, List, ◌++◌, All}
use Rattle.atomic_table.specs.Table.{State}
use Rattle.word_map.specs.declared.config.Config.{Config}
use Rattle.core_state.specs.declared.item.Item.{Item}
use Rattle.core_state.specs.declared.view.Role.{Role}
use Rattle.core_state.specs.declared.view.Role.TheVariants.{Pass, Visitor, Spent}
use Rattle.core_state.specs.declared.view.View.{View}
use Rattle.core_state.specs.Log.{words}
use Rattle.core_state.specs.View.{own_known}
use Rattle.core_state.specs.Core.{Core, IsViewAt}
use Rattle.core_state.specs.Formed.{IsFormed}
use Rattle.core_state.specs.Guards.{GuardsHold}
use Rattle.core_state.specs.Invariants.{Invariants}
use Rattle.pass_table.specs.OwnMarks.{MarksAreOwn}

-- the number is one of a pass, for itself or to give
abbrev pub HasNumber : Role → ℕ → Type 0
HasNumber (Pass own further) number = (own ≤ number) × (number ≤ own + further)
HasNumber Visitor number = ⊥
HasNumber Spent number = ⊥

-- the items were made under no number of this pass
abbrev pub AreForeign : Role → List Item → Type 0
AreForeign role items = All (λ item. ¬ HasNumber role item.pass) items

-- what came to the log since the last step of a pass of its own came from others
abbrev pub OwnAreKnown : Core → Type 0
OwnAreKnown core = (seat : ℕ) (view : View) (since : List Item) → IsViewAt core seat view → core.log ≡ own_known view ++ since → AreForeign view.role since

-- a core in which all holds that holds in every run
pub record Stands (core : Core) : Type 0 where
  pub formed : IsFormed core
  pub laws : Invariants core
  pub guards : GuardsHold core
  pub own : OwnAreKnown core
  pub marks : MarksAreOwn core

abbrev pub core_of : Config → List Item → List View → Core
core_of c log views = record { config = c; log = log; views = views }

-- the rule of the table: its words are those of a log, and with its views this log stands
pub record IsRuled {S : Type 0} (c : Config) (s : State S View) : Type 0 where
  pub log : List Item
  pub words : s.words ≡ words c log
  pub stands : Stands (core_of c log s.views)
