-- What the form of events alone keeps true.
use Rattle.std.specs.Prelude.{◌≡◌, ◌≢◌, ◌⊎◌, ℕ, ◌+◌, ◌^◌, ◌<◌, List, All, IfSome, ⊤}
use Rattle.scene_model.specs.declared.entry.Entry.{Entry}
use Rattle.scene_model.specs.declared.entry.Entry.TheVariants.{Create, Destroy, Mark, Unmark, Join, Remove, Move, SetUser}
use Rattle.word_map.specs.declared.config.Config.{Config}
use Rattle.word_map.specs.Limits.{IsConfig}
use Rattle.word_map.specs.declared.name.Name.{Name}
use Rattle.word_map.specs.declared.name.Name.TheVariants.{State, Phase, User, BoxWord, Slot}
use Rattle.word_map.specs.Names.{IsName}
use Rattle.core_state.specs.declared.item.Item.{Item}
use Rattle.core_state.specs.declared.view.Role.{Role}
use Rattle.core_state.specs.declared.view.Role.TheVariants.{Pass, Visitor, Spent}
use Rattle.core_state.specs.declared.view.View.{View}
use Rattle.core_state.specs.Log.{IsPrefix}
use Rattle.core_state.specs.Core.{Core, IsViewAt}

-- an entry is made by a step on a word of the body of which it speaks, or on a slot of its layer
abbrev pub IsMadeOn : Entry → Name → Type 0
IsMadeOn (Create index layer bounds user) name = name ≡ State index
IsMadeOn (Destroy index) name = name ≡ State index
IsMadeOn (Mark index) name = name ≡ Phase index
IsMadeOn (Unmark index) name = name ≡ Phase index
IsMadeOn (Join layer indexes) name = (slot : ℕ) × (name ≡ Slot layer slot)
IsMadeOn (Remove index) name = name ≡ Phase index
IsMadeOn (Move index bounds) name = (k : ℕ) × (name ≡ BoxWord index k)
IsMadeOn (SetUser index user) name = name ≡ User index

-- a step stored a value that fits a word, in a word of the world, by one of its passes
pub record IsSoundItem (c : Config) (item : Item) : Type 0 where
  pub pass : item.pass < c.passes
  pub named : IsName c item.name
  pub fits : item.value < 2 ^ 64
  pub said : IfSome item.entry (λ entry. IsMadeOn entry item.name)

-- the numbers of a pass are those of the world
abbrev pub HasNumbers : ℕ → Role → Type 0
HasNumbers passes (Pass number further) = number + further < passes
HasNumbers passes Visitor = ⊤
HasNumbers passes Spent = ⊤

-- no two passes have a number in common, whether for themselves or to give
abbrev pub AreApart : Role → Role → Type 0
AreApart (Pass number further) (Pass other rest) = (number + further < other) ⊎ (other + rest < number)
AreApart _ _ = ⊤

-- a view that is not spent is of this world, and what it knows is a first part of the log
pub record IsSoundView (c : Config) (log : List Item) (view : View) : Type 0 where
  pub config : view.config ≡ c
  pub numbers : HasNumbers c.passes view.role
  pub known : IsPrefix view.known log
  pub joined : IfSome view.joined (λ j. IsPrefix j.own view.known × IsPrefix j.other view.known)

-- the log and the views are sound, and the passes apart
pub record IsFormed (core : Core) : Type 0 where
  pub sizes : IsConfig core.config
  pub items : All (IsSoundItem core.config) core.log
  pub views : (seat : ℕ) (view : View) → IsViewAt core seat view → view.role ≢ Spent → IsSoundView core.config core.log view
  pub apart : (seat other : ℕ) (view second : View) → IsViewAt core seat view → IsViewAt core other second → seat ≢ other → AreApart view.role second.role
