-- A run that passes through every kind of step, with another pass half way in a walk at each step of an update.
use Rattle.std.specs.Prelude.{◌≡◌, ◌≢◌, ◌⊎◌, ℕ, suc, true, List, Contains}
use Rattle.word_map.specs.declared.name.Name.TheVariants.{Child, Main}
use Rattle.core_state.specs.declared.view.View.{View}
use Rattle.core_state.specs.Core.{Core, word_of, IsViewAt}
use Rattle.core_state.specs.WalkRecord.{IsLoaded}
use Rattle.core_state.specs.Event.{Event, Run, of_updates, begins, goes_on}
use Rattle.core_run.specs.Labels.{Label, label_of, seat_of_update}

-- a fact of an event and the cores before and after it
abbrev pub Fact : Type 1
Fact = (before after : Core) → Event before after → Type 0

-- it holds of some event of the run
abbrev pub Occurs : Fact → {first last : Core} → Run first last → Type 0
Occurs P begins = ⊥
Occurs P (goes_on {last} {next} run event) = P last next event ⊎ Occurs P run

-- the event has the label
abbrev pub HasLabel : Label → Fact
HasLabel l before after event = label_of event ≡ l

-- ---- walks

-- the pass walks, has loaded the main word of a layer, which named this root, and has loaded a child of the root
pub record IsHalfWay (view : View) (layer root : ℕ) : Type 0 where
  pub walks : view.walk.is_on ≡ true
  pub main : IsLoaded view.walk.loads (Main layer) (suc root)
  pub child : ℕ
  pub found : ℕ
  pub read : IsLoaded view.walk.loads (Child root child) found

-- the step is one of an update, and a pass at another seat makes it
abbrev pub IsMadeElsewhere : {before after : Core} → Event before after → ℕ → Type 0
IsMadeElsewhere (of_updates e) seat = seat_of_update e ≢ seat
IsMadeElsewhere event seat = ⊥

-- while another pass makes the step, one is half way in a tree whose main word and root are so
pub record HasWalker (P : ℕ → ℕ → Type 0) (before after : Core) (event : Event before after) : Type 0 where
  pub seat : ℕ
  pub view : View
  pub layer : ℕ
  pub root : ℕ
  pub at : IsViewAt before seat view
  pub elsewhere : IsMadeElsewhere event seat
  pub half_way : IsHalfWay view layer root
  pub named : P (word_of before (Main layer)) root

-- the main word names the root still, or it does so no more: the tree was taken out of sight
abbrev pub IsNamed : ℕ → ℕ → Type 0
IsNamed word root = word ≡ suc root

abbrev pub IsOutOfSight : ℕ → ℕ → Type 0
IsOutOfSight word root = word ≢ suc root

-- a step of an update with the label, while another pass is half way
abbrev pub IsBeside : (ℕ → ℕ → Type 0) → Label → Fact
IsBeside P l before after event = (label_of event ≡ l) × HasWalker P before after event

-- ---- the whole

-- for each of these labels such an event with it occurs
abbrev pub PassesThrough : List Label → (Label → Fact) → {first last : Core} → Run first last → Type 0
PassesThrough labels Is run = (l : Label) → Contains labels l → Occurs (Is l) run
