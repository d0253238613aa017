-- The general form of a step: one operation on one word by one pass.
use Rattle.std.specs.Prelude.{◌≡◌, ℕ, ◌^◌, ◌<◌, List, ◌++◌, Option, None, option_map, option_to_list, slice_set}
use Rattle.scene_model.specs.declared.entry.Entry.{Entry}
use Rattle.word_map.specs.declared.name.Name.{Name}
use Rattle.word_map.specs.Names.{IsName}
use Rattle.core_state.specs.declared.item.Item.{Item}
use Rattle.core_state.specs.declared.view.View.{View}
use Rattle.core_state.specs.View.{IsPass}
use Rattle.core_state.specs.Core.{Core, word_of, IsViewAt}
use Rattle.core_state.specs.Operation.{Operation, result_of, stored_by}

-- what a kind of step does
pub record Kind : Type 0 where
  pub operation : Operation
  -- the entry that it makes, by the view, the name of the word and the value that it stores
  pub entry : View → Name → ℕ → Option Entry
  -- the view that it leaves, by the view before, which knows the log up to the step, the name, the word found and the
  -- two operands
  pub leaves : View → Name → ℕ → ℕ → ℕ → View

-- what a kind of step asks: a fact of the view, the name of the word and the two operands
abbrev pub Asking : Type 1
Asking = View → Name → ℕ → ℕ → Type 0

-- one step: the seat with its view and the number of its pass, the word, and the two operands
pub record Step : Type 0 where
  pub seat : ℕ
  pub view : View
  pub number : ℕ
  pub name : Name
  pub first : ℕ
  pub second : ℕ

-- the step may be made in this core
pub record IsAllowed (asks : Asking) (core : Core) (step : Step) : Type 0 where
  pub at : IsViewAt core step.seat step.view
  pub pass : IsPass step.view step.number
  pub named : IsName core.config step.name
  pub first_fits : step.first < 2 ^ 64
  pub second_fits : step.second < 2 ^ 64
  pub asked : asks step.view step.name step.first step.second

-- the word that it finds, and what it leaves there
abbrev pub found_by : Core → Step → ℕ
found_by core step = word_of core step.name

abbrev pub left_by : Kind → Core → Step → ℕ
left_by kind core step = result_of kind.operation (found_by core step) step.first step.second

-- the item of a step that stores a value
abbrev pub item_of : Kind → Step → ℕ → Item
item_of kind step value = record { pass = step.number; name = step.name; value = value; entry = kind.entry step.view step.name value }

-- what the log gains by it: an item where it stores a value, and else nothing
abbrev pub gained_by : Kind → Core → Step → List Item
gained_by kind core step =
    option_to_list (option_map (item_of kind step) (stored_by kind.operation (found_by core step) step.first step.second))

abbrev pub log_after : Kind → Core → Step → List Item
log_after kind core step = core.log ++ gained_by kind core step

-- the view of the pass, once it knows the log up to the step
abbrev pub learned : Core → Step → View
learned core step = record step.view { known = core.log }

-- the view that it leaves. No kind changes the sizes or whose view it is; what is known is then the whole log
abbrev pub view_after : Kind → Core → Step → View
view_after kind core step =
    record (kind.leaves (learned core step) step.name (found_by core step) step.first step.second) {
      config = step.view.config;
      role = step.view.role;
      known = log_after kind core step;
      joined = None;
    }

abbrev pub after_step : Kind → Core → Step → Core
after_step kind core step = record {
  config = core.config;
  log = log_after kind core step;
  views = slice_set core.views step.seat (view_after kind core step);
}

-- a step of a kind that asks this leads from the one core to the other
pub record Steps (asks : Asking) (kind : Kind) (before after : Core) : Type 0 where
  pub step : Step
  pub allowed : IsAllowed asks before step
  pub result : after ≡ after_step kind before step
