-- How the view of a seat is cut when a pass is opened.
use Rattle.std.specs.Prelude.{◌-◌, suc}
use Rattle.core_state.specs.declared.view.Role.{Role}
use Rattle.core_state.specs.declared.view.Role.TheVariants.{Pass, Visitor, Spent}
use Rattle.core_state.specs.declared.view.View.{View}
use Rattle.core_state.specs.View.{blank_view}

-- the pass keeps its own number
abbrev pub own_role : Role → Role
own_role (Pass number further) = Pass number 0
own_role Visitor = Visitor
own_role Spent = Spent

-- and the new one gets the numbers after it
abbrev pub next_role : Role → Role
next_role (Pass number further) = Pass (suc number) (further - 1)
next_role Visitor = Visitor
next_role Spent = Spent

abbrev pub own_view : View → View
own_view view = blank_view view.config (own_role view.role)

abbrev pub next_view : View → View
next_view view = blank_view view.config (next_role view.role)
