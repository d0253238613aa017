-- Steps that change no word but who has a seat: a pass is opened, a visitor leaves a pass, two meet.
use Rattle.std.specs.Prelude.{◌≡◌, ◌≢◌, ℕ, suc, nat_lt, if◌then◌else◌, List, [], ◌∷◌, ◌++◌, length, Some, slice_set}
use Rattle.word_map.specs.Layout.{largest}
use Rattle.core_state.specs.declared.item.Item.{Item}
use Rattle.core_state.specs.declared.view.Role.TheVariants.{Pass, Visitor, Spent}
use Rattle.core_state.specs.declared.view.View.{View}
use Rattle.core_state.specs.View.{IsPass, blank_view}
use Rattle.core_state.specs.Core.{Core, IsViewAt}

-- a seat's view is cut in two, and the second half gets the next seat
abbrev pub after_split : Core → ℕ → View → View → Core
after_split core seat left right = record core { views = slice_set core.views seat left ++ right ∷ [] }

-- Kind 1, open a pass: a pass that has made no step gives the numbers after its own to the next one
pub record Opens (before after : Core) : Type 0 where
  pub seat : ℕ
  pub number : ℕ
  pub further : ℕ
  pub at : IsViewAt before seat (blank_view before.config (Pass number (suc further)))
  pub result : after ≡ after_split before seat (blank_view before.config (Pass number 0)) (blank_view before.config (Pass (suc number) further))

-- what goes from a pass to another that meets it: a copy of what it knows, and nothing else
abbrev pub visitor_of : View → View
visitor_of view = record (blank_view view.config Visitor) { known = view.known }

-- Kind 2, split off a visitor: the pass stays as it is
pub record Visits (before after : Core) : Type 0 where
  pub seat : ℕ
  pub number : ℕ
  pub view : View
  pub at : IsViewAt before seat view
  pub pass : IsPass view number
  pub result : after ≡ after_split before seat view (visitor_of view)

-- of two logs that were known, the one that goes further
abbrev pub longer : List Item → List Item → List Item
longer a b = if nat_lt (length a) (length b) then b else a

-- a pass that a visitor has joined: it knows what the two knew, and keeps both until its next step
abbrev pub joined_view : View → View → View
joined_view view visitor = record view {
  known = longer view.known visitor.known;
  joined = Some (record { own = view.known; other = visitor.known });
}

-- what a visitor leaves behind; it is the same whatever the visitor was
abbrev pub spent_view : View
spent_view = blank_view largest Spent

-- Kind 3, join a visitor
pub record Joins (before after : Core) : Type 0 where
  pub seat : ℕ
  pub other : ℕ
  pub number : ℕ
  pub view : View
  pub visitor : View
  pub at : IsViewAt before seat view
  pub pass : IsPass view number
  pub apart : other ≢ seat
  pub other_at : IsViewAt before other visitor
  pub visits : visitor.role ≡ Visitor
  pub result : after ≡ record before { views = slice_set (slice_set before.views seat (joined_view view visitor)) other spent_view }
