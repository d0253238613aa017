-- How a slot is looked for and reserved, turn by turn.
use Rattle.std.specs.Prelude.{◌≡◌, ◌≢◌, ℕ, suc, ◌+◌, ◌-◌, ◌*◌, ◌<◌, Bool, true, false, List, length, slice_index_or, slice_set, Option, Some, None}
use Rattle.word_map.specs.declared.name.Name.TheVariants.{Slot}
use Rattle.core_state.specs.declared.view.View.{View}
use Rattle.core_state.specs.Log.{word}
use Rattle.pass_table.specs.declared.turn.Turn.{Turn}
use Rattle.pass_table.specs.Holding.{IsAtRest}
use Rattle.pass_table.specs.Knowing.{KnowsMore}
use Rattle.pass_table.specs.Calls.{AtPoint, IsTurn}
use Rattle.pass_table.proofs.Calling.{point-later}
use Rattle.batch_add.specs.declared.slot_search.SlotSearch.{SlotSearch}
use Rattle.pass_table.specs.Work.{begun, HasWorked}
use Rattle.batch_add.specs.Parts.{HasReserved, FoundNoSlot}
use Rattle.pass_table.proofs.WorkLater.{worked-more}

-- ---- what is found

-- the slot was found with this word, and so not empty
abbrev pub WasFound : ℕ → View → View → ℕ → ℕ → Type 0
WasFound layer start view slot found = (found ≢ 0) × AtPoint start view (λ log. word start.config log (Slot layer slot) ≡ found)

-- the slots below one were found with these words
abbrev pub WereFound : ℕ → View → View → List ℕ → ℕ → Type 0
WereFound layer start view words count = (slot past : ℕ) → slot < count → WasFound layer start view slot (slice_index_or words slot past)

-- ---- stages

-- It was begun so, by a pass at rest, and has added nothing yet; there is a word for each slot, and the slots below the one
-- that it looks at were found with words of their own
pub record IsSearching (first : SlotSearch) (start : View) (operation : SlotSearch) (view : View) : Type 0 where
  pub layer : operation.layer ≡ first.layer
  pub in_layers : first.layer < start.config.layers
  pub rest : IsAtRest start
  pub worked : HasWorked start view (begun start)
  pub all : length operation.words.items ≡ start.config.slots
  pub below : operation.slot < start.config.slots
  pub found : WereFound first.layer start view operation.words.items operation.slot

-- at its end
abbrev pub HasSearched : SlotSearch → View → SlotSearch → View → Option ℕ → Type 0
HasSearched first start last next (Some slot) = HasReserved first.layer start next slot
HasSearched first start last next None = FoundNoSlot first.layer start next last.words.items

-- ---- turns

-- the load and the exchange, or the exchange alone
abbrev pub slot_turns : Bool → ℕ
slot_turns false = 2
slot_turns true = 1

-- two turns for each slot after this one
abbrev pub search_left : SlotSearch → ℕ
search_left operation = 2 * (length operation.words.items - suc operation.slot) + slot_turns operation.is_empty

abbrev pub IsSearchTurn : Turn (Option ℕ) → SlotSearch → SlotSearch → View → View → Type 0
IsSearchTurn turn before after view next = IsTurn IsSearching (λ first start last answer. HasSearched first start after last answer) search_left (λ operation. None) (λ operation. None) turn before after view next

-- the word of the slot is noted, and the next one is looked at
pub record HasNoted (before : SlotSearch) (found : ℕ) (after : SlotSearch) : Type 0 where
  pub layer : after.layer ≡ before.layer
  pub slot : after.slot ≡ suc before.slot
  pub unread : after.is_empty ≡ false
  pub words : after.words.items ≡ slice_set before.words.items before.slot found

-- ---- a look or a meeting between two turns does no harm

pub found-later : (layer : ℕ) (start view next : View) (slot found : ℕ) → KnowsMore view next → WasFound layer start view slot found → WasFound layer start next slot found
found-later layer start view next slot found more was = (was.0, point-later start view next _ (more.since, more.known) was.1)

pub searching-later : (first : SlotSearch) (start : View) (operation : SlotSearch) (view next : View) → KnowsMore view next → IsSearching first start operation view → IsSearching first start operation next
searching-later first start operation view next more searching = record {
  layer = searching.layer;
  in_layers = searching.in_layers;
  rest = searching.rest;
  worked = worked-more start view next (begun start) searching.worked more;
  all = searching.all;
  below = searching.below;
  found = λ slot past below. found-later first.layer start view next slot _ more (searching.found slot past below);
}
