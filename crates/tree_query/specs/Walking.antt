-- What a walk of a query leaves of its pass, and where it is.
use Rattle.std.specs.Prelude.{◌≡◌, ℕ, ◌+◌, ◌%◌, ◌^◌, ◌≤◌, true, false, List, [], ◌∷◌, ◌++◌, length, Some}
use Rattle.word_map.specs.declared.name.Name.{Name}
use Rattle.word_map.specs.declared.name.Name.TheVariants.{Reader}
use Rattle.core_state.specs.declared.item.Store.{Store}
use Rattle.core_state.specs.declared.view.View.{View}
use Rattle.core_state.specs.Log.{history}
use Rattle.core_state.specs.Quietly.{KnowsQuietly}
use Rattle.core_state.specs.Walking.{Query, Position, start as first_place, next_word, advance, Follows, position_of}
use Rattle.pass_table.specs.Bodies.{IsCurrent}
use Rattle.pass_table.specs.Calls.{Adds}
use Rattle.pass_table.specs.Work.{Tells}

-- since then the pass made no entry and just these stores that are told; nothing that it has for itself was stored by others,
-- and all else that it has is as it was, but for its walk
pub record HasWalked (start view : View) (stores : List Store) : Type 0 where
  pub adds : Adds start view []
  pub tells : Tells start view stores
  pub quiet : KnowsQuietly start view
  pub left : view ≡ record start { known = view.known; joined = view.joined; walk = view.walk }

-- it walks, since then or later, what it has read is what the query reads in its order, and it has come to this place
pub record IsWalkingAt (query : Query) (start view : View) (at : Position) : Type 0 where
  pub on : view.walk.is_on ≡ true
  pub from : length (history start.known) ≤ view.walk.from
  pub follows : Follows start.config query view.walk.loads
  pub place : position_of start.config query view.walk.loads ≡ at

-- ---- one step

-- the pass, which walks, loaded this word: each query for which it was the next one has come one load further
pub record WalksOn (view next : View) (name : Name) (found : ℕ) : Type 0 where
  pub now : IsCurrent next
  pub on : next.walk.is_on ≡ view.walk.is_on
  pub loads : next.walk.loads ≡ view.walk.loads ++ record { name = name; value = found } ∷ []
  pub walked : (start : View) (told : List Store) → HasWalked start view told → HasWalked start next told
  pub walking : (query : Query) (start : View) (at : Position) → view.config ≡ start.config → IsWalkingAt query start view at → next_word at.rest at.spot ≡ Some name
      → IsWalkingAt query start next (advance query at (record { name = name; value = found }))

-- what is stored in the reader word that had this value
abbrev pub reader_store : ℕ → ℕ → Store
reader_store number found = record { name = Reader number; value = (found + 1) % 2 ^ 64 }

-- the pass began to walk: it has read nothing, and each query is at its first word
pub record BeginsWalk (view next : View) (number found : ℕ) : Type 0 where
  pub now : IsCurrent next
  pub loads : next.walk.loads ≡ []
  pub walked : (start : View) (told : List Store) → HasWalked start view told → HasWalked start next (told ++ reader_store number found ∷ [])
  pub walking : (start : View) (told : List Store) → HasWalked start view told → (query : Query) → IsWalkingAt query start next (first_place start.config query)

-- it ended its walk, and what it has read stays. Its reader word was odd, as it is while it walks, and is even again
pub record EndsWalk (view next : View) (number found : ℕ) : Type 0 where
  pub now : IsCurrent next
  pub odd : found % 2 ≡ 1
  pub walked : (start : View) (told : List Store) → HasWalked start view told → HasWalked start next (told ++ reader_store number found ∷ [])
  pub walk : next.walk ≡ record view.walk { is_on = false }
