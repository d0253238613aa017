-- In what order spans follow one another, and where the entries of orders stand.
use Rattle.std.specs.Prelude.{◌≡◌, ◌≢◌, ℕ, ◌+◌, ◌<◌, ◌≤◌, ⊤, true, List, [], ◌∷◌, ◌++◌, length, take}
use Rattle.scene_model.specs.declared.entry.Entry.{Entry}
use Rattle.scene_model.specs.declared.entry.Made.{Made}
use Rattle.script_player.specs.Span.{Span, entries_by}
use Rattle.script_player.specs.Answer.{is_last, is_under_way}
use Rattle.script_player.specs.Event.{Event, is_above, is_of_order, made_by_events}

-- two answers, the first above the second.
--
-- An order that had its last answer before the other was given ended no later than that one begins: one caller's orders
-- follow one another, and main had seen the ends of all that was answered above. What main had seen where it gave an
-- order to an actor, or began a block, was seen by those too: also the beginnings of the orders that had begun. And
-- what is said of one order tells of a span that goes on from the same beginning
pub record IsAfter (item e : Event) : Type 0 where
  pub ended : is_last e.answer ≡ true → is_above e item ≡ true → e.span.to ≤ item.span.from
  pub seen : item.caller ≢ 0 → is_under_way e.answer ≡ true → e.answered < item.given → e.span.from ≤ item.span.from
  pub goes_on : is_of_order item e ≡ true → is_under_way e.answer ≡ true → (e.span.from ≡ item.span.from) × (e.span.to ≤ item.span.to)

-- a span of the history
pub record IsSpan (history : List Made) (span : Span) : Type 0 where
  pub ordered : span.from ≤ span.to
  pub within : span.to ≤ length history

-- the entries of a pass up to the span are those of the orders above, and within the span there are these
pub record HasMade (history : List Made) (first : ℕ) (earlier : List Event) (span : Span) (pass : ℕ) (made : List Entry) : Type 0 where
  pub before : entries_by pass (take span.from history) ≡ made_by_events first pass earlier
  pub own : entries_by pass (take span.to history) ≡ made_by_events first pass earlier ++ made

-- so it is of each worker of a step; the first one has this pass
abbrev pub HaveMade : List Made → ℕ → List Event → Span → ℕ → List (List Entry) → Type 0
HaveMade history first earlier span pass [] = ⊤
HaveMade history first earlier span pass (made ∷ lanes) =
    HasMade history first earlier span pass made × HaveMade history first earlier span (pass + 1) lanes

-- the entries that an order made stand in its span, and before its last answer no other are told
pub record HasEntriesOf (history : List Made) (first : ℕ) (earlier : List Event) (item : Event) : Type 0 where
  pub own : is_last item.answer ≡ true → HasMade history first earlier item.span item.pass item.made
  pub lanes : HaveMade history first earlier item.span first item.lanes
  pub none : is_last item.answer ≢ true → (item.made ≡ []) × (item.lanes ≡ [])
