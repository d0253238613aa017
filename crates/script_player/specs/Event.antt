-- The story of a play, as data: what was answered, in the order of the report.
use Rattle.std.specs.Prelude.{ℕ, ◌+◌, ◌==◌, nat_lt, if◌then◌else◌, Bool, false, ◌||◌, List, [], ◌∷◌, ◌++◌, Option, Some}
use Rattle.std.specs.List.{filter, flat_map}
use Rattle.scene_model.specs.declared.entry.Entry.{Entry}
use Rattle.script_player.specs.Exchange.{Exchange}
use Rattle.script_player.specs.Span.{Span}
use Rattle.script_player.specs.Line.{Order, Plain}
use Rattle.script_player.specs.Answer.{Answer, Replied, is_last}

-- an answer: whose order it is about, and the pass that carries it out; the place of the script where the order was
-- given, and the one of this answer; the order, where there is one. The span goes from where the order began to this
-- answer. Of the answer that ends an order also the entries that were made: those of its pass, and those of each worker
-- of a step
pub record Event : Type 0 where
  pub caller : ℕ
  pub pass : ℕ
  pub given : ℕ
  pub answered : ℕ
  pub order : Option Order
  pub answer : Answer
  pub span : Span
  pub made : List Entry
  pub lanes : List (List Entry)

-- one was answered before the order of the other was given: by the same caller, in whose order the two stand, or at a
-- place above
abbrev pub is_above : Event → Event → Bool
is_above e item = e.caller == item.caller || nat_lt e.answered item.given

-- both are about the same order
abbrev pub is_of_order : Event → Event → Bool
is_of_order item e = if e.caller == item.caller then e.given == item.given else false

-- all that was said of an order so far
abbrev pub way_of : Event → List Event → List Event
way_of item earlier = filter (is_of_order item) earlier

-- those that a caller knew of when he gave the order
abbrev pub known_before : Event → List Event → List Event
known_before item earlier = filter (λ e. is_above e item) earlier

-- ---- commands that were answered

abbrev pub exchange_by : Option Order → Answer → List Entry → List Exchange
exchange_by (Some (Plain command)) (Replied reply) made = record { command = command; reply = reply; made = made } ∷ []
exchange_by order answer made = []

abbrev pub exchange_of : Event → List Exchange
exchange_of e = exchange_by e.order e.answer e.made

abbrev pub exchanges_told : List Event → List Exchange
exchanges_told told = flat_map exchange_of told

abbrev pub span_of : Event → List Span
span_of e = if is_last e.answer then e.span ∷ [] else []

abbrev pub spans_told : List Event → List Span
spans_told told = flat_map span_of told

-- ---- the entries of passes

-- those of the worker that has this pass, where the first worker has the other
abbrev pub lane_by : ℕ → ℕ → List (List Entry) → List Entry
lane_by pass first [] = []
lane_by pass first (made ∷ lanes) = if first == pass then made else lane_by pass (first + 1) lanes

abbrev pub made_in_event : ℕ → ℕ → Event → List Entry
made_in_event first pass e = (if e.pass == pass then e.made else []) ++ lane_by pass first e.lanes

-- those of all events, where the workers' passes begin with the first
abbrev pub made_by_events : ℕ → ℕ → List Event → List Entry
made_by_events first pass [] = []
made_by_events first pass (e ∷ later) = made_in_event first pass e ++ made_by_events first pass later
