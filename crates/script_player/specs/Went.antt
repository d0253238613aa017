-- How an order goes on that was not finished.
use Rattle.std.specs.Prelude.{◌≡◌, ℕ, ⊤, nat_le, ◌==◌, Bool, true, false, ◌||◌, ◌&&◌, not, List, Option, Some, None}
use Rattle.std.specs.List.{list_any, range_with_len}
use Rattle.std.specs.Int.{bit_at}
use Rattle.script_text.specs.declared.command.Command.{Command}
use Rattle.script_text.specs.declared.command.Command.TheVariants as commands
use Rattle.reply_text.specs.declared.reply.Reply.TheVariants as replies
use Rattle.script_player.specs.Line.{Order, Plain, Label, label_number, is_same_label, has_label}
use Rattle.script_player.specs.Line as labels
use Rattle.script_player.specs.Answer.{Answer, Replied, Pending, Stepped, At, Blocked, is_last}
use Rattle.script_player.specs.Event.{Event, way_of}

-- ---- tables

-- the mask of a query
abbrev pub mask_of : Command → Option ℕ
mask_of (commands.QueryBox mask bounds) = Some mask
mask_of (commands.QueryPoint mask at) = Some mask
mask_of (commands.QueryRay mask segment) = Some mask
mask_of command = None

abbrev pub mask_of_order : Option Order → Option ℕ
mask_of_order (Some (Plain command)) = mask_of command
mask_of_order order = None

abbrev pub is_query : Option Order → Bool
is_query order = elim (mask_of_order order) [ None ↦ false | Some mask ↦ true ]

-- a layer of the mask is one of so many
abbrev pub asks_layer : ℕ → ℕ → Bool
asks_layer layers mask = list_any (λ layer. bit_at mask layer == 1) (range_with_len 0 layers)

abbrev pub asks_no_layer : ℕ → Option ℕ → Bool
asks_no_layer layers None = false
asks_no_layer layers (Some mask) = not (asks_layer layers mask)

-- an answer that is no refusal
abbrev pub is_carried_out : Answer → Bool
is_carried_out (Replied (replies.Refused refusal)) = false
is_carried_out (Replied reply) = true
is_carried_out (Pending pass count) = true
is_carried_out (Stepped moved kept) = true
is_carried_out answer = false

-- ---- what was said before

abbrev pub is_at : (Label → Bool) → Answer → Bool
is_at test (At label) = test label
is_at test answer = false

abbrev pub is_block : Answer → Bool
is_block (Blocked lock) = true
is_block answer = false

-- one turn may reach these two labels
abbrev pub is_at_once : Label → Label → Bool
is_at_once labels.Widened labels.Leaf = true
is_at_once labels.Built labels.Planned = true
is_at_once labels.Cleared labels.Swapped = true
is_at_once labels.Promoted labels.Swapped = true
is_at_once labels.Promoted labels.Cleared = true
is_at_once label before = false

abbrev pub is_later : Label → Label → Bool
is_later label reached = nat_le (label_number label) (label_number reached)

-- an order of this kind may be ended by a `go` up to a label of its own where this was said of it before: it was blocked,
-- or has reached that or a later label, or one that is reached with it in one turn. A query that asks no layer reaches
-- all its labels at once
abbrev pub lets_end : ℕ → Option Order → Label → Answer → Bool
lets_end layers order label said =
    is_block said || is_at (is_later label) said || is_at (is_at_once label) said
    || (asks_no_layer layers (mask_of_order order) && is_at (λ l. true) said)

-- ---- a `go`

-- it stops at a label of its order, not twice at one
pub record StopsAt (asked : Option Label) (label : Label) (order : Order) (way : List Event) : Type 0 where
  pub label_is : asked ≡ Some label
  pub own : has_label order label ≡ true
  pub once : list_any (λ e. is_at (is_same_label label) e.answer) way ≡ false

abbrev pub EndsAt : ℕ → Option Label → Order → Answer → List Event → Type 0
EndsAt layers None order answer way = ⊤
EndsAt layers (Some label) order answer way =
    has_label order label ≡ true → is_carried_out answer ≡ true → list_any (λ e. lets_end layers (Some order) label e.answer) way ≡ true

abbrev pub GoesOnAs : ℕ → Option Label → Option Order → Answer → List Event → Type 0
GoesOnAs layers asked None answer way = ⊥
GoesOnAs layers asked (Some order) (At label) way = StopsAt asked label order way
GoesOnAs layers asked (Some order) (Blocked lock) way = ⊤
GoesOnAs layers asked (Some order) answer way = (is_last answer ≡ true) × EndsAt layers asked order answer way

-- it stops at its label, is blocked, or ends
abbrev pub GoesOn : ℕ → Option Label → List Event → Event → Type 0
GoesOn layers asked earlier e = GoesOnAs layers asked e.order e.answer (way_of e earlier)
