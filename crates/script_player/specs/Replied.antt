-- When the last answer to an order is right for its span, and the entries are those that it asks for.
use Rattle.std.specs.Prelude.{◌≡◌, ℕ, ◌+◌, ◌<◌, ◌≤◌, ◌==◌, ⊤, if◌then◌else◌, Bool, true, false, List, [], ◌∷◌, length, take, fold, Option, Some, None, slice_get, bytes_eq}
use Rattle.std.specs.List.{find, list_any, flat_map}
use Rattle.body_ident.specs.Id.{Id}
use Rattle.scene_model.specs.declared.entry.Entry.{Entry}
use Rattle.scene_model.specs.declared.entry.Entry.TheVariants as entries
use Rattle.scene_model.specs.declared.entry.Made.{Made}
use Rattle.scene_model.specs.Scene.{Scene}
use Rattle.scene_model.specs.History.{Interval, AtSomePoint, creates, creations_in, point}
use Rattle.script_text.specs.declared.command.Command.{Command}
use Rattle.script_text.specs.declared.command.Command.TheVariants as commands
use Rattle.reply_text.specs.declared.multi.MultiItem.{MultiItem}
use Rattle.reply_text.specs.declared.refusal.Refusal.TheVariants as refusals
use Rattle.reply_text.specs.declared.reply.Reply.{Reply}
use Rattle.reply_text.specs.declared.reply.Reply.TheVariants as replies
use Rattle.script_player.specs.Taking.{unmarks}
use Rattle.script_player.specs.Exchange.{known_by, id_of_name, ids_of_names}
use Rattle.script_player.specs.Prepared.{Prepared, Kept}
use Rattle.script_player.specs.Refused.{TellsItem, AnswersMulti}
use Rattle.script_player.specs.Right.{IsSpent, IsRightFor}
use Rattle.script_player.specs.Line.{Order, Plain, Update, Retire, Velocity, Step, Plan}
use Rattle.script_player.specs.Answer.{Answer, Replied, Busy, NoToken, Pending, Stepped, is_last, is_done}
use Rattle.script_player.specs.Shifted.{Speed, with_speed, Shift, shifts_of, step_moves, moved_count, kept_count}
use Rattle.script_player.specs.Event.{Event, known_before, exchanges_told}
use Rattle.script_player.specs.Open.{has_name, tokens_of}
use Rattle.script_player.specs.Held.{held_seen}
use Rattle.script_player.specs.Refusals.{batches_for, is_worker, is_name_taken}

-- ---- what several bodies are told to be

-- the create of a name
abbrev pub is_create_of : List ℕ → Option Order → Answer → Bool
is_create_of name (Some (Plain (commands.Create own layer bounds user))) (Replied reply) = bytes_eq name own
is_create_of name order answer = false

-- fewer than 256 bodies were created at the index of a name since its own, up to here
pub record IsFew (history : List Made) (to : ℕ) (known : List Event) (name : List ℕ) (i : Id) : Type 0 where
  pub event : Event
  pub created : find (λ e. is_create_of name e.order e.answer) known ≡ Some event
  pub place : ℕ
  pub first : event.span.from ≤ place
  pub last : place < event.span.to
  pub made : Made
  pub stands : slice_get history place ≡ Some made
  pub own : (made.pass ≡ event.pass) × (creates i.index made.entry ≡ true)
  pub few : creations_in i.index (take to history) < creations_in i.index (take (place + 1) history) + 256

abbrev pub AreFew : List Made → ℕ → List Event → List (List ℕ) → Type 0
AreFew history to known [] = ⊤
AreFew history to known (name ∷ names) =
    ((i : Id) × (id_of_name (exchanges_told known) name ≡ Some i) × IsFew history to known name i) × AreFew history to known names

-- each is told as it was at a point of the span
abbrev pub AreToldEach : ℕ → Interval → List Id → List MultiItem → Type 0
AreToldEach bodies interval [] [] = ⊤
AreToldEach bodies interval (i ∷ ids) (item ∷ list) = AtSomePoint bodies interval (λ scene. TellsItem scene i item) × AreToldEach bodies interval ids list
AreToldEach bodies interval ids list = ⊥

abbrev pub IsToldEach : ℕ → Interval → List Id → Reply → Type 0
IsToldEach bodies interval ids (replies.Multi list) = AreToldEach bodies interval ids list
IsToldEach bodies interval ids reply = ⊥

abbrev pub IsMultiOf : ℕ → Interval → Option (List Id) → Reply → Type 0
IsMultiOf bodies interval None reply = reply ≡ replies.Refused refusals.NoId
IsMultiOf bodies interval (Some ids) reply = IsToldEach bodies interval ids reply

-- and where few bodies were created since the named ones, all are told as they were at one point
pub record IsMulti (bodies : ℕ) (interval : Interval) (known : List Event) (names : List (List ℕ)) (reply : Reply) (made : List Entry) : Type 0 where
  pub each : IsMultiOf bodies interval (ids_of_names (exchanges_told known) names) reply
  pub at_once : AreFew interval.history interval.to known names
      → AtSomePoint bodies interval (λ scene. AnswersMulti scene (ids_of_names (exchanges_told known) names) reply)
  pub none : made ≡ []

-- ---- commands

-- a batch that the caller may spend
abbrev pub IsSpentBy : Plan → ℕ → List Event → List ℕ → (Prepared → List Entry) → Reply → List Entry → Type 0
IsSpentBy plan caller known batch asked reply made =
    let batches = batches_for plan caller known in
    IsSpent (has_name batch batches) (find (λ p. bytes_eq p.name batch) batches) asked reply made

-- what an order sees of batches, with whether a batch of the name is there
abbrev pub kept_for : Plan → List Event → Event → List Event → List ℕ → ℕ → Kept
kept_for plan earlier item later name layer =
    record (held_seen plan earlier item later name layer) { named = is_name_taken item.caller name (known_before item earlier) }

abbrev pub IsRightCommand : Plan → (List ℕ → ℕ → Kept) → ℕ → ℕ → Interval → List Event → Command → Reply → List Entry → Type 0
IsRightCommand plan kept caller pass interval known (commands.Multi names) reply made = IsMulti plan.world.bodies interval known names reply made
IsRightCommand plan kept caller pass interval known (commands.Finalize batch) reply made =
    IsSpentBy plan caller known batch (λ p. entries.Join p.layer p.indexes ∷ []) reply made
IsRightCommand plan kept caller pass interval known (commands.Abort batch) reply made =
    IsSpentBy plan caller known batch (λ p. unmarks p.indexes) reply made
IsRightCommand plan kept caller pass interval known command reply made =
    IsRightFor plan.world kept pass interval (exchanges_told known) command reply made

-- ---- steps

-- the velocities that were set
abbrev pub speeds_by : List Speed → Option Order → Answer → List Speed
speeds_by speeds (Some (Velocity name v)) answer = if is_done answer then with_speed speeds name v else speeds
speeds_by speeds order answer = speeds

abbrev pub speeds_told : List Event → List Speed
speeds_told told = fold (λ speeds e. speeds_by speeds e.order e.answer) [] told

-- a step does what it would do alone in the scene where it begins: by main's pass, or each worker moves a part of the list, one
-- part behind another
abbrev pub IsMovedBy : Bool → ℕ → List Entry → List Entry → List (List Entry) → Type 0
IsMovedBy true workers moves made lanes = (made ≡ moves) × (lanes ≡ [])
IsMovedBy false workers moves made lanes = (made ≡ []) × (length lanes ≡ workers) × (flat_map (λ lane. lane) lanes ≡ moves)

pub record IsRightStep (workers moved kept : ℕ) (start : Scene) (shifts : List Shift) (made : List Entry) (lanes : List (List Entry)) : Type 0 where
  pub moved_is : moved ≡ moved_count start shifts
  pub kept_is : kept ≡ kept_count start shifts
  pub moves : IsMovedBy (workers == 1) workers (step_moves start shifts) made lanes

-- ---- every order

-- main and the actors share one token, and in a section the worker knows his own
abbrev pub knows_token : Plan → ℕ → List Event → Bool
knows_token plan caller known =
    if is_worker plan caller then list_any (λ p. p == caller) (tokens_of known) else list_any (λ p. true) (tokens_of known)

abbrev pub MakesNone : List Entry → List (List Entry) → Type 0
MakesNone made lanes = (made ≡ []) × (lanes ≡ [])

-- the causes of `busy` and `pending` stand with those of the other waits
abbrev pub IsRightUpdate : Answer → Type 0
IsRightUpdate (Replied replies.Done) = ⊤
IsRightUpdate Busy = ⊤
IsRightUpdate (Pending pass count) = ⊤
IsRightUpdate answer = ⊥

abbrev pub IsRightRetire : Bool → Answer → Type 0
IsRightRetire true (Replied replies.Done) = ⊤
IsRightRetire true (Pending pass count) = ⊤
IsRightRetire false NoToken = ⊤
IsRightRetire known answer = ⊥

abbrev pub IsRightOrder : Plan → (List ℕ → ℕ → Kept) → Interval → List Event → Event → Option Order → Answer → Type 0
IsRightOrder plan kept interval known item (Some (Plain command)) (Replied reply) =
    IsRightCommand plan kept item.caller item.pass interval known command reply item.made × (item.lanes ≡ [])
IsRightOrder plan kept interval known item (Some Update) answer = IsRightUpdate answer × MakesNone item.made item.lanes
IsRightOrder plan kept interval known item (Some Retire) answer = IsRightRetire (knows_token plan item.caller known) answer × MakesNone item.made item.lanes
IsRightOrder plan kept interval known item (Some (Velocity name v)) (Replied replies.Done) = MakesNone item.made item.lanes
IsRightOrder plan kept interval known item (Some (Step workers)) (Stepped moved kept_still) =
    IsRightStep workers moved kept_still (point plan.world.bodies interval.history interval.from)
    (shifts_of (known_by (exchanges_told known)) (speeds_told known)) item.made item.lanes
IsRightOrder plan kept interval known item order answer = ⊥

-- the part of the history up to its end
abbrev pub interval_of : List Made → Event → Interval
interval_of history item = record { history = take item.span.to history; from = item.span.from; to = item.span.to }

-- the last answer to an order is right
abbrev pub IsRightAnswer : Plan → List Made → List Event → Event → List Event → Type 0
IsRightAnswer plan history earlier item later =
    is_last item.answer ≡ true
    → IsRightOrder plan (kept_for plan earlier item later) (interval_of history item) (known_before item earlier) item item.order item.answer
