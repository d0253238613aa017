-- The refusals that come from the script and the answers above alone: a name stands for no id, or a batch is there
-- or is not.
use Rattle.std.specs.Prelude.{◌==◌, filter, not, ◌≡◌, ℕ, nat_lt, if◌then◌else◌, Bool, ◌||◌, List, [], ◌∷◌, length, Option, Some, None, is_some}
use Rattle.script_text.specs.declared.command.Command.{Command}
use Rattle.script_text.specs.declared.command.Command.TheVariants as commands
use Rattle.reply_text.specs.declared.refusal.Refusal.{Refusal}
use Rattle.reply_text.specs.declared.refusal.Refusal.TheVariants as refusals
use Rattle.reply_text.specs.declared.reply.Reply.{Reply}
use Rattle.reply_text.specs.declared.reply.Reply.TheVariants as replies
use Rattle.script_player.specs.Exchange.{all_known_by}
use Rattle.script_player.specs.Prepared.{Prepared}
use Rattle.script_player.specs.Line.{Order, Plain, Plan}
use Rattle.script_player.specs.Answer.{Answer, Replied}
use Rattle.script_player.specs.Event.{Event, known_before, exchanges_told}
use Rattle.script_player.specs.Open.{has_name, is_preparing, batches_of, batches_left, preparing_of}

-- the bodies that a command names
abbrev pub names_in : Command → List (List ℕ)
names_in (commands.Destroy name) = name ∷ []
names_in (commands.Add names) = names
names_in (commands.Prepare batch layer names) = names
names_in (commands.Remove name) = name ∷ []
names_in (commands.Move name bounds) = name ∷ []
names_in (commands.User name user) = name ∷ []
names_in (commands.Read name) = name ∷ []
names_in (commands.Multi names) = names
names_in command = []

-- a caller is a worker of a block
abbrev pub is_worker : Plan → ℕ → Bool
is_worker plan caller = nat_lt (length plan.actors) caller

-- the batches that a caller may spend: in a section those of the worker's pass, and else all
abbrev pub batches_for : Plan → ℕ → List Event → List Prepared
batches_for plan caller known = if is_worker plan caller then batches_of caller known else batches_left known

-- a batch has the name, or an order of another caller that is not finished prepares one
abbrev pub is_name_taken : ℕ → List ℕ → List Event → Bool
is_name_taken caller name known =
    has_name name (batches_left known) || is_preparing name (filter (λ p. not (p.caller == caller)) (preparing_of known))

abbrev pub batch_refusal : Plan → ℕ → List Event → Command → Option Refusal
batch_refusal plan caller known (commands.Prepare batch layer names) = if is_name_taken caller batch known then Some refusals.Batch else None
batch_refusal plan caller known (commands.Finalize batch) = if has_name batch (batches_for plan caller known) then None else Some refusals.NoBatch
batch_refusal plan caller known (commands.Abort batch) = if has_name batch (batches_for plan caller known) then None else Some refusals.NoBatch
batch_refusal plan caller known command = None

-- names are looked at first
abbrev pub own_refusal : Plan → ℕ → List Event → Command → Option Refusal
own_refusal plan caller known command =
    if is_some (all_known_by (exchanges_told known) (names_in command)) then batch_refusal plan caller known command else Some refusals.NoId

-- the refusal of a reply, where it is one of these
abbrev pub own_of_refusal : Refusal → Option Refusal
own_of_refusal refusals.NoId = Some refusals.NoId
own_of_refusal refusals.Batch = Some refusals.Batch
own_of_refusal refusals.NoBatch = Some refusals.NoBatch
own_of_refusal refusal = None

abbrev pub own_of : Reply → Option Refusal
own_of (replies.Refused refusal) = own_of_refusal refusal
own_of reply = None

-- they come exactly where they are to, by what was known where the order was given
abbrev pub AreOwnRefusalsOf : Plan → ℕ → List Event → Option Order → Answer → Type 0
AreOwnRefusalsOf plan caller known (Some (Plain command)) (Replied reply) = own_of reply ≡ own_refusal plan caller known command
AreOwnRefusalsOf plan caller known order answer = Unit {0}

abbrev pub AreOwnRefusals : Plan → List Event → Event → Type 0
AreOwnRefusals plan earlier item = AreOwnRefusalsOf plan item.caller (known_before item earlier) item.order item.answer
