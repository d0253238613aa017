-- Orders that are not finished, batches and tokens: what the events so far tell of them.
use Rattle.std.specs.Prelude.{ℕ, ◌+◌, ◌==◌, if◌then◌else◌, Bool, false, ◌||◌, ◌&&◌, not, List, [], ◌∷◌, ◌++◌, length, Option, Some, None, is_some, option_map, bytes_eq}
use Rattle.std.specs.List.{filter, list_any, find, range_with_len}
use Rattle.std.specs.Option.{option_map_or, unwrap_or}
use Rattle.script_text.specs.declared.command.Command.TheVariants as commands
use Rattle.script_player.specs.Exchange.{Exchange, all_known_by}
use Rattle.script_player.specs.Prepared.{Prepared, prepared_from}
use Rattle.script_player.specs.Line.{Order, Plain, Update, Retire, Step, Plan}
use Rattle.script_player.specs.Answer.{Answer, Pending, Stepped, is_last, is_under_way, is_done}
use Rattle.script_player.specs.Event.{Event, exchange_of, exchanges_told}

-- ---- unfinished orders

-- an answer that ends the order which is not finished
abbrev pub ends_open : Event → Option Event → Option Event
ends_open e None = None
ends_open e (Some task) = if e.given == task.given then None else Some task

abbrev pub open_by : Event → Option Event → Option Event
open_by e before = if is_under_way e.answer then Some e else (if is_last e.answer then ends_open e before else before)

abbrev pub open_from : ℕ → Option Event → List Event → Option Event
open_from caller before [] = before
open_from caller before (e ∷ later) = open_from caller (if e.caller == caller then open_by e before else before) later

-- what was said last of the order that a caller has not finished
abbrev pub open_of : ℕ → List Event → Option Event
open_of caller told = open_from caller None told

-- main and the actors; no worker has an unfinished order between two lines
abbrev pub callers : Plan → List ℕ
callers plan = range_with_len 0 (1 + length plan.actors)

abbrev pub is_any_open : Plan → List Event → Bool
is_any_open plan told = list_any (λ caller. is_some (open_of caller told)) (callers plan)

-- a pass carries out an order that main has not finished
abbrev pub is_busy_for_main : ℕ → List Event → Bool
is_busy_for_main pass told = option_map_or (λ e. e.pass == pass) (open_of 0 told) false

-- ---- batches

-- the batches that a pass made and that are left; each is made and spent by the one pass
abbrev pub batches_of : ℕ → List Event → List Prepared
batches_of pass told = prepared_from [] (exchanges_told (filter (λ e. e.pass == pass) told))

abbrev pub batches_left : List Event → List Prepared
batches_left told = prepared_from [] (exchanges_told told)

abbrev pub has_name : List ℕ → List Prepared → Bool
has_name name batches = list_any (λ p. bytes_eq p.name name) batches

-- the pass that made the batch of a name
abbrev pub maker_of : List ℕ → List Event → Option ℕ
maker_of name told = option_map (λ e. e.pass) (find (λ e. has_name name (batches_of e.pass told)) told)

-- an order that is to prepare a batch of this name, and is not finished
pub record Preparing : Type 0 where
  pub caller : ℕ
  pub given : ℕ
  pub name : List ℕ

abbrev pub is_preparing : List ℕ → List Preparing → Bool
is_preparing name list = list_any (λ p. bytes_eq p.name name) list

-- where a name stands for no id, or the batch is there, it prepares nothing
abbrev pub begins_batch : List Exchange → List Preparing → Option Order → List (List ℕ)
begins_batch above list (Some (Plain (commands.Prepare batch layer names))) =
    if is_some (all_known_by above names) && not (has_name batch (prepared_from [] above) || is_preparing batch list) then batch ∷ [] else []
begins_batch above list order = []

abbrev pub preparing_as : Event → List (List ℕ) → List Preparing → List Preparing
preparing_as e [] list = list
preparing_as e (name ∷ names) list = list ++ record { caller = e.caller; given = e.given; name = name } ∷ []

abbrev pub is_own_order : Event → Preparing → Bool
is_own_order e p = (p.caller == e.caller) && (p.given == e.given)

-- it begins with its first answer, and ends with its last
abbrev pub preparing_by : List Exchange → List Preparing → Event → List Preparing
preparing_by above list e =
    if is_last e.answer then filter (λ p. not (is_own_order e p)) list
    else (if is_under_way e.answer && (e.given == e.answered) then preparing_as e (begins_batch above list e.order) list else list)

abbrev pub preparing_from : List Exchange → List Preparing → List Event → List Preparing
preparing_from above list [] = list
preparing_from above list (e ∷ later) = preparing_from (above ++ exchange_of e) (preparing_by above list e) later

abbrev pub preparing_of : List Event → List Preparing
preparing_of told = preparing_from [] [] told

-- ---- tokens of updates that could not be retired

abbrev pub without_pass : ℕ → List ℕ → List ℕ
without_pass pass passes = filter (λ p. not (p == pass)) passes

abbrev pub tokens_by : List ℕ → ℕ → Option Order → Answer → List ℕ
tokens_by passes pass (Some Update) (Pending reader count) = passes ++ pass ∷ []
tokens_by passes pass (Some Retire) answer = if is_done answer then without_pass pass passes else passes
tokens_by passes pass (Some (Step workers)) (Stepped moved kept) = []
tokens_by passes pass order answer = passes

abbrev pub tokens_from : List ℕ → List Event → List ℕ
tokens_from passes [] = passes
tokens_from passes (e ∷ later) = tokens_from (tokens_by passes e.pass e.order e.answer) later

-- the passes that have one
abbrev pub tokens_of : List Event → List ℕ
tokens_of told = tokens_from [] told

abbrev pub first_token : List ℕ → Option ℕ
first_token [] = None
first_token (pass ∷ passes) = Some pass

-- ---- who carries an order out

-- a token is spent by the pass that made it, and all else is done by the caller's own pass. In a section only the own tokens
-- are known
abbrev pub carrier_of : List Event → ℕ → Order → ℕ
carrier_of told caller (Plain (commands.Finalize batch)) = unwrap_or (maker_of batch told) caller
carrier_of told caller (Plain (commands.Abort batch)) = unwrap_or (maker_of batch told) caller
carrier_of told caller Retire = unwrap_or (first_token (tokens_of told)) caller
carrier_of told caller order = caller

-- an order of main cannot begin: it has not finished another, or the pass that is to carry this one out has not
abbrev pub is_hindered : List Event → Order → Bool
is_hindered told order = is_some (open_of 0 told) || is_some (open_of (carrier_of told 0 order) told)

-- nor can that of an actor
abbrev pub is_actor_hindered : List Event → ℕ → Bool
is_actor_hindered told actor = is_some (open_of actor told) || is_busy_for_main actor told
