-- When an order may be told to wait, or be refused for what others have under way.
use Rattle.std.specs.Prelude.{◌≡◌, ◌≢◌, ◌⊎◌, ℕ, zero, suc, ◌*◌, ◌%◌, ◌<◌, ◌==◌, ⊤, nat_lt, nat_le, Bool, true, false, ◌||◌, ◌&&◌, not, List, [], ◌∷◌, ◌++◌, length, Option, Some, None, count_by}
use Rattle.std.specs.List.{filter, list_any}
use Rattle.body_ident.specs.Id.{Id}
use Rattle.script_text.specs.declared.command.Command.TheVariants as commands
use Rattle.script_player.specs.Exchange.{id_of_name}
use Rattle.script_player.specs.Line.{Order, Plain, Update, Retire, Plan}
use Rattle.script_player.specs.Line as labels
use Rattle.script_player.specs.Answer.{Answer, Replied, Busy, Pending, Blocked, is_done}
use Rattle.script_player.specs.Event.{Event, is_above, way_of, exchanges_told}
use Rattle.script_player.specs.Open.{open_of, callers, tokens_of}
use Rattle.script_player.specs.Went.{mask_of_order, is_query, asks_layer, is_at, is_block}
use Rattle.script_player.specs.Refusals.{is_worker}

-- ---- times of an order

-- what had been answered at some time of an order: all that was known where it was given, and maybe more
pub record IsTimeOf (earlier : List Event) (item : Event) (before : List Event) : Type 0 where
  pub later : List Event
  pub parts : earlier ≡ before ++ later
  pub known : list_any (λ e. is_above e item) later ≡ false

-- another order of the same block, which is neither above nor below
abbrev pub is_beside : Event → Event → Bool
is_beside item e = not (e.caller == item.caller) && (e.given == item.given) && not (is_above e item) && not (is_above item e)

-- ---- orders that are under way

abbrev pub is_update : Option Order → Bool
is_update (Some Update) = true
is_update order = false

-- a query that asks a layer, and stands between its two steps on the reader word
abbrev pub asks_some : ℕ → Option ℕ → Bool
asks_some layers None = false
asks_some layers (Some mask) = asks_layer layers mask

abbrev pub is_walk_label : labels.Label → Bool
is_walk_label labels.Slots = true
is_walk_label labels.Root = true
is_walk_label label = false

abbrev pub is_walking : ℕ → Event → Bool
is_walking layers task = asks_some layers (mask_of_order task.order) && is_at is_walk_label task.answer

-- ---- busy

-- another update was not finished, or there was a token
pub record IsUpdateAbout (earlier : List Event) (item : Event) : Type 0 where
  pub before : List Event
  pub time : IsTimeOf earlier item before
  pub about : ((caller : ℕ) × (caller ≢ item.caller) × ((task : Event) × (open_of caller before ≡ Some task) × (is_update task.order ≡ true)))
      ⊎ (tokens_of before ≢ [])

abbrev pub IsUpdateBeside : List Event → Event → Type 0
IsUpdateBeside others item = list_any (λ e. is_beside item e && is_update e.order) others ≡ true

abbrev pub IsBusyRight : List Event → Event → List Event → Type 0
IsBusyRight earlier item later = IsUpdateAbout earlier item ⊎ IsUpdateBeside (earlier ++ later) item

-- ---- pending

-- it is said in a block, or at the end of the script
abbrev pub is_out_of_lines : Plan → Event → Bool
is_out_of_lines plan e = is_worker plan e.caller || nat_le (length plan.lines) e.answered

-- the pass had a query that was not finished. In a block, or at the end of the script, that is all; else it walks
pub record IsQueryAbout (plan : Plan) (earlier : List Event) (item : Event) (pass : ℕ) : Type 0 where
  pub before : List Event
  pub time : IsTimeOf earlier item before
  pub task : Event
  pub is_open : open_of pass before ≡ Some task
  pub query : is_query task.order ≡ true
  pub walks : is_out_of_lines plan item ≡ false → is_walking plan.world.layers task ≡ true

abbrev pub IsQueryBeside : List Event → Event → ℕ → Type 0
IsQueryBeside others item pass = list_any (λ e. is_beside item e && is_query e.order && (e.pass == pass)) others ≡ true

-- how many queries a pass began: of each its first answer is counted, which is said where it is given
abbrev pub begins_query : ℕ → Event → Bool
begins_query pass e = (e.pass == pass) && is_query e.order && (e.given == e.answered)

abbrev pub queries_begun : ℕ → List Event → ℕ
queries_begun pass told = count_by (begins_query pass) told

pub record IsPendingRight (plan : Plan) (earlier : List Event) (item : Event) (later : List Event) (pass count : ℕ) : Type 0 where
  pub query : IsQueryAbout plan earlier item pass ⊎ IsQueryBeside (earlier ++ later) item pass
  pub odd : count % 2 ≡ 1
  pub few : count < 2 * queries_begun pass (earlier ++ filter (is_beside item) later)

-- ---- blocked

-- a body of the stripe has one of these names
abbrev pub is_of_stripe : ℕ → ℕ → Option Id → Bool
is_of_stripe stripes lock None = false
is_of_stripe zero lock (Some i) = false
is_of_stripe (suc less) lock (Some i) = i.index % (suc less) == lock

abbrev pub is_holding_label : labels.Label → Bool
is_holding_label labels.Leaf = true
is_holding_label labels.Widened = true
is_holding_label labels.Out = true
is_holding_label label = false

abbrev pub is_blocked_above : ℕ → Answer → Bool
is_blocked_above lock (Blocked higher) = nat_lt lock higher
is_blocked_above lock answer = false

-- a command that is not finished holds a stripe: by what its names stand for, and by its last answer
abbrev pub holds_stripe : (List ℕ → Bool) → ℕ → Option Order → Answer → Bool
holds_stripe is_name_of lock (Some (Plain (commands.Move name bounds))) answer = is_name_of name && is_at is_holding_label answer
holds_stripe is_name_of lock (Some (Plain (commands.Remove name))) answer = is_name_of name && is_at is_holding_label answer
holds_stripe is_name_of lock (Some (Plain (commands.Multi names))) answer = list_any is_name_of names && is_blocked_above lock answer
holds_stripe is_name_of lock order answer = false

pub record IsBlockedRight (plan : Plan) (earlier : List Event) (item : Event) (lock : ℕ) : Type 0 where
  pub holder : ℕ
  pub other : holder ≢ item.caller
  pub task : Event
  pub is_open : open_of holder earlier ≡ Some task
  pub holds : holds_stripe (λ name. is_of_stripe plan.world.stripes lock (id_of_name (exchanges_told earlier) name)) lock task.order task.answer ≡ true

-- ---- ok

-- nobody else walks
abbrev pub walks : ℕ → Option Event → Bool
walks layers None = false
walks layers (Some task) = is_walking layers task

abbrev pub is_walk_about : Plan → List Event → Event → Bool
is_walk_about plan earlier item = list_any (λ caller. not (caller == item.caller) && walks plan.world.layers (open_of caller earlier)) (callers plan)

-- what was said last
abbrev pub last_from : Option Event → List Event → Option Event
last_from last [] = last
last_from last (e ∷ later) = last_from (Some e) later

abbrev pub was_blocked : Option Event → Bool
was_blocked None = false
was_blocked (Some e) = is_block e.answer

-- an update that is done found no walk, where it is no late answer and was not blocked just before
abbrev pub IsUpdateDone : Plan → List Event → Event → Type 0
IsUpdateDone plan earlier item =
    nat_le (length plan.lines) item.answered ≡ false → was_blocked (last_from None (way_of item earlier)) ≡ false
    → is_walk_about plan earlier item ≡ false

-- the last `pending` above, and what had been answered above that
pub record Waiting : Type 0 where
  pub before : List Event
  pub event : Event
  pub reader : ℕ

abbrev pub pending_as : List Event → Event → Answer → Option Waiting → Option Waiting
pending_as before e (Pending reader count) last = Some (record { before = before; event = e; reader = reader })
pending_as before e answer last = last

abbrev pub pending_from : List Event → Option Waiting → List Event → Option Waiting
pending_from before last [] = last
pending_from before last (e ∷ later) = pending_from (before ++ e ∷ []) (pending_as before e e.answer last) later

-- the query for which it waited does not walk any more
abbrev pub IsSameWalk : ℕ → Option Event → Option Event → Type 0
IsSameWalk layers (Some first) (Some last) = first.given ≡ last.given → is_walking layers last ≡ false
IsSameWalk layers first last = ⊤

abbrev pub WaitIsOver : Plan → List Event → Option Waiting → Type 0
WaitIsOver plan earlier None = ⊤
WaitIsOver plan earlier (Some w) =
    is_worker plan w.event.caller ≡ false → IsSameWalk plan.world.layers (open_of w.reader w.before) (open_of w.reader earlier)

-- a retirement that is done, outside of blocks and above the end of the script
abbrev pub IsRetireDone : Plan → List Event → Event → Type 0
IsRetireDone plan earlier item = is_out_of_lines plan item ≡ false → WaitIsOver plan earlier (pending_from [] None earlier)

-- ---- every answer

abbrev pub IsDoneRight : Plan → List Event → Event → Option Order → Type 0
IsDoneRight plan earlier item (Some Update) = IsUpdateDone plan earlier item
IsDoneRight plan earlier item (Some Retire) = IsRetireDone plan earlier item
IsDoneRight plan earlier item order = ⊤

abbrev pub WaitsRightAs : Plan → List Event → Event → List Event → Answer → Type 0
WaitsRightAs plan earlier item later Busy = IsBusyRight earlier item later
WaitsRightAs plan earlier item later (Pending pass count) = IsPendingRight plan earlier item later pass count
WaitsRightAs plan earlier item later (Blocked lock) = IsBlockedRight plan earlier item lock
WaitsRightAs plan earlier item later (Replied reply) = is_done (Replied reply) ≡ true → IsDoneRight plan earlier item item.order
WaitsRightAs plan earlier item later answer = ⊤

abbrev pub WaitsRight : Plan → List Event → Event → List Event → Type 0
WaitsRight plan earlier item later = WaitsRightAs plan earlier item later item.answer
