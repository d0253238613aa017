-- Which prepares hold slots and nodes, as an order sees them: told by the answers around it.
--
-- A prepare is a `prepare` command, or what an `add` does for one layer. An order sees that it holds a slot of its layer and
-- the nodes of its tree, unless it ended before that began, or one of these was answered before it was given: that the
-- prepare is refused, that its batch is given up, or that an update is done which began after its batch came in.
-- Orders of one block see one another, but for those of one section, which follow one another.
use Rattle.std.specs.Prelude.{ℕ, ◌+◌, ◌==◌, if◌then◌else◌, Bool, false, ◌&&◌, ◌||◌, not, List, [], ◌∷◌, ◌++◌, length, take, drop, Option, Some, None, bytes_eq}
use Rattle.std.specs.List.{filter, flat_map, list_any, range_with_len}
use Rattle.scene_model.specs.declared.entry.Entry.{Entry}
use Rattle.script_text.specs.declared.command.Command.{Command}
use Rattle.script_text.specs.declared.command.Command.TheVariants as commands
use Rattle.reply_text.specs.declared.reply.Reply.{Reply}
use Rattle.reply_text.specs.declared.reply.Reply.TheVariants as replies
use Rattle.script_player.specs.Exchange.{Exchange, all_known_by}
use Rattle.script_player.specs.Prepared.{Prepared, without, prepared_by, Kept, kept_by}
use Rattle.scene_model.specs.declared.entry.Entry.TheVariants.{Join}
use Rattle.script_player.specs.declared.books.Known.{Known}
use Rattle.script_player.specs.Batches.{in_layer}
use Rattle.script_player.specs.Line.{Order, Plain, Update, Retire, Step, Plan}
use Rattle.script_player.specs.Answer.{Answer, Pending, Stepped, is_done}
use Rattle.script_player.specs.Event.{Event, is_above, exchange_of, exchanges_told}
use Rattle.script_player.specs.Open.{open_of, callers, without_pass}

-- ---- prepares of an order

-- what an add does for each layer that there are bodies of
abbrev pub part_of : ℕ → List Known → List Prepared
part_of layer [] = []
part_of layer (known ∷ bodies) = record { name = []; layer = layer; bodies = length (known ∷ bodies); indexes = [] } ∷ []

abbrev pub parts_of : ℕ → Option (List Known) → List Prepared
parts_of layers None = []
parts_of layers (Some bodies) = flat_map (λ layer. part_of layer (in_layer layer bodies)) (range_with_len 0 layers)

-- how many batches came in, and how many prepares an add made so: one more where the next was refused
abbrev pub came_in : List Entry → ℕ
came_in [] = 0
came_in (Join layer indexes ∷ later) = came_in later + 1
came_in (entry ∷ later) = came_in later

abbrev pub tried : Reply → List Entry → ℕ
tried (replies.Refused refusal) made = came_in made + 1
tried reply made = came_in made

-- so many bodies are to be held in a layer; no name stands for this
abbrev pub unnamed : ℕ → ℕ → List Prepared
unnamed layer bodies = record { name = []; layer = layer; bodies = bodies; indexes = [] } ∷ []

-- those that a command has made, or may have made so far
abbrev pub prepares_tried : ℕ → List Exchange → Command → Reply → List Entry → List Prepared
prepares_tried layers above (commands.Prepare batch layer names) reply made = unnamed layer (length names)
prepares_tried layers above (commands.Add names) reply made = take (tried reply made) (parts_of layers (all_known_by above names))
prepares_tried layers above command reply made = []

abbrev pub prepares_begun : ℕ → List Exchange → Option Order → List Prepared
prepares_begun layers above (Some (Plain (commands.Prepare batch layer names))) = unnamed layer (length names)
prepares_begun layers above (Some (Plain (commands.Add names))) = parts_of layers (all_known_by above names)
prepares_begun layers above order = []

-- ---- those that were answered above, and did not come in

-- a batch whose abort is not seen is held on, but no name stands for it
abbrev pub nameless : List ℕ → List Prepared → List Prepared
nameless name [] = []
nameless name (p ∷ later) = if bytes_eq p.name name then record p { name = [] } ∷ later else p ∷ nameless name later

abbrev pub held_where_done : Reply → List Prepared → List Prepared → List Prepared
held_where_done replies.Done asked held = asked
held_where_done reply asked held = held

-- where the answer is not seen; what came in is told by its entry
abbrev pub held_unseen : ℕ → List Exchange → List Prepared → Command → Reply → List Entry → List Prepared
held_unseen layers above held (commands.Prepare batch layer names) replies.Done made =
    held ++ record { name = batch; layer = layer; bodies = length names; indexes = [] } ∷ []
held_unseen layers above held (commands.Finalize batch) reply made = held_where_done reply (without batch held) held
held_unseen layers above held (commands.Abort batch) reply made = held_where_done reply (nameless batch held) held
held_unseen layers above held command reply made = held ++ drop (came_in made) (prepares_tried layers above command reply made)

abbrev pub held_after : Bool → ℕ → List Exchange → List Prepared → List Exchange → List Prepared
held_after seen layers above held [] = held
held_after seen layers above held (e ∷ none) =
    if seen then prepared_by held e.command e.reply e.made else held_unseen layers above held e.command e.reply e.made

abbrev pub held_above : ℕ → Event → List Exchange → List Prepared → List Event → List Prepared
held_above layers item above held [] = held
held_above layers item above held (e ∷ later) =
    held_above layers item (above ++ exchange_of e) (held_after (is_above e item) layers above held (exchange_of e)) later

-- ---- those that came in, up to an update

-- the passes that have a token of an update which began after an order was answered
abbrev pub tokens_after : Event → List ℕ → ℕ → Option Order → Answer → Bool → List ℕ
tokens_after e passes pass (Some Update) (Pending reader count) after = if after then pass ∷ passes else passes
tokens_after e passes pass (Some Retire) answer after = if is_done answer then without_pass pass passes else passes
tokens_after e passes pass order answer after = passes

-- an answer ends an update which began after an order was answered
abbrev pub ends_update : List ℕ → ℕ → Option Order → Answer → Bool → Bool
ends_update passes pass (Some Update) answer after = is_done answer && after
ends_update passes pass (Some (Step workers)) (Stepped moved kept) after = after
ends_update passes pass (Some Retire) answer after = is_done answer && list_any (λ p. p == pass) passes
ends_update passes pass order answer after = false

-- an order sees that what came in by another is given back
abbrev pub given_back : Event → Event → List ℕ → List Event → Bool
given_back item e passes [] = false
given_back item e passes (r ∷ later) =
    (ends_update passes r.pass r.order r.answer (is_above e r) && is_above r item)
    || given_back item e (tokens_after e passes r.pass r.order r.answer (is_above e r)) later

-- the entries above that brought in what is not given back
abbrev pub joined_above : Event → List Event → List Entry
joined_above item [] = []
joined_above item (e ∷ later) = (if given_back item e [] later then [] else e.made) ++ joined_above item later

-- ---- those that are not answered, or below

-- an order of another caller that is not finished
abbrev pub begun_by : ℕ → Event → List Event → Option Event → List Prepared
begun_by layers item earlier None = []
begun_by layers item earlier (Some task) =
    if task.caller == item.caller then [] else prepares_begun layers (exchanges_told (filter (λ e. is_above e task) earlier)) task.order

abbrev pub begun_of : Plan → Event → List Event → List Prepared
begun_of plan item earlier = flat_map (λ caller. begun_by plan.world.layers item earlier (open_of caller earlier)) (callers plan)

-- and those of the sections below in the same block
abbrev pub tried_in : ℕ → List Exchange → List Exchange → List Prepared
tried_in layers above [] = []
tried_in layers above (e ∷ none) = prepares_tried layers above e.command e.reply e.made

abbrev pub held_beside : ℕ → Event → List Exchange → List Event → List Prepared
held_beside layers item above [] = []
held_beside layers item above (e ∷ later) =
    (if not (e.caller == item.caller) && (e.given == item.given) && not (is_above item e) then tried_in layers above (exchange_of e) else [])
    ++ held_beside layers item (above ++ exchange_of e) later

-- what prepares hold, as an order sees it
abbrev pub held_seen : Plan → List Event → Event → List Event → List ℕ → ℕ → Kept
held_seen plan earlier item later name layer =
    let layers = plan.world.layers in
    kept_by
    (held_above layers item [] [] earlier ++ (begun_of plan item earlier ++ held_beside layers item (exchanges_told (earlier ++ item ∷ [])) later))
    (joined_above item earlier) name layer
