-- A script that main gives alone is played as the rules ask for.
use Rattle.std.proofs.Common.{◌≡◌, ℕ, eqb, ◌+◌, ◌≤◌, true, false, Bool, List, [], ◌∷◌, ◌++◌, length, take, Option, Some, None, refl, ap, sym, subst, ◌∙◌, length-append, arith}
use Rattle.std.specs.Prelude.{filter, not, ◌||◌}
use Rattle.std.proofs.lemmas.List.{length-map, map-append, append-nil}
use Rattle.body_ident.specs.Id.{Id}
use Rattle.scene_model.specs.declared.entry.Entry.{Entry}
use Rattle.scene_model.specs.declared.entry.Entry.TheVariants as entries
use Rattle.scene_model.specs.declared.entry.Made.{Made}
use Rattle.scene_model.specs.History.{Interval, point}
use Rattle.script_text.specs.declared.command.Command.{Command}
use Rattle.script_text.specs.declared.command.Command.TheVariants as commands
use Rattle.script_text.specs.declared.script.Script.{Script}
use Rattle.reply_text.specs.declared.multi.MultiItem.{MultiItem}
use Rattle.reply_text.specs.declared.reply.Reply.{Reply}
use Rattle.reply_text.specs.declared.reply.Reply.TheVariants as replies
use Rattle.script_player.specs.Table.{Table, empty_table}
use Rattle.script_player.specs.Turn.{turn, table_after}
use Rattle.script_player.specs.Report.{table_below, entries_made}
use Rattle.script_player.specs.Standing.{made_alone, history_of, Standing, history_at, scene_at, table_at, turn_at}
use Rattle.script_player.specs.Exchange.{Exchange, exchanges, exchanges_at, ids_of_names}
use Rattle.script_player.specs.Prepared.{Prepared, prepared_from, Kept, kept_by, kept_at}
use Rattle.script_player.specs.Refused.{TellsItems, AnswersMulti, IsAnsweredFirst}
use Rattle.script_player.specs.Right.{IsSpent, IsRightFor}
use Rattle.script_player.specs.Done.{prepared_named}
use Rattle.script_player.specs.Taking.{unmarks}
use Rattle.script_player.specs.Span.{entries_by}
use Rattle.script_player.specs.Line.{plan_of}
use Rattle.script_player.specs.Event.{Event, exchanges_told, known_before, made_by_events}
use Rattle.script_player.specs.Open.{Preparing, has_name, batches_left, is_preparing}
use Rattle.script_player.specs.Ordered.{HasEntriesOf, IsSpan}
use Rattle.script_player.specs.Held.{held_beside, begun_by, begun_of, joined_above, held_seen}
use Rattle.script_player.specs.Refusals.{is_name_taken, own_of, own_refusal}
use Rattle.script_player.specs.Replied.{AreToldEach, IsMultiOf, kept_for, IsRightCommand, IsRightAnswer}
use Rattle.script_player.specs.Alone.{event_alone, events_alone}
use Rattle.script_player.specs.Legal.{IsRightEvent}
use Rattle.script_player.proofs.Reporting.{entries_stand}
use Rattle.script_player.proofs.Refusing.{answered_at}
use Rattle.script_player.proofs.RightAt.{history_with, interval_at, history_up_to, right_at}
use Rattle.script_player.proofs.Entries.{made_in, commands_of_exchanges, made_in-exchanges, entries_own}
use Rattle.script_player.proofs.OwnRefusals.{own_alone}
use Rattle.script_player.proofs.EventsAlone.{exchanges_of_events, known_alone, none_open, none_preparing, made_alone_own, held_alone, none_beside, joined_alone, after_alone}

-- what is told of a command on a table
abbrev pub exchange_on : Table → Command → Exchange
exchange_on table c = record { command = c; reply = (turn table c).reply; made = (turn table c).entries }

pub size_at : (script : Script) (at : Standing script) → length (made_in (exchanges_at script at)) ≡ length (history_at script at)
size_at script at =
    let made : Entry → Made = λ entry. record { pass = 0; entry = entry } in
    ap (λ (m : List Entry). length m) (made_in-exchanges at.above (empty_table script.world)) ∙ sym (length-map (entries_made (empty_table script.world) at.above) made)

pub places_at : (cs : List Command) (table : Table) → length (exchanges table cs) ≡ length cs
places_at cs table = sym (length-map (exchanges table cs) (λ (e : Exchange). e.command)) ∙ ap (λ (xs : List Command). length xs) (commands_of_exchanges cs table)

pub table_below-snoc : (above : List Command) (table : Table) (c : Command)
    → table_below table (above ++ c ∷ []) ≡ table_after (table_below table above) (turn (table_below table above) c)
table_below-snoc [] table c = refl
table_below-snoc (x ∷ above) table c = table_below-snoc above (table_after table (turn table x)) c

-- ---- what several bodies are told to be

each_told : (bodies : ℕ) (interval : Interval) (n : ℕ) → interval.from ≤ n → n ≤ interval.to → (ids : List Id) (list : List MultiItem)
    → TellsItems (point bodies interval.history n) ids list → AreToldEach bodies interval ids list
each_told bodies interval n a b [] [] h = tt
each_told bodies interval n a b [] (item ∷ list) h = absurd h
each_told bodies interval n a b (i ∷ ids) [] h = absurd h
each_told bodies interval n a b (i ∷ ids) (item ∷ list) h = ((n, a, b, h.0), each_told bodies interval n a b ids list h.1)

multi_each : (bodies : ℕ) (interval : Interval) (n : ℕ) → interval.from ≤ n → n ≤ interval.to → (o : Option (List Id)) (reply : Reply)
    → AnswersMulti (point bodies interval.history n) o reply → IsMultiOf bodies interval o reply
multi_each bodies interval n a b None reply h = h
multi_each bodies interval n a b (Some ids) (replies.Multi list) h = each_told bodies interval n a b ids list h
multi_each bodies interval n a b (Some ids) replies.Gone h = absurd h
multi_each bodies interval n a b (Some ids) (replies.Body view) h = absurd h
multi_each bodies interval n a b (Some ids) replies.Done h = absurd h
multi_each bodies interval n a b (Some ids) (replies.Refused refusal) h = absurd h
multi_each bodies interval n a b (Some ids) (replies.Id j) h = absurd h
multi_each bodies interval n a b (Some ids) (replies.Hits hits) h = absurd h

-- ---- commands

command_alone : (script : Script) (known : List Event) (kept : List ℕ → ℕ → Kept) (interval : Interval) (c : Command) (reply : Reply) (made : List Entry)
    → IsRightFor script.world kept 0 interval (exchanges_told known) c reply made
    → ((name : List ℕ) (layer : ℕ) → (kept name layer).named ≡ has_name name (batches_left known))
    → IsRightCommand (plan_of script) kept 0 0 interval known c reply made
command_alone script known kept interval (commands.Multi names) reply made h named =
    let bodies = script.world.bodies in
    record {
      each = multi_each bodies interval h.0.0 h.0.1 h.0.2 (ids_of_names (exchanges_told known) names) reply h.0.3;
      at_once = λ _. h.0;
      none = h.1;
    }
command_alone script known kept interval (commands.Finalize batch) reply made h named =
    subst (λ (b : Bool). IsSpent b (prepared_named (exchanges_told known) batch) (λ p. entries.Join p.layer p.indexes ∷ []) reply made) (named batch 0) h
command_alone script known kept interval (commands.Abort batch) reply made h named =
    subst (λ (b : Bool). IsSpent b (prepared_named (exchanges_told known) batch) (λ p. unmarks p.indexes) reply made) (named batch 0) h
command_alone script known kept interval c reply made h named = h

-- ---- what a command sees

begun_alone : (script : Script) (p f : ℕ) (q : Exchange) (es : List Exchange) → begun_of (plan_of script) (event_alone p f q) (events_alone 0 0 es) ≡ []
begun_alone script p f q es =
    ap (λ (o : Option Event). begun_by script.world.layers (event_alone p f q) (events_alone 0 0 es) o ++ []) (none_open es 0 0 0)

kept_alone : (script : Script) (p f place from : ℕ) (q : Exchange) (es later : List Exchange) (name : List ℕ) (layer : ℕ)
    → held_seen (plan_of script) (events_alone 0 0 es) (event_alone p f q) (events_alone place from later) name layer ≡ kept_by (prepared_from [] es) (made_in es) name layer
kept_alone script p f place from q es later name layer =
    let layers = script.world.layers in
    let item = event_alone p f q in
    let earlier = events_alone 0 0 es in
    let above = exchanges_told (earlier ++ item ∷ []) in
    let beside = held_beside layers item above (events_alone place from later) in
    let joined = joined_above item earlier in
    ap (λ (ps : List Prepared). kept_by (ps ++ (begun_of (plan_of script) item earlier ++ beside)) joined name layer) (held_alone layers p f q es [] [] 0 0)
    ∙ ap (λ (ps : List Prepared). kept_by (prepared_from [] es ++ (ps ++ beside)) joined name layer) (begun_alone script p f q es)
    ∙ ap (λ (ps : List Prepared). kept_by (prepared_from [] es ++ ps) joined name layer) (none_beside layers p f q later above place from)
    ∙ ap (λ (ps : List Prepared). kept_by ps joined name layer) (append-nil (prepared_from [] es))
    ∙ ap (λ (m : List Entry). kept_by (prepared_from [] es) m name layer) (joined_alone item es 0 0)

or_false : (b : Bool) → (b || false) ≡ b
or_false true = refl
or_false false = refl

named_alone : (p f : ℕ) (q : Exchange) (es : List Exchange) (name : List ℕ)
    → is_name_taken 0 name (known_before (event_alone p f q) (events_alone 0 0 es)) ≡ has_name name (prepared_from [] es)
named_alone p f q es name =
    ap (λ (known : List Event). is_name_taken 0 name known) (known_alone es p f 0 0 q)
    ∙ ap (λ (ps : List Preparing). has_name name (batches_left (events_alone 0 0 es)) || is_preparing name (filter (λ p. not (eqb p.caller 0)) ps)) (none_preparing es [] 0 0)
    ∙ or_false (has_name name (batches_left (events_alone 0 0 es)))
    ∙ ap (λ (above : List Exchange). has_name name (prepared_from [] above)) (exchanges_of_events es 0 0)

kept_for_alone : (script : Script) (p f place from : ℕ) (q : Exchange) (es later : List Exchange) (name : List ℕ) (layer : ℕ)
    → kept_for (plan_of script) (events_alone 0 0 es) (event_alone p f q) (events_alone place from later) name layer ≡ kept_by (prepared_from [] es) (made_in es) name layer
kept_for_alone script p f place from q es later name layer =
    let kept = kept_alone script p f place from q es later name layer in
    λ i. record { named = named_alone p f q es name i; slots = (kept i).slots; nodes = (kept i).nodes }

-- ---- one command

entries_at : (script : Script) (at : Standing script)
    → HasEntriesOf (history_of script.world script.lines) 1 (events_alone 0 0 (exchanges_at script at)) (event_alone (length at.above) (length (history_at script at)) (exchange_on (table_at script at) at.command))
entries_at script at =
    let made : Entry → Made = λ entry. record { pass = 0; entry = entry } in
    let table = empty_table script.world in
    let t = turn_at script at in
    let before = history_at script at in
    let above = entries_made table at.above in
    let earlier : made_by_events 1 0 (events_alone 0 0 (exchanges_at script at)) ≡ above = made_alone_own 0 (exchanges_at script at) 0 0 refl ∙ made_in-exchanges at.above table in
    let from : length before ≡ length before + 0 = omega arith in
    record {
      own = λ _. record {
        before =
            ap (λ (n : ℕ). entries_by 0 (take n (history_of script.world script.lines))) from
            ∙ ap (λ (h : List Made). entries_by 0 h) (history_up_to script at [] t.entries refl ∙ append-nil before)
            ∙ entries_own 0 above refl
            ∙ sym earlier;
        own =
            ap (λ (h : List Made). entries_by 0 h) (history_up_to script at t.entries [] (sym (append-nil t.entries)) ∙ sym (map-append made above t.entries))
            ∙ entries_own 0 (above ++ t.entries) refl
            ∙ ap (λ (es : List Entry). es ++ t.entries) (sym earlier);
      };
      lanes = tt;
      none = λ not_last. absurd (not_last refl);
    }

span_at : (script : Script) (at : Standing script) → IsSpan (history_of script.world script.lines) (event_alone (length at.above) (length (history_at script at)) (exchange_on (table_at script at) at.command)).span
span_at script at =
    let made : Entry → Made = λ entry. record { pass = 0; entry = entry } in
    let t = turn_at script at in
    let before = history_at script at in
    let more = entries_stand script at in
    let whole : length (history_of script.world script.lines) ≡ length before + (length t.entries + length more.0) =
    ap (λ (h : List Made). length h) more.1
    ∙ length-append before (made_alone t.entries ++ more.0)
    ∙ ap (λ (n : ℕ). length before + n) (length-append (made_alone t.entries) more.0 ∙ ap (λ (n : ℕ). n + length more.0) (length-map t.entries made)) in
    record { ordered = omega arith; within = omega (arith, whole) }

answer_at : (script : Script) (at : Standing script) (later : List Exchange) (place from : ℕ)
    → IsRightAnswer (plan_of script) (history_of script.world script.lines) (events_alone 0 0 (exchanges_at script at))
    (event_alone (length at.above) (length (history_at script at)) (exchange_on (table_at script at) at.command)) (events_alone place from later)
answer_at script at later place from _ =
    let es = exchanges_at script at in
    let e = exchange_on (table_at script at) at.command in
    let p = length at.above in
    let f = length (history_at script at) in
    let earlier = events_alone 0 0 es in
    let item = event_alone p f e in
    let t = turn_at script at in
    let kept : kept_at script at ≡ kept_for (plan_of script) earlier item (events_alone place from later) =
    λ i name layer.
    sym (kept_for_alone script p f place from e es later name layer ∙ ap (λ (m : List Entry). kept_by (prepared_from [] es) m name layer) (made_in-exchanges at.above (empty_table script.world))) i in
    let same = exchanges_of_events es 0 0 in
    let up_to : take (f + length t.entries) (history_of script.world script.lines) ≡ history_with script at = history_up_to script at t.entries [] (sym (append-nil t.entries)) in
    let right : IsRightFor script.world (kept_at script at) 0 (interval_at script at) (exchanges_told earlier) at.command t.reply t.entries =
    subst (λ (above : List Exchange). IsRightFor script.world (kept_at script at) 0 (interval_at script at) above at.command t.reply t.entries) (sym same) (right_at script at) in
    let named : (name : List ℕ) (layer : ℕ) → (kept_at script at name layer).named ≡ has_name name (batches_left earlier) =
    λ name layer. ap (λ (above : List Exchange). has_name name (prepared_from [] above)) (sym same) in (
      subst (λ (h : List Made). IsRightCommand (plan_of script) (kept_for (plan_of script) earlier item (events_alone place from later)) 0 0 (record { history = h; from = f; to = f + length t.entries }) (known_before item earlier) at.command t.reply t.entries)
          (sym up_to)
          (subst (λ (known : List Event). IsRightCommand (plan_of script) (kept_for (plan_of script) earlier item (events_alone place from later)) 0 0 (interval_at script at) known at.command t.reply t.entries)
          (sym (known_alone es p f 0 0 e))
          (subst (λ (k : List ℕ → ℕ → Kept). IsRightCommand (plan_of script) k 0 0 (interval_at script at) earlier at.command t.reply t.entries) kept
          (command_alone script earlier (kept_at script at) (interval_at script at) at.command t.reply t.entries right named))),
      refl,
    )

own_at : (script : Script) (at : Standing script)
    → own_of (turn_at script at).reply ≡ own_refusal (plan_of script) 0 (known_before (event_alone (length at.above) (length (history_at script at)) (exchange_on (table_at script at) at.command)) (events_alone 0 0 (exchanges_at script at))) at.command
own_at script at =
    let es = exchanges_at script at in
    let e = exchange_on (table_at script at) at.command in
    let earlier = events_alone 0 0 es in
    let t = turn_at script at in
    let same = exchanges_of_events es 0 0 in
    own_alone script earlier (kept_at script at) (interval_at script at) (scene_at script at) at.command t.reply t.entries
    (subst (λ (above : List Exchange). IsRightFor script.world (kept_at script at) 0 (interval_at script at) above at.command t.reply t.entries) (sym same) (right_at script at))
    (subst (λ (above : List Exchange). IsAnsweredFirst script.world (kept_at script at) (scene_at script at) above at.command t.reply) (sym same) (answered_at script at))
    (λ name layer. ap (λ (above : List Exchange). has_name name (prepared_from [] above)) (sym same))
    (none_preparing es [] 0 0)
    ∙ ap (λ (known : List Event). own_refusal (plan_of script) 0 known at.command) (sym (known_alone es (length at.above) (length (history_at script at)) 0 0 e))

pub one_right : (script : Script) (at : Standing script) (later : List Exchange) (place from : ℕ)
    → IsRightEvent (plan_of script) (history_of script.world script.lines) (events_alone 0 0 (exchanges_at script at))
    (event_alone (length at.above) (length (history_at script at)) (exchange_on (table_at script at) at.command)) (events_alone place from later)
one_right script at later place from =
    let size = size_at script at in
    record {
      follows = after_alone (length at.above) (length (history_at script at)) (exchange_on (table_at script at) at.command) (exchanges_at script at) 0 0 (omega (arith, size));
      span = span_at script at;
      entries = entries_at script at;
      answer = answer_at script at later place from;
      own = own_at script at;
      waits = λ _. tt;
    }
