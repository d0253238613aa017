-- The story of a script that main gives alone is a legal one.
use Rattle.std.proofs.Common.{◌≡◌, ℕ, ◌+◌, ◌≤◌, false, cond, eqb, Bool, List, [], ◌∷◌, ◌++◌, length, map, Option, refl, ap, sym, subst, ◌∙◌, append_assoc, length-append, arith, inl, inr}
use Rattle.std.specs.Prelude.{is_some, ◌||◌, nat_le, codes}
use Rattle.std.specs.List.{flat_map}
use Rattle.std.proofs.lemmas.List.{length-map, append-nil}
use Rattle.std.proofs.lemmas.List.Concat.{flat_map-cons}
use Rattle.std.proofs.lemmas.Bool.{cases_Bool, lt-leb}
use Rattle.scene_model.specs.declared.entry.Entry.{Entry}
use Rattle.scene_model.specs.declared.entry.Made.{Made}
use Rattle.script_text.specs.declared.command.Command.{Command}
use Rattle.script_text.specs.declared.command.Command.TheVariants as commands
use Rattle.script_text.specs.declared.script.Script.{Script}
use Rattle.reply_text.specs.Reply.{reply_text}
use Rattle.script_player.specs.Table.{Table, empty_table}
use Rattle.script_player.specs.Turn.{turn, table_after}
use Rattle.script_player.specs.Report.{table_below, entries_made, end_text, serial_report}
use Rattle.script_player.specs.Standing.{history_of, scene_below, Standing, history_at}
use Rattle.script_player.specs.Exchange.{Exchange, exchanges, exchanges_at}
use Rattle.script_player.specs.Span.{entries_by}
use Rattle.script_player.specs.Line.{Own, Plain, plan_of}
use Rattle.script_player.specs.Answer.{Replied}
use Rattle.script_player.specs.Event.{Event, spans_told, made_by_events}
use Rattle.script_player.specs.Open.{batches_left, open_of, carrier_of, is_hindered, has_name, batches_of}
use Rattle.script_player.specs.Stands.{answers_own, IsOwnLine, StandBelow}
use Rattle.script_player.specs.Spoken.{name_of, event_text, story_text}
use Rattle.script_player.specs.Alone.{event_alone, events_alone, serial_events}
use Rattle.script_player.specs.Legal.{IsRightEvent, AreRightEvents, IsPlayed, Legal}
use Rattle.script_player.specs.Prepared.{Prepared}
use Rattle.script_player.specs.Closing.{in_name_order, AreGivenUp}
use Rattle.script_player.proofs.Reporting.{report_is, exchanges-append}
use Rattle.script_player.proofs.Standing.{entries_made-append}
use Rattle.script_player.proofs.Lawful.{lawful_of}
use Rattle.script_player.proofs.Entries.{made_in, made_in-length, made_in-exchanges, entries_own, entries_other}
use Rattle.script_player.proofs.EventsAlone.{events_snoc, none_open, carried_alone, made_alone_own, made_alone_other}
use Rattle.script_player.proofs.PlayedAlone.{exchange_on, places_at, table_below-snoc, one_right}

-- ---- how the answers stand

carrier_alone : (es : List Exchange) (c : Command) → 0 ≡ carrier_of (events_alone 0 0 es) 0 (Plain c)
carrier_alone es (commands.Finalize batch) = sym (carried_alone (λ e. has_name batch (batches_of e.pass (events_alone 0 0 es))) es 0 0)
carrier_alone es (commands.Abort batch) = sym (carried_alone (λ e. has_name batch (batches_of e.pass (events_alone 0 0 es))) es 0 0)
carrier_alone es c = refl

not_hindered : (es : List Exchange) (c : Command) → is_hindered (events_alone 0 0 es) (Plain c) ≡ false
not_hindered es c =
    let told = events_alone 0 0 es in
    ap (λ (o : Option Event). is_some o || is_some (open_of (carrier_of told 0 (Plain c)) told)) (none_open es 0 0 0)
    ∙ ap (λ (o : Option Event). is_some o) (none_open es (carrier_of told 0 (Plain c)) 0 0)

own_line : (script : Script) (es : List Exchange) (place from : ℕ) (e : Exchange)
    → IsOwnLine (plan_of script) place (events_alone 0 0 es) (Plain e.command) (event_alone place from e)
own_line script es place from e = record {
  given = record { caller_is = refl; pass_is = carrier_alone es e.command; given_is = refl; answered_is = refl; order_is = refl };
  answer = ap (λ (b : Bool). answers_own b (Replied e.reply)) (not_hindered es e.command);
}

next_from : (es : List Exchange) (e : Exchange) (from : ℕ) → length (made_in es) ≡ from → length (made_in (es ++ e ∷ [])) ≡ from + length e.made
next_from [] e from h = made_in-length e [] ∙ omega (arith, h)
next_from (x ∷ es) e from h =
    let size = made_in-length x es in
    let more = next_from es e (length (made_in es)) refl in
    made_in-length x (es ++ e ∷ []) ∙ omega (arith, h, size, more)

stand_alone : (script : Script) (cs : List Command) (table : Table) (es : List Exchange) (place from : ℕ) → length es ≡ place → length (made_in es) ≡ from
    → StandBelow (plan_of script) place (events_alone 0 0 es) (map (λ command. Own (Plain command)) cs) (events_alone place from (exchanges table cs))
stand_alone script [] table es place from p f = ap (λ (o : Option Event). is_some o || false) (none_open es 0 0 0)
stand_alone script (c ∷ cs) table es place from p f =
    let e = exchange_on table c in
    let after = table_after table (turn table c) in
    let size = length-append es (e ∷ []) in (
      own_line script es place from e,
      subst (λ (earlier : List Event). StandBelow (plan_of script) (place + 1) earlier (map (λ command. Own (Plain command)) cs) (events_alone (place + 1) (from + length e.made) (exchanges after cs)))
          (events_snoc es e 0 0 place from (omega (arith, p)) (omega (arith, f)))
          (stand_alone script cs after (es ++ e ∷ []) (place + 1) (from + length e.made) (size ∙ omega (arith, p)) (next_from es e from f)),
    )

-- ---- all commands are right

-- the commands above have been told
record IsUpTo (script : Script) (above : List Command) (table : Table) (place from : ℕ) (earlier : List Event) : Type 0 where
  table_is : table_below (empty_table script.world) above ≡ table
  place_is : length above ≡ place
  from_is : length (history_of script.world above) ≡ from
  earlier_is : events_alone 0 0 (exchanges (empty_table script.world) above) ≡ earlier

up_to_next : (script : Script) (above : List Command) (c : Command) (table : Table) (place from : ℕ) (earlier : List Event) → IsUpTo script above table place from earlier
    → IsUpTo script (above ++ c ∷ []) (table_after table (turn table c)) (place + 1) (from + length (turn table c).entries) (earlier ++ event_alone place from (exchange_on table c) ∷ [])
up_to_next script above c table place from earlier u =
    let start = empty_table script.world in
    let here = table_below start above in
    let made : Entry → Made = λ entry. record { pass = 0; entry = entry } in
    let es = exchanges start above in
    let own : (turn here c).entries ≡ (turn table c).entries = ap (λ (t : Table). (turn t c).entries) u.table_is in
    let size : length (made_in es) ≡ from =
    ap (λ (m : List Entry). length m) (made_in-exchanges above start) ∙ sym (length-map (entries_made start above) made) ∙ u.from_is in
    let all : length (entries_made start above) ≡ from = sym (length-map (entries_made start above) made) ∙ u.from_is in
    let count : length (entries_made start (above ++ c ∷ [])) ≡ length (entries_made start above) + length (turn here c).entries =
    ap (λ (m : List Entry). length m) (entries_made-append start above (c ∷ []) ∙ ap (λ (m : List Entry). entries_made start above ++ m) (append-nil (turn here c).entries))
    ∙ length-append (entries_made start above) (turn here c).entries in
    let long = ap (λ (m : List Entry). length m) own in
    let places = places_at above start in
    record {
      table_is = table_below-snoc above start c ∙ ap (λ (t : Table). table_after t (turn t c)) u.table_is;
      place_is = length-append above (c ∷ []) ∙ ap (λ (n : ℕ). n + 1) u.place_is;
      from_is = length-map (entries_made start (above ++ c ∷ [])) made ∙ omega (arith, count, all, long);
      earlier_is =
          ap (events_alone 0 0) (exchanges-append start above (c ∷ []))
          ∙ events_snoc es (exchange_on here c) 0 0 place from (omega (arith, places, u.place_is)) (omega (arith, size))
          ∙ ap (λ (ts : List Event). ts ++ event_alone place from (exchange_on here c) ∷ []) u.earlier_is
          ∙ ap (λ (t : Table). earlier ++ event_alone place from (exchange_on t c) ∷ []) u.table_is;
    }

right_up_to : (script : Script) (above : List Command) (c : Command) (below : List Command) (whole : script.lines ≡ above ++ c ∷ below) (table : Table) (place from : ℕ) (earlier : List Event)
    → IsUpTo script above table place from earlier
    → IsRightEvent (plan_of script) (history_of script.world script.lines) earlier (event_alone place from (exchange_on table c))
    (events_alone (place + 1) (from + length (turn table c).entries) (exchanges (table_after table (turn table c)) below))
right_up_to script above c below whole table place from earlier u =
    let at : Standing script = record { above = above; command = c; below = below; whole = whole } in
    let plan = plan_of script in
    let history = history_of script.world script.lines in
    let rest = exchanges (table_after table (turn table c)) below in
    let last = from + length (turn table c).entries in
    let later = events_alone (place + 1) last rest in
    let told = events_alone 0 0 (exchanges_at script at) in
    subst (λ (ts : List Event). IsRightEvent plan history ts (event_alone place from (exchange_on table c)) later) u.earlier_is
    (subst (λ (n : ℕ). IsRightEvent plan history told (event_alone place n (exchange_on table c)) later) u.from_is
    (subst (λ (n : ℕ). IsRightEvent plan history told (event_alone n (length (history_at script at)) (exchange_on table c)) later) u.place_is
    (subst (λ (t : Table). IsRightEvent plan history told (event_alone (length above) (length (history_at script at)) (exchange_on t c)) later) u.table_is
    (one_right script at rest (place + 1) last))))

all_right : (script : Script) (below : List Command) (above : List Command) (table : Table) (place from : ℕ) (earlier : List Event) → script.lines ≡ above ++ below
    → IsUpTo script above table place from earlier → AreRightEvents (plan_of script) (history_of script.world script.lines) earlier (events_alone place from (exchanges table below))
all_right script [] above table place from earlier whole u = tt
all_right script (c ∷ below) above table place from earlier whole u = (
  right_up_to script above c below whole table place from earlier u,
  all_right script below (above ++ c ∷ []) (table_after table (turn table c)) (place + 1) (from + length (turn table c).entries)
      (earlier ++ event_alone place from (exchange_on table c) ∷ []) (whole ∙ sym (append_assoc above (c ∷ []) below)) (up_to_next script above c table place from earlier u),
)

-- ---- the whole report

passes : (script : Script) (pass : ℕ) → entries_by pass (history_of script.world script.lines) ≡ made_by_events 1 pass (events_alone 0 0 (exchanges (empty_table script.world) script.lines))
passes script pass =
    let table = empty_table script.world in
    let es = exchanges table script.lines in
    let all = entries_made table script.lines in
    elim (cases_Bool (eqb 0 pass)) [
      | inl own ↦ entries_own pass all own ∙ sym (made_alone_own pass es 0 0 own ∙ made_in-exchanges script.lines table)
      | inr other ↦ entries_other pass all other ∙ sym (made_alone_other pass es 0 0 other)
    ]

text_alone : (script : Script) (es : List Exchange) (place from : ℕ) → place + length es ≤ length (plan_of script).lines
    → flat_map (λ (e : Exchange). reply_text e.reply) es ≡ story_text (plan_of script) (events_alone place from es)
text_alone script [] place from h = refl
text_alone script (x ∷ es) place from h =
    let plan = plan_of script in
    let above : nat_le (length plan.lines) place ≡ false = lt-leb (length plan.lines) place (omega (arith, h)) in
    let later = events_alone (place + 1) (from + length x.made) es in
    flat_map-cons (λ (e : Exchange). reply_text e.reply) x es
    ∙ ap (λ (text : List ℕ). reply_text x.reply ++ text) (text_alone script es (place + 1) (from + length x.made) (omega (arith, h)))
    ∙ ap (λ (b : Bool). (cond b (name_of plan 0 ++ codes " ") [] ++ reply_text x.reply) ++ story_text plan later) (sym above)
    ∙ sym (flat_map-cons (event_text plan) (event_alone place from x) later)

pub played_of : (script : Script) → IsPlayed (plan_of script) (serial_report script) (spans_told (serial_events script)) (history_of script.world script.lines) (serial_events script) []
played_of script =
    let table = empty_table script.world in
    let es = exchanges table script.lines in
    let told = serial_events script in
    let size : 0 + length es ≤ length (plan_of script).lines =
    omega (arith, places_at script.lines table, length-map script.lines (λ (c : Command). Own (Plain c))) in
    record {
      stand = stand_alone script script.lines table [] 0 0 refl refl;
      right = all_right script script.lines [] table 0 0 [] refl (record { table_is = refl; place_is = refl; from_is = refl; earlier_is = refl });
      lawful = lawful_of script;
      entries = λ pass. passes script pass ∙ ap (made_by_events 1 pass) (sym (append-nil told));
      spans_are = ap spans_told (append-nil told);
      lines = report_is script ∙ ap (λ (text : List ℕ). text ++ end_text (scene_below script.world script.lines)) (text_alone script es 0 0 size);
    }

-- where no batch is left, nothing more follows
pub legal_of : (script : Script) → batches_left (serial_events script) ≡ []
    → Legal (plan_of script) (serial_report script) (spans_told (serial_events script)) (history_of script.world script.lines)
legal_of script none =
    let plan = plan_of script in
    let history = history_of script.world script.lines in
    let told = serial_events script in
    record {
      told = told;
      closing = [];
      played = played_of script;
      closed = subst (λ (ps : List Prepared). AreGivenUp plan history told told (in_name_order ps) []) (sym none) tt;
    }
