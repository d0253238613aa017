-- Command after command, and line after line.
use Rattle.std.proofs.Common.{◌≡◌, ℕ, ◌+◌, ◌<◌, ◌≤◌, List, [], ◌∷◌, ◌++◌, length, take, drop, get_or, zero, suc, Option, Result, Ok, Err, OnOk, OnErr, refl, ap, sym, subst, ◌∙◌, append_assoc, add-one, drop-cons, arith}
use Rattle.std.proofs.lemmas.List.{append-nil, take_more, take-append-drop, take_all}
use Rattle.world_io.specs.Bytes.{Appended, AppendedPart}
use Rattle.world_io.proofs.BytesLemmas.{Appended-nothing, Appended-append, AppendedPart-longer, AppendedPart-append}
use Rattle.script_text.specs.declared.command.Command.{Command}
use Rattle.reply_text.specs.Reply.{reply_text}
use Rattle.script_text.specs.declared.script.Script.{Script}
use Rattle.script_player.specs.Table.{Table, empty_table}
use Rattle.script_player.specs.Turn.{turn, table_after}
use Rattle.script_player.specs.Report.{replies_text, table_below, end_text, serial_report}
use Rattle.script_player.specs.Fitting.{FitsIn, AllFitIn}
use Rattle.script_player.specs.Hosts.{IsToldFor, IsToldForAll, Writes, WritesPart, Plays, PlaysPart}

replies_text-append : (table : Table) (xs ys : List Command) → replies_text table (xs ++ ys) ≡ replies_text table xs ++ replies_text (table_below table xs) ys
replies_text-append table [] ys = refl
replies_text-append table (x ∷ xs) ys =
    let line = reply_text (turn table x).reply in
    let after = table_after table (turn table x) in
    ap (λ (t : List ℕ). line ++ t) (replies_text-append after xs ys) ∙ sym (append_assoc line (replies_text after xs) (replies_text (table_below after xs) ys))

table_below-append : (table : Table) (xs ys : List Command) → table_below table (xs ++ ys) ≡ table_below (table_below table xs) ys
table_below-append table [] ys = refl
table_below-append table (x ∷ xs) ys = table_below-append (table_after table (turn table x)) xs ys

world-below : (table : Table) (commands : List Command) → (table_below table commands).world ≡ table.world
world-below table [] = refl
world-below table (x ∷ xs) = world-below (table_after table (turn table x)) xs

fits_at : (layers bodies : ℕ) (commands : List Command) (i : ℕ) (d : Command) → AllFitIn layers bodies commands → i < length commands → FitsIn layers bodies (get_or commands i d)
fits_at layers bodies [] i d fit below = absurd (omega (arith, below))
fits_at layers bodies (c ∷ commands) zero d fit below = fit.0
fits_at layers bodies (c ∷ commands) (suc i) d fit below = fits_at layers bodies commands i d fit.1 (omega (arith, below))

-- the host is told by the table after the first commands, so many, and their replies are written
abbrev pub HasPlayed : {Host : Type 0} → (Host → Table → Type 0) → List Command → (old new : Host) → (before after : Option (List ℕ)) → ℕ → Type 0
HasPlayed shows commands old new before after i = Plays shows (take i commands) old new before after

pub begins : {Host : Type 0} (shows : Host → Table → Type 0) (commands : List Command) (old : Host) (held : Option (List ℕ)) → HasPlayed shows commands old old held held 0
begins shows commands old held = record { replies = λ table shown. Appended-nothing held; shown = λ table shown. shown }

pub told_next : {Host : Type 0} (shows : Host → Table → Type 0) (commands : List Command) (old new : Host) (before after : Option (List ℕ)) (i : ℕ) (d : Command)
    → IsToldForAll shows old commands → HasPlayed shows commands old new before after i → i < length commands → IsToldFor shows new (get_or commands i d)
told_next shows commands old new before after i d told h below =
    let same = world-below told.table (take i commands) in
    record {
      table = table_below told.table (take i commands);
      shown = h.shown told.table told.shown;
      fits = rw same (fits_at told.table.world.layers told.table.world.bodies commands i d told.fits below);
    }

pub one_more : {Host : Type 0} (shows : Host → Table → Type 0) (commands : List Command) (old new newer : Host) (before after later : Option (List ℕ)) (i : ℕ) (d : Command)
    → HasPlayed shows commands old new before after i → i < length commands → Writes shows (get_or commands i d) new newer after later → HasPlayed shows commands old newer before later (i + 1)
one_more shows commands old new newer before after later i d h below written =
    let x = get_or commands i d in
    let taken : take (i + 1) commands ≡ take i commands ++ x ∷ [] = take_more commands i d below in
    subst (λ cs. Plays shows cs old newer before later) (sym taken) (record {
      replies = λ table shown.
          let front = table_below table (take i commands) in
          let both = Appended-append before after later _ _ (h.replies table shown) (written.line front (h.shown table shown)) in
          subst (Appended before later) (ap (λ (t : List ℕ). replies_text table (take i commands) ++ t) (sym (append-nil (reply_text (turn front x).reply))) ∙ sym (replies_text-append table (take i commands) (x ∷ []))) both;
      shown = λ table shown.
          subst (shows newer) (sym (table_below-append table (take i commands) (x ∷ []))) (written.shown (table_below table (take i commands)) (h.shown table shown));
    })

pub stops : {Host : Type 0} (shows : Host → Table → Type 0) (commands : List Command) (old new : Host) (before after later : Option (List ℕ)) (i : ℕ) (d : Command)
    → HasPlayed shows commands old new before after i → i < length commands → WritesPart shows (get_or commands i d) new after later → PlaysPart shows commands old before later
stops shows commands old new before after later i d h below written table shown =
    let x = get_or commands i d in
    let rest = drop (i + 1) commands in
    let split : take i commands ++ x ∷ rest ≡ commands = ap (λ (cs : List Command). take i commands ++ cs) (sym (rw add-one (drop-cons commands i d below))) ∙ take-append-drop i commands in
    let front = table_below table (take i commands) in
    let line = written front (h.shown table shown) in
    let part = AppendedPart-append before after later _ _ (h.replies table shown) (AppendedPart-longer after later _ (replies_text (table_after front (turn front x)) rest) line) in
    subst (AppendedPart before later) (sym (replies_text-append table (take i commands) (x ∷ rest)) ∙ ap (replies_text table) split) part

pub all_played : {Host : Type 0} (shows : Host → Table → Type 0) (commands : List Command) (old new : Host) (before after : Option (List ℕ)) (i : ℕ)
    → HasPlayed shows commands old new before after i → length commands ≤ i → Plays shows commands old new before after
all_played shows commands old new before after i h end = subst (λ cs. Plays shows cs old new before after) (take_all i commands end) h

-- the whole report, and a first part of it
whole_report : {Host : Type 0} (shows : Host → Table → Type 0) (script : Script) (old new : Host) (before middle after : Option (List ℕ)) → shows old (empty_table script.world)
    → Plays shows script.lines old new before middle → ((table : Table) → shows new table → Appended middle after (end_text table.scene)) → Appended before after (serial_report script)
whole_report shows script old new before middle after begun played written =
    let table = empty_table script.world in
    Appended-append before middle after _ _ (played.replies table begun) (written (table_below table script.lines) (played.shown table begun))

part_to_end : {Host : Type 0} (shows : Host → Table → Type 0) (script : Script) (old new : Host) (before middle after : Option (List ℕ)) → shows old (empty_table script.world)
    → Plays shows script.lines old new before middle → ((table : Table) → shows new table → AppendedPart middle after (end_text table.scene)) → AppendedPart before after (serial_report script)
part_to_end shows script old new before middle after begun played written =
    let table = empty_table script.world in
    AppendedPart-append before middle after _ _ (played.replies table begun) (written (table_below table script.lines) (played.shown table begun))

-- the same of how a call ended
pub whole_report_ok : {Host T E : Type 0} (shows : Host → Table → Type 0) (script : Script) (old new : Host) (before middle after : Option (List ℕ)) (r : Result T E) → shows old (empty_table script.world)
    → Plays shows script.lines old new before middle → OnOk r ((table : Table) → shows new table → Appended middle after (end_text table.scene)) → OnOk r (Appended before after (serial_report script))
whole_report_ok shows script old new before middle after (Ok x) begun played written = whole_report shows script old new before middle after begun played written
whole_report_ok shows script old new before middle after (Err e) begun played written = written

pub part_to_end_err : {Host T E : Type 0} (shows : Host → Table → Type 0) (script : Script) (old new : Host) (before middle after : Option (List ℕ)) (r : Result T E) → shows old (empty_table script.world)
    → Plays shows script.lines old new before middle → OnErr r ((table : Table) → shows new table → AppendedPart middle after (end_text table.scene)) → OnErr r (AppendedPart before after (serial_report script))
part_to_end_err shows script old new before middle after (Ok x) begun played written = written
part_to_end_err shows script old new before middle after (Err e) begun played written = part_to_end shows script old new before middle after begun played written

pub part_of_replies : {Host : Type 0} (shows : Host → Table → Type 0) (script : Script) (old : Host) (before after : Option (List ℕ)) → shows old (empty_table script.world)
    → PlaysPart shows script.lines old before after → AppendedPart before after (serial_report script)
part_of_replies shows script old before after begun played =
    let table = empty_table script.world in
    AppendedPart-longer before after (replies_text table script.lines) (end_text (table_below table script.lines).scene) (played table begun)
