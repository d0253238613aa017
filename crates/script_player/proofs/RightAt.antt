-- Each command is answered right where it stands, for a span of its own entries.
use Rattle.std.proofs.Common.{◌≡◌, ℕ, ◌+◌, List, [], ◌∷◌, ◌++◌, length, take, fold, Option, option_map, refl, ap, sym, subst, ◌∙◌, append_assoc, length-append, arith}
use Rattle.std.proofs.lemmas.List.{length-map, map-append, append-nil}
use Rattle.std.proofs.lemmas.List.Sums.{fold-append}
use Rattle.std.proofs.Math.Seq.{take-append_seam}
use Rattle.word_map.specs.declared.config.Config.{Config}
use Rattle.fixed_box.specs.declared.shape.Shape.{Shape}
use Rattle.fixed_box.specs.declared.shape.Shape.TheVariants as shapes
use Rattle.fixed_box.specs.Touch.{Touch}
use Rattle.scene_model.specs.declared.entry.Entry.{Entry}
use Rattle.scene_model.specs.declared.entry.Entry.TheVariants as entries
use Rattle.scene_model.specs.declared.entry.Made.{Made}
use Rattle.scene_model.specs.Scene.{Scene, empty_scene}
use Rattle.scene_model.specs.Step.{after_entry}
use Rattle.scene_model.specs.History.{Interval, scene_after, point, IsRightAnswer}
use Rattle.scene_model.specs.Cause.{Cause, IsCauseAt, IsCause}
use Rattle.script_text.specs.declared.command.Command.{Command}
use Rattle.script_text.specs.declared.command.Command.TheVariants as commands
use Rattle.script_text.specs.declared.script.Script.{Script}
use Rattle.reply_text.specs.declared.reply.Reply.{Reply}
use Rattle.script_player.specs.declared.books.Known.{Known}
use Rattle.script_player.specs.declared.bodies.Change.{Change}
use Rattle.script_player.specs.declared.bodies.Change.TheVariants as changes
use Rattle.script_player.specs.Books.{known_at, known_all, has_batch, batch_named}
use Rattle.script_player.specs.Attempt.{outcome}
use Rattle.script_player.specs.Body.{entry_of, change_known}
use Rattle.script_player.specs.Taking.{unmarks}
use Rattle.script_player.specs.Standing.{made_alone, history_of, Standing, history_at, scene_at, table_at, turn_at}
use Rattle.script_player.specs.Exchange.{exchanges_at, id_of_name, ids_of_names}
use Rattle.script_player.specs.Prepared.{Prepared, Kept, kept_at}
use Rattle.script_player.specs.Queried.{IsRightReply}
use Rattle.script_player.specs.Refused.{AnswersRead, AnswersMulti}
use Rattle.script_player.specs.Right.{IsChangedOf, IsFound, IsCreatedIn, IsPreparedOf, IsAddedOf, IsSpent, IsRightFor}
use Rattle.script_player.proofs.Standing.{is_table_at, scene_from-made}
use Rattle.script_player.proofs.Reporting.{entries_stand}
use Rattle.script_player.proofs.Naming.{name_at, names_at}
use Rattle.script_player.proofs.Preparing.{kept_in, is_named}
use Rattle.script_player.proofs.Keeping.{kept_is, batch_is}
use Rattle.script_player.proofs.Creating.{creates_at}
use Rattle.script_player.proofs.Querying.{queries_in}
use Rattle.script_player.proofs.Refusing.{command_of, answered_at}
use Rattle.script_player.proofs.Stopping.{ShowsIn, prepare_right}
use Rattle.script_player.proofs.StoppedLayers.{add_right}
use Rattle.script_player.proofs.Changing.{change_right, create_right, finalize_right, abort_right}

-- the history up to the end of a command, and its span there
abbrev pub history_with : (script : Script) → Standing script → List Made
history_with script at = history_at script at ++ made_alone (turn_at script at).entries

abbrev pub interval_at : (script : Script) → Standing script → Interval
interval_at script at =
    let from = length (history_at script at) in
    record { history = history_with script at; from = from; to = from + length (turn_at script at).entries }

part_up_to : (script : Script) (at : Standing script) (xs ys : List Entry) → (turn_at script at).entries ≡ xs ++ ys
    → take (length (history_at script at) + length xs) (history_with script at) ≡ history_at script at ++ made_alone xs
part_up_to script at xs ys e =
    let made : Entry → Made = λ entry. record { pass = 0; entry = entry } in
    let before = history_at script at in
    let n = length before + length xs in
    let split : made_alone (turn_at script at).entries ≡ made_alone xs ++ made_alone ys = ap made_alone e ∙ map-append made xs ys in
    let whole : history_with script at ≡ (before ++ made_alone xs) ++ made_alone ys =
    ap (λ (m : List Made). before ++ m) split ∙ sym (append_assoc before (made_alone xs) (made_alone ys)) in
    let size : length (before ++ made_alone xs) ≡ n = length-append before (made_alone xs) ∙ ap (λ (k : ℕ). length before + k) (length-map xs made) in
    ap (λ (h : List Made). take n h) whole
    ∙ ap (λ (k : ℕ). take k ((before ++ made_alone xs) ++ made_alone ys)) (sym size)
    ∙ take-append_seam (before ++ made_alone xs) (made_alone ys)

point_with : (script : Script) (at : Standing script) → point script.world.bodies (history_with script at) (length (history_at script at)) ≡ scene_at script at
point_with script at = ap (scene_after script.world.bodies) (take-append_seam (history_at script at) (made_alone (turn_at script at).entries))

-- the history is in parts: what stands above the command, its own entries up to one, and the others
pub history_up_to : (script : Script) (at : Standing script) (xs ys : List Entry) → (turn_at script at).entries ≡ xs ++ ys
    → take (length (history_at script at) + length xs) (history_of script.world script.lines) ≡ history_at script at ++ made_alone xs
history_up_to script at xs ys e =
    let made : Entry → Made = λ entry. record { pass = 0; entry = entry } in
    let before = history_at script at in
    let n = length before + length xs in
    let more = entries_stand script at in
    let split : made_alone (turn_at script at).entries ≡ made_alone xs ++ made_alone ys = ap made_alone e ∙ map-append made xs ys in
    let whole : history_of script.world script.lines ≡ (before ++ made_alone xs) ++ (made_alone ys ++ more.0) =
    more.1
    ∙ ap (λ (m : List Made). before ++ (m ++ more.0)) split
    ∙ ap (λ (m : List Made). before ++ m) (append_assoc (made_alone xs) (made_alone ys) more.0)
    ∙ sym (append_assoc before (made_alone xs) (made_alone ys ++ more.0)) in
    let size : length (before ++ made_alone xs) ≡ n = length-append before (made_alone xs) ∙ ap (λ (k : ℕ). length before + k) (length-map xs made) in
    ap (λ (h : List Made). take n h) whole
    ∙ ap (λ (k : ℕ). take k ((before ++ made_alone xs) ++ (made_alone ys ++ more.0))) (sym size)
    ∙ take-append_seam (before ++ made_alone xs) (made_alone ys ++ more.0)

-- a cause that is there after some of the entries of a command is one for its span
shows_at : (script : Script) (at : Standing script) → ShowsIn (scene_at script at) (turn_at script at).entries (IsCause script.world.bodies (interval_at script at))
shows_at script at xs ys cause e here =
    let bodies = script.world.bodies in
    let before = history_at script at in
    let n = length before + length xs in
    let scene : point bodies (history_with script at) n ≡ fold after_entry (scene_at script at) xs =
    ap (scene_after bodies) (part_up_to script at xs ys e)
    ∙ fold-append (λ (s : Scene) (m : Made). after_entry s m.entry) (empty_scene bodies) before (made_alone xs)
    ∙ scene_from-made (scene_at script at) xs in
    let size = ap (λ (es : List Entry). length es) e in
    (n, omega arith, omega (arith, size, length-append xs ys), subst (IsCauseAt cause) (sym scene) here)

shows_on : (script : Script) (at : Standing script) → ShowsIn (table_at script at).scene (turn_at script at).entries (IsCause script.world.bodies (interval_at script at))
shows_on script at =
    subst (λ (s : Scene). ShowsIn s (turn_at script at).entries (IsCause script.world.bodies (interval_at script at))) (sym (is_table_at script at).scene) (shows_at script at)

shows_first : (script : Script) (at : Standing script) (c : Cause) → IsCauseAt c (table_at script at).scene → IsCause script.world.bodies (interval_at script at) c
shows_first script at c h = shows_on script at [] (turn_at script at).entries c refl h

-- ---- the commands

change_at : (script : Script) (at : Standing script) (change : Change) (name : List ℕ) → let table = table_at script at in let a = change_known table change (known_at table.books name) in
    IsChangedOf (IsCause script.world.bodies (interval_at script at)) (command_of change name) (entry_of change) (id_of_name (exchanges_at script at) name) (outcome a.refusal) a.entries
change_at script at change name =
    let table = table_at script at in
    let Shows = IsCause script.world.bodies (interval_at script at) in
    let a = change_known table change (known_at table.books name) in
    subst (λ (o : Option Known). IsChangedOf Shows (command_of change name) (entry_of change) (option_map (λ k. k.id) o) (outcome a.refusal) a.entries) (name_at script at name)
    (change_right table change name Shows (known_at table.books name) (shows_first script at))

found_at : (bodies : ℕ) (history : List Made) (n mask : ℕ) (shape : Shape) (reply : Reply) → IsRightReply bodies history n mask shape reply
    → IsFound bodies (record { history = history; from = n; to = n + 0 }) mask shape reply []
found_at bodies history n mask shape reply h =
    let same : n ≡ n + 0 = omega arith in
    record {
      ids = h.ids;
      listed = h.listed;
      right = subst (λ (to : ℕ). IsRightAnswer (Touch shape) mask bodies (record { history = history; from = n; to = to }) h.ids) same h.right;
      none = refl;
    }

abbrev stands : (script : Script) (above : List Command) (c : Command) (below : List Command) → script.lines ≡ above ++ c ∷ below → Standing script
stands script above c below whole = record { above = above; command = c; below = below; whole = whole }

right_by_books : (script : Script) (above : List Command) (c : Command) (below : List Command) (whole : script.lines ≡ above ++ c ∷ below)
    → let at = stands script above c below whole in
    IsRightFor script.world (kept_in (table_at script at).books) 0 (interval_at script at) (exchanges_at script at) c (turn_at script at).reply (turn_at script at).entries
right_by_books script above (commands.Create name layer bounds user) below whole =
    let at = stands script above (commands.Create name layer bounds user) below whole in
    let before = history_at script at in
    let t = turn_at script at in
    let Shows = IsCause script.world.bodies (interval_at script at) in
    subst (λ (h : List Made). IsCreatedIn Shows 0 (record { history = before ++ h; from = length before; to = length before + length t.entries }) layer bounds user t.reply t.entries)
    (append-nil (made_alone t.entries))
    (create_right before [] layer user bounds (scene_at script at) t.entries t.reply Shows (λ c h. shows_at script at [] t.entries c refl h) (creates_at script at) (answered_at script at))
right_by_books script above (commands.Destroy name) below whole = change_at script (stands script above (commands.Destroy name) below whole) changes.Destroy name
right_by_books script above (commands.Remove name) below whole = change_at script (stands script above (commands.Remove name) below whole) changes.Remove name
right_by_books script above (commands.Move name bounds) below whole = change_at script (stands script above (commands.Move name bounds) below whole) (changes.Move bounds) name
right_by_books script above (commands.User name user) below whole = change_at script (stands script above (commands.User name user) below whole) (changes.SetUser user) name
right_by_books script above (commands.Add names) below whole =
    let at = stands script above (commands.Add names) below whole in
    let table = table_at script at in
    let here = is_table_at script at in
    let t = turn_at script at in
    let Shows = IsCause script.world.bodies (interval_at script at) in
    let kept = kept_in table.books [] in
    subst (λ (o : Option (List Known)). IsAddedOf script.world kept Shows o t.reply t.entries) (names_at script at names)
    (subst (λ (world : Config). IsAddedOf world kept Shows (known_all table.books names) t.reply t.entries) here.world
    (add_right table (known_all table.books names) Shows here.under_way.nodes (shows_on script at)))
right_by_books script above (commands.Prepare batch layer names) below whole =
    let at = stands script above (commands.Prepare batch layer names) below whole in
    let table = table_at script at in
    let here = is_table_at script at in
    let t = turn_at script at in
    let Shows = IsCause script.world.bodies (interval_at script at) in
    let kept = kept_in table.books batch layer in
    subst (λ (o : Option (List Known)). IsPreparedOf script.world kept Shows layer o t.reply t.entries) (names_at script at names)
    (subst (λ (world : Config). IsPreparedOf world kept Shows layer (known_all table.books names) t.reply t.entries) here.world
    (prepare_right table batch layer (known_all table.books names) Shows here.under_way.nodes (shows_on script at)))
right_by_books script above (commands.Finalize batch) below whole =
    let at = stands script above (commands.Finalize batch) below whole in
    let table = table_at script at in
    let t = turn_at script at in
    subst (λ (o : Option Prepared). IsSpent (has_batch table.books batch) o (λ p. entries.Join p.layer p.indexes ∷ []) t.reply t.entries) (batch_is script at batch)
    (finalize_right table batch (batch_named table.books batch) (has_batch table.books batch) (is_named table.books batch))
right_by_books script above (commands.Abort batch) below whole =
    let at = stands script above (commands.Abort batch) below whole in
    let table = table_at script at in
    let t = turn_at script at in
    subst (λ (o : Option Prepared). IsSpent (has_batch table.books batch) o (λ p. unmarks p.indexes) t.reply t.entries) (batch_is script at batch)
    (abort_right table batch (batch_named table.books batch) (has_batch table.books batch) (is_named table.books batch))
right_by_books script above (commands.Read name) below whole =
    let at = stands script above (commands.Read name) below whole in
    let n = length (history_at script at) in
    ((n, omega arith, omega arith, subst (λ (s : Scene). AnswersRead s (id_of_name (exchanges_at script at) name) (turn_at script at).reply) (sym (point_with script at)) (answered_at script at)), refl)
right_by_books script above (commands.Multi names) below whole =
    let at = stands script above (commands.Multi names) below whole in
    let n = length (history_at script at) in
    ((n, omega arith, omega arith, subst (λ (s : Scene). AnswersMulti s (ids_of_names (exchanges_at script at) names) (turn_at script at).reply) (sym (point_with script at)) (answered_at script at)), refl)
right_by_books script above (commands.QueryBox mask bounds) below whole =
    let at = stands script above (commands.QueryBox mask bounds) below whole in
    found_at script.world.bodies (history_with script at) (length (history_at script at)) mask (shapes.Box bounds) (turn_at script at).reply (queries_in script at (history_with script at) (point_with script at))
right_by_books script above (commands.QueryPoint mask point) below whole =
    let at = stands script above (commands.QueryPoint mask point) below whole in
    found_at script.world.bodies (history_with script at) (length (history_at script at)) mask (shapes.Point point) (turn_at script at).reply (queries_in script at (history_with script at) (point_with script at))
right_by_books script above (commands.QueryRay mask segment) below whole =
    let at = stands script above (commands.QueryRay mask segment) below whole in
    found_at script.world.bodies (history_with script at) (length (history_at script at)) mask (shapes.Segment segment) (turn_at script at).reply (queries_in script at (history_with script at) (point_with script at))

pub right_at : (script : Script) (at : Standing script)
    → IsRightFor script.world (kept_at script at) 0 (interval_at script at) (exchanges_at script at) at.command (turn_at script at).reply (turn_at script at).entries
right_at script at =
    let kept : kept_in (table_at script at).books ≡ kept_at script at = λ i name layer. kept_is script at name layer i in
    subst (λ (k : List ℕ → ℕ → Kept). IsRightFor script.world k 0 (interval_at script at) (exchanges_at script at) at.command (turn_at script at).reply (turn_at script at).entries) kept
    (right_by_books script at.above at.command at.below at.whole)
