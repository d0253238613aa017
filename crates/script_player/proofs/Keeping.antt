-- What batches keep by the books is what the replies and the entries tell.
use Rattle.std.proofs.Common.{◌≡◌, ℕ, ◌+◌, Bool, true, false, ◌||◌, cond, eqb, List, [], ◌∷◌, ◌++◌, length, map, Option, Some, None, refl, ap, sym, subst, ◌∙◌, bytes_eq, sum_by, count_by, arith, option_map, inl, inr}
use Rattle.std.specs.List.{range_with_len, list_any, find}
use Rattle.std.proofs.lemmas.Bool.{cases_Bool}
use Rattle.std.proofs.lemmas.List.{map_push}
use Rattle.std.proofs.lemmas.List.Sums.{sum_by-cons}
use Rattle.fixed_box.specs.declared.fix_box.FixBox.{FixBox}
use Rattle.scene_model.specs.declared.body_view.BodyView.{BodyView}
use Rattle.scene_model.specs.declared.entry.Entry.{Entry}
use Rattle.scene_model.specs.declared.entry.Entry.TheVariants.{Join}
use Rattle.scene_model.specs.Need.{need}
use Rattle.scene_model.specs.Scene.{next_index}
use Rattle.script_text.specs.declared.command.Command.{Command}
use Rattle.script_text.specs.declared.command.Command.TheVariants as commands
use Rattle.script_text.specs.declared.script.Script.{Script}
use Rattle.reply_text.specs.declared.refusal.Refusal.{Refusal}
use Rattle.reply_text.specs.declared.refusal.Refusal.TheVariants as refusals
use Rattle.script_player.specs.declared.books.Known.{Known}
use Rattle.script_player.specs.declared.books.Batch.{Batch}
use Rattle.script_player.specs.declared.bodies.Change.{Change}
use Rattle.script_player.specs.declared.bodies.Change.TheVariants as changes
use Rattle.script_player.specs.Books.{Books, known_at, known_all, has_batch, batch_place, batch_named, spent, with_batch, with_attached, slots_kept, nodes_kept}
use Rattle.script_player.specs.Table.{Table, empty_table, table_with}
use Rattle.script_player.specs.Attempt.{Attempt, refused, outcome}
use Rattle.script_player.specs.Body.{body_of, forbids, entry_of, make_change, change_body, change_known}
use Rattle.script_player.specs.Taking.{room_refusal, marking, marks, unmarks, taking}
use Rattle.script_player.specs.Batches.{keep_taken, prepare_known, finalize_batch, abort_batch, join_taken, add_layer, followed, in_layer, add_layers, add_known}
use Rattle.script_player.specs.Turn.{create_turn, turn, table_after}
use Rattle.script_player.specs.Report.{table_below, entries_made}
use Rattle.script_player.specs.Standing.{Standing, table_at}
use Rattle.script_player.specs.Exchange.{exchanges, exchanges_at}
use Rattle.script_player.specs.Prepared.{Prepared, without, where_done, prepared_by, prepared_from, marked_by, joins, nodes_joined, kept_at}
use Rattle.script_player.proofs.Preparing.{named_is_found, kept_in}
use Rattle.script_player.proofs.Joins.{AreJoinless, joinless_none, joinless_cons, joinless_unmarks, joinless_taking, joinless_change, Attaches, attaches_none, attaches_more, attaches_join}
use Rattle.script_player.proofs.PreparedBatches.{prepared_of, AreSized, Holds, holds_same, sized_push, spent_attached, sized_found, holds_spent}
use Rattle.script_player.proofs.Taken.{are_taken, all_taken, all_known, prepare_takes}

-- ---- one command

-- what a turn does to what batches keep
pub record Keeps (old new : Books) (made : List Entry) (held later : List Prepared) : Type 0 where
  pub attaches : Attaches old new made
  pub holds : Holds old held → Holds new later

keeps_same : (old new : Books) (made : List Entry) (held : List Prepared) → new.prepared ≡ old.prepared → new.attached ≡ old.attached → AreJoinless made
    → Keeps old new made held held
keeps_same old new made held prepared attached h = record { attaches = attaches_none old new made attached h; holds = holds_same old new held prepared }

abbrev Tried : Table → Attempt → List Prepared → List Prepared → Type 0
Tried table a held later = Keeps table.books a.books a.entries held later

create_keeps : (table : Table) (name : List ℕ) (layer user : ℕ) (bounds : FixBox) (o : Option ℕ) (held : List Prepared)
    → Keeps table.books (create_turn table name layer bounds user o).books (create_turn table name layer bounds user o).entries held held
create_keeps table name layer user bounds None held = keeps_same table.books _ [] held refl refl joinless_none
create_keeps table name layer user bounds (Some index) held = keeps_same table.books _ _ held refl refl (joinless_cons _ [] (λ l. refl) refl joinless_none)

make_keeps : (table : Table) (entry : Entry) (o : Option Refusal) (held : List Prepared) → AreJoinless (entry ∷ []) → Tried table (make_change table entry o) held held
make_keeps table entry None held h = keeps_same table.books table.books (entry ∷ []) held refl refl h
make_keeps table entry (Some refusal) held h = keeps_same table.books table.books [] held refl refl joinless_none

body_keeps : (table : Table) (change : Change) (index : ℕ) (o : Option BodyView) (held : List Prepared) → Tried table (change_body table change index o) held held
body_keeps table change index None held = keeps_same table.books table.books [] held refl refl joinless_none
body_keeps table change index (Some v) held = make_keeps table (entry_of change index) (forbids change v.phase) held (joinless_change change index)

change_keeps : (table : Table) (change : Change) (o : Option Known) (held : List Prepared) → Tried table (change_known table change o) held held
change_keeps table change None held = keeps_same table.books table.books [] held refl refl joinless_none
change_keeps table change (Some known) held = body_keeps table change known.id.index (body_of table.scene known.id) held

holds_push : (books : Books) (batch : Batch) (held : List Prepared) → batch.nodes ≡ need (length batch.indexes) → Holds books held
    → Holds (with_batch books batch) (held ++ prepared_of batch ∷ [])
holds_push books batch held size h = record {
  prepared = map_push prepared_of books.prepared batch ∙ ap (λ (ps : List Prepared). ps ++ prepared_of batch ∷ []) h.prepared;
  sized = sized_push books.prepared batch h.sized size;
}

keep_keeps : (table : Table) (batch : Batch) (made : List Entry) (o : Option Refusal) (held : List Prepared) (asked : Prepared) → AreJoinless made
    → (o ≡ None → batch.nodes ≡ need (length batch.indexes)) → ((keep_taken table batch made o).refusal ≡ None → prepared_of batch ≡ asked)
    → Tried table (keep_taken table batch made o) held (where_done (outcome (keep_taken table batch made o).refusal) (held ++ asked ∷ []) held)
keep_keeps table batch made None held asked h size is = record {
  attaches = attaches_none table.books (with_batch table.books batch) made refl h;
  holds = λ old. subst (λ (p : Prepared). Holds (with_batch table.books batch) (held ++ p ∷ [])) (is refl) (holds_push table.books batch held (size refl) old);
}
keep_keeps table batch made (Some refusal) held asked h size is = keeps_same table.books table.books made held refl refl h

named_keeps : (table : Table) (named : Bool) (a : Attempt) (held : List Prepared) (batch : Batch) (asked : Prepared)
    → ((cond named (refused table refusals.Batch) a).refusal ≡ None → prepared_of batch ≡ asked)
    → ((a.refusal ≡ None → prepared_of batch ≡ asked) → Tried table a held (where_done (outcome a.refusal) (held ++ asked ∷ []) held))
    → Tried table (cond named (refused table refusals.Batch) a) held (where_done (outcome (cond named (refused table refusals.Batch) a).refusal) (held ++ asked ∷ []) held)
named_keeps table true a held batch asked is h = keeps_same table.books table.books [] held refl refl joinless_none
named_keeps table false a held batch asked is h = h is

marked_by-marks : (indexes : List ℕ) → marked_by (marks indexes) ≡ indexes
marked_by-marks [] = refl
marked_by-marks (index ∷ rest) = ap (λ (xs : List ℕ). index ∷ xs) (marked_by-marks rest)

prepare_keeps : (table : Table) (name : List ℕ) (layer count : ℕ) (o : Option (List Known)) (held : List Prepared) → ((bodies : List Known) → o ≡ Some bodies → length bodies ≡ count)
    → let a = prepare_known table name layer o in
    Tried table a held (where_done (outcome a.refusal) (held ++ record { name = name; layer = layer; bodies = count; indexes = marked_by a.entries } ∷ []) held)
prepare_keeps table name layer count None held long = keeps_same table.books table.books [] held refl refl joinless_none
prepare_keeps table name layer count (Some bodies) held long =
    let t = taking table layer bodies in
    let batch : Batch = record { name = name; layer = layer; indexes = t.indexes; nodes = need (length bodies) } in
    let a = prepare_known table name layer (Some bodies) in
    let asked : Prepared = record { name = name; layer = layer; bodies = count; indexes = marked_by a.entries } in
    let indexes = map (λ (k : Known). k.id.index) bodies in
    let is : a.refusal ≡ None → prepared_of batch ≡ asked = λ e.
    let done = prepare_takes table name layer bodies e in
    let taken = are_taken table layer bodies done.0 in
    let own : t.indexes ≡ marked_by a.entries = taken.indexes ∙ sym (ap marked_by (done.1 ∙ taken.entries) ∙ marked_by-marks indexes) in
    let size : length t.indexes ≡ count = all_taken table layer bodies done.0 ∙ long bodies refl in
    λ i. record { name = name; layer = layer; bodies = size i; indexes = own i } in
    named_keeps table (has_batch table.books name) (keep_taken table batch t.entries t.refusal) held batch asked is
    (keep_keeps table batch t.entries t.refusal held asked (joinless_taking (room_refusal table layer (length bodies)) (marking table.scene layer bodies))
    (λ e. ap need (sym (all_taken table layer bodies e))))

finalize_keeps : (table : Table) (name : List ℕ) (o : Option Batch) (held : List Prepared) → batch_named table.books name ≡ o → AreSized table.books.prepared
    → Tried table (finalize_batch table name o) held (where_done (outcome (finalize_batch table name o).refusal) (without name held) held)
finalize_keeps table name None held e sized = keeps_same table.books table.books [] held refl refl joinless_none
finalize_keeps table name (Some batch) held e sized =
    let left = spent table.books name in
    let size = sized_found table.books.prepared (λ b. bytes_eq b.name name) batch sized (sym (named_is_found table.books name) ∙ e) in
    record {
      attaches = attaches_join table.books left batch.layer batch.nodes batch.indexes (spent_attached table.books (batch_place table.books name)) size;
      holds = λ old. holds_same left (with_attached left batch.layer batch.nodes) (without name held) refl (holds_spent table.books name held old);
    }

abort_keeps : (table : Table) (name : List ℕ) (o : Option Batch) (held : List Prepared)
    → Tried table (abort_batch table name o) held (where_done (outcome (abort_batch table name o).refusal) (without name held) held)
abort_keeps table name None held = keeps_same table.books table.books [] held refl refl joinless_none
abort_keeps table name (Some batch) held = record {
  attaches = attaches_none table.books (spent table.books name) (unmarks batch.indexes) (spent_attached table.books (batch_place table.books name)) (joinless_unmarks batch.indexes);
  holds = holds_spent table.books name held;
}

-- ---- layers

-- no batch is prepared or given up
pub record Adds (old new : Books) (made : List Entry) : Type 0 where
  pub prepared : new.prepared ≡ old.prepared
  pub attaches : Attaches old new made

pub adds_none : (books : Books) (made : List Entry) → AreJoinless made → Adds books books made
adds_none books made h = record { prepared = refl; attaches = attaches_none books books made refl h }

pub join_adds : (table : Table) (layer nodes : ℕ) (indexes : List ℕ) (made : List Entry) (o : Option Refusal) → (o ≡ None → nodes ≡ need (length indexes)) → AreJoinless made
    → Adds table.books (join_taken table layer nodes indexes made o).books (join_taken table layer nodes indexes made o).entries
join_adds table layer nodes indexes made None size h =
    let books = table.books in
    record {
      prepared = refl;
      attaches = attaches_more books books (with_attached books layer nodes) made (Join layer indexes ∷ []) (attaches_none books books made refl h)
          (attaches_join books books layer nodes indexes refl (size refl));
    }
join_adds table layer nodes indexes made (Some refusal) size h = adds_none table.books made h

layer_adds : (table : Table) (layer : ℕ) (bodies : List Known) → Adds table.books (add_layer table layer bodies).books (add_layer table layer bodies).entries
layer_adds table layer [] = adds_none table.books [] joinless_none
layer_adds table layer (known ∷ bodies) =
    let t = taking table layer (known ∷ bodies) in
    join_adds table layer (need (length (known ∷ bodies))) t.indexes t.entries t.refusal (λ e. ap need (sym (all_taken table layer (known ∷ bodies) e)))
    (joinless_taking (room_refusal table layer (length (known ∷ bodies))) (marking table.scene layer (known ∷ bodies)))

followed_adds : (books : Books) (o : Option Refusal) (first later : Attempt) → Adds books first.books first.entries → Adds first.books later.books later.entries
    → Adds books (followed o first later).books (followed o first later).entries
followed_adds books None first later h k = record {
  prepared = k.prepared ∙ h.prepared;
  attaches = attaches_more books first.books later.books first.entries later.entries h.attaches k.attaches;
}
followed_adds books (Some refusal) first later h k = h

layers_add : (bodies : List Known) (layers : List ℕ) (table : Table) → Adds table.books (add_layers table bodies layers).books (add_layers table bodies layers).entries
layers_add bodies [] table = adds_none table.books [] joinless_none
layers_add bodies (layer ∷ layers) table =
    let first = add_layer table layer (in_layer layer bodies) in
    let next = table_with table first.entries first.books in
    followed_adds table.books first.refusal first (add_layers next bodies layers) (layer_adds table layer (in_layer layer bodies)) (layers_add bodies layers next)

known_adds : (table : Table) (o : Option (List Known)) → Adds table.books (add_known table o).books (add_known table o).entries
known_adds table None = adds_none table.books [] joinless_none
known_adds table (Some bodies) = layers_add bodies (range_with_len 0 table.world.layers) table

-- ---- every command

turn_keeps : (table : Table) (c : Command) (held : List Prepared) → Holds table.books held
    → Keeps table.books (turn table c).books (turn table c).entries held (prepared_by held c (turn table c).reply (turn table c).entries)
turn_keeps table (commands.Create name layer bounds user) held h = create_keeps table name layer user bounds (next_index table.scene) held
turn_keeps table (commands.Destroy name) held h = change_keeps table changes.Destroy (known_at table.books name) held
turn_keeps table (commands.Add names) held h =
    let a = add_known table (known_all table.books names) in
    let adds = known_adds table (known_all table.books names) in
    record { attaches = adds.attaches; holds = holds_same table.books a.books held adds.prepared }
turn_keeps table (commands.Prepare batch layer names) held h =
    prepare_keeps table batch layer (length names) (known_all table.books names) held (λ bodies e. all_known table.books names bodies e)
turn_keeps table (commands.Finalize batch) held h = finalize_keeps table batch (batch_named table.books batch) held refl h.sized
turn_keeps table (commands.Abort batch) held h = abort_keeps table batch (batch_named table.books batch) held
turn_keeps table (commands.Remove name) held h = change_keeps table changes.Remove (known_at table.books name) held
turn_keeps table (commands.Move name bounds) held h = change_keeps table (changes.Move bounds) (known_at table.books name) held
turn_keeps table (commands.User name user) held h = change_keeps table (changes.SetUser user) (known_at table.books name) held
turn_keeps table (commands.Read name) held h = keeps_same table.books table.books [] held refl refl joinless_none
turn_keeps table (commands.Multi names) held h = keeps_same table.books table.books [] held refl refl joinless_none
turn_keeps table (commands.QueryBox mask bounds) held h = keeps_same table.books table.books [] held refl refl joinless_none
turn_keeps table (commands.QueryPoint mask at) held h = keeps_same table.books table.books [] held refl refl joinless_none
turn_keeps table (commands.QueryRay mask segment) held h = keeps_same table.books table.books [] held refl refl joinless_none

-- ---- command after command

pub record KeepsAll (old new : Books) (made : List Entry) (later : List Prepared) : Type 0 where
  pub attaches : Attaches old new made
  pub holds : Holds new later

below_keeps : (cs : List Command) (table : Table) (held : List Prepared) → Holds table.books held
    → KeepsAll table.books (table_below table cs).books (entries_made table cs) (prepared_from held (exchanges table cs))
below_keeps [] table held h = record { attaches = attaches_none table.books table.books [] refl joinless_none; holds = h }
below_keeps (c ∷ cs) table held h =
    let t = turn table c in
    let after = table_after table t in
    let k = turn_keeps table c held h in
    let rest = below_keeps cs after (prepared_by held c t.reply t.entries) (k.holds h) in
    record { attaches = attaches_more table.books t.books (table_below after cs).books t.entries (entries_made after cs) k.attaches rest.attaches; holds = rest.holds }

named_by_all : (batches : List Batch) (name : List ℕ) → list_any (λ b. bytes_eq b.name name) batches ≡ list_any (λ p. bytes_eq p.name name) (map prepared_of batches)
named_by_all [] name = refl
named_by_all (b ∷ batches) name = ap (λ (x : Bool). bytes_eq b.name name || x) (named_by_all batches name)

found_by_all : (batches : List Batch) (name : List ℕ) → option_map prepared_of (find (λ b. bytes_eq b.name name) batches) ≡ find (λ p. bytes_eq p.name name) (map prepared_of batches)
found_by_all [] name = refl
found_by_all (b ∷ batches) name = elim (cases_Bool (bytes_eq b.name name)) [
  | inl same ↦ rw same refl
  | inr other ↦ rw other (found_by_all batches name)
]

slots_by_all : (batches : List Batch) (layer : ℕ) → count_by (λ b. eqb b.layer layer) batches ≡ count_by (λ p. eqb p.layer layer) (map prepared_of batches)
slots_by_all [] layer = refl
slots_by_all (b ∷ batches) layer =
    sum_by-cons (λ (b : Batch). cond (eqb b.layer layer) 1 0) b batches
    ∙ ap (λ (n : ℕ). cond (eqb b.layer layer) 1 0 + n) (slots_by_all batches layer)
    ∙ sym (sum_by-cons (λ (p : Prepared). cond (eqb p.layer layer) 1 0) (prepared_of b) (map prepared_of batches))

nodes_by_all : (batches : List Batch) → AreSized batches → sum_by (λ b. b.nodes) batches ≡ sum_by (λ p. need p.bodies) (map prepared_of batches)
nodes_by_all [] h = refl
nodes_by_all (b ∷ batches) h =
    sum_by-cons (λ (b : Batch). b.nodes) b batches
    ∙ ap (λ (n : ℕ). n + sum_by (λ (b : Batch). b.nodes) batches) h.0
    ∙ ap (λ (n : ℕ). need (length b.indexes) + n) (nodes_by_all batches h.1)
    ∙ sym (sum_by-cons (λ (p : Prepared). need p.bodies) (prepared_of b) (map prepared_of batches))

-- the batch that has a name, by the books and by the exchanges
pub batch_is : (script : Script) (at : Standing script) (name : List ℕ)
    → option_map prepared_of (batch_named (table_at script at).books name) ≡ find (λ p. bytes_eq p.name name) (prepared_from [] (exchanges_at script at))
batch_is script at name =
    let table = empty_table script.world in
    let books = (table_at script at).books in
    let k = below_keeps at.above table [] (record { prepared = refl; sized = tt }) in
    ap (λ (o : Option Batch). option_map prepared_of o) (named_is_found books name)
    ∙ found_by_all books.prepared name
    ∙ ap (λ (ps : List Prepared). find (λ p. bytes_eq p.name name) ps) k.holds.prepared

-- what batches keep where a command stands
pub kept_is : (script : Script) (at : Standing script) (name : List ℕ) (layer : ℕ) → kept_in (table_at script at).books name layer ≡ kept_at script at name layer
kept_is script at name layer =
    let table = empty_table script.world in
    let books = (table_at script at).books in
    let held = prepared_from [] (exchanges table at.above) in
    let made = entries_made table at.above in
    let k = below_keeps at.above table [] (record { prepared = refl; sized = tt }) in
    let named : has_batch books name ≡ list_any (λ p. bytes_eq p.name name) held =
    named_by_all books.prepared name ∙ ap (λ (ps : List Prepared). list_any (λ p. bytes_eq p.name name) ps) k.holds.prepared in
    let slots_prepared : count_by (λ b. eqb b.layer layer) books.prepared ≡ count_by (λ p. eqb p.layer layer) held =
    slots_by_all books.prepared layer ∙ ap (λ (ps : List Prepared). count_by (λ p. eqb p.layer layer) ps) k.holds.prepared in
    let nodes_prepared : sum_by (λ b. b.nodes) books.prepared ≡ sum_by (λ p. need p.bodies) held =
    nodes_by_all books.prepared k.holds.sized ∙ ap (λ (ps : List Prepared). sum_by (λ p. need p.bodies) ps) k.holds.prepared in
    let slots : slots_kept books layer ≡ count_by (λ p. eqb p.layer layer) held + count_by (joins layer) made = omega (arith, slots_prepared, k.attaches.slots layer) in
    let nodes : nodes_kept books ≡ sum_by (λ p. need p.bodies) held + sum_by nodes_joined made = omega (arith, nodes_prepared, k.attaches.nodes) in
    λ i. record { named = named i; slots = slots i; nodes = nodes i }
