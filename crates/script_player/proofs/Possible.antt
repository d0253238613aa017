-- The entries that a command makes are possible, each in the scene after those before it.
use Rattle.std.proofs.Common.{◌≡◌, ℕ, Bool, true, false, cond, List, [], ◌∷◌, ◌++◌, length, fold, Option, Some, None, IsSomeAnd, refl, sym, subst}
use Rattle.std.specs.List.{range_with_len}
use Rattle.fixed_box.specs.declared.fix_box.FixBox.{FixBox}
use Rattle.body_ident.specs.Id.{Id}
use Rattle.scene_model.specs.declared.body_view.BodyView.{BodyView}
use Rattle.scene_model.specs.declared.body_view.Phase.TheVariants.{Out, Held}
use Rattle.scene_model.specs.declared.entry.Entry.{Entry}
use Rattle.scene_model.specs.declared.entry.Entry.TheVariants.{Join}
use Rattle.scene_model.specs.Need.{need}
use Rattle.scene_model.specs.Scene.{Scene, Record, record_at, next_index}
use Rattle.scene_model.specs.Step.{IsPossible, with_phase}
use Rattle.scene_model.specs.Shown.{after_shown}
use Rattle.script_text.specs.declared.command.Command.{Command}
use Rattle.script_text.specs.declared.command.Command.TheVariants as commands
use Rattle.reply_text.specs.declared.refusal.Refusal.{Refusal}
use Rattle.script_player.specs.declared.books.Known.{Known}
use Rattle.script_player.specs.declared.books.Batch.{Batch}
use Rattle.script_player.specs.declared.bodies.Change.{Change}
use Rattle.script_player.specs.declared.bodies.Change.TheVariants as changes
use Rattle.script_player.specs.Books.{known_at, known_all, has_batch, batch_named}
use Rattle.script_player.specs.Table.{Table, table_with}
use Rattle.script_player.specs.Attempt.{Attempt}
use Rattle.script_player.specs.Body.{body_of, forbids, entry_of, make_change, change_body, change_known}
use Rattle.script_player.specs.Taking.{room_refusal, Marking, marking, marks, unmarks, marked, taking_in, taking}
use Rattle.script_player.specs.Batches.{keep_taken, prepare_known, finalize_batch, abort_batch, join_taken, add_layer, followed, in_layer, add_layers, add_known}
use Rattle.script_player.specs.Turn.{create_turn, turn}
use Rattle.script_player.specs.UnderWay.{ArePossible, IsUnderWay}
use Rattle.script_player.proofs.Marking.{IsReady}
use Rattle.script_player.proofs.Holding.{CanMarkAll, marking_can, marks_can_let_go, join_can_let_go}
use Rattle.script_player.proofs.Spending.{batch_can_join}
use Rattle.script_player.proofs.Batching.{taking_can_join}
use Rattle.script_player.proofs.GoingOn.{possible_change, SameSteps, layer-same, layer_goes_on}

-- entries and then others
possible_append : (scene : Scene) (xs ys : List Entry) → ArePossible scene xs → ArePossible (fold after_shown scene xs) ys → ArePossible scene (xs ++ ys)
possible_append scene [] ys h k = k
possible_append scene (x ∷ xs) ys h k = (h.0, possible_append (after_shown scene x) xs ys h.1 k)

-- ---- one body

make_possible : (table : Table) (entry : Entry) (o : Option Refusal) → (o ≡ None → IsPossible table.scene entry) → ArePossible table.scene (make_change table entry o).entries
make_possible table entry None h = (h refl, tt)
make_possible table entry (Some refusal) h = tt

body_possible : (table : Table) (change : Change) (i : Id) (o : Option BodyView) → body_of table.scene i ≡ o → ArePossible table.scene (change_body table change i.index o).entries
body_possible table change i None e = tt
body_possible table change i (Some v) e = make_possible table (entry_of change i.index) (forbids change v.phase) (possible_change table.scene i v change e)

change_possible : (table : Table) (change : Change) (o : Option Known) → ArePossible table.scene (change_known table change o).entries
change_possible table change None = tt
change_possible table change (Some known) = body_possible table change known.id (body_of table.scene known.id) refl

create_possible : (table : Table) (name : List ℕ) (layer user : ℕ) (bounds : FixBox) (o : Option ℕ) → next_index table.scene ≡ o
    → ArePossible table.scene (create_turn table name layer bounds user o).entries
create_possible table name layer user bounds None e = tt
create_possible table name layer user bounds (Some index) e = (e, tt)

-- ---- batches

is_out : (o : Option Record) (layer : ℕ) → IsSomeAnd o (IsReady layer) → IsSomeAnd o (λ r. r.phase ≡ Out)
is_out None layer h = h
is_out (Some r) layer h = h.0

marks_possible : (indexes : List ℕ) (scene : Scene) (layer : ℕ) → CanMarkAll scene layer indexes → ArePossible scene (marks indexes)
marks_possible [] scene layer can = tt
marks_possible (index ∷ rest) scene layer can = (is_out (record_at scene index) layer can.0, marks_possible rest (with_phase Held scene index) layer can.1)

marked_possible : (scene : Scene) (layer : ℕ) (indexes : List ℕ) (o : Option Refusal) → CanMarkAll scene layer indexes → ArePossible scene (marked indexes o).entries
marked_possible scene layer indexes None can = marks_possible indexes scene layer can
marked_possible scene layer indexes (Some refusal) can =
    possible_append scene (marks indexes) (unmarks indexes) (marks_possible indexes scene layer can) (marks_can_let_go indexes scene layer can)

taking_in_possible : (scene : Scene) (layer : ℕ) (room : Option Refusal) (m : Marking) → CanMarkAll scene layer m.indexes → ArePossible scene (taking_in room m).entries
taking_in_possible scene layer None m can = marked_possible scene layer m.indexes m.refusal can
taking_in_possible scene layer (Some refusal) m can = tt

taking_possible : (table : Table) (layer : ℕ) (bodies : List Known) → ArePossible table.scene (taking table layer bodies).entries
taking_possible table layer bodies =
    taking_in_possible table.scene layer (room_refusal table layer (length bodies)) (marking table.scene layer bodies) (marking_can table.scene layer bodies)

keep_possible : (table : Table) (batch : Batch) (made : List Entry) (o : Option Refusal) → ArePossible table.scene made → ArePossible table.scene (keep_taken table batch made o).entries
keep_possible table batch made None h = h
keep_possible table batch made (Some refusal) h = h

either_possible : (table : Table) (b : Bool) (x y : Attempt) → ArePossible table.scene x.entries → ArePossible table.scene y.entries → ArePossible table.scene (cond b x y).entries
either_possible table true x y h k = h
either_possible table false x y h k = k

prepare_possible : (table : Table) (name : List ℕ) (layer : ℕ) (o : Option (List Known)) → ArePossible table.scene (prepare_known table name layer o).entries
prepare_possible table name layer None = tt
prepare_possible table name layer (Some bodies) =
    let t = taking table layer bodies in
    either_possible table (has_batch table.books name) _ _ tt
    (keep_possible table (record { name = name; layer = layer; indexes = t.indexes; nodes = need (length bodies) }) t.entries t.refusal (taking_possible table layer bodies))

finalize_possible : (table : Table) (name : List ℕ) (o : Option Batch) → batch_named table.books name ≡ o → IsUnderWay table
    → ArePossible table.scene (finalize_batch table name o).entries
finalize_possible table name None e u = tt
finalize_possible table name (Some batch) e u = (batch_can_join table.scene table.books name batch u.held e, tt)

abort_possible : (table : Table) (name : List ℕ) (o : Option Batch) → batch_named table.books name ≡ o → IsUnderWay table → ArePossible table.scene (abort_batch table name o).entries
abort_possible table name None e u = tt
abort_possible table name (Some batch) e u = join_can_let_go table.scene batch.layer batch.indexes (batch_can_join table.scene table.books name batch u.held e)

-- ---- layers

join_possible : (table : Table) (layer nodes : ℕ) (indexes : List ℕ) (made : List Entry) (o : Option Refusal)
    → (o ≡ None → IsPossible (fold after_shown table.scene made) (Join layer indexes)) → ArePossible table.scene made
    → ArePossible table.scene (join_taken table layer nodes indexes made o).entries
join_possible table layer nodes indexes made None join h = possible_append table.scene made (Join layer indexes ∷ []) h (join refl, tt)
join_possible table layer nodes indexes made (Some refusal) join h = h

layer_possible : (table : Table) (layer : ℕ) (bodies : List Known) → ArePossible table.scene (add_layer table layer bodies).entries
layer_possible table layer [] = tt
layer_possible table layer (known ∷ bodies) =
    let t = taking table layer (known ∷ bodies) in
    join_possible table layer (need (length (known ∷ bodies))) t.indexes t.entries t.refusal (λ e. (taking_can_join table layer (known ∷ bodies) e).join)
    (taking_possible table layer (known ∷ bodies))

followed_possible : (table : Table) (o : Option Refusal) (first later : Attempt) → SameSteps first.entries → ArePossible table.scene first.entries
    → ArePossible (table_with table first.entries first.books).scene later.entries → ArePossible table.scene (followed o first later).entries
followed_possible table None first later same h k =
    possible_append table.scene first.entries later.entries h (subst (λ (s : Scene). ArePossible s later.entries) (sym (same table.scene)) k)
followed_possible table (Some refusal) first later same h k = h

layers_possible : (bodies : List Known) (layers : List ℕ) (table : Table) → IsUnderWay table → ArePossible table.scene (add_layers table bodies layers).entries
layers_possible bodies [] table u = tt
layers_possible bodies (layer ∷ layers) table u =
    let part = in_layer layer bodies in
    let first = add_layer table layer part in
    let next = table_with table first.entries first.books in
    let same = layer-same table layer part in
    let P : Scene → Type 0 = λ s. IsUnderWay (record table { scene = s; books = first.books }) in
    let u1 : IsUnderWay next = subst P (same table.scene) (layer_goes_on table layer part u) in
    followed_possible table first.refusal first (add_layers next bodies layers) same (layer_possible table layer part) (layers_possible bodies layers next u1)

add_possible : (table : Table) (o : Option (List Known)) → IsUnderWay table → ArePossible table.scene (add_known table o).entries
add_possible table None u = tt
add_possible table (Some bodies) u = layers_possible bodies (range_with_len 0 table.world.layers) table u

-- ---- every command

pub turn_possible : (table : Table) (c : Command) → IsUnderWay table → ArePossible table.scene (turn table c).entries
turn_possible table (commands.Create name layer bounds user) u = create_possible table name layer user bounds (next_index table.scene) refl
turn_possible table (commands.Destroy name) u = change_possible table changes.Destroy (known_at table.books name)
turn_possible table (commands.Add names) u = add_possible table (known_all table.books names) u
turn_possible table (commands.Prepare batch layer names) u = prepare_possible table batch layer (known_all table.books names)
turn_possible table (commands.Finalize batch) u = finalize_possible table batch (batch_named table.books batch) refl u
turn_possible table (commands.Abort batch) u = abort_possible table batch (batch_named table.books batch) refl u
turn_possible table (commands.Remove name) u = change_possible table changes.Remove (known_at table.books name)
turn_possible table (commands.Move name bounds) u = change_possible table (changes.Move bounds) (known_at table.books name)
turn_possible table (commands.User name user) u = change_possible table (changes.SetUser user) (known_at table.books name)
turn_possible table (commands.Read name) u = tt
turn_possible table (commands.Multi names) u = tt
turn_possible table (commands.QueryBox mask bounds) u = tt
turn_possible table (commands.QueryPoint mask at) u = tt
turn_possible table (commands.QueryRay mask segment) u = tt
