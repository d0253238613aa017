-- A turn on what is shown of a table is the turn on the table.
use Rattle.std.proofs.Common.{◌≡◌, ℕ, ◌+◌, ◌%◌, cond, List, [], ◌∷◌, length, map, fold, eqb, Option, Some, None, option_and_then, refl, ap, sym, ◌∙◌, arith}
use Rattle.std.specs.List.{range_with_len}
use Rattle.fixed_box.specs.declared.fix_box.FixBox.{FixBox}
use Rattle.fixed_box.specs.declared.shape.Shape.TheVariants as shapes
use Rattle.shape_test.specs.Touched.{is_touched}
use Rattle.body_ident.specs.Id.{Id, id_of}
use Rattle.scene_model.specs.declared.body_view.BodyView.{BodyView}
use Rattle.scene_model.specs.declared.entry.Entry.{Entry}
use Rattle.scene_model.specs.declared.entry.Entry.TheVariants.{Mark}
use Rattle.scene_model.specs.Need.{need}
use Rattle.scene_model.specs.Scene.{Scene, Place, place_at, next_index}
use Rattle.scene_model.specs.Step.{after_entry}
use Rattle.scene_model.specs.Shown.{shown, after_shown}
use Rattle.scene_model.proofs.ShownReads.{view_at-shown, next_index-shown, hits-shown}
use Rattle.scene_model.proofs.ShownSteps.{place_at-shown, shown-after_entry}
use Rattle.reply_text.specs.declared.multi.MultiItem.{MultiItem}
use Rattle.reply_text.specs.declared.reply.Reply.TheVariants as replies
use Rattle.reply_text.specs.declared.refusal.Refusal.{Refusal}
use Rattle.reply_text.specs.declared.refusal.Refusal.TheVariants as refusals
use Rattle.script_text.specs.declared.command.Command.{Command}
use Rattle.script_text.specs.declared.command.Command.TheVariants as commands
use Rattle.script_player.specs.declared.books.Known.{Known}
use Rattle.script_player.specs.declared.books.Batch.{Batch}
use Rattle.script_player.specs.declared.bodies.Change.{Change}
use Rattle.script_player.specs.declared.bodies.Change.TheVariants as changes
use Rattle.script_player.specs.Books.{Books, known_at, known_all, has_batch, batch_named}
use Rattle.script_player.specs.Table.{Table, table_with}
use Rattle.script_player.specs.Attempt.{Attempt, refused}
use Rattle.script_player.specs.Body.{body_of, forbids, entry_of, make_change, change_body, change_known, read_body, read_known, item_of, multi_known}
use Rattle.script_player.specs.Taking.{room_refusal, marking_on, mark_refusal, view_refusal, marking, Taking, taking_in, taking}
use Rattle.script_player.specs.Batches.{keep_taken, prepare_taken, prepare_known, finalize_batch, abort_batch, join_taken, add_layer, followed, in_layer, add_layers, add_known}
use Rattle.script_player.specs.Turn.{Turn, turn_of, created_turn, create_turn, answered, turn, table_after}
use Rattle.script_player.specs.Shown.{shown_table, shown_after}
use Rattle.script_player.proofs.GoingOn.{SameSteps, layer-same}

-- ---- one body

id-shown : (scene : Scene) (index : ℕ) → id_of index ((place_at (shown scene) index).creations + 1) ≡ id_of index ((place_at scene index).creations + 1)
id-shown scene index =
    let counted : (place_at (shown scene) index).creations ≡ (place_at scene index).creations % 256 = ap (λ (p : Place). p.creations) (place_at-shown scene index) in
    let n = (place_at scene index).creations in
    let same : (n % 256 + 1) % 256 ≡ (n + 1) % 256 = omega arith in
    let seq : ((place_at (shown scene) index).creations + 1) % 256 ≡ (n + 1) % 256 = ap (λ (k : ℕ). (k + 1) % 256) counted ∙ same in
    let id : ℕ → Id = λ k. record { index = index; seq = k } in
    ap id seq

create-shown : (table : Table) (name : List ℕ) (layer user : ℕ) (bounds : FixBox) (o : Option ℕ) → create_turn (shown_table table) name layer bounds user o ≡ create_turn table name layer bounds user o
create-shown table name layer user bounds None = refl
create-shown table name layer user bounds (Some index) = ap (created_turn table name layer bounds user index) (id-shown table.scene index)

pub body_of-shown : (scene : Scene) (i : Id) → body_of (shown scene) i ≡ body_of scene i
body_of-shown scene i = ap (option_and_then (λ (v : BodyView). cond (eqb v.id.seq i.seq) (Some v) None)) (view_at-shown scene i.index)

make-shown : (table : Table) (entry : Entry) (o : Option Refusal) → make_change (shown_table table) entry o ≡ make_change table entry o
make-shown table entry None = refl
make-shown table entry (Some refusal) = refl

body-shown : (table : Table) (change : Change) (index : ℕ) (o : Option BodyView) → change_body (shown_table table) change index o ≡ change_body table change index o
body-shown table change index None = refl
body-shown table change index (Some v) = make-shown table (entry_of change index) (forbids change v.phase)

change-shown : (table : Table) (change : Change) (o : Option Known) → change_known (shown_table table) change o ≡ change_known table change o
change-shown table change None = refl
change-shown table change (Some known) =
    ap (change_body (shown_table table) change known.id.index) (body_of-shown table.scene known.id) ∙ body-shown table change known.id.index (body_of table.scene known.id)

read-shown : (scene : Scene) (o : Option Known) → read_known (shown scene) o ≡ read_known scene o
read-shown scene None = refl
read-shown scene (Some known) = ap read_body (body_of-shown scene known.id)

items-shown : (scene : Scene) (bodies : List Known) → map (λ known. item_of (body_of (shown scene) known.id)) bodies ≡ map (λ known. item_of (body_of scene known.id)) bodies
items-shown scene [] = refl
items-shown scene (known ∷ bodies) =
    ap (λ (i : MultiItem). i ∷ map (λ k. item_of (body_of (shown scene) k.id)) bodies) (ap item_of (body_of-shown scene known.id))
    ∙ ap (λ (is : List MultiItem). item_of (body_of scene known.id) ∷ is) (items-shown scene bodies)

multi-shown : (scene : Scene) (o : Option (List Known)) → multi_known (shown scene) o ≡ multi_known scene o
multi-shown scene None = refl
multi-shown scene (Some bodies) = ap (λ (is : List MultiItem). replies.Multi is) (items-shown scene bodies)

-- ---- batches

marking-shown : (bodies : List Known) (scene : Scene) (layer : ℕ) → marking (shown scene) layer bodies ≡ marking scene layer bodies
marking-shown [] scene layer = refl
marking-shown (known ∷ bodies) scene layer =
    let index = known.id.index in
    let after = after_entry scene (Mark index) in
    ap (λ (o : Option BodyView). marking_on index (view_refusal layer o) (marking (after_entry (shown scene) (Mark index)) layer bodies)) (body_of-shown scene known.id)
    ∙ ap (λ (s : Scene). marking_on index (mark_refusal scene layer known.id) (marking s layer bodies)) (sym (shown-after_entry scene (Mark index)))
    ∙ ap (marking_on index (mark_refusal scene layer known.id)) (marking-shown bodies after layer)

taking-shown : (table : Table) (layer : ℕ) (bodies : List Known) → taking (shown_table table) layer bodies ≡ taking table layer bodies
taking-shown table layer bodies = ap (taking_in (room_refusal table layer (length bodies))) (marking-shown bodies table.scene layer)

keep-shown : (table : Table) (batch : Batch) (made : List Entry) (o : Option Refusal) → keep_taken (shown_table table) batch made o ≡ keep_taken table batch made o
keep-shown table batch made None = refl
keep-shown table batch made (Some refusal) = refl

prepare-shown : (table : Table) (name : List ℕ) (layer : ℕ) (o : Option (List Known)) → prepare_known (shown_table table) name layer o ≡ prepare_known table name layer o
prepare-shown table name layer None = refl
prepare-shown table name layer (Some bodies) =
    let t = taking table layer bodies in
    ap (λ (a : Attempt). cond (has_batch table.books name) (refused table refusals.Batch) a)
    (ap (prepare_taken (shown_table table) name layer (length bodies)) (taking-shown table layer bodies)
    ∙ keep-shown table (record { name = name; layer = layer; indexes = t.indexes; nodes = need (length bodies) }) t.entries t.refusal)

finalize-shown : (table : Table) (name : List ℕ) (o : Option Batch) → finalize_batch (shown_table table) name o ≡ finalize_batch table name o
finalize-shown table name None = refl
finalize-shown table name (Some batch) = refl

abort-shown : (table : Table) (name : List ℕ) (o : Option Batch) → abort_batch (shown_table table) name o ≡ abort_batch table name o
abort-shown table name None = refl
abort-shown table name (Some batch) = refl

join-shown : (table : Table) (layer nodes : ℕ) (indexes : List ℕ) (made : List Entry) (o : Option Refusal)
    → join_taken (shown_table table) layer nodes indexes made o ≡ join_taken table layer nodes indexes made o
join-shown table layer nodes indexes made None = refl
join-shown table layer nodes indexes made (Some refusal) = refl

layer-shown : (table : Table) (layer : ℕ) (bodies : List Known) → add_layer (shown_table table) layer bodies ≡ add_layer table layer bodies
layer-shown table layer [] = refl
layer-shown table layer (known ∷ bodies) =
    let t = taking table layer (known ∷ bodies) in
    let nodes = need (length (known ∷ bodies)) in
    ap (λ (t : Taking). join_taken (shown_table table) layer nodes t.indexes t.entries t.refusal) (taking-shown table layer (known ∷ bodies))
    ∙ join-shown table layer nodes t.indexes t.entries t.refusal

entries-shown : (entries : List Entry) (scene : Scene) → fold after_shown (shown scene) entries ≡ shown (fold after_entry scene entries)
entries-shown [] scene = refl
entries-shown (e ∷ entries) scene = ap (λ (s : Scene). fold after_shown s entries) (sym (shown-after_entry scene e)) ∙ entries-shown entries (after_entry scene e)

with-shown : (table : Table) (entries : List Entry) (books : Books) → SameSteps entries → table_with (shown_table table) entries books ≡ shown_table (table_with table entries books)
with-shown table entries books same =
    ap (λ (s : Scene). record table { scene = s; books = books }) (sym (same (shown table.scene)) ∙ entries-shown entries table.scene)

layers-shown : (bodies : List Known) (layers : List ℕ) (table : Table) → add_layers (shown_table table) bodies layers ≡ add_layers table bodies layers
layers-shown bodies [] table = refl
layers-shown bodies (layer ∷ layers) table =
    let part = in_layer layer bodies in
    let first = add_layer table layer part in
    ap (λ (a : Attempt). followed a.refusal a (add_layers (table_with (shown_table table) a.entries a.books) bodies layers)) (layer-shown table layer part)
    ∙ ap (λ (t : Table). followed first.refusal first (add_layers t bodies layers)) (with-shown table first.entries first.books (layer-same table layer part))
    ∙ ap (followed first.refusal first) (layers-shown bodies layers (table_with table first.entries first.books))

add-shown : (table : Table) (o : Option (List Known)) → add_known (shown_table table) o ≡ add_known table o
add-shown table None = refl
add-shown table (Some bodies) = layers-shown bodies (range_with_len 0 table.world.layers) table

-- ---- every command

pub turn-shown : (table : Table) (c : Command) → turn (shown_table table) c ≡ turn table c
turn-shown table (commands.Create name layer bounds user) =
    ap (create_turn (shown_table table) name layer bounds user) (next_index-shown table.scene) ∙ create-shown table name layer user bounds (next_index table.scene)
turn-shown table (commands.Destroy name) = ap turn_of (change-shown table changes.Destroy (known_at table.books name))
turn-shown table (commands.Add names) = ap turn_of (add-shown table (known_all table.books names))
turn-shown table (commands.Prepare batch layer names) = ap turn_of (prepare-shown table batch layer (known_all table.books names))
turn-shown table (commands.Finalize batch) = ap turn_of (finalize-shown table batch (batch_named table.books batch))
turn-shown table (commands.Abort batch) = ap turn_of (abort-shown table batch (batch_named table.books batch))
turn-shown table (commands.Remove name) = ap turn_of (change-shown table changes.Remove (known_at table.books name))
turn-shown table (commands.Move name bounds) = ap turn_of (change-shown table (changes.Move bounds) (known_at table.books name))
turn-shown table (commands.User name user) = ap turn_of (change-shown table (changes.SetUser user) (known_at table.books name))
turn-shown table (commands.Read name) = ap (answered table) (read-shown table.scene (known_at table.books name))
turn-shown table (commands.Multi names) = ap (answered table) (multi-shown table.scene (known_all table.books names))
turn-shown table (commands.QueryBox mask bounds) = ap (λ (ids : List Id). answered table (replies.Hits ids)) (hits-shown (is_touched (shapes.Box bounds)) mask table.scene)
turn-shown table (commands.QueryPoint mask at) = ap (λ (ids : List Id). answered table (replies.Hits ids)) (hits-shown (is_touched (shapes.Point at)) mask table.scene)
turn-shown table (commands.QueryRay mask segment) = ap (λ (ids : List Id). answered table (replies.Hits ids)) (hits-shown (is_touched (shapes.Segment segment)) mask table.scene)

pub shown_after-turn : (table : Table) (t : Turn) → shown_after (shown_table table) t ≡ shown_table (table_after table t)
shown_after-turn table t = ap (λ (s : Scene). record table { scene = s; books = t.books }) (entries-shown t.entries table.scene)
