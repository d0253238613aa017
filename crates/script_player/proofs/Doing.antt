-- What a command that is carried out makes.
use Rattle.std.proofs.Common.{◌≡◌, ℕ, List, [], ◌∷◌, ◌++◌, length, map, Option, Some, None, option_map, refl, ap, sym, subst, ◌∙◌}
use Rattle.std.specs.List.{range_with_len}
use Rattle.body_ident.specs.Id.{Id}
use Rattle.scene_model.specs.declared.body_view.BodyView.{BodyView}
use Rattle.scene_model.specs.declared.entry.Entry.{Entry}
use Rattle.scene_model.specs.declared.entry.Entry.TheVariants.{Join}
use Rattle.scene_model.specs.Need.{need}
use Rattle.script_text.specs.declared.command.Command.{Command}
use Rattle.script_text.specs.declared.command.Command.TheVariants as commands
use Rattle.script_text.specs.declared.script.Script.{Script}
use Rattle.reply_text.specs.declared.refusal.Refusal.{Refusal}
use Rattle.reply_text.specs.declared.reply.Reply.TheVariants as replies
use Rattle.script_player.specs.declared.books.Known.{Known}
use Rattle.script_player.specs.declared.books.Batch.{Batch}
use Rattle.script_player.specs.declared.bodies.Change.{Change}
use Rattle.script_player.specs.declared.bodies.Change.TheVariants as changes
use Rattle.script_player.specs.Books.{known_at, known_all, batch_named}
use Rattle.script_player.specs.Table.{Table, table_with}
use Rattle.script_player.specs.Attempt.{Attempt, outcome}
use Rattle.script_player.specs.Body.{body_of, forbids, entry_of, make_change, change_body, change_known}
use Rattle.script_player.specs.Taking.{marks, unmarks, taking}
use Rattle.script_player.specs.Batches.{prepare_known, finalize_batch, abort_batch, join_taken, add_layer, followed, in_layer, add_layers, add_known}
use Rattle.script_player.specs.Turn.{turn}
use Rattle.script_player.specs.Standing.{Standing, table_at, turn_at}
use Rattle.script_player.specs.Exchange.{exchanges_at, all_known_by}
use Rattle.script_player.specs.Refused.{joined}
use Rattle.script_player.specs.Prepared.{Prepared}
use Rattle.script_player.specs.Done.{MakesOne, MakesFor, MakesOf, joined_some, joined_each, MakesAsked}
use Rattle.script_player.proofs.Taken.{are_taken, prepare_takes}
use Rattle.script_player.proofs.PreparedBatches.{prepared_of}
use Rattle.script_player.proofs.Keeping.{batch_is}
use Rattle.script_player.proofs.Standing.{is_table_at}
use Rattle.script_player.proofs.Naming.{name_at, names_at}

done_by : (o : Option Refusal) → outcome o ≡ replies.Done → o ≡ None
done_by None e = refl
done_by (Some refusal) e = absurd cc

-- ---- one body

abbrev id_in : Option Known → Option Id
id_in o = option_map (λ k. k.id) o

make_makes : (table : Table) (entry : Entry) (o : Option Refusal) → (make_change table entry o).refusal ≡ None → (make_change table entry o).entries ≡ entry ∷ []
make_makes table entry None e = refl
make_makes table entry (Some refusal) e = absurd cc

pub body_makes : (table : Table) (change : Change) (index : ℕ) (o : Option BodyView) → (change_body table change index o).refusal ≡ None
    → (change_body table change index o).entries ≡ entry_of change index ∷ []
body_makes table change index None e = absurd cc
body_makes table change index (Some v) e = make_makes table (entry_of change index) (forbids change v.phase) e

change_makes : (table : Table) (change : Change) (o : Option Known) → (change_known table change o).refusal ≡ None
    → MakesOne (id_in o) (entry_of change) (change_known table change o).entries
change_makes table change None e = absurd cc
change_makes table change (Some known) e = body_makes table change known.id.index (body_of table.scene known.id) e

-- ---- batches

prepare_makes : (table : Table) (name : List ℕ) (layer : ℕ) (o : Option (List Known)) → (prepare_known table name layer o).refusal ≡ None
    → MakesFor o (λ bodies. marks (map (λ k. k.id.index) bodies)) (prepare_known table name layer o).entries
prepare_makes table name layer None e = absurd cc
prepare_makes table name layer (Some bodies) e =
    let p = prepare_takes table name layer bodies e in
    p.1 ∙ (are_taken table layer bodies p.0).entries

finalize_makes : (table : Table) (name : List ℕ) (o : Option Batch) → (finalize_batch table name o).refusal ≡ None
    → MakesOf (option_map prepared_of o) (λ p. Join p.layer p.indexes ∷ []) (finalize_batch table name o).entries
finalize_makes table name None e = absurd cc
finalize_makes table name (Some batch) e = refl

abort_makes : (table : Table) (name : List ℕ) (o : Option Batch) → (abort_batch table name o).refusal ≡ None
    → MakesOf (option_map prepared_of o) (λ p. unmarks p.indexes) (abort_batch table name o).entries
abort_makes table name None e = absurd cc
abort_makes table name (Some batch) e = refl

-- ---- layers

join_makes : (table : Table) (layer nodes : ℕ) (indexes : List ℕ) (made : List Entry) (o : Option Refusal) (new : List Entry)
    → (o ≡ None → made ++ Join layer indexes ∷ [] ≡ new) → (join_taken table layer nodes indexes made o).refusal ≡ None
    → (join_taken table layer nodes indexes made o).entries ≡ new
join_makes table layer nodes indexes made None new is e = is refl
join_makes table layer nodes indexes made (Some refusal) new is e = absurd cc

layer_makes : (table : Table) (layer : ℕ) (bodies : List Known) → (add_layer table layer bodies).refusal ≡ None → (add_layer table layer bodies).entries ≡ joined_some layer bodies
layer_makes table layer [] e = refl
layer_makes table layer (known ∷ bodies) e =
    let own = known ∷ bodies in
    let t = taking table layer own in
    join_makes table layer (need (length own)) t.indexes t.entries t.refusal (joined layer own)
    (λ none.
    let taken = are_taken table layer own none in
    ap (λ (es : List Entry). es ++ Join layer t.indexes ∷ []) taken.entries ∙ ap (λ (xs : List ℕ). marks (map (λ k. k.id.index) own) ++ Join layer xs ∷ []) taken.indexes) e

followed_makes : (o : Option Refusal) (first later : Attempt) (xs ys : List Entry) → first.refusal ≡ o → (followed o first later).refusal ≡ None
    → (first.refusal ≡ None → first.entries ≡ xs) → (later.refusal ≡ None → later.entries ≡ ys) → (followed o first later).entries ≡ xs ++ ys
followed_makes None first later xs ys same e h k = ap (λ (es : List Entry). es ++ later.entries) (h same) ∙ ap (λ (es : List Entry). xs ++ es) (k e)
followed_makes (Some refusal) first later xs ys same e h k = let none : Some refusal ≡ None = sym same ∙ e in absurd cc

pub layers_make : (bodies : List Known) (layers : List ℕ) (table : Table) → (add_layers table bodies layers).refusal ≡ None → (add_layers table bodies layers).entries ≡ joined_each bodies layers
layers_make bodies [] table e = refl
layers_make bodies (layer ∷ layers) table e =
    let part = in_layer layer bodies in
    let first = add_layer table layer part in
    let next = table_with table first.entries first.books in
    followed_makes first.refusal first (add_layers next bodies layers) (joined_some layer part) (joined_each bodies layers) refl e (layer_makes table layer part)
    (layers_make bodies layers next)

add_makes : (table : Table) (o : Option (List Known)) → (add_known table o).refusal ≡ None
    → MakesFor o (λ bodies. joined_each bodies (range_with_len 0 table.world.layers)) (add_known table o).entries
add_makes table None e = absurd cc
add_makes table (Some bodies) e = layers_make bodies (range_with_len 0 table.world.layers) table e

-- ---- where a command stands

made_of : (script : Script) (at : Standing script) (c : Command) → (turn (table_at script at) c).reply ≡ replies.Done
    → MakesAsked script.world.layers (exchanges_at script at) c (turn (table_at script at) c).entries
made_of script at (commands.Destroy name) e =
    let table = table_at script at in
    subst (λ (o : Option Known). MakesOne (id_in o) (entry_of changes.Destroy) (turn table (commands.Destroy name)).entries) (name_at script at name)
    (change_makes table changes.Destroy (known_at table.books name) (done_by _ e))
made_of script at (commands.Remove name) e =
    let table = table_at script at in
    subst (λ (o : Option Known). MakesOne (id_in o) (entry_of changes.Remove) (turn table (commands.Remove name)).entries) (name_at script at name)
    (change_makes table changes.Remove (known_at table.books name) (done_by _ e))
made_of script at (commands.Move name bounds) e =
    let table = table_at script at in
    subst (λ (o : Option Known). MakesOne (id_in o) (entry_of (changes.Move bounds)) (turn table (commands.Move name bounds)).entries) (name_at script at name)
    (change_makes table (changes.Move bounds) (known_at table.books name) (done_by _ e))
made_of script at (commands.User name user) e =
    let table = table_at script at in
    subst (λ (o : Option Known). MakesOne (id_in o) (entry_of (changes.SetUser user)) (turn table (commands.User name user)).entries) (name_at script at name)
    (change_makes table (changes.SetUser user) (known_at table.books name) (done_by _ e))
made_of script at (commands.Prepare batch layer names) e =
    let table = table_at script at in
    subst (λ (o : Option (List Known)). MakesFor o (λ bodies. marks (map (λ k. k.id.index) bodies)) (turn table (commands.Prepare batch layer names)).entries) (names_at script at names)
    (prepare_makes table batch layer (known_all table.books names) (done_by _ e))
made_of script at (commands.Add names) e =
    let table = table_at script at in
    let made = (turn table (commands.Add names)).entries in
    subst (λ (n : ℕ). MakesFor (all_known_by (exchanges_at script at) names) (λ bodies. joined_each bodies (range_with_len 0 n)) made)
    (ap (λ w. w.layers) (is_table_at script at).world)
    (subst (λ (o : Option (List Known)). MakesFor o (λ bodies. joined_each bodies (range_with_len 0 table.world.layers)) made) (names_at script at names)
    (add_makes table (known_all table.books names) (done_by _ e)))
made_of script at (commands.Finalize batch) e =
    let table = table_at script at in
    subst (λ (o : Option Prepared). MakesOf o (λ p. Join p.layer p.indexes ∷ []) (turn table (commands.Finalize batch)).entries) (batch_is script at batch)
    (finalize_makes table batch (batch_named table.books batch) (done_by _ e))
made_of script at (commands.Abort batch) e =
    let table = table_at script at in
    subst (λ (o : Option Prepared). MakesOf o (λ p. unmarks p.indexes) (turn table (commands.Abort batch)).entries) (batch_is script at batch)
    (abort_makes table batch (batch_named table.books batch) (done_by _ e))
made_of script at c e = tt

pub made_at : (script : Script) (at : Standing script) → (turn_at script at).reply ≡ replies.Done
    → MakesAsked script.world.layers (exchanges_at script at) at.command (turn_at script at).entries
made_at script at e = made_of script at at.command e
