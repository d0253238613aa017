-- What is so of each step of a turn is so of the turn.
use Rattle.std.proofs.Common.{ℕ, Bool, true, false, cond, List, [], ◌∷◌, ◌++◌, length, Option, Some, None}
use Rattle.std.specs.Bool.{⊤}
use Rattle.std.specs.List.{range_with_len}
use Rattle.scene_model.specs.declared.body_view.BodyView.{BodyView}
use Rattle.scene_model.specs.declared.entry.Entry.{Entry}
use Rattle.scene_model.specs.declared.entry.Entry.TheVariants.{Mark, Unmark, Join}
use Rattle.scene_model.specs.Need.{need}
use Rattle.script_text.specs.declared.command.Command.{Command}
use Rattle.script_text.specs.declared.command.Command.TheVariants as commands
use Rattle.reply_text.specs.declared.refusal.Refusal.{Refusal}
use Rattle.script_player.specs.declared.books.Known.{Known}
use Rattle.script_player.specs.declared.books.Batch.{Batch}
use Rattle.script_player.specs.declared.bodies.Change.{Change}
use Rattle.script_player.specs.declared.bodies.Change.TheVariants as changes
use Rattle.script_player.specs.Books.{Books, known_at, known_all, has_batch, batch_named, spent, with_batch, with_attached}
use Rattle.script_player.specs.Table.{Table, table_with}
use Rattle.script_player.specs.Attempt.{Attempt}
use Rattle.script_player.specs.Body.{body_of, forbids, entry_of, make_change, change_body, change_known}
use Rattle.script_player.specs.Taking.{room_refusal, Marking, marking, marks, unmarks, marked, taking_in, taking}
use Rattle.script_player.specs.Batches.{keep_taken, prepare_known, finalize_batch, abort_batch, join_taken, add_layer, followed, in_layer, add_layers, add_known}
use Rattle.script_player.specs.Turn.{turn}

-- a relation of the books before, the entries that are made, and the books then: it holds of each single step, and of
-- one part of a turn and the next where it holds of both
pub record IsStepwise (R : Books → List Entry → Books → Type 0) : Type 0 where
  pub none : (b : Books) → R b [] b
  pub more : (a b c : Books) (xs ys : List Entry) → R a xs b → R b ys c → R a (xs ++ ys) c
  pub change : (b : Books) (c : Change) (index : ℕ) → R b (entry_of c index ∷ []) b
  pub mark : (b : Books) (index : ℕ) → R b (Mark index ∷ []) b
  pub unmark : (b : Books) (index : ℕ) → R b (Unmark index ∷ []) b
  pub join : (b : Books) (layer nodes : ℕ) (indexes : List ℕ) → R b (Join layer indexes ∷ []) (with_attached b layer nodes)
  pub keep : (b : Books) (batch : Batch) → R b [] (with_batch b batch)
  pub spend : (b : Books) (name : List ℕ) → R b [] (spent b name)

-- it holds of an attempt
abbrev Tried : (Books → List Entry → Books → Type 0) → Table → Attempt → Type 0
Tried R table a = R table.books a.entries a.books

-- ---- commands on one body

make_steps : (R : Books → List Entry → Books → Type 0) → IsStepwise R → (table : Table) (change : Change) (index : ℕ) (o : Option Refusal) → Tried R table (make_change table (entry_of change index) o)
make_steps R s table change index None = s.change table.books change index
make_steps R s table change index (Some refusal) = s.none table.books

body_steps : (R : Books → List Entry → Books → Type 0) → IsStepwise R → (table : Table) (change : Change) (index : ℕ) (o : Option BodyView) → Tried R table (change_body table change index o)
body_steps R s table change index None = s.none table.books
body_steps R s table change index (Some v) = make_steps R s table change index (forbids change v.phase)

change_steps : (R : Books → List Entry → Books → Type 0) → IsStepwise R → (table : Table) (change : Change) (o : Option Known) → Tried R table (change_known table change o)
change_steps R s table change None = s.none table.books
change_steps R s table change (Some known) = body_steps R s table change known.id.index (body_of table.scene known.id)

-- ---- batches

marks_steps : (R : Books → List Entry → Books → Type 0) → IsStepwise R → (b : Books) (indexes : List ℕ) → R b (marks indexes) b
marks_steps R s b [] = s.none b
marks_steps R s b (index ∷ rest) = s.more b b b (Mark index ∷ []) (marks rest) (s.mark b index) (marks_steps R s b rest)

unmarks_steps : (R : Books → List Entry → Books → Type 0) → IsStepwise R → (b : Books) (indexes : List ℕ) → R b (unmarks indexes) b
unmarks_steps R s b [] = s.none b
unmarks_steps R s b (index ∷ rest) = s.more b b b (Unmark index ∷ []) (unmarks rest) (s.unmark b index) (unmarks_steps R s b rest)

marked_steps : (R : Books → List Entry → Books → Type 0) → IsStepwise R → (b : Books) (indexes : List ℕ) (o : Option Refusal) → R b (marked indexes o).entries b
marked_steps R s b indexes None = marks_steps R s b indexes
marked_steps R s b indexes (Some refusal) = s.more b b b (marks indexes) (unmarks indexes) (marks_steps R s b indexes) (unmarks_steps R s b indexes)

taking_steps : (R : Books → List Entry → Books → Type 0) → IsStepwise R → (b : Books) (room : Option Refusal) (m : Marking) → R b (taking_in room m).entries b
taking_steps R s b None m = marked_steps R s b m.indexes m.refusal
taking_steps R s b (Some refusal) m = s.none b

keep_steps : (R : Books → List Entry → Books → Type 0) → IsStepwise R → (table : Table) (batch : Batch) (made : List Entry) (o : Option Refusal)
    → ((b : Books) → R b made b) → Tried R table (keep_taken table batch made o)
keep_steps R s table batch made None h = s.more table.books (with_batch table.books batch) (with_batch table.books batch) [] made (s.keep table.books batch) (h (with_batch table.books batch))
keep_steps R s table batch made (Some refusal) h = h table.books

either_steps : (R : Books → List Entry → Books → Type 0) (table : Table) (b : Bool) (x y : Attempt) → Tried R table x → Tried R table y → Tried R table (cond b x y)
either_steps R table true x y h k = h
either_steps R table false x y h k = k

prepare_steps : (R : Books → List Entry → Books → Type 0) → IsStepwise R → (table : Table) (name : List ℕ) (layer : ℕ) (o : Option (List Known)) → Tried R table (prepare_known table name layer o)
prepare_steps R s table name layer None = s.none table.books
prepare_steps R s table name layer (Some bodies) =
    let t = taking table layer bodies in
    either_steps R table (has_batch table.books name) _ _ (s.none table.books)
    (keep_steps R s table (record { name = name; layer = layer; indexes = t.indexes; nodes = need (length bodies) }) t.entries t.refusal
    (λ b. taking_steps R s b (room_refusal table layer (length bodies)) (marking table.scene layer bodies)))

finalize_steps : (R : Books → List Entry → Books → Type 0) → IsStepwise R → (table : Table) (name : List ℕ) (o : Option Batch) → Tried R table (finalize_batch table name o)
finalize_steps R s table name None = s.none table.books
finalize_steps R s table name (Some batch) =
    let left = spent table.books name in
    s.more table.books left (with_attached left batch.layer batch.nodes) [] (Join batch.layer batch.indexes ∷ []) (s.spend table.books name) (s.join left batch.layer batch.nodes batch.indexes)

abort_steps : (R : Books → List Entry → Books → Type 0) → IsStepwise R → (table : Table) (name : List ℕ) (o : Option Batch) → Tried R table (abort_batch table name o)
abort_steps R s table name None = s.none table.books
abort_steps R s table name (Some batch) =
    let left = spent table.books name in
    s.more table.books left left [] (unmarks batch.indexes) (s.spend table.books name) (unmarks_steps R s left batch.indexes)

join_steps : (R : Books → List Entry → Books → Type 0) → IsStepwise R → (table : Table) (layer nodes : ℕ) (indexes : List ℕ) (made : List Entry) (o : Option Refusal)
    → R table.books made table.books → Tried R table (join_taken table layer nodes indexes made o)
join_steps R s table layer nodes indexes made None h =
    s.more table.books table.books (with_attached table.books layer nodes) made (Join layer indexes ∷ []) h (s.join table.books layer nodes indexes)
join_steps R s table layer nodes indexes made (Some refusal) h = h

layer_steps : (R : Books → List Entry → Books → Type 0) → IsStepwise R → (table : Table) (layer : ℕ) (bodies : List Known) → Tried R table (add_layer table layer bodies)
layer_steps R s table layer [] = s.none table.books
layer_steps R s table layer (known ∷ bodies) =
    let t = taking table layer (known ∷ bodies) in
    join_steps R s table layer (need (length (known ∷ bodies))) t.indexes t.entries t.refusal
    (taking_steps R s table.books (room_refusal table layer (length (known ∷ bodies))) (marking table.scene layer (known ∷ bodies)))

followed_steps : (R : Books → List Entry → Books → Type 0) → IsStepwise R → (table : Table) (o : Option Refusal) (first later : Attempt) → Tried R table first
    → R first.books later.entries later.books → Tried R table (followed o first later)
followed_steps R s table None first later h k = s.more table.books first.books later.books first.entries later.entries h k
followed_steps R s table (Some refusal) first later h k = h

add_steps : (R : Books → List Entry → Books → Type 0) → IsStepwise R → (bodies : List Known) (layers : List ℕ) (table : Table) → Tried R table (add_layers table bodies layers)
add_steps R s bodies [] table = s.none table.books
add_steps R s bodies (layer ∷ layers) table =
    let first = add_layer table layer (in_layer layer bodies) in
    let next = table_with table first.entries first.books in
    followed_steps R s table first.refusal first (add_layers next bodies layers) (layer_steps R s table layer (in_layer layer bodies)) (add_steps R s bodies layers next)

known_steps : (R : Books → List Entry → Books → Type 0) → IsStepwise R → (table : Table) (o : Option (List Known)) → Tried R table (add_known table o)
known_steps R s table None = s.none table.books
known_steps R s table (Some bodies) = add_steps R s bodies (range_with_len 0 table.world.layers) table

-- ---- every command but create

abbrev pub HasSteps : (Books → List Entry → Books → Type 0) → Table → Command → Type 0
HasSteps R table (commands.Create name layer bounds user) = ⊤
HasSteps R table c = R table.books (turn table c).entries (turn table c).books

pub turn_steps : (R : Books → List Entry → Books → Type 0) → IsStepwise R → (table : Table) (c : Command) → HasSteps R table c
turn_steps R s table (commands.Create name layer bounds user) = tt
turn_steps R s table (commands.Destroy name) = change_steps R s table changes.Destroy (known_at table.books name)
turn_steps R s table (commands.Add names) = known_steps R s table (known_all table.books names)
turn_steps R s table (commands.Prepare batch layer names) = prepare_steps R s table batch layer (known_all table.books names)
turn_steps R s table (commands.Finalize batch) = finalize_steps R s table batch (batch_named table.books batch)
turn_steps R s table (commands.Abort batch) = abort_steps R s table batch (batch_named table.books batch)
turn_steps R s table (commands.Remove name) = change_steps R s table changes.Remove (known_at table.books name)
turn_steps R s table (commands.Move name bounds) = change_steps R s table (changes.Move bounds) (known_at table.books name)
turn_steps R s table (commands.User name user) = change_steps R s table (changes.SetUser user) (known_at table.books name)
turn_steps R s table (commands.Read name) = s.none table.books
turn_steps R s table (commands.Multi names) = s.none table.books
turn_steps R s table (commands.QueryBox mask bounds) = s.none table.books
turn_steps R s table (commands.QueryPoint mask at) = s.none table.books
turn_steps R s table (commands.QueryRay mask segment) = s.none table.books
