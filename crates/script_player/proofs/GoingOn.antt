-- A table that is under way is so after each command.
use Rattle.std.proofs.Common.{◌≡◌, ℕ, ◌+◌, ◌≤◌, ◌^◌, ◌⊎◌, Bool, true, false, cond, List, [], ◌∷◌, ◌++◌, length, get_or, fold, All, sum_by, Option, Some, None, refl, ap, sym, subst, ◌∙◌, inl, inr, arith}
use Rattle.std.specs.List.{range_with_len}
use Rattle.std.proofs.lemmas.List.Sums.{fold-append, sum_by_push}
use Rattle.std.proofs.lemmas.List.Elements.{All-push}
use Rattle.std.proofs.lemmas.List.Quantifiers.{all_pairs_push}
use Rattle.fixed_box.specs.declared.fix_box.FixBox.{FixBox}
use Rattle.body_ident.specs.Id.{Id}
use Rattle.scene_model.specs.declared.body_view.BodyView.{BodyView}
use Rattle.scene_model.specs.declared.body_view.Phase.{Phase}
use Rattle.scene_model.specs.declared.body_view.Phase.TheVariants.{Out, Held, In}
use Rattle.scene_model.specs.declared.entry.Entry.{Entry}
use Rattle.scene_model.specs.declared.entry.Entry.TheVariants.{Mark, Unmark, Join}
use Rattle.scene_model.specs.Need.{need}
use Rattle.scene_model.specs.Scene.{Scene, place_at, record_at, next_index}
use Rattle.scene_model.specs.Step.{IsPossible, after_entry, created_in, with_new_body, with_phase, in_phase}
use Rattle.scene_model.specs.Shown.{shown_place, after_shown}
use Rattle.scene_model.proofs.Views.{HasBody-from_view}
use Rattle.script_text.specs.declared.command.Command.{Command}
use Rattle.script_text.specs.declared.command.Command.TheVariants as commands
use Rattle.reply_text.specs.declared.refusal.Refusal.{Refusal}
use Rattle.script_player.specs.declared.books.Known.{Known}
use Rattle.script_player.specs.declared.books.Batch.{Batch}
use Rattle.script_player.specs.declared.books.Attached.{Attached}
use Rattle.script_player.specs.declared.bodies.Change.{Change}
use Rattle.script_player.specs.declared.bodies.Change.TheVariants as changes
use Rattle.script_player.specs.Books.{Books, known_at, known_all, nodes_kept, has_batch, batch_named, spent, with_name, with_batch, with_attached}
use Rattle.script_player.specs.Table.{Table, table_with}
use Rattle.script_player.specs.Attempt.{Attempt}
use Rattle.script_player.specs.Body.{body_of, forbids, entry_of, make_change, change_body, change_known}
use Rattle.script_player.specs.Taking.{room_refusal, Marking, marking, marks, unmarks, marked, taking_in, taking}
use Rattle.script_player.specs.Batches.{keep_taken, prepare_taken, prepare_known, finalize_batch, abort_batch, join_taken, add_layer, followed, in_layer, add_layers, add_known}
use Rattle.script_player.specs.Turn.{create_turn, turn}
use Rattle.script_player.specs.UnderWay.{AreApart, AreHeld, IsUnderWay}
use Rattle.script_player.specs.Shown.{shown_with, shown_after}
use Rattle.script_player.proofs.Marking.{seen_body}
use Rattle.script_player.proofs.Follows.{Follows, Follows-refl, Follows-change, Follows-unheld, Follows-destroy, Follows-new, Follows-hold, Follows-fold, fold_marks, fold_unmarks, AreHeld-kept, all_apart_from_none, live}
use Rattle.script_player.proofs.Holding.{CanMarkAll, marking_can, held_apart}
use Rattle.script_player.proofs.Spending.{stands_at, nodes-spent, others_held}
use Rattle.script_player.proofs.Batching.{whole, room_for, taking_can_join}

-- the table after an attempt
abbrev pub tried : Table → Attempt → Table
tried table a = shown_with table a.entries a.books

-- the scene goes on, and the batches that are prepared then can be joined
pub goes_on : (table : Table) (scene : Scene) (books : Books) (touched : List ℕ) → IsUnderWay table → Follows table.scene scene touched
    → nodes_kept books ≤ table.world.nodes → AreHeld scene books.prepared → IsUnderWay (record table { scene = scene; books = books })
goes_on table scene books touched u f nodes held = record {
  config = u.config;
  bodies = subst (λ (n : ℕ). n ≤ 2 ^ 23) (sym f.bodies) u.bodies;
  sound = f.sound u.sound;
  nodes = nodes;
  held = held;
}

-- nothing that is held is touched, and the batches are the same
same_batches : (table : Table) (scene : Scene) (books : Books) → IsUnderWay table → Follows table.scene scene [] → books.prepared ≡ table.books.prepared
    → books.attached ≡ table.books.attached → IsUnderWay (record table { scene = scene; books = books })
same_batches table scene books u f prepared attached =
    let P : List Batch → Type 0 = λ batches. AreHeld scene batches in
    let Q : List Batch → Type 0 = λ batches. sum_by (λ b. b.nodes) batches + sum_by (λ a. a.nodes) books.attached ≤ table.world.nodes in
    let R : List Attached → Type 0 = λ batches. sum_by (λ b. b.nodes) table.books.prepared + sum_by (λ a. a.nodes) batches ≤ table.world.nodes in
    goes_on table scene books [] u f
    (subst Q (sym prepared) (subst R (sym attached) u.nodes))
    (subst P (sym prepared) (AreHeld-kept table.scene scene [] table.books.prepared f (all_apart_from_none table.books.prepared) u.held))

-- ---- one body

create_goes_on : (table : Table) (name : List ℕ) (layer user : ℕ) (bounds : FixBox) (o : Option ℕ) → next_index table.scene ≡ o → IsUnderWay table
    → IsUnderWay (shown_after table (create_turn table name layer bounds user o))
create_goes_on table name layer user bounds None next u = same_batches table table.scene (with_name table.books name None) u (Follows-refl table.scene) refl refl
create_goes_on table name layer user bounds (Some index) next u =
    let place = shown_place (created_in (place_at table.scene index) layer bounds user) in
    let t = create_turn table name layer bounds user (Some index) in
    same_batches table (with_new_body table.scene.freed table.scene index place) t.books u
    (Follows-new table.scene index layer place u.sound next (λ layers below. record { latest = refl; in_layers = below })) refl refl

destroyed_out : (p : Phase) → forbids changes.Destroy p ≡ None → p ≡ Out
destroyed_out Out h = refl
destroyed_out Held h = absurd cc
destroyed_out In h = absurd cc

removed_in : (p : Phase) → forbids changes.Remove p ≡ None → p ≡ In
removed_in Out h = absurd cc
removed_in Held h = absurd cc
removed_in In h = refl

moved_not_held : (bounds : FixBox) (p : Phase) → forbids (changes.Move bounds) p ≡ None → (p ≡ Out) ⊎ (p ≡ In)
moved_not_held bounds Out h = inl refl
moved_not_held bounds Held h = absurd cc
moved_not_held bounds In h = inr refl

-- what is not forbidden is possible
pub possible_change : (scene : Scene) (i : Id) (v : BodyView) (change : Change) → body_of scene i ≡ Some v → forbids change v.phase ≡ None → IsPossible scene (entry_of change i.index)
possible_change scene i v changes.Destroy e h =
    HasBody-from_view scene i.index v (λ r. r.phase ≡ Out) (seen_body scene i v e) (λ r same. ap (λ (w : BodyView). w.phase) same ∙ destroyed_out v.phase h)
possible_change scene i v changes.Remove e h =
    HasBody-from_view scene i.index v (λ r. r.phase ≡ In) (seen_body scene i v e) (λ r same. ap (λ (w : BodyView). w.phase) same ∙ removed_in v.phase h)
possible_change scene i v (changes.Move bounds) e h =
    let P : Phase → Type 0 = λ p. (p ≡ Out) ⊎ (p ≡ In) in
    HasBody-from_view scene i.index v (λ r. (r.phase ≡ Out) ⊎ (r.phase ≡ In)) (seen_body scene i v e)
    (λ r same. subst P (sym (ap (λ (w : BodyView). w.phase) same)) (moved_not_held bounds v.phase h))
possible_change scene i v (changes.SetUser user) e h =
    live (record_at scene i.index) (λ r. Unit {0}) (HasBody-from_view scene i.index v (λ r. Unit {0}) (seen_body scene i v e) (λ r same. tt))

follows_change : (scene : Scene) (index : ℕ) (change : Change) → IsPossible scene (entry_of change index) → Follows scene (after_shown scene (entry_of change index)) []
follows_change scene index changes.Destroy h = Follows-destroy scene index h
follows_change scene index changes.Remove h =
    Follows-unheld (in_phase Out) scene index (λ r. r.phase ≡ In) (record { generation = λ r. refl; layer = λ r. refl }) (λ r p q. cc) h
follows_change scene index (changes.Move bounds) h =
    Follows-change (λ r. record r { bounds = bounds }) scene index (record { generation = λ r. refl; layer = λ r. refl }) (λ layer r held. held)
follows_change scene index (changes.SetUser user) h =
    Follows-change (λ r. record r { user = user }) scene index (record { generation = λ r. refl; layer = λ r. refl }) (λ layer r held. held)

make_goes_on : (table : Table) (entry : Entry) (o : Option Refusal) → (o ≡ None → Follows table.scene (after_shown table.scene entry) []) → IsUnderWay table
    → IsUnderWay (tried table (make_change table entry o))
make_goes_on table entry None f u = same_batches table (after_shown table.scene entry) table.books u (f refl) refl refl
make_goes_on table entry (Some refusal) f u = u

body_goes_on : (table : Table) (change : Change) (i : Id) (o : Option BodyView) → body_of table.scene i ≡ o → IsUnderWay table
    → IsUnderWay (tried table (change_body table change i.index o))
body_goes_on table change i None e u = u
body_goes_on table change i (Some v) e u =
    make_goes_on table (entry_of change i.index) (forbids change v.phase) (λ h. follows_change table.scene i.index change (possible_change table.scene i v change e h)) u

change_goes_on : (table : Table) (change : Change) (o : Option Known) → IsUnderWay table → IsUnderWay (tried table (change_known table change o))
change_goes_on table change None u = u
change_goes_on table change (Some known) u = body_goes_on table change known.id (body_of table.scene known.id) refl u

-- ---- batches

-- a taking leaves the batches that are prepared, whether it is refused or not
marked_goes_on : (table : Table) (layer : ℕ) (indexes : List ℕ) (o : Option Refusal) → CanMarkAll table.scene layer indexes → IsUnderWay table
    → IsUnderWay (shown_with table (marked indexes o).entries table.books)
marked_goes_on table layer indexes None can u =
    let P : Scene → Type 0 = λ s. IsUnderWay (record table { scene = s }) in
    subst P (sym (fold_marks indexes table.scene)) (same_batches table (fold (with_phase Held) table.scene indexes) table.books u (Follows-hold indexes table.scene) refl refl)
marked_goes_on table layer indexes (Some refusal) can u =
    let P : Scene → Type 0 = λ s. IsUnderWay (record table { scene = s }) in
    let held = fold (with_phase Held) table.scene indexes in
    let back = fold (with_phase Out) held indexes in
    let u1 : IsUnderWay (record table { scene = held }) = same_batches table held table.books u (Follows-hold indexes table.scene) refl refl in
    let apart : All (λ b. AreApart b.indexes indexes) table.books.prepared =
    λ k d below. held_apart table.scene (get_or table.books.prepared k d).layer layer (get_or table.books.prepared k d).indexes indexes (u.held.can_join k d below) can in
    let f = Follows-fold Out indexes held in
    let u2 : IsUnderWay (record table { scene = back }) = goes_on (record table { scene = held }) back table.books indexes u1 f u.nodes (AreHeld-kept held back indexes table.books.prepared f apart u1.held) in
    let steps : fold after_shown table.scene (marks indexes ++ unmarks indexes) ≡ back =
    fold-append after_shown table.scene (marks indexes) (unmarks indexes)
    ∙ ap (λ (s : Scene). fold after_shown s (unmarks indexes)) (fold_marks indexes table.scene)
    ∙ fold_unmarks indexes held in
    subst P (sym steps) u2

taking_in_goes_on : (table : Table) (layer : ℕ) (room : Option Refusal) (m : Marking) → CanMarkAll table.scene layer m.indexes → IsUnderWay table
    → IsUnderWay (shown_with table (taking_in room m).entries table.books)
taking_in_goes_on table layer None m can u = marked_goes_on table layer m.indexes m.refusal can u
taking_in_goes_on table layer (Some refusal) m can u = u

pub taking_goes_on : (table : Table) (layer : ℕ) (bodies : List Known) → IsUnderWay table → IsUnderWay (shown_with table (taking table layer bodies).entries table.books)
taking_goes_on table layer bodies u =
    taking_in_goes_on table layer (room_refusal table layer (length bodies)) (marking table.scene layer bodies) (marking_can table.scene layer bodies) u

-- the batches that are prepared hold none of the bodies that are taken
apart_from_taken : (table : Table) (layer : ℕ) (indexes : List ℕ) → IsUnderWay table → CanMarkAll table.scene layer indexes → All (λ b. AreApart b.indexes indexes) table.books.prepared
apart_from_taken table layer indexes u can =
    λ k d below. held_apart table.scene (get_or table.books.prepared k d).layer layer (get_or table.books.prepared k d).indexes indexes (u.held.can_join k d below) can

keep_goes_on : (table : Table) (batch : Batch) (made : List Entry) (o : Option Refusal) → (o ≡ None → IsUnderWay (shown_with table made (with_batch table.books batch)))
    → IsUnderWay (shown_with table made table.books) → IsUnderWay (tried table (keep_taken table batch made o))
keep_goes_on table batch made None kept u = kept refl
keep_goes_on table batch made (Some refusal) kept u = u

prepare_goes_on : (table : Table) (name : List ℕ) (layer : ℕ) (bodies : List Known) → IsUnderWay table
    → IsUnderWay (tried table (prepare_taken table name layer (length bodies) (taking table layer bodies)))
prepare_goes_on table name layer bodies u =
    let t = taking table layer bodies in
    let u1 = taking_goes_on table layer bodies u in
    let batch : Batch = record { name = name; layer = layer; indexes = t.indexes; nodes = need (length bodies) } in
    keep_goes_on table batch t.entries t.refusal
    (λ e.
    let can = taking_can_join table layer bodies e in
    let room = room_for table layer (length bodies) (whole table layer bodies e).room_is in
    let nodes = sum_by_push (λ (b : Batch). b.nodes) table.books.prepared batch in
    let scene = fold after_shown table.scene t.entries in
    record {
      config = u1.config;
      bodies = u1.bodies;
      sound = u1.sound;
      nodes = omega (arith, u.nodes);
      held = record {
        can_join = All-push (λ b. IsPossible scene (Join b.layer b.indexes)) table.books.prepared batch u1.held.can_join can.join;
        apart = all_pairs_push (λ a b. AreApart a.indexes b.indexes) table.books.prepared batch u1.held.apart (apart_from_taken table layer t.indexes u can.can);
      };
    })
    u1

cond_goes_on : (table : Table) (b : Bool) (a c : Attempt) → IsUnderWay (tried table a) → IsUnderWay (tried table c) → IsUnderWay (tried table (cond b a c))
cond_goes_on table true a c u v = u
cond_goes_on table false a c u v = v

prepare_known_goes_on : (table : Table) (name : List ℕ) (layer : ℕ) (o : Option (List Known)) → IsUnderWay table → IsUnderWay (tried table (prepare_known table name layer o))
prepare_known_goes_on table name layer None u = u
prepare_known_goes_on table name layer (Some bodies) u = cond_goes_on table (has_batch table.books name) _ _ u (prepare_goes_on table name layer bodies u)

-- what batches keep once one is spent, and one is attached
pub nodes-attached : (books : Books) (layer nodes : ℕ) → nodes_kept (with_attached books layer nodes) ≡ nodes_kept books + nodes
nodes-attached books layer nodes =
    let one : Attached = record { layer = layer; nodes = nodes } in
    omega (arith, sum_by_push (λ (a : Attached). a.nodes) books.attached one)

finalize_goes_on : (table : Table) (name : List ℕ) (o : Option Batch) → batch_named table.books name ≡ o → IsUnderWay table → IsUnderWay (tried table (finalize_batch table name o))
finalize_goes_on table name None e u = u
finalize_goes_on table name (Some batch) e u =
    let others = others_held table.scene table.books name batch u.held e in
    let f = Follows-fold In batch.indexes table.scene in
    let s = stands_at table.books name batch e in
    let joined = fold (with_phase In) table.scene batch.indexes in
    goes_on table joined (with_attached (spent table.books name) batch.layer batch.nodes) batch.indexes u f
    (omega (arith, nodes-attached (spent table.books name) batch.layer batch.nodes, nodes-spent table.books name batch s.0 s.1, u.nodes))
    (AreHeld-kept table.scene joined batch.indexes (spent table.books name).prepared f others.1 others.0)

abort_goes_on : (table : Table) (name : List ℕ) (o : Option Batch) → batch_named table.books name ≡ o → IsUnderWay table → IsUnderWay (tried table (abort_batch table name o))
abort_goes_on table name None e u = u
abort_goes_on table name (Some batch) e u =
    let others = others_held table.scene table.books name batch u.held e in
    let back = fold (with_phase Out) table.scene batch.indexes in
    let f = Follows-fold Out batch.indexes table.scene in
    let s = stands_at table.books name batch e in
    let P : Scene → Type 0 = λ s. IsUnderWay (record table { scene = s; books = spent table.books name }) in
    subst P (sym (fold_unmarks batch.indexes table.scene))
    (goes_on table back (spent table.books name) batch.indexes u f
    (omega (arith, nodes-spent table.books name batch s.0 s.1, u.nodes))
    (AreHeld-kept table.scene back batch.indexes (spent table.books name).prepared f others.1 others.0))

join_goes_on : (table : Table) (layer nodes : ℕ) (indexes : List ℕ) (made : List Entry) (o : Option Refusal)
    → (o ≡ None → IsUnderWay (shown_with table (made ++ Join layer indexes ∷ []) (with_attached table.books layer nodes)))
    → IsUnderWay (shown_with table made table.books) → IsUnderWay (tried table (join_taken table layer nodes indexes made o))
join_goes_on table layer nodes indexes made None joined u = joined refl
join_goes_on table layer nodes indexes made (Some refusal) joined u = u

pub layer_goes_on : (table : Table) (layer : ℕ) (bodies : List Known) → IsUnderWay table → IsUnderWay (tried table (add_layer table layer bodies))
layer_goes_on table layer [] u = u
layer_goes_on table layer (known ∷ bodies) u =
    let t = taking table layer (known ∷ bodies) in
    let count = length (known ∷ bodies) in
    let u1 = taking_goes_on table layer (known ∷ bodies) u in
    join_goes_on table layer (need count) t.indexes t.entries t.refusal
    (λ e.
    let can = taking_can_join table layer (known ∷ bodies) e in
    let room = room_for table layer count (whole table layer (known ∷ bodies) e).room_is in
    let taken = fold after_shown table.scene t.entries in
    let joined = fold (with_phase In) taken t.indexes in
    let f = Follows-fold In t.indexes taken in
    let P : Scene → Type 0 = λ s. IsUnderWay (record table { scene = s; books = with_attached table.books layer (need count) }) in
    subst P (sym (fold-append after_shown table.scene t.entries (Join layer t.indexes ∷ [])))
    (goes_on (record table { scene = taken }) joined (with_attached table.books layer (need count)) t.indexes u1 f
    (omega (arith, nodes-attached table.books layer (need count), u.nodes))
    (AreHeld-kept taken joined t.indexes table.books.prepared f (apart_from_taken table layer t.indexes u can.can) u1.held)))
    u1

-- ---- layers

-- entries among which is no creation lead a plain scene where they lead any scene
abbrev pub SameSteps : List Entry → Type 0
SameSteps entries = (scene : Scene) → fold after_shown scene entries ≡ fold after_entry scene entries

pub SameSteps-append : (xs ys : List Entry) → SameSteps xs → SameSteps ys → SameSteps (xs ++ ys)
SameSteps-append xs ys f g = λ scene.
    fold-append after_shown scene xs ys
    ∙ ap (λ (s : Scene). fold after_shown s ys) (f scene)
    ∙ g (fold after_entry scene xs)
    ∙ sym (fold-append after_entry scene xs ys)

marks-same : (indexes : List ℕ) → SameSteps (marks indexes)
marks-same [] = λ scene. refl
marks-same (index ∷ rest) = λ scene. marks-same rest (after_entry scene (Mark index))

unmarks-same : (indexes : List ℕ) → SameSteps (unmarks indexes)
unmarks-same [] = λ scene. refl
unmarks-same (index ∷ rest) = λ scene. unmarks-same rest (after_entry scene (Unmark index))

marked-same : (indexes : List ℕ) (o : Option Refusal) → SameSteps (marked indexes o).entries
marked-same indexes None = marks-same indexes
marked-same indexes (Some refusal) = SameSteps-append (marks indexes) (unmarks indexes) (marks-same indexes) (unmarks-same indexes)

taking-same : (room : Option Refusal) (m : Marking) → SameSteps (taking_in room m).entries
taking-same None m = marked-same m.indexes m.refusal
taking-same (Some refusal) m = λ scene. refl

join-same : (table : Table) (layer nodes : ℕ) (indexes : List ℕ) (made : List Entry) (o : Option Refusal) → SameSteps made
    → SameSteps (join_taken table layer nodes indexes made o).entries
join-same table layer nodes indexes made None same = SameSteps-append made (Join layer indexes ∷ []) same (λ scene. refl)
join-same table layer nodes indexes made (Some refusal) same = same

pub layer-same : (table : Table) (layer : ℕ) (bodies : List Known) → SameSteps (add_layer table layer bodies).entries
layer-same table layer [] = λ scene. refl
layer-same table layer (known ∷ bodies) =
    let t = taking table layer (known ∷ bodies) in
    join-same table layer (need (length (known ∷ bodies))) t.indexes t.entries t.refusal
    (taking-same (room_refusal table layer (length (known ∷ bodies))) (marking table.scene layer (known ∷ bodies)))

followed_goes_on : (table : Table) (first later : Attempt) (o : Option Refusal) → SameSteps first.entries → IsUnderWay (tried table first)
    → IsUnderWay (tried (table_with table first.entries first.books) later) → IsUnderWay (tried table (followed o first later))
followed_goes_on table first later None same u v =
    let P : Scene → Type 0 = λ s. IsUnderWay (record table { scene = s; books = later.books }) in
    subst P (ap (λ (s : Scene). fold after_shown s later.entries) (sym (same table.scene)) ∙ sym (fold-append after_shown table.scene first.entries later.entries)) v
followed_goes_on table first later (Some refusal) same u v = u

layers_go_on : (bodies : List Known) (layers : List ℕ) (table : Table) → IsUnderWay table → IsUnderWay (tried table (add_layers table bodies layers))
layers_go_on bodies [] table u = u
layers_go_on bodies (layer ∷ layers) table u =
    let part = in_layer layer bodies in
    let first = add_layer table layer part in
    let next = table_with table first.entries first.books in
    let u1 = layer_goes_on table layer part u in
    let P : Scene → Type 0 = λ s. IsUnderWay (record table { scene = s; books = first.books }) in
    followed_goes_on table first (add_layers next bodies layers) first.refusal (layer-same table layer part) u1
    (layers_go_on bodies layers next (subst P (layer-same table layer part table.scene) u1))

add_goes_on : (table : Table) (o : Option (List Known)) → IsUnderWay table → IsUnderWay (tried table (add_known table o))
add_goes_on table None u = u
add_goes_on table (Some bodies) u = layers_go_on bodies (range_with_len 0 table.world.layers) table u

-- ---- every command

pub turn_goes_on : (table : Table) (c : Command) → IsUnderWay table → IsUnderWay (shown_after table (turn table c))
turn_goes_on table (commands.Create name layer bounds user) u = create_goes_on table name layer user bounds (next_index table.scene) refl u
turn_goes_on table (commands.Destroy name) u = change_goes_on table changes.Destroy (known_at table.books name) u
turn_goes_on table (commands.Add names) u = add_goes_on table (known_all table.books names) u
turn_goes_on table (commands.Prepare batch layer names) u = prepare_known_goes_on table batch layer (known_all table.books names) u
turn_goes_on table (commands.Finalize batch) u = finalize_goes_on table batch (batch_named table.books batch) refl u
turn_goes_on table (commands.Abort batch) u = abort_goes_on table batch (batch_named table.books batch) refl u
turn_goes_on table (commands.Remove name) u = change_goes_on table changes.Remove (known_at table.books name) u
turn_goes_on table (commands.Move name bounds) u = change_goes_on table (changes.Move bounds) (known_at table.books name) u
turn_goes_on table (commands.User name user) u = change_goes_on table (changes.SetUser user) (known_at table.books name) u
turn_goes_on table (commands.Read name) u = u
turn_goes_on table (commands.Multi names) u = u
turn_goes_on table (commands.QueryBox mask bounds) u = u
turn_goes_on table (commands.QueryPoint mask at) u = u
turn_goes_on table (commands.QueryRay mask segment) u = u
