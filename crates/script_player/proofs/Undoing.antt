-- What a command that is refused leaves behind.
use Rattle.std.proofs.Common.{◌≡◌, ℕ, zero, suc, ◌+◌, ◌≤◌, ◌⊎◌, Bool, true, false, cond, List, [], ◌∷◌, ◌++◌, length, fold, Option, Some, None, refl, ap, sym, subst, ◌∙◌, append_assoc, inl, inr, arith}
use Rattle.std.specs.List.{range_with_len}
use Rattle.std.proofs.lemmas.List.{map-append}
use Rattle.fixed_box.specs.declared.fix_box.FixBox.{FixBox}
use Rattle.scene_model.specs.declared.body_view.BodyView.{BodyView}
use Rattle.scene_model.specs.declared.entry.Entry.{Entry}
use Rattle.scene_model.specs.declared.entry.Entry.TheVariants.{Mark, Unmark, Join}
use Rattle.scene_model.specs.declared.entry.Made.{Made}
use Rattle.scene_model.specs.Batch.{marks as made_marks, unmarks as made_unmarks}
use Rattle.scene_model.specs.History.{scene_from, IsLawfulFrom}
use Rattle.scene_model.specs.Need.{need}
use Rattle.scene_model.specs.Scene.{Scene, next_index}
use Rattle.scene_model.specs.Step.{after_entry}
use Rattle.scene_model.proofs.Batches.{marks_then_unmarks}
use Rattle.script_text.specs.declared.command.Command.{Command}
use Rattle.script_text.specs.declared.command.Command.TheVariants as commands
use Rattle.script_text.specs.declared.script.Script.{Script}
use Rattle.reply_text.specs.declared.refusal.Refusal.{Refusal}
use Rattle.reply_text.specs.declared.reply.Reply.TheVariants as replies
use Rattle.script_player.specs.declared.books.Known.{Known}
use Rattle.script_player.specs.declared.books.Batch.{Batch}
use Rattle.script_player.specs.declared.bodies.Change.{Change}
use Rattle.script_player.specs.declared.bodies.Change.TheVariants as changes
use Rattle.script_player.specs.Books.{known_at, known_all, has_batch, batch_named}
use Rattle.script_player.specs.Table.{Table, table_with}
use Rattle.script_player.specs.Attempt.{Attempt, outcome}
use Rattle.script_player.specs.Body.{body_of, forbids, entry_of, make_change, change_body, change_known}
use Rattle.script_player.specs.Taking.{room_refusal, Marking, marking, marks, unmarks, marked, taking_in, taking}
use Rattle.script_player.specs.Batches.{keep_taken, prepare_known, finalize_batch, abort_batch, join_taken, add_layer, followed, in_layer, add_layers, add_known}
use Rattle.script_player.specs.Turn.{create_turn, turn}
use Rattle.script_player.specs.Report.{ArePossibleFrom}
use Rattle.script_player.specs.Standing.{made_alone, Standing, scene_at, table_at, turn_at}
use Rattle.script_player.specs.Undone.{IsUndone, Addition, additions, Ascend, IsPartlyAdded, LeavesUndone}
use Rattle.script_player.proofs.Histories.{turn_possible_from}
use Rattle.script_player.proofs.Standing.{is_table_at, scene_from-made}

-- ---- bodies that are held and let go

alone_marks : (indexes : List ℕ) → made_alone (marks indexes) ≡ made_marks 0 indexes
alone_marks [] = refl
alone_marks (index ∷ rest) = ap (λ (h : List Made). record { pass = 0; entry = Mark index } ∷ h) (alone_marks rest)

alone_unmarks : (indexes : List ℕ) → made_alone (unmarks indexes) ≡ made_unmarks 0 indexes
alone_unmarks [] = refl
alone_unmarks (index ∷ rest) = ap (λ (h : List Made). record { pass = 0; entry = Unmark index } ∷ h) (alone_unmarks rest)

marks_lawful : (indexes : List ℕ) (later : List Entry) (scene : Scene) → ArePossibleFrom scene (marks indexes ++ later) → IsLawfulFrom 0 scene (made_marks 0 indexes)
marks_lawful [] later scene h = tt
marks_lawful (index ∷ rest) later scene h = ((h.0, tt), marks_lawful rest later (after_entry scene (Mark index)) h.1)

undone_same : (indexes : List ℕ) (scene : Scene) → ArePossibleFrom scene (marks indexes ++ unmarks indexes)
    → fold after_entry scene (marks indexes ++ unmarks indexes) ≡ scene
undone_same indexes scene h =
    let alone : Entry → Made = λ entry. record { pass = 0; entry = entry } in
    sym (scene_from-made scene (marks indexes ++ unmarks indexes))
    ∙ ap (scene_from scene) (map-append alone (marks indexes) (unmarks indexes))
    ∙ ap (λ (m : List Made). scene_from scene (m ++ made_alone (unmarks indexes))) (alone_marks indexes)
    ∙ ap (λ (m : List Made). scene_from scene (made_marks 0 indexes ++ m)) (alone_unmarks indexes)
    ∙ marks_then_unmarks 0 0 indexes scene (marks_lawful indexes (unmarks indexes) scene h)

-- entries that hold bodies and let them go
abbrev AreUndone : List Entry → Type 0
AreUndone made = (indexes : List ℕ) × (made ≡ marks indexes ++ unmarks indexes)

is_undone : (scene : Scene) (made : List Entry) → AreUndone made → ArePossibleFrom scene made → IsUndone scene made
is_undone scene made u h = record {
  indexes = u.0;
  undone = u.1;
  same = ap (λ (es : List Entry). fold after_entry scene es) u.1 ∙ undone_same u.0 scene (subst (ArePossibleFrom scene) u.1 h);
}

-- ---- a taking that is refused

marked_undone : (indexes : List ℕ) (o : Option Refusal) (r : Refusal) → (marked indexes o).refusal ≡ Some r → AreUndone (marked indexes o).entries
marked_undone indexes None r e = absurd cc
marked_undone indexes (Some refusal) r e = (indexes, refl)

taking_undone : (room : Option Refusal) (m : Marking) (r : Refusal) → (taking_in room m).refusal ≡ Some r → AreUndone (taking_in room m).entries
taking_undone None m r e = marked_undone m.indexes m.refusal r e
taking_undone (Some refusal) m r e = ([], refl)

keep_undone : (table : Table) (batch : Batch) (made : List Entry) (o : Option Refusal) (r : Refusal) → (keep_taken table batch made o).refusal ≡ Some r
    → ((s : Refusal) → o ≡ Some s → AreUndone made) → AreUndone (keep_taken table batch made o).entries
keep_undone table batch made None r e h = absurd cc
keep_undone table batch made (Some refusal) r e h = h refusal refl

either_undone : (b : Bool) (x y : Attempt) (r : Refusal) → (cond b x y).refusal ≡ Some r → AreUndone x.entries → (y.refusal ≡ Some r → AreUndone y.entries)
    → AreUndone (cond b x y).entries
either_undone true x y r e h k = h
either_undone false x y r e h k = k e

prepare_undone : (table : Table) (name : List ℕ) (layer : ℕ) (o : Option (List Known)) (r : Refusal) → (prepare_known table name layer o).refusal ≡ Some r
    → AreUndone (prepare_known table name layer o).entries
prepare_undone table name layer None r e = ([], refl)
prepare_undone table name layer (Some bodies) r e =
    let t = taking table layer bodies in
    either_undone (has_batch table.books name) _ _ r e ([], refl)
    (λ k.
    keep_undone table (record { name = name; layer = layer; indexes = t.indexes; nodes = need (length bodies) }) t.entries t.refusal r k
    (λ s f. taking_undone (room_refusal table layer (length bodies)) (marking table.scene layer bodies) s f))

-- ---- layers

-- what the entries of an add are, where it is refused
pub record ArePartly (from : ℕ) (made : List Entry) : Type 0 where
  pub added : List Addition
  pub ascend : Ascend from added
  pub rest : List Entry
  pub parts : made ≡ additions added ++ rest
  pub undone : AreUndone rest

-- of a layer: its bodies came in, or it had none, or it was refused
abbrev LayerIs : ℕ → List Entry → Option Refusal → Type 0
LayerIs layer made (Some refusal) = AreUndone made
LayerIs layer made None = (made ≡ []) ⊎ ((indexes : List ℕ) × (made ≡ marks indexes ++ Join layer indexes ∷ []))

marked_whole : (indexes : List ℕ) (o : Option Refusal) → (marked indexes o).refusal ≡ None → (marked indexes o).entries ≡ marks (marked indexes o).indexes
marked_whole indexes None e = refl
marked_whole indexes (Some refusal) e = absurd cc

taking_whole : (room : Option Refusal) (m : Marking) → (taking_in room m).refusal ≡ None → (taking_in room m).entries ≡ marks (taking_in room m).indexes
taking_whole None m e = marked_whole m.indexes m.refusal e
taking_whole (Some refusal) m e = absurd cc

join_layer : (table : Table) (layer nodes : ℕ) (indexes : List ℕ) (made : List Entry) (o : Option Refusal) → (o ≡ None → made ≡ marks indexes)
    → ((s : Refusal) → o ≡ Some s → AreUndone made)
    → LayerIs layer (join_taken table layer nodes indexes made o).entries (join_taken table layer nodes indexes made o).refusal
join_layer table layer nodes indexes made None whole undone = inr (indexes, ap (λ (es : List Entry). es ++ Join layer indexes ∷ []) (whole refl))
join_layer table layer nodes indexes made (Some refusal) whole undone = undone refusal refl

layer_is : (table : Table) (layer : ℕ) (bodies : List Known) → LayerIs layer (add_layer table layer bodies).entries (add_layer table layer bodies).refusal
layer_is table layer [] = inl refl
layer_is table layer (known ∷ bodies) =
    let t = taking table layer (known ∷ bodies) in
    let room = room_refusal table layer (length (known ∷ bodies)) in
    let m = marking table.scene layer (known ∷ bodies) in
    join_layer table layer (need (length (known ∷ bodies))) t.indexes t.entries t.refusal (taking_whole room m) (taking_undone room m)

later_layers : (from to : ℕ) (added : List Addition) → from ≤ to → Ascend to added → Ascend from added
later_layers from to [] less h = tt
later_layers from to (a ∷ added) less h = (omega (arith, h.0), h.1)

one_layer : (layer : ℕ) (made : List Entry) (later : List Entry) → (made ≡ []) ⊎ ((indexes : List ℕ) × (made ≡ marks indexes ++ Join layer indexes ∷ []))
    → ArePartly (layer + 1) later → ArePartly layer (made ++ later)
one_layer layer made later (inl none) p = record {
  added = p.added;
  ascend = later_layers layer (layer + 1) p.added (omega arith) p.ascend;
  rest = p.rest;
  parts = ap (λ (es : List Entry). es ++ later) none ∙ p.parts;
  undone = p.undone;
}
one_layer layer made later (inr some) p = record {
  added = record { layer = layer; indexes = some.0 } ∷ p.added;
  ascend = (omega arith, p.ascend);
  rest = p.rest;
  parts =
      ap (λ (es : List Entry). es ++ later) some.1
      ∙ ap (λ (es : List Entry). (marks some.0 ++ Join layer some.0 ∷ []) ++ es) p.parts
      ∙ sym (append_assoc (marks some.0 ++ Join layer some.0 ∷ []) (additions p.added) p.rest);
  undone = p.undone;
}

followed_partly : (layer : ℕ) (o : Option Refusal) (first later : Attempt) (r : Refusal) → (followed o first later).refusal ≡ Some r → LayerIs layer first.entries o
    → (later.refusal ≡ Some r → ArePartly (layer + 1) later.entries) → ArePartly layer (followed o first later).entries
followed_partly layer None first later r e h k = one_layer layer first.entries later.entries h (k e)
followed_partly layer (Some refusal) first later r e h k = record { added = []; ascend = tt; rest = first.entries; parts = refl; undone = h }

add_partly : (bodies : List Known) (n layer : ℕ) (table : Table) (r : Refusal) → (add_layers table bodies (range_with_len layer n)).refusal ≡ Some r
    → ArePartly layer (add_layers table bodies (range_with_len layer n)).entries
add_partly bodies zero layer table r e = absurd cc
add_partly bodies (suc n) layer table r e =
    let part = in_layer layer bodies in
    let first = add_layer table layer part in
    let next = table_with table first.entries first.books in
    followed_partly layer first.refusal first (add_layers next bodies (range_with_len (layer + 1) n)) r e (layer_is table layer part)
    (λ k. add_partly bodies n (layer + 1) next r k)

known_partly : (table : Table) (o : Option (List Known)) (r : Refusal) → (add_known table o).refusal ≡ Some r → ArePartly 0 (add_known table o).entries
known_partly table None r e = record { added = []; ascend = tt; rest = []; parts = refl; undone = ([], refl) }
known_partly table (Some bodies) r e = add_partly bodies table.world.layers 0 table r e

possible_rest : (xs ys : List Entry) (scene : Scene) → ArePossibleFrom scene (xs ++ ys) → ArePossibleFrom (fold after_entry scene xs) ys
possible_rest [] ys scene h = h
possible_rest (x ∷ xs) ys scene h = possible_rest xs ys (after_entry scene x) h.1

partly_added : (scene : Scene) (from : ℕ) (made : List Entry) → ArePartly from made → ArePossibleFrom scene made → IsPartlyAdded scene from made
partly_added scene from made p h =
    let after = fold after_entry scene (additions p.added) in
    let rest = possible_rest (additions p.added) p.rest scene (subst (ArePossibleFrom scene) p.parts h) in
    record { added = p.added; ascend = p.ascend; rest = p.rest; parts = p.parts; undone = is_undone after p.rest p.undone rest }

-- ---- commands that make no entry where they are refused

make_none : (table : Table) (entry : Entry) (o : Option Refusal) (r : Refusal) → (make_change table entry o).refusal ≡ Some r → (make_change table entry o).entries ≡ []
make_none table entry None r e = absurd cc
make_none table entry (Some refusal) r e = refl

body_none : (table : Table) (change : Change) (index : ℕ) (o : Option BodyView) (r : Refusal) → (change_body table change index o).refusal ≡ Some r
    → (change_body table change index o).entries ≡ []
body_none table change index None r e = refl
body_none table change index (Some v) r e = make_none table (entry_of change index) (forbids change v.phase) r e

change_none : (table : Table) (change : Change) (o : Option Known) (r : Refusal) → (change_known table change o).refusal ≡ Some r → (change_known table change o).entries ≡ []
change_none table change None r e = refl
change_none table change (Some known) r e = body_none table change known.id.index (body_of table.scene known.id) r e

finalize_none : (table : Table) (name : List ℕ) (o : Option Batch) (r : Refusal) → (finalize_batch table name o).refusal ≡ Some r → (finalize_batch table name o).entries ≡ []
finalize_none table name None r e = refl
finalize_none table name (Some batch) r e = absurd cc

abort_none : (table : Table) (name : List ℕ) (o : Option Batch) (r : Refusal) → (abort_batch table name o).refusal ≡ Some r → (abort_batch table name o).entries ≡ []
abort_none table name None r e = refl
abort_none table name (Some batch) r e = absurd cc

create_none : (table : Table) (name : List ℕ) (layer user : ℕ) (bounds : FixBox) (o : Option ℕ) (r : Refusal)
    → (create_turn table name layer bounds user o).reply ≡ replies.Refused r → (create_turn table name layer bounds user o).entries ≡ []
create_none table name layer user bounds None r e = refl
create_none table name layer user bounds (Some index) r e = absurd cc

-- ---- every command

refused_by : (o : Option Refusal) (r : Refusal) → outcome o ≡ replies.Refused r → o ≡ Some r
refused_by None r e = absurd cc
refused_by (Some refusal) r e = cc

turn_undone : (table : Table) (c : Command) (r : Refusal) → (turn table c).reply ≡ replies.Refused r → ArePossibleFrom table.scene (turn table c).entries
    → LeavesUndone table.scene c (turn table c).entries
turn_undone table (commands.Create name layer bounds user) r e h = create_none table name layer user bounds (next_index table.scene) r e
turn_undone table (commands.Destroy name) r e h = change_none table changes.Destroy (known_at table.books name) r (refused_by _ r e)
turn_undone table (commands.Add names) r e h =
    partly_added table.scene 0 (add_known table (known_all table.books names)).entries (known_partly table (known_all table.books names) r (refused_by _ r e)) h
turn_undone table (commands.Prepare batch layer names) r e h =
    is_undone table.scene (prepare_known table batch layer (known_all table.books names)).entries (prepare_undone table batch layer (known_all table.books names) r (refused_by _ r e)) h
turn_undone table (commands.Finalize batch) r e h = finalize_none table batch (batch_named table.books batch) r (refused_by _ r e)
turn_undone table (commands.Abort batch) r e h = abort_none table batch (batch_named table.books batch) r (refused_by _ r e)
turn_undone table (commands.Remove name) r e h = change_none table changes.Remove (known_at table.books name) r (refused_by _ r e)
turn_undone table (commands.Move name bounds) r e h = change_none table (changes.Move bounds) (known_at table.books name) r (refused_by _ r e)
turn_undone table (commands.User name user) r e h = change_none table (changes.SetUser user) (known_at table.books name) r (refused_by _ r e)
turn_undone table (commands.Read name) r e h = refl
turn_undone table (commands.Multi names) r e h = refl
turn_undone table (commands.QueryBox mask bounds) r e h = refl
turn_undone table (commands.QueryPoint mask at) r e h = refl
turn_undone table (commands.QueryRay mask segment) r e h = refl

pub undone_at : (script : Script) (at : Standing script) (r : Refusal) → (turn_at script at).reply ≡ replies.Refused r
    → LeavesUndone (scene_at script at) at.command (turn_at script at).entries
undone_at script at r e =
    let table = table_at script at in
    let here = is_table_at script at in
    subst (λ (s : Scene). LeavesUndone s at.command (turn table at.command).entries) here.scene
    (turn_undone table at.command r e (turn_possible_from table at.command here.under_way))
