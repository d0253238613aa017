-- Each refusal is that of the first cause that the scene gives.
use Rattle.std.proofs.Common.{◌≡◌, ℕ, List, [], ◌∷◌, map, Option, Some, None, option_map, refl, ap, sym, subst, ◌∙◌, inl, inr}
use Rattle.std.proofs.lemmas.Option.{none-some}
use Rattle.word_map.specs.declared.config.Config.{Config}
use Rattle.body_ident.specs.Id.{Id}
use Rattle.fixed_box.specs.declared.fix_box.FixBox.{FixBox}
use Rattle.scene_model.specs.declared.body_view.BodyView.{BodyView}
use Rattle.scene_model.specs.declared.body_view.Phase.{Phase}
use Rattle.scene_model.specs.declared.body_view.Phase.TheVariants.{Out, Held, In}
use Rattle.scene_model.specs.declared.entry.Entry.{Entry}
use Rattle.scene_model.specs.Scene.{Scene, next_index}
use Rattle.scene_model.specs.Query.{view_of}
use Rattle.scene_model.specs.Cause.{IsCauseAt, full, gone}
use Rattle.scene_model.proofs.Full.{next_index-full}
use Rattle.scene_model.proofs.Histories.{IsConsistent-scene_after}
use Rattle.script_text.specs.declared.command.Command.{Command}
use Rattle.script_text.specs.declared.command.Command.TheVariants as commands
use Rattle.script_text.specs.declared.script.Script.{Script}
use Rattle.reply_text.specs.declared.refusal.Refusal.{Refusal}
use Rattle.reply_text.specs.declared.refusal.Refusal.TheVariants as refusals
use Rattle.script_player.specs.declared.books.Known.{Known}
use Rattle.script_player.specs.declared.bodies.Change.{Change}
use Rattle.script_player.specs.declared.bodies.Change.TheVariants as changes
use Rattle.script_player.specs.Books.{known_at, known_all, has_batch, batch_named}
use Rattle.script_player.specs.Table.{Table}
use Rattle.script_player.specs.Attempt.{outcome}
use Rattle.script_player.specs.Body.{body_of, forbids, entry_of, make_change, change_body, change_known, read_body, read_known, item_of, multi_known}
use Rattle.script_player.specs.Turn.{create_turn, turn}
use Rattle.script_player.specs.Standing.{Standing, history_at, scene_at, table_at, turn_at}
use Rattle.script_player.specs.Exchange.{exchanges_at, all_known_by, ids_of_names}
use Rattle.script_player.specs.Prepared.{Kept, kept_at}
use Rattle.script_player.specs.Refused.{IsDoneOr, LooksAt, IsLookedAt, AnswersById, IsTold, TellsBody, AnswersRead, TellsItem, TellsItems, AnswersMulti, IsMadeOrFull, AnswersPrepare, AnswersAdd, IsAnsweredFirst}
use Rattle.script_player.proofs.Causes.{replied, told, IsInPhase, told_phase, is_there, has_not, has_more}
use Rattle.script_player.proofs.Standing.{is_table_at}
use Rattle.script_player.proofs.Lawful.{lawful_at}
use Rattle.script_player.proofs.Preparing.{kept_in, is_named, prepare_answered, finalize_answered, abort_answered}
use Rattle.script_player.proofs.Keeping.{kept_is}
use Rattle.script_player.proofs.Adding.{add_answered}
use Rattle.script_player.proofs.Naming.{name_at, names_at}

-- ---- changes

-- the command that asks for a change
abbrev pub command_of : Change → List ℕ → Command
command_of changes.Destroy name = commands.Destroy name
command_of changes.Remove name = commands.Remove name
command_of (changes.Move bounds) name = commands.Move name bounds
command_of (changes.SetUser user) name = commands.User name user

looks_gone : (scene : Scene) (i : Id) (change : Change) (name : List ℕ) → IsCauseAt (gone i) scene → LooksAt scene i (command_of change name) (Some refusals.Gone)
looks_gone scene i changes.Destroy name h = inl (h, refl)
looks_gone scene i changes.Remove name h = inl (h, refl)
looks_gone scene i (changes.Move bounds) name h = inl (h, refl)
looks_gone scene i (changes.SetUser user) name h = inl (h, refl)

looks_there : (scene : Scene) (i : Id) (change : Change) (name : List ℕ) (p : Phase) → IsInPhase scene i p → LooksAt scene i (command_of change name) (forbids change p)
looks_there scene i changes.Destroy name Out h =
    inr (is_there scene i _ h, inr (has_not scene i _ _ (λ r a b. elim b [ inl held ↦ cc | inr inside ↦ cc ]) h, refl))
looks_there scene i changes.Destroy name Held h = inr (is_there scene i _ h, inl (has_more scene i _ _ (λ r a. inl a) h, refl))
looks_there scene i changes.Destroy name In h = inr (is_there scene i _ h, inl (has_more scene i _ _ (λ r a. inr a) h, refl))
looks_there scene i changes.Remove name Out h = inr (is_there scene i _ h, inl (h, refl))
looks_there scene i changes.Remove name Held h = inr (is_there scene i _ h, inr (has_not scene i _ _ (λ r a b. cc) h, inl (h, refl)))
looks_there scene i changes.Remove name In h =
    inr (is_there scene i _ h, inr (has_not scene i _ _ (λ r a b. cc) h, inr (has_not scene i _ _ (λ r a b. cc) h, refl)))
looks_there scene i (changes.Move bounds) name Out h = inr (is_there scene i _ h, inr (has_not scene i _ _ (λ r a b. cc) h, refl))
looks_there scene i (changes.Move bounds) name Held h = inr (is_there scene i _ h, inl (h, refl))
looks_there scene i (changes.Move bounds) name In h = inr (is_there scene i _ h, inr (has_not scene i _ _ (λ r a b. cc) h, refl))
looks_there scene i (changes.SetUser user) name p h = inr (is_there scene i _ h, refl)

make_answer : (table : Table) (entry : Entry) (o : Option Refusal) → (make_change table entry o).refusal ≡ o
make_answer table entry None = refl
make_answer table entry (Some refusal) = refl

ap_replied : (answer o : Option Refusal) → o ≡ answer → IsDoneOr answer (outcome o)
ap_replied answer o e = subst (λ (o : Option Refusal). IsDoneOr answer (outcome o)) (sym e) (replied answer)

body_looked : (table : Table) (i : Id) (change : Change) (name : List ℕ) (o : Option BodyView) → IsTold table.scene i o
    → IsLookedAt table.scene i (command_of change name) (outcome (change_body table change i.index o).refusal)
body_looked table i change name None h = record { answer = Some refusals.Gone; replied = refl; first = looks_gone table.scene i change name h }
body_looked table i change name (Some v) h = record {
  answer = forbids change v.phase;
  replied = ap_replied (forbids change v.phase) _ (make_answer table (entry_of change i.index) (forbids change v.phase));
  first = looks_there table.scene i change name v.phase (told_phase table.scene i v h);
}

-- what a name stands for, and its id
abbrev id_in : Option Known → Option Id
id_in o = option_map (λ k. k.id) o

change_answered : (table : Table) (change : Change) (name : List ℕ) (o : Option Known)
    → AnswersById table.scene (id_in o) (command_of change name) (outcome (change_known table change o).refusal)
change_answered table change name None = refl
change_answered table change name (Some known) =
    body_looked table known.id change name (body_of table.scene known.id) (told table.scene known.id (body_of table.scene known.id) refl)

-- ---- reads

read_told : (scene : Scene) (i : Id) (o : Option BodyView) → IsTold scene i o → TellsBody scene i (read_body o)
read_told scene i None h = h
read_told scene i (Some v) h = h

read_answered : (scene : Scene) (o : Option Known) → AnswersRead scene (id_in o) (read_known scene o)
read_answered scene None = refl
read_answered scene (Some known) = read_told scene known.id (body_of scene known.id) (told scene known.id (body_of scene known.id) refl)

item_told : (scene : Scene) (i : Id) (o : Option BodyView) → IsTold scene i o → TellsItem scene i (item_of o)
item_told scene i None h = h
item_told scene i (Some v) h =
    has_more scene i (λ r. view_of i.index r ≡ v) (λ r. ((view_of i.index r).id ≡ v.id) × (r.user ≡ v.user)) (λ r same. (ap (λ (w : BodyView). w.id) same, ap (λ (w : BodyView). w.user) same)) h

items_told : (scene : Scene) (bodies : List Known) → TellsItems scene (map (λ known. known.id) bodies) (map (λ known. item_of (body_of scene known.id)) bodies)
items_told scene [] = tt
items_told scene (known ∷ bodies) =
    (item_told scene known.id (body_of scene known.id) (told scene known.id (body_of scene known.id) refl), items_told scene bodies)

multi_answered : (scene : Scene) (o : Option (List Known)) → AnswersMulti scene (option_map (λ ks. map (λ k. k.id) ks) o) (multi_known scene o)
multi_answered scene None = refl
multi_answered scene (Some bodies) = items_told scene bodies

-- ---- creates

create_answered : (table : Table) (name : List ℕ) (layer user : ℕ) (bounds : FixBox) (o : Option ℕ) → next_index table.scene ≡ o
    → (next_index table.scene ≡ None → IsCauseAt full table.scene) → (IsCauseAt full table.scene → next_index table.scene ≡ None)
    → IsMadeOrFull table.scene (create_turn table name layer bounds user o).reply
create_answered table name layer user bounds None e to from = record { full_first = inl (to e, refl) }
create_answered table name layer user bounds (Some index) e to from =
    let t = create_turn table name layer bounds user (Some index) in
    record { full_first = inr (λ is_full. none-some index (sym (from is_full) ∙ e), (_, refl)) }

-- ---- where a command stands

answered : (script : Script) (at : Standing script) (c : Command)
    → IsAnsweredFirst script.world (kept_in (table_at script at).books) (table_at script at).scene (exchanges_at script at) c (turn (table_at script at) c).reply
answered script at (commands.Create name layer bounds user) =
    let table = table_at script at in
    let is = IsConsistent-scene_after script.world.layers script.world.bodies (history_at script at) (lawful_at script at) in
    let fills = next_index-full script.world.layers (scene_at script at) is in
    let P : Scene → Type 0 = λ s. (next_index s ≡ None → IsCauseAt full s) × (IsCauseAt full s → next_index s ≡ None) in
    let here = subst P (sym (is_table_at script at).scene) fills in
    create_answered table name layer user bounds (next_index table.scene) refl here.0 here.1
answered script at (commands.Destroy name) =
    let table = table_at script at in
    subst (λ (o : Option Known). AnswersById table.scene (id_in o) (commands.Destroy name) (turn table (commands.Destroy name)).reply) (name_at script at name)
    (change_answered table changes.Destroy name (known_at table.books name))
answered script at (commands.Remove name) =
    let table = table_at script at in
    subst (λ (o : Option Known). AnswersById table.scene (id_in o) (commands.Remove name) (turn table (commands.Remove name)).reply) (name_at script at name)
    (change_answered table changes.Remove name (known_at table.books name))
answered script at (commands.Move name bounds) =
    let table = table_at script at in
    subst (λ (o : Option Known). AnswersById table.scene (id_in o) (commands.Move name bounds) (turn table (commands.Move name bounds)).reply) (name_at script at name)
    (change_answered table (changes.Move bounds) name (known_at table.books name))
answered script at (commands.User name user) =
    let table = table_at script at in
    subst (λ (o : Option Known). AnswersById table.scene (id_in o) (commands.User name user) (turn table (commands.User name user)).reply) (name_at script at name)
    (change_answered table (changes.SetUser user) name (known_at table.books name))
answered script at (commands.Read name) =
    let table = table_at script at in
    subst (λ (o : Option Known). AnswersRead table.scene (id_in o) (turn table (commands.Read name)).reply) (name_at script at name) (read_answered table.scene (known_at table.books name))
answered script at (commands.Multi names) =
    let table = table_at script at in
    subst (λ (o : Option (List Known)). AnswersMulti table.scene (option_map (λ ks. map (λ k. k.id) ks) o) (turn table (commands.Multi names)).reply) (names_at script at names)
    (multi_answered table.scene (known_all table.books names))
answered script at (commands.Prepare batch layer names) =
    let table = table_at script at in
    let here = is_table_at script at in
    let kept = kept_in table.books batch layer in
    let reply = (turn table (commands.Prepare batch layer names)).reply in
    subst (λ (world : Config). AnswersPrepare world kept table.scene layer (ids_of_names (exchanges_at script at) names) reply) here.world
    (subst (λ (o : Option (List Known)). AnswersPrepare table.world kept table.scene layer (option_map (λ ks. map (λ k. k.id) ks) o) reply) (names_at script at names)
    (prepare_answered table batch layer (known_all table.books names) here.under_way.nodes))
answered script at (commands.Finalize batch) =
    let table = table_at script at in
    finalize_answered table batch (batch_named table.books batch) (has_batch table.books batch) (is_named table.books batch)
answered script at (commands.Abort batch) =
    let table = table_at script at in
    abort_answered table batch (batch_named table.books batch) (has_batch table.books batch) (is_named table.books batch)
answered script at (commands.Add names) =
    let table = table_at script at in
    let here = is_table_at script at in
    let reply = (turn table (commands.Add names)).reply in
    subst (λ (world : Config). AnswersAdd world (kept_in table.books []) table.scene (all_known_by (exchanges_at script at) names) reply) here.world
    (subst (λ (o : Option (List Known)). AnswersAdd table.world (kept_in table.books []) table.scene o reply) (names_at script at names)
    (add_answered table (known_all table.books names) here.under_way.nodes))
answered script at c = tt

pub answered_at : (script : Script) (at : Standing script)
    → IsAnsweredFirst script.world (kept_at script at) (scene_at script at) (exchanges_at script at) at.command (turn_at script at).reply
answered_at script at =
    let reply = (turn_at script at).reply in
    let kept : kept_in (table_at script at).books ≡ kept_at script at = λ i name layer. kept_is script at name layer i in
    subst (λ (k : List ℕ → ℕ → Kept). IsAnsweredFirst script.world k (scene_at script at) (exchanges_at script at) at.command reply) kept
    (subst (λ (s : Scene). IsAnsweredFirst script.world (kept_in (table_at script at).books) s (exchanges_at script at) at.command reply)
    (is_table_at script at).scene (answered script at at.command))
