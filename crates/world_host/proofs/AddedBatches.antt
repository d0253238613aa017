-- Bodies of a layer that are taken and come into the broad phase at once.
use Rattle.std.proofs.Common.{◌≡◌, ℕ, ◌+◌, ◌-◌, ◌<◌, ◌≤◌, List, [], ◌∷◌, ◌++◌, length, map, get_or, fold, Option, Some, None, refl, ap, sym, ◌∙◌, subst, arith}
use Rattle.std.specs.Prelude.{sum_by, nat_eq, false}
use Rattle.std.proofs.lemmas.Bool.{false≢true}
use Rattle.std.specs.List.{remove}
use Rattle.std.proofs.lemmas.List.{append-nil, length-append, length-map}
use Rattle.std.proofs.lemmas.List.Edits.{remove-append_right}
use Rattle.std.proofs.lemmas.List.Sums.{fold-append, sum_by-append, sum_by-cons}
use Rattle.scene_model.specs.declared.entry.Entry.{Entry}
use Rattle.scene_model.specs.declared.entry.Entry.TheVariants.{Join}
use Rattle.scene_model.specs.Scene.{Scene}
use Rattle.scene_model.specs.Step.{after_entry}
use Rattle.scene_model.specs.Query.{in_count}
use Rattle.scene_model.specs.Need.{need}
use Rattle.word_map.specs.declared.config.Config.{Config}
use Rattle.core_state.specs.declared.view.View.{View}
use Rattle.pass_table.specs.declared.pass.Pass.{Pass}
use Rattle.pass_table.specs.declared.world.World.{World}
use Rattle.pass_table.specs.Passes.{view_of, IsOf}
use Rattle.batch_add.specs.declared.prepared.Prepared.{Prepared}
use Rattle.batch_add.specs.declared.prepared_list.PreparedList.{PreparedList}
use Rattle.batch_add.specs.PreparedLists.{batches_of, AreGood}
use Rattle.tree_query.specs.Finding.{room_of}
use Rattle.reply_text.specs.declared.refusal.Refusal.{Refusal}
use Rattle.script_player.specs.declared.books.Batch.{Batch}
use Rattle.script_player.specs.declared.books.Known.{Known}
use Rattle.script_player.specs.Books.{Books, with_attached}
use Rattle.script_player.specs.Taking.{Taking, marking, room_refusal, taking}
use Rattle.script_player.specs.Table.{Table, table_with}
use Rattle.script_player.specs.Attempt.{Attempt}
use Rattle.script_player.specs.Batches.{join_taken, add_layer}
use Rattle.world_host.specs.declared.serial_world.SerialWorld.{SerialWorld}
use Rattle.world_host.specs.Alone.{scene_of, IsLone, AreLawful, MakesEntries}
use Rattle.world_host.specs.Counted.{created_by, destroyed_by, joined_by, removed_by}
use Rattle.world_host.specs.Rooms.{HasRooms, AreTokens}
use Rattle.world_host.specs.Batches.{WasAttached, TellsRoom, HasBatchMore, TakesAlone, ListAfter, Adds, AddsAlone}
use Rattle.world_host.specs.Shown.{table_of, IsSound, Attempts}
use Rattle.world_host.proofs.BookCounts.{attached-slots, attached-nodes}
use Rattle.world_host.proofs.EndedTurns.{shape_in, took-slots}
use Rattle.world_host.proofs.FewBodies.{in-few}
use Rattle.world_host.proofs.LiveCounts.{in-counted}
use Rattle.world_host.proofs.Soundness.{lone-consistent, Goes, table-goes, sound-goes}
use Rattle.world_host.proofs.TakenTurns.{taking-quiet, quiet-live, quiet-inside, tells-room, same-rooms}

-- ---- one call after another

lawful-append : (layers : ℕ) (xs ys : List Entry) (s : Scene) → AreLawful layers s xs → AreLawful layers (fold after_entry s xs) ys → AreLawful layers s (xs ++ ys)
lawful-append layers [] ys s one two = two
lawful-append layers (x ∷ xs) ys s one two = (one.0, lawful-append layers xs ys (after_entry s x) one.1 two)

pub makes-then : (start mid next : View) (xs ys : List Entry) → MakesEntries start mid xs → MakesEntries mid next ys → MakesEntries start next (xs ++ ys)
makes-then start mid next xs ys one two = record {
  scene = two.scene ∙ (ap (λ (s : Scene). fold after_entry s ys) one.scene ∙ sym (fold-append after_entry (scene_of start) xs ys));
  lawful =
      lawful-append start.config.layers xs ys (scene_of start) one.lawful
      (subst (λ (s : Scene). AreLawful start.config.layers s ys) one.scene (subst (λ (c : Config). AreLawful c.layers (scene_of mid) ys) one.config two.lawful));
  config = two.config ∙ one.config;
}

-- ---- the last batch of a list

last-stands : (xs : List Prepared) (x q : Prepared) (place : ℕ) → place ≡ length xs → q ≡ get_or (xs ++ x ∷ []) place q → q ≡ x
last-stands xs x q place at e = e ∙ (ap (λ (n : ℕ). get_or (xs ++ x ∷ []) n q) at ∙ last xs)
  where
    last : (ys : List Prepared) → get_or (ys ++ x ∷ []) (length ys) q ≡ x
    last [] = refl
    last (y ∷ ys) = last ys

last-removed : (xs : List Prepared) (x : Prepared) (place : ℕ) → place ≡ length xs → remove (xs ++ x ∷ []) place ≡ xs
last-removed xs x place at =
    remove-append_right xs (x ∷ []) (length xs) place refl (omega arith)
    ∙ ((let none : place - length xs ≡ 0 = omega arith in ap (λ (n : ℕ). xs ++ remove (x ∷ []) n) none) ∙ append-nil xs)

-- there is one more
pub last-place : (old mid : PreparedList) → ListAfter old mid None → length (batches_of mid) ≡ length (batches_of old) + 1
last-place old mid t = let e = ap (λ (l : List Prepared). length l) t.1 in omega (arith, e, length-append (batches_of old) (t.0 ∷ []))

-- and without it the list is as it was
pub none-left : (old mid new : PreparedList) (place : ℕ) → ListAfter old mid None → place ≡ length (batches_of old) → batches_of new ≡ remove (batches_of mid) place → batches_of new ≡ batches_of old
none-left old mid new place t at left = left ∙ (ap (λ (l : List Prepared). remove l place) t.1 ∙ last-removed (batches_of old) t.0 place at)

-- ---- they were taken, and their batch was attached

module _ (layer : ℕ) (bodies : List Known) (old mid : PreparedList) (start between next : View) (takes : TakesAlone layer bodies old mid start between None) (table : Table) (tells : TellsRoom table start) where
  its-more : HasBatchMore layer bodies (taking table layer bodies).indexes old mid start between
  its-more = (takes table tells).after

  module _ (place : ℕ) (at : place ≡ length (batches_of old)) (q : Prepared) (stands : q ≡ get_or (batches_of mid) place q) (attached : WasAttached q.layer q.indexes.items between next) where
    is-it : q ≡ its-more.batch
    is-it = last-stands (batches_of old) its-more.batch q place at (stands ∙ ap (λ (l : List Prepared). get_or l place q) its-more.put)

    pub adds-now : Adds (taking table layer bodies) layer bodies start next None
    adds-now =
        let t = taking table layer bodies in
        let so = takes table tells in
        let shape : shape_in q ≡ (layer, t.indexes) = ap shape_in is-it ∙ (λ i. (its-more.of_layer i, its-more.holds i)) in
        let join : MakesEntries between next (Join layer t.indexes ∷ []) = subst (λ (s : ℕ × List ℕ). MakesEntries between next (Join s.0 s.1 ∷ [])) shape attached.made in
        let room = its-more.room in
        let still = attached.room in
        record {
          refusal_is = so.refusal_is;
          made = λ other.
              subst (λ (o : Option Refusal). MakesEntries start next (join_taken other layer (need (length bodies)) t.indexes t.entries o).entries) so.refusal_is
              (makes-then start between next t.entries (Join layer t.indexes ∷ []) so.made join);
          after = (
            record {
              config = still.config ∙ room.config;
              own = still.slots layer ∙ room.own;
              others = λ other apart. still.slots other ∙ room.others other apart;
              free = ap (λ (n : ℕ). n + need (length bodies)) still.free ∙ room.free;
            },
            its-more.all,
          );
        }

-- or one was refused
pub adds-none : (layer : ℕ) (bodies : List Known) (old new : PreparedList) (start next : View) (refusal : Refusal) → TakesAlone layer bodies old new start next (Some refusal) → AddsAlone layer bodies start next (Some refusal)
adds-none layer bodies old new start next refusal takes table tells =
    let t = taking table layer bodies in
    let so = takes table tells in
    record {
      refusal_is = so.refusal_is;
      made = λ other. subst (λ (o : Option Refusal). MakesEntries start next (join_taken other layer (need (length bodies)) t.indexes t.entries o).entries) so.refusal_is so.made;
      after = so.after.1;
    }

-- ---- the commands

pub some-bodies : (bodies : List Known) → nat_eq (length bodies) 0 ≡ false → 0 < length bodies
some-bodies [] h = absurd (false≢true (sym h))
some-bodies (k ∷ ks) h = omega arith

-- nothing is to be added
pub nothing-added : (w : SerialWorld) (layer : ℕ) (bodies : List Known) → IsSound w → length bodies ≡ 0 → Attempts (add_layer (table_of w) layer bodies) w w None
nothing-added w layer [] sound none = record { refusal_is = refl; after = refl; sound = sound }
nothing-added w layer (k ∷ ks) sound none = absurd (omega arith)

some-added : (table : Table) (layer : ℕ) (bodies : List Known) → 0 < length bodies
    → (let t = taking table layer bodies in join_taken table layer (need (length bodies)) t.indexes t.entries t.refusal ≡ add_layer table layer bodies)
some-added table layer [] some = absurd (omega arith)
some-added table layer (k ∷ ks) some = refl

module _ (a b : SerialWorld) (layer : ℕ) (bodies : List Known) (sound : IsSound a) (some : 0 < length bodies) (lone : IsLone b.world b.pass) (good : AreGood b.batches (view_of b.pass)) (same : batches_of b.batches ≡ batches_of a.batches)
    (sizes : b.world.map ≡ a.world.map) (live : b.live ≡ a.live) (finder : room_of b.finder ≡ room_of a.finder) where
  abbrev table : Table
  table = table_of a

  abbrev t : Taking
  t = taking table layer bodies

  abbrev both : List Entry
  both = t.entries ++ Join layer t.indexes ∷ []

  -- by what was taken and joined
  quiet : (f : Entry → ℕ) → sum_by f t.entries ≡ 0 → sum_by f both ≡ f (Join layer t.indexes)
  quiet f none =
      let parts = sum_by-append f t.entries (Join layer t.indexes ∷ []) in
      let one = sum_by-cons f (Join layer t.indexes) [] in
      omega (arith, parts, one, none)

  tokens-same : b.books.prepared ≡ a.books.prepared → AreTokens b.books.prepared b.batches (view_of b.pass)
  tokens-same prepared =
      subst (λ (l : List Batch). AreTokens l b.batches (view_of b.pass)) (sym prepared)
      (record { good = good; same = sound.tokens.same ∙ ap (map shape_in) (sym same); nodes = sound.tokens.nodes })

  pub added-turn : b.books ≡ with_attached a.books layer (need (length bodies)) → b.inside ≡ a.inside + length bodies → AddsAlone layer bodies (view_of a.pass) (view_of b.pass) None → Attempts (add_layer table layer bodies) a b None
  added-turn books inside adds =
      let so = adds table (tells-room a sound) in
      let room = so.after.0 in
      let many : length t.indexes ≡ length bodies = ap (length {A = ℕ}) so.after.1 ∙ length-map bodies (λ (k : Known). k.id.index) in
      let made : MakesEntries (view_of a.pass) (view_of b.pass) both =
      subst (λ (o : Option Refusal). MakesEntries (view_of a.pass) (view_of b.pass) (join_taken table layer (need (length bodies)) t.indexes t.entries o).entries) (sym so.refusal_is) (so.made table)
      in
      let goes : Goes a b both = record {
        sizes = sizes;
        lone = lone;
        made = made;
        live =
            let gone = quiet destroyed_by (taking-quiet destroyed_by (λ i. refl) (λ i. refl) (room_refusal table layer (length bodies)) (marking table.scene layer bodies)) in
            let come = quiet created_by (taking-quiet created_by (λ i. refl) (λ i. refl) (room_refusal table layer (length bodies)) (marking table.scene layer bodies)) in
            omega (arith, live, gone, come);
        inside =
            let gone = quiet removed_by (taking-quiet removed_by (λ i. refl) (λ i. refl) (room_refusal table layer (length bodies)) (marking table.scene layer bodies)) in
            let come = quiet joined_by (taking-quiet joined_by (λ i. refl) (λ i. refl) (room_refusal table layer (length bodies)) (marking table.scene layer bodies)) in
            omega (arith, inside, gone, come, many);
      } in
      let rooms : HasRooms (view_of b.pass) b.books = subst (HasRooms (view_of b.pass)) (sym books) (record {
        slots = λ l below.
            let was = sound.rooms.slots l (subst (λ (c : Config). l < c.layers) room.config below) in
            omega (arith, was, took-slots layer (need (length bodies)) (view_of a.pass) (view_of b.pass) room l, attached-slots a.books layer (need (length bodies)) l);
        nodes =
            let was = sound.rooms.nodes in
            let all = ap (λ (c : Config). c.nodes) room.config in
            omega (arith, was, all, room.free, attached-nodes a.books layer (need (length bodies)));
      }) in
      let whole = ap (join_taken table layer (need (length bodies)) t.indexes t.entries) so.refusal_is ∙ some-added table layer bodies some in
      subst (λ (s : Attempt). Attempts s a b None) whole (record {
        refusal_is = refl;
        after = table-goes a b both goes ∙ ap (table_with table both) books;
        sound = sound-goes a b both sound goes rooms (tokens-same (ap (λ (k : Books). k.prepared) books)) finder (ap (λ (k : Books). k.known) books);
      })

  pub unadded-turn : (refusal : Refusal) → b.books ≡ a.books → b.inside ≡ a.inside → AddsAlone layer bodies (view_of a.pass) (view_of b.pass) (Some refusal) → Attempts (add_layer table layer bodies) a b (Some refusal)
  unadded-turn refusal books inside adds =
      let so = adds table (tells-room a sound) in
      let made : MakesEntries (view_of a.pass) (view_of b.pass) t.entries =
      subst (λ (o : Option Refusal). MakesEntries (view_of a.pass) (view_of b.pass) (join_taken table layer (need (length bodies)) t.indexes t.entries o).entries) (sym so.refusal_is) (so.made table)
      in
      let goes : Goes a b t.entries = record { sizes = sizes; lone = lone; made = made; live = quiet-live (room_refusal table layer (length bodies)) (marking table.scene layer bodies) a.live b.live live; inside = quiet-inside (room_refusal table layer (length bodies)) (marking table.scene layer bodies) a.inside b.inside inside } in
      let rooms = subst (HasRooms (view_of b.pass)) (sym books) (same-rooms (view_of a.pass) (view_of b.pass) a.books so.after sound.rooms) in
      let whole = ap (join_taken table layer (need (length bodies)) t.indexes t.entries) so.refusal_is ∙ some-added table layer bodies some in
      subst (λ (s : Attempt). Attempts s a b (Some refusal)) whole (record {
        refusal_is = refl;
        after = table-goes a b t.entries goes ∙ ap (table_with table t.entries) books;
        sound = sound-goes a b t.entries sound goes rooms (tokens-same (ap (λ (k : Books). k.prepared) books)) finder (ap (λ (k : Books). k.known) books);
      })

-- the bodies in the broad phase are still few
pub added-fits : (a : SerialWorld) (world : World) (pass : Pass) (layer : ℕ) (bodies : List Known) → IsSound a → IsOf world pass → AddsAlone layer bodies (view_of a.pass) (view_of pass) None → a.inside + length bodies ≤ 65536
added-fits a world pass layer bodies sound of adds =
    let table = table_of a in
    let t = taking table layer bodies in
    let so = adds table (tells-room a sound) in
    let start = view_of a.pass in
    let both = t.entries ++ Join layer t.indexes ∷ [] in
    let made : MakesEntries start (view_of pass) both =
    subst (λ (o : Option Refusal). MakesEntries start (view_of pass) (join_taken table layer (need (length bodies)) t.indexes t.entries o).entries) (sym so.refusal_is) (so.made table)
    in
    let counted = in-counted start.config.layers both (scene_of start) (lone-consistent a.pass) made.lawful in
    let after : in_count (scene_of (view_of pass)) ≡ in_count (fold after_entry (scene_of start) both) = ap in_count made.scene in
    let many : length t.indexes ≡ length bodies = ap (length {A = ℕ}) so.after.1 ∙ length-map bodies (λ (k : Known). k.id.index) in
    let parts = sum_by-append joined_by t.entries (Join layer t.indexes ∷ []) in
    let one = sum_by-cons joined_by (Join layer t.indexes) [] in
    let rest = taking-quiet joined_by (λ i. refl) (λ i. refl) (room_refusal table layer (length bodies)) (marking table.scene layer bodies) in
    let gone_parts = sum_by-append removed_by t.entries (Join layer t.indexes ∷ []) in
    let gone_one = sum_by-cons removed_by (Join layer t.indexes) [] in
    let gone_rest = taking-quiet removed_by (λ i. refl) (λ i. refl) (room_refusal table layer (length bodies)) (marking table.scene layer bodies) in
    let is = sound.inside in
    omega (arith, counted, after, many, parts, one, rest, gone_parts, gone_one, gone_rest, is, in-few world pass of)
