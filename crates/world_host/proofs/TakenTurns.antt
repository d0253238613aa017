-- Batches of bodies that are taken, as commands on a shared world.
use Rattle.std.proofs.Common.{◌≡◌, ℕ, suc, ◌<◌, Bool, false, cond, List, [], ◌∷◌, ◌++◌, length, map, Option, Some, None, option_and_then, refl, ap, sym, ◌∙◌, subst, arith}
use Rattle.std.specs.Prelude.{sum_by, option_map}
use Rattle.std.proofs.lemmas.Option.{same_Some}
use Rattle.std.proofs.lemmas.List.{map-append, length-map}
use Rattle.std.proofs.lemmas.List.Elements.{All-push}
use Rattle.std.proofs.lemmas.List.Sums.{sum_by-append}
use Rattle.scene_model.specs.declared.entry.Entry.{Entry}
use Rattle.scene_model.specs.declared.entry.Entry.TheVariants.{Mark, Unmark}
use Rattle.scene_model.specs.Need.{need}
use Rattle.word_map.specs.declared.config.Config.{Config}
use Rattle.core_state.specs.declared.view.View.{View}
use Rattle.pass_table.specs.Passes.{view_of}
use Rattle.batch_add.specs.PreparedLists.{batches_of, AreGood}
use Rattle.tree_query.specs.Finding.{room_of}
use Rattle.reply_text.specs.declared.refusal.Refusal.{Refusal}
use Rattle.reply_text.specs.declared.refusal.Refusal.TheVariants as refusals
use Rattle.script_player.specs.declared.books.Batch.{Batch}
use Rattle.script_player.specs.declared.books.Known.{Known}
use Rattle.script_player.specs.Books.{Books, known_at, known_all, has_batch, with_batch}
use Rattle.script_player.specs.Taking.{Taking, Marking, marking, marked, room_refusal, taking_in, taking, marks, unmarks}
use Rattle.script_player.specs.Table.{Table, table_with}
use Rattle.script_player.specs.Attempt.{Attempt, refused}
use Rattle.script_player.specs.Batches.{keep_taken, prepare_taken, prepare_known, prepare_named}
use Rattle.world_host.specs.declared.serial_world.SerialWorld.{SerialWorld}
use Rattle.world_host.specs.Alone.{IsLone}
use Rattle.world_host.specs.Counted.{created_by, destroyed_by, joined_by, removed_by, CountsLive, CountsInside}
use Rattle.world_host.specs.Rooms.{HasRooms, AreTokens}
use Rattle.world_host.specs.Batches.{HasSameRoom, TellsRoom, Takes, TakesAlone}
use Rattle.world_host.specs.Shown.{table_of, IsSound, Attempts}
use Rattle.world_host.proofs.BookCounts.{batch-slots, batch-nodes}
use Rattle.world_host.proofs.EndedTurns.{shape_of, shape_in, no-sum, took-slots}
use Rattle.world_host.proofs.Soundness.{Goes, table-goes, sound-goes}

-- ---- so many bodies as names

length-more : (n : ℕ) (o : Option Known) (rest : Option (List Known)) (ks : List Known) → ((others : List Known) → rest ≡ Some others → length others ≡ n) → option_and_then (λ known. option_map (λ others. known ∷ others) rest) o ≡ Some ks
    → length ks ≡ suc n
length-more n None rest ks later e = absurd cc
length-more n (Some k) None ks later e = absurd cc
length-more n (Some k) (Some others) ks later e = sym (ap (length {A = Known}) (same_Some (k ∷ others) ks e)) ∙ ap suc (later others refl)

pub known-many : (books : Books) (names : List (List ℕ)) (ks : List Known) → known_all books names ≡ Some ks → length ks ≡ length names
known-many books [] ks e = sym (ap (length {A = Known}) (same_Some [] ks e))
known-many books (name ∷ names) ks e = length-more (length names) (known_at books name) (known_all books names) ks (λ others is. known-many books names others is) e

-- ---- what taking bodies counts for

marked-quiet : (f : Entry → ℕ) → ((i : ℕ) → f (Mark i) ≡ 0) → ((i : ℕ) → f (Unmark i) ≡ 0) → (js : List ℕ) (o : Option Refusal) → sum_by f (marked js o).entries ≡ 0
marked-quiet f held let_go js None = no-sum f (λ i. Mark i) js held
marked-quiet f held let_go js (Some refusal) =
    let both = sum_by-append f (marks js) (unmarks js) in
    let one = no-sum f (λ i. Mark i) js held in
    let two = no-sum f (λ i. Unmark i) js let_go in
    omega (arith, both, one, two)

pub taking-quiet : (f : Entry → ℕ) → ((i : ℕ) → f (Mark i) ≡ 0) → ((i : ℕ) → f (Unmark i) ≡ 0) → (room : Option Refusal) (m : Marking) → sum_by f (taking_in room m).entries ≡ 0
taking-quiet f held let_go None m = marked-quiet f held let_go m.indexes m.refusal
taking-quiet f held let_go (Some refusal) m = refl

pub quiet-live : (room : Option Refusal) (m : Marking) (before after : ℕ) → after ≡ before → CountsLive (taking_in room m).entries before after
quiet-live room m before after same =
    let gone = taking-quiet destroyed_by (λ i. refl) (λ i. refl) room m in
    let come = taking-quiet created_by (λ i. refl) (λ i. refl) room m in
    omega (arith, same, gone, come)

pub quiet-inside : (room : Option Refusal) (m : Marking) (before after : ℕ) → after ≡ before → CountsInside (taking_in room m).entries before after
quiet-inside room m before after same =
    let gone = taking-quiet removed_by (λ i. refl) (λ i. refl) room m in
    let come = taking-quiet joined_by (λ i. refl) (λ i. refl) room m in
    omega (arith, same, gone, come)

-- ---- rooms

-- a sound world is told by its table
pub tells-room : (a : SerialWorld) → IsSound a → TellsRoom (table_of a) (view_of a.pass)
tells-room a sound = record {
  scene = refl;
  slots = sym (ap (λ (c : Config). c.slots) sound.lone.idle.of.sizes);
  nodes = sym (ap (λ (c : Config). c.nodes) sound.lone.idle.of.sizes);
  rooms = sound.rooms;
}

-- where the room is as it was, so is what the books keep of it
pub same-rooms : (start next : View) (books : Books) → HasSameRoom start next → HasRooms start books → HasRooms next books
same-rooms start next books room rooms = record {
  slots = λ layer below. room.slots layer ∙ rooms.slots layer (subst (λ (c : Config). layer < c.layers) room.config below);
  nodes =
      let was = rooms.nodes in
      let free = room.free in
      let all = ap (λ (c : Config). c.nodes) room.config in
      omega (arith, was, free, all);
}

-- ---- a batch is prepared

module _ (a b : SerialWorld) (name : List ℕ) (layer : ℕ) (names : List (List ℕ)) (bodies : List Known) (sound : IsSound a) (known : known_all a.books names ≡ Some bodies) (free : has_batch a.books name ≡ false)
    (lone : IsLone b.world b.pass) (good : AreGood b.batches (view_of b.pass)) (sizes : b.world.map ≡ a.world.map) (live : b.live ≡ a.live) (inside : b.inside ≡ a.inside) (finder : room_of b.finder ≡ room_of a.finder) where
  abbrev table : Table
  table = table_of a

  abbrev t : Taking
  t = taking table layer bodies

  abbrev batch : Batch
  batch = record { name = name; layer = layer; indexes = t.indexes; nodes = need (length bodies) }

  attempt-is : keep_taken table batch t.entries t.refusal ≡ prepare_named table name layer names
  attempt-is =
      sym (ap (prepare_known table name layer) known
      ∙ ap (λ (found : Bool). cond found (refused table refusals.Batch) (prepare_taken table name layer (length bodies) t)) free)

  goes-so : (refusal : Option Refusal) → Takes t layer bodies a.batches b.batches (view_of a.pass) (view_of b.pass) refusal → Goes a b t.entries
  goes-so refusal takes = record {
    sizes = sizes;
    lone = lone;
    made = takes.made;
    live = quiet-live (room_refusal table layer (length bodies)) (marking table.scene layer bodies) a.live b.live live;
    inside = quiet-inside (room_refusal table layer (length bodies)) (marking table.scene layer bodies) a.inside b.inside inside;
  }

  pub kept-turn : (kept : Batch) → kept.name ≡ name → kept.layer ≡ layer → kept.indexes ≡ map (λ known. known.id.index) bodies → kept.nodes ≡ need (length bodies) → b.books ≡ with_batch a.books kept
      → TakesAlone layer bodies a.batches b.batches (view_of a.pass) (view_of b.pass) None → Attempts (prepare_named table name layer names) a b None
  kept-turn kept named of_layer indexes nodes books alone =
      let takes = alone table (tells-room a sound) in
      let more = takes.after in
      let same : kept ≡ batch = λ i. record { name = named i; layer = of_layer i; indexes = (indexes ∙ sym more.all) i; nodes = nodes i } in
      let whole = ap (keep_taken table batch t.entries) takes.refusal_is ∙ attempt-is in
      let goes = goes-so None takes in
      let books_are : b.books ≡ with_batch a.books batch = books ∙ ap (with_batch a.books) same in
      let room = more.room in
      let rooms : HasRooms (view_of b.pass) b.books = subst (HasRooms (view_of b.pass)) (sym books_are) (record {
        slots = λ l below.
            let was = sound.rooms.slots l (subst (λ (c : Config). l < c.layers) room.config below) in
            omega (arith, was, took-slots layer (need (length bodies)) (view_of a.pass) (view_of b.pass) room l, batch-slots a.books batch l);
        nodes =
            let was = sound.rooms.nodes in
            let all = ap (λ (c : Config). c.nodes) room.config in
            omega (arith, was, all, room.free, batch-nodes a.books batch);
      }) in
      let tokens : AreTokens (a.books.prepared ++ batch ∷ []) b.batches (view_of b.pass) = record {
        good = good;
        same =
            map-append shape_of a.books.prepared (batch ∷ [])
            ∙ ((λ i. sound.tokens.same i ++ (sym more.of_layer i, sym more.holds i) ∷ [])
            ∙ (sym (map-append shape_in (batches_of a.batches) (more.batch ∷ [])) ∙ ap (map shape_in) (sym more.put)));
        nodes =
            All-push (λ (k : Batch). k.nodes ≡ need (length k.indexes)) a.books.prepared batch sound.tokens.nodes
            (ap need (sym (length-map bodies (λ (k : Known). k.id.index)) ∙ ap (length {A = ℕ}) (sym more.all)));
      } in
      subst (λ (s : Attempt). Attempts s a b None) whole (record {
        refusal_is = refl;
        after = table-goes a b t.entries goes ∙ ap (table_with table t.entries) books_are;
        sound =
            sound-goes a b t.entries sound goes rooms (subst (λ (l : List Batch). AreTokens l b.batches (view_of b.pass)) (sym (ap (λ (k : Books). k.prepared) books_are)) tokens) finder
            (ap (λ (k : Books). k.known) books_are);
      })

  pub unkept-turn : (refusal : Refusal) → b.books ≡ a.books → TakesAlone layer bodies a.batches b.batches (view_of a.pass) (view_of b.pass) (Some refusal) → Attempts (prepare_named table name layer names) a b (Some refusal)
  unkept-turn refusal books alone =
      let takes = alone table (tells-room a sound) in
      let whole = ap (keep_taken table batch t.entries) takes.refusal_is ∙ attempt-is in
      let goes = goes-so (Some refusal) takes in
      let rooms = subst (HasRooms (view_of b.pass)) (sym books) (same-rooms (view_of a.pass) (view_of b.pass) a.books takes.after.1 sound.rooms) in
      let tokens : AreTokens a.books.prepared b.batches (view_of b.pass) =
      record { good = good; same = sound.tokens.same ∙ ap (map shape_in) (sym takes.after.0); nodes = sound.tokens.nodes }
      in
      subst (λ (s : Attempt). Attempts s a b (Some refusal)) whole (record {
        refusal_is = refl;
        after = table-goes a b t.entries goes ∙ ap (table_with table t.entries) books;
        sound =
            sound-goes a b t.entries sound goes rooms (subst (λ (l : List Batch). AreTokens l b.batches (view_of b.pass)) (sym (ap (λ (k : Books). k.prepared) books)) tokens) finder
            (ap (λ (k : Books). k.known) books);
      })
