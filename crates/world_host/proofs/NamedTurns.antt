-- Turns of a script on a shared world.
use Rattle.std.proofs.Common.{◌≡◌, ℕ, ◌+◌, ◌<◌, List, [], ◌∷◌, Option, Some, None, refl, ap, sym, ◌∙◌, subst, arith, map}
use Rattle.std.specs.Prelude.{IfSome, option_map}
use Rattle.fixed_box.specs.declared.fix_box.FixBox.{FixBox}
use Rattle.fixed_box.specs.declared.shape.Shape.{Shape}
use Rattle.body_ident.specs.Id.{Id}
use Rattle.scene_model.specs.declared.body_view.BodyView.{BodyView}
use Rattle.scene_model.specs.declared.entry.Entry.{Entry}
use Rattle.scene_model.specs.declared.entry.Entry.TheVariants.{Create}
use Rattle.scene_model.specs.Scene.{next_index}
use Rattle.word_map.specs.declared.config.Config.{Config}
use Rattle.pass_table.specs.Passes.{view_of}
use Rattle.tree_query.specs.Finding.{room_of, ids_of}
use Rattle.tree_query.specs.Answers.{raised}
use Rattle.reply_text.specs.declared.refusal.Refusal.{Refusal}
use Rattle.reply_text.specs.declared.refusal.Refusal.TheVariants as refusals
use Rattle.reply_text.specs.declared.reply.Reply.{Reply}
use Rattle.reply_text.specs.declared.reply.Reply.TheVariants as replies
use Rattle.script_player.specs.declared.books.Known.{Known}
use Rattle.script_player.specs.Books.{Books, with_name, known_at, known_all}
use Rattle.script_player.specs.Table.{table_with}
use Rattle.script_player.specs.Attempt.{Attempt, outcome}
use Rattle.script_player.specs.Body.{body_of, read_body, read_known, read_named, item_of, multi_known, multi_named}
use Rattle.script_player.specs.Turn.{Turn, answered, turn_of, created_turn, create_turn, query_turn}
use Rattle.world_host.specs.declared.serial_world.SerialWorld.{SerialWorld}
use Rattle.world_host.specs.Alone.{scene_of, IsLone, Leaves}
use Rattle.world_host.specs.Answers.{WasCreated, WasFull, AnswersHits}
use Rattle.world_host.specs.Shown.{table_of, AreNamesBelow, IsSound, Attempts, Does}
use Rattle.world_host.proofs.Histories.{alone-own}
use Rattle.world_host.proofs.KeptRooms.{none-spares, raised-spares, room-stays}
use Rattle.world_host.proofs.KnownNames.{names-below}
use Rattle.world_host.proofs.Soundness.{Goes, Stays, table-goes, sound-stays}

-- an attempt is a turn
pub attempt-does : (attempt : Attempt) (a b : SerialWorld) (refusal : Option Refusal) (reply : Reply) → Attempts attempt a b refusal → reply ≡ outcome refusal → Does (turn_of attempt) a b reply
attempt-does attempt a b refusal reply tries is = record { reply_is = is ∙ ap outcome tries.refusal_is; after = tries.after; sound = tries.sound }

-- nothing was done
pub nothing-does : (a : SerialWorld) (reply answer : Reply) → IsSound a → reply ≡ answer → Does (answered (table_of a) answer) a a reply
nothing-does a reply answer sound is = record { reply_is = is; after = refl; sound = sound }

-- what was done, by the parts of the world
pub turn-does : (a b : SerialWorld) (t : Turn) (reply : Reply) → IsSound a → Goes a b t.entries → Stays a b → b.books ≡ t.books → reply ≡ t.reply → Does t a b reply
turn-does a b t reply sound goes stays books is = record {
  reply_is = is;
  after = table-goes a b t.entries goes ∙ (λ i. table_with (table_of a) t.entries (books i));
  sound = sound-stays a b t.entries sound goes stays;
}

-- names stay below the world's indexes
names-kept : (a b : SerialWorld) → b.world.map ≡ a.world.map → b.books ≡ a.books → AreNamesBelow a.world.map.bodies a.books.known → AreNamesBelow b.world.map.bodies b.books.known
names-kept a b sizes books below =
    subst (λ (k : Books). AreNamesBelow b.world.map.bodies k.known) (sym books) (subst (λ (n : ℕ). AreNamesBelow n a.books.known) (sym (ap (λ (c : Config). c.bodies) sizes)) below)

-- what was found, where something was
pub some-of : {A B : Type 0} (o : Option A) (x : A) (f : A → B) (found : Option B) → option_map f o ≡ found → o ≡ Some x → found ≡ Some (f x)
some-of o x f found e is = sym e ∙ ap (option_map f) is

-- ---- a call after which only the pass knows more

module _ (a b : SerialWorld) (sound : IsSound a) (lone : IsLone b.world b.pass) (sizes : b.world.map ≡ a.world.map) (rest : b ≡ record a { world = b.world; pass = b.pass }) (leaves : Leaves (view_of a.pass) (view_of b.pass) []) where
  same-books : b.books ≡ a.books
  same-books = ap (λ (w : SerialWorld). w.books) rest

  looks-goes : Goes a b []
  looks-goes = record {
    sizes = sizes;
    lone = lone;
    made = leaves.made;
    live = ap (λ (w : SerialWorld). w.live + 0) rest;
    inside = ap (λ (w : SerialWorld). w.inside + 0) rest;
  }

  looks-stays : Stays a b
  looks-stays = record {
    keeps = leaves.keeps;
    room = room-stays (view_of a.pass) (view_of b.pass) [] (alone-own b.pass (view_of a.pass) sound.lone.one leaves.keeps) leaves.keeps leaves.tells none-spares;
    batches = ap (λ (w : SerialWorld). w.batches) rest;
    finder = ap (λ (w : SerialWorld). room_of w.finder) rest;
    prepared = ap (λ (k : Books). k.prepared) same-books;
    attached = ap (λ (k : Books). k.attached) same-books;
    names = names-kept a b sizes same-books sound.names;
  }

  pub looks-does : (reply answer : Reply) → reply ≡ answer → Does (answered (table_of a) answer) a b reply
  looks-does reply answer is = turn-does a b (answered (table_of a) answer) reply sound looks-goes looks-stays same-books is

  -- a body that a name stands for is read
  pub read-does : (name : List ℕ) (known : Known) (o : Option BodyView) (reply : Reply) → known_at a.books name ≡ Some known → o ≡ body_of (scene_of (view_of a.pass)) known.id → reply ≡ read_body o
      → Does (answered (table_of a) (read_named (table_of a) name)) a b reply
  read-does name known o reply found seen is =
      looks-does reply (read_named (table_of a) name) (is ∙ (ap read_body seen ∙ ap (read_known (scene_of (view_of a.pass))) (sym found)))

  -- and so are several
  pub multi-does : (names : List (List ℕ)) (bodies : List Known) (reply : Reply) → known_all a.books names ≡ Some bodies → reply ≡ replies.Multi (map (λ known. item_of (body_of (scene_of (view_of a.pass)) known.id)) bodies)
      → Does (answered (table_of a) (multi_named (table_of a) names)) a b reply
  multi-does names bodies reply found is =
      looks-does reply (multi_named (table_of a) names) (is ∙ ap (multi_known (scene_of (view_of a.pass))) (sym found))

-- ---- a query

pub query-does : (a b : SerialWorld) (mask : ℕ) (shape : Shape) (reply : Reply) → IsSound a → IsLone b.world b.pass → b.world.map ≡ a.world.map → b ≡ record a { world = b.world; pass = b.pass; finder = b.finder } → room_of b.finder ≡ room_of a.finder
    → AnswersHits shape mask (view_of a.pass) (view_of b.pass) b.finder → reply ≡ replies.Hits (ids_of b.finder) → Does (query_turn (table_of a) mask shape) a b reply
query-does a b mask shape reply sound lone sizes rest room answers is =
    let books : b.books ≡ a.books = ap (λ (w : SerialWorld). w.books) rest in
    let own = alone-own b.pass (view_of a.pass) sound.lone.one answers.keeps in
    let reads = answers.reads in
    let stores = raised reads.0 reads.1 reads.2 in
    let goes : Goes a b [] = record {
      sizes = sizes;
      lone = lone;
      made = answers.made;
      live = ap (λ (w : SerialWorld). w.live + 0) rest;
      inside = ap (λ (w : SerialWorld). w.inside + 0) rest;
    } in
    let stays : Stays a b = record {
      keeps = answers.keeps;
      room = room-stays (view_of a.pass) (view_of b.pass) stores own answers.keeps reads.3 (raised-spares reads.0 reads.1 reads.2);
      batches = ap (λ (w : SerialWorld). w.batches) rest;
      finder = room;
      prepared = ap (λ (k : Books). k.prepared) books;
      attached = ap (λ (k : Books). k.attached) books;
      names = names-kept a b sizes books sound.names;
    } in
    turn-does a b (query_turn (table_of a) mask shape) reply sound goes stays books (is ∙ ap (λ (ids : List Id). replies.Hits ids) answers.hits_are)

-- ---- a creation

module _ (a b : SerialWorld) (name : List ℕ) (layer : ℕ) (bounds : FixBox) (user : ℕ) (sound : IsSound a) (lone : IsLone b.world b.pass) (sizes : b.world.map ≡ a.world.map)
    (rest : b ≡ record a { world = b.world; pass = b.pass; live = b.live; books = b.books }) where
  -- a name more is kept
  named-stays : (entries : List Entry) (known : Option Known) → Leaves (view_of a.pass) (view_of b.pass) entries → b.books ≡ with_name a.books name known → IfSome known (λ k. k.id.index < a.world.map.bodies) → Stays a b
  named-stays entries known leaves books low = record {
    keeps = leaves.keeps;
    room = room-stays (view_of a.pass) (view_of b.pass) [] (alone-own b.pass (view_of a.pass) sound.lone.one leaves.keeps) leaves.keeps leaves.tells none-spares;
    batches = ap (λ (w : SerialWorld). w.batches) rest;
    finder = ap (λ (w : SerialWorld). room_of w.finder) rest;
    prepared = ap (λ (k : Books). k.prepared) books;
    attached = ap (λ (k : Books). k.attached) books;
    names =
        subst (λ (k : Books). AreNamesBelow b.world.map.bodies k.known) (sym books)
        (subst (λ (n : ℕ). AreNamesBelow n (with_name a.books name known).known) (sym (ap (λ (c : Config). c.bodies) sizes)) (names-below a.world.map.bodies a.books name known sound.names low));
  }

  same-inside : b.inside ≡ a.inside
  same-inside = ap (λ (w : SerialWorld). w.inside) rest

  pub created-does : (id : Id) → WasCreated layer bounds user (view_of a.pass) (view_of b.pass) id → b.live ≡ a.live + 1 → b.books ≡ with_name a.books name (Some (record { id = id; layer = layer })) → id.index < a.world.map.bodies
      → Does (create_turn (table_of a) name layer bounds user (next_index (table_of a).scene)) a b (replies.Id id)
  created-does id made live books low =
      let entry = Create id.index layer bounds user in
      let goes : Goes a b (entry ∷ []) = record { sizes = sizes; lone = lone; made = made.leaves.made; live = omega (arith, live); inside = omega (arith, same-inside) } in
      let t = created_turn (table_of a) name layer bounds user id.index id in
      let same : create_turn (table_of a) name layer bounds user (next_index (table_of a).scene) ≡ t =
      ap (create_turn (table_of a) name layer bounds user) made.is.free ∙ ap (created_turn (table_of a) name layer bounds user id.index) (sym made.is.is)
      in
      subst (λ (u : Turn). Does u a b (replies.Id id)) (sym same)
      (turn-does a b t (replies.Id id) sound goes (named-stays (entry ∷ []) (Some (record { id = id; layer = layer })) made.leaves books low) books refl)

  pub full-does : WasFull (view_of a.pass) (view_of b.pass) → b.live ≡ a.live → b.books ≡ with_name a.books name None
      → Does (create_turn (table_of a) name layer bounds user (next_index (table_of a).scene)) a b (replies.Refused refusals.Full)
  full-does full live books =
      let goes : Goes a b [] = record { sizes = sizes; lone = lone; made = full.leaves.made; live = omega (arith, live); inside = omega (arith, same-inside) } in
      let same = ap (create_turn (table_of a) name layer bounds user) full.none in
      subst (λ (u : Turn). Does u a b (replies.Refused refusals.Full)) (sym same)
      (turn-does a b (create_turn (table_of a) name layer bounds user None) (replies.Refused refusals.Full) sound goes (named-stays [] None full.leaves books tt) books refl)
