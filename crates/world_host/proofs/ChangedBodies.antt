-- A change of the body of a name, as it is made on a shared world.
use Rattle.std.proofs.Common.{◌≡◌, ℕ, ◌+◌, ◌≤◌, List, [], ◌∷◌, Option, Some, None, refl, ap, sym, ◌∙◌, subst, arith}
use Rattle.std.specs.Prelude.{sum_by}
use Rattle.std.proofs.lemmas.List.Sums.{sum_by-cons}
use Rattle.scene_model.specs.declared.body_view.BodyView.{BodyView}
use Rattle.scene_model.specs.declared.entry.Entry.{Entry}
use Rattle.scene_model.specs.Query.{live_count, in_count}
use Rattle.pass_table.specs.declared.pass.Pass.{Pass}
use Rattle.pass_table.specs.Passes.{view_of}
use Rattle.reply_text.specs.declared.refusal.Refusal.{Refusal}
use Rattle.reply_text.specs.declared.refusal.Refusal.TheVariants as refusals
use Rattle.script_player.specs.declared.bodies.Change.{Change}
use Rattle.script_player.specs.declared.bodies.Change.TheVariants as changes
use Rattle.script_player.specs.declared.books.Known.{Known}
use Rattle.script_player.specs.Books.{Books, known_at}
use Rattle.script_player.specs.Table.{Table, table_with}
use Rattle.script_player.specs.Attempt.{Attempt}
use Rattle.script_player.specs.Body.{body_of, forbids, entry_of, make_change, change_body, change_known, change_named}
use Rattle.script_player.proofs.Doing.{body_makes}
use Rattle.world_host.specs.declared.serial_world.SerialWorld.{SerialWorld}
use Rattle.world_host.specs.Alone.{scene_of, IsLone, MakesEntries, Leaves}
use Rattle.world_host.specs.Answers.{Tries}
use Rattle.world_host.specs.Counted.{created_by, destroyed_by, joined_by, removed_by, CountsLive, CountsInside, destroys, removes}
use Rattle.word_map.specs.declared.config.Config.{Config}
use Rattle.tree_query.specs.Finding.{room_of}
use Rattle.world_host.specs.Shown.{table_of, AreNamesBelow, IsSound, IsCounted, Attempts}
use Rattle.world_host.proofs.Histories.{alone-own}
use Rattle.world_host.proofs.KeptRooms.{none-spares, room-stays}
use Rattle.world_host.proofs.LiveCounts.{live-counted, in-counted}
use Rattle.world_host.proofs.Soundness.{lone-consistent, Goes, Stays, table-goes, sound-stays}

-- ---- what an attempt at a change makes

make-refused : (table : Table) (entry : Entry) (refusal : Refusal) (o : Option Refusal) → (make_change table entry o).refusal ≡ Some refusal → (make_change table entry o).entries ≡ []
make-refused table entry refusal None e = absurd cc
make-refused table entry refusal (Some own) e = refl

-- one that is refused makes nothing
body-refused : (table : Table) (change : Change) (index : ℕ) (o : Option BodyView) (refusal : Refusal) → (change_body table change index o).refusal ≡ Some refusal → (change_body table change index o).entries ≡ []
body-refused table change index None refusal e = refl
body-refused table change index (Some v) refusal e = make-refused table (entry_of change index) refusal (forbids change v.phase) e

make-books : (table : Table) (entry : Entry) (o : Option Refusal) → (make_change table entry o).books ≡ table.books
make-books table entry None = refl
make-books table entry (Some refusal) = refl

-- and the books stay
body-books : (table : Table) (change : Change) (index : ℕ) (o : Option BodyView) → (change_body table change index o).books ≡ table.books
body-books table change index None = refl
body-books table change index (Some v) = make-books table (entry_of change index) (forbids change v.phase)

-- ---- how it is counted

entry-destroys : (change : Change) (index : ℕ) → destroyed_by (entry_of change index) ≡ destroys change
entry-destroys changes.Destroy index = refl
entry-destroys changes.Remove index = refl
entry-destroys (changes.Move to) index = refl
entry-destroys (changes.SetUser user) index = refl

entry-removes : (change : Change) (index : ℕ) → removed_by (entry_of change index) ≡ removes change
entry-removes changes.Destroy index = refl
entry-removes changes.Remove index = refl
entry-removes (changes.Move to) index = refl
entry-removes (changes.SetUser user) index = refl

entry-creates : (change : Change) (index : ℕ) → created_by (entry_of change index) ≡ 0
entry-creates changes.Destroy index = refl
entry-creates changes.Remove index = refl
entry-creates (changes.Move to) index = refl
entry-creates (changes.SetUser user) index = refl

entry-joins : (change : Change) (index : ℕ) → joined_by (entry_of change index) ≡ 0
entry-joins changes.Destroy index = refl
entry-joins changes.Remove index = refl
entry-joins (changes.Move to) index = refl
entry-joins (changes.SetUser user) index = refl

one-sum : (f : Entry → ℕ) (entry : Entry) → sum_by f (entry ∷ []) ≡ f entry
one-sum f entry = let one = sum_by-cons f entry [] in omega (arith, one)

counts-live : (change : Change) (index before after : ℕ) → after + destroys change ≡ before → CountsLive (entry_of change index ∷ []) before after
counts-live change index before after e =
    let entry = entry_of change index in
    let gone = one-sum destroyed_by entry ∙ entry-destroys change index in
    let come = one-sum created_by entry ∙ entry-creates change index in
    omega (arith, e, gone, come)

counts-inside : (change : Change) (index before after : ℕ) → after + removes change ≡ before → CountsInside (entry_of change index ∷ []) before after
counts-inside change index before after e =
    let entry = entry_of change index in
    let gone = one-sum removed_by entry ∙ entry-removes change index in
    let come = one-sum joined_by entry ∙ entry-joins change index in
    omega (arith, e, gone, come)

-- ---- the change of a name

-- the attempt at the body of an id
abbrev tried : SerialWorld → Change → Known → Attempt
tried w change known = change_body (table_of w) change known.id.index (body_of (table_of w).scene known.id)

pub named-none : (w : SerialWorld) (change : Change) (name : List ℕ) → IsSound w → known_at w.books name ≡ None → Attempts (change_named (table_of w) change name) w w (Some refusals.NoId)
named-none w change name sound none =
    subst (λ (a : Attempt). Attempts a w w (Some refusals.NoId)) (ap (change_known (table_of w) change) (sym none)) (record { refusal_is = refl; after = refl; sound = sound })

module _ (a b : SerialWorld) (change : Change) (name : List ℕ) (known : Known) (sound : IsSound a) (found : known_at a.books name ≡ Some known)
    (lone : IsLone b.world b.pass) (sizes : b.world.map ≡ a.world.map) (stays : b ≡ record a { world = b.world; pass = b.pass; live = b.live; inside = b.inside }) where
  abbrev attempt : Attempt
  attempt = tried a change known

  -- made on the world
  attempts-by : (refusal : Option Refusal) (entries : List Entry) → attempt.entries ≡ entries → Tries attempt (view_of a.pass) (view_of b.pass) refusal → CountsLive entries a.live b.live → CountsInside entries a.inside b.inside
      → Attempts (change_named (table_of a) change name) a b refusal
  attempts-by refusal entries made tries live inside =
      let leaves = subst (λ (es : List Entry). Leaves (view_of a.pass) (view_of b.pass) es) made tries.leaves in
      let books : b.books ≡ a.books = ap (λ (w : SerialWorld). w.books) stays in
      let goes : Goes a b entries = record { sizes = sizes; lone = lone; made = leaves.made; live = live; inside = inside } in
      let own = alone-own b.pass (view_of a.pass) sound.lone.one leaves.keeps in
      let kept : Stays a b = record {
        keeps = leaves.keeps;
        room = room-stays (view_of a.pass) (view_of b.pass) [] own leaves.keeps leaves.tells none-spares;
        batches = ap (λ (w : SerialWorld). w.batches) stays;
        finder = ap (λ (w : SerialWorld). room_of w.finder) stays;
        prepared = ap (λ (k : Books). k.prepared) books;
        attached = ap (λ (k : Books). k.attached) books;
        names = names-same books;
      } in
      let same : table_with (table_of a) entries b.books ≡ table_with (table_of a) attempt.entries attempt.books =
      (λ i. table_with (table_of a) (sym made i) ((books ∙ sym (body-books (table_of a) change known.id.index (body_of (table_of a).scene known.id))) i))
      in
      subst (λ (t : Attempt). Attempts t a b refusal) (ap (change_known (table_of a) change) (sym found))
      (record { refusal_is = tries.refusal_is; after = table-goes a b entries goes ∙ same; sound = sound-stays a b entries sound goes kept })
    where
      names-same : b.books ≡ a.books → AreNamesBelow b.world.map.bodies b.books.known
      names-same books =
          subst (λ (k : Books). AreNamesBelow b.world.map.bodies k.known) (sym books) (subst (λ (n : ℕ). AreNamesBelow n a.books.known) (sym (ap (λ (c : Config). c.bodies) sizes)) sound.names)

  -- refused
  pub named-refused : (refusal : Refusal) → Tries attempt (view_of a.pass) (view_of b.pass) (Some refusal) → b.live ≡ a.live → b.inside ≡ a.inside → Attempts (change_named (table_of a) change name) a b (Some refusal)
  named-refused refusal tries live inside =
      attempts-by (Some refusal) [] (body-refused (table_of a) change known.id.index (body_of (table_of a).scene known.id) refusal (sym tries.refusal_is)) tries (omega (arith, live)) (omega (arith, inside))

  -- carried out
  pub named-done : Tries attempt (view_of a.pass) (view_of b.pass) None → b.live + destroys change ≡ a.live → b.inside + removes change ≡ a.inside → Attempts (change_named (table_of a) change name) a b None
  named-done tries live inside =
      attempts-by None (entry_of change known.id.index ∷ []) (body_makes (table_of a) change known.id.index (body_of (table_of a).scene known.id) (sym tries.refusal_is)) tries
      (counts-live change known.id.index a.live b.live live) (counts-inside change known.id.index a.inside b.inside inside)

-- the same, where the counts were set by themselves
pub named-counted : (a mid b : SerialWorld) (change : Change) (name : List ℕ) (known : Known) → IsSound a → known_at a.books name ≡ Some known → IsLone mid.world mid.pass → mid.world.map ≡ a.world.map
    → mid ≡ record a { world = mid.world; pass = mid.pass } → IsCounted change mid b → Tries (tried a change known) (view_of a.pass) (view_of mid.pass) None → Attempts (change_named (table_of a) change name) a b None
named-counted a mid b change name known sound found lone sizes rest counted tries =
    let next : SerialWorld = record mid { live = b.live; inside = b.inside } in
    subst (λ (w : SerialWorld). Attempts (change_named (table_of a) change name) a w None) (sym counted.left)
    (named-done a next change name known sound found lone sizes (ap (λ (w : SerialWorld). record w { live = b.live; inside = b.inside }) rest) tries (counted.live ∙ ap (λ (w : SerialWorld). w.live) rest)
    (counted.inside ∙ ap (λ (w : SerialWorld). w.inside) rest))

-- ---- there is something to count

module _ (before after : Pass) (change : Change) (known : Known) (table : Table) (tries : Tries (change_body table change known.id.index (body_of table.scene known.id)) (view_of before) (view_of after) None) where
  abbrev entry : Entry
  entry = entry_of change known.id.index

  made-one : MakesEntries (view_of before) (view_of after) (entry ∷ [])
  made-one =
      subst (λ (es : List Entry). MakesEntries (view_of before) (view_of after) es) (body_makes table change known.id.index (body_of table.scene known.id) (sym tries.refusal_is)) tries.leaves.made

  pub live-enough : destroys change ≤ live_count (scene_of (view_of before))
  live-enough =
      let counted = live-counted (view_of before).config.layers (entry ∷ []) (scene_of (view_of before)) (lone-consistent before) made-one.lawful in
      let gone = one-sum destroyed_by entry ∙ entry-destroys change known.id.index in
      let come = one-sum created_by entry ∙ entry-creates change known.id.index in
      omega (arith, counted, gone, come)

  pub inside-enough : removes change ≤ in_count (scene_of (view_of before))
  inside-enough =
      let counted = in-counted (view_of before).config.layers (entry ∷ []) (scene_of (view_of before)) (lone-consistent before) made-one.lawful in
      let gone = one-sum removed_by entry ∙ entry-removes change known.id.index in
      let come = one-sum joined_by entry ∙ entry-joins change known.id.index in
      omega (arith, counted, gone, come)
