-- Commands that end a prepared batch, as they are made on a shared world.
use Rattle.std.proofs.Common.{◌≡◌, ℕ, ◌+◌, ◌<◌, ◌≤◌, Bool, cond, List, [], ◌∷◌, length, map, get_or, take, drop, suc, ◌++◌, Some, None, refl, ap, sym, ◌∙◌, subst, arith, inl, inr, eq-eqb, ne_eqb}
use Rattle.std.specs.Prelude.{sum_by}
use Rattle.std.specs.List.{remove}
use Rattle.std.proofs.lemmas.Bool.{cases_eq}
use Rattle.std.proofs.lemmas.List.{get_or-map, length-map, map-append, take-map, drop-map}
use Rattle.std.proofs.lemmas.List.Sums.{sum_by-cons}
use Rattle.scene_model.specs.declared.entry.Entry.{Entry}
use Rattle.scene_model.specs.declared.entry.Entry.TheVariants.{Join, Unmark}
use Rattle.scene_model.specs.Query.{in_count}
use Rattle.scene_model.specs.Step.{after_entry}
use Rattle.scene_model.specs.Need.{need}
use Rattle.word_map.specs.declared.config.Config.{Config}
use Rattle.core_state.specs.declared.view.View.{View}
use Rattle.pass_table.specs.declared.pass.Pass.{Pass}
use Rattle.pass_table.specs.declared.world.World.{World}
use Rattle.pass_table.specs.Passes.{view_of, IsOf}
use Rattle.batch_add.specs.declared.prepared.Prepared.{Prepared}
use Rattle.batch_add.specs.PreparedLists.{batches_of, AreGood}
use Rattle.tree_query.specs.Finding.{room_of}
use Rattle.script_player.specs.declared.books.Batch.{Batch}
use Rattle.script_player.specs.Books.{Books, batch_place, batch_named, spent, with_attached}
use Rattle.script_player.specs.Taking.{unmarks}
use Rattle.script_player.specs.Table.{table_with}
use Rattle.script_player.specs.Attempt.{Attempt}
use Rattle.script_player.specs.Batches.{finalize_batch, finalize_named, abort_batch, abort_named}
use Rattle.script_player.proofs.Spending.{StandsAt, All-remove, nodes-spent}
use Rattle.world_host.specs.declared.serial_world.SerialWorld.{SerialWorld}
use Rattle.world_host.specs.Alone.{scene_of, IsLone, MakesEntries}
use Rattle.world_host.specs.Counted.{created_by, destroyed_by, joined_by, removed_by, CountsLive, CountsInside}
use Rattle.world_host.specs.Rooms.{slots_taken, HasRooms, AreTokens}
use Rattle.world_host.specs.Batches.{TakesRoom, WasAttached, WasGivenUp}
use Rattle.world_host.specs.Shown.{table_of, IsSound, Attempts}
use Rattle.world_host.proofs.BookCounts.{keeps, attached-slots, attached-nodes, spent-slots, stands-at}
use Rattle.world_host.proofs.Soundness.{lone-consistent, Goes, table-goes, sound-goes}
use Rattle.world_host.proofs.LiveCounts.{in-counted}
use Rattle.world_host.proofs.FewBodies.{in-few}

-- ---- the other batches

map-remove : {X Y : Type 0} (f : X → Y) (xs : List X) (i : ℕ) → map f (remove xs i) ≡ remove (map f xs) i
map-remove f xs i = map-append f (take i xs) (drop (suc i) xs) ∙ (λ j. sym (take-map f i xs) j ++ sym (drop-map f (suc i) xs) j)

-- ---- what lets bodies go or holds them counts for nothing

pub no-sum : (f : Entry → ℕ) (entry : ℕ → Entry) (indexes : List ℕ) → ((i : ℕ) → f (entry i) ≡ 0) → sum_by f (map entry indexes) ≡ 0
no-sum f entry [] none = refl
no-sum f entry (i ∷ later) none =
    let one = sum_by-cons f (entry i) (map entry later) in
    let rest = no-sum f entry later none in
    omega (arith, one, rest, none i)

pub unmarks-live : (indexes : List ℕ) (before after : ℕ) → after ≡ before → CountsLive (unmarks indexes) before after
unmarks-live indexes before after same =
    let gone = no-sum destroyed_by (λ i. Unmark i) indexes (λ i. refl) in
    let come = no-sum created_by (λ i. Unmark i) indexes (λ i. refl) in
    omega (arith, same, gone, come)

pub unmarks-inside : (indexes : List ℕ) (before after : ℕ) → after ≡ before → CountsInside (unmarks indexes) before after
unmarks-inside indexes before after same =
    let gone = no-sum removed_by (λ i. Unmark i) indexes (λ i. refl) in
    let come = no-sum joined_by (λ i. Unmark i) indexes (λ i. refl) in
    omega (arith, same, gone, come)

-- ---- room that was taken

pub took-slots : (layer nodes : ℕ) (start next : View) → TakesRoom layer nodes start next → (other : ℕ) → slots_taken next other ≡ slots_taken start other + keeps layer other
took-slots layer nodes start next room other = elim (cases_eq layer other) [
  | inl same ↦
      let one = ap {B = ℕ} (λ (b : Bool). cond b 1 0) (eq-eqb layer other same) in
      let own = subst (λ (l : ℕ). slots_taken next l ≡ slots_taken start l + 1) same room.own in
      omega (arith, one, own)
  | inr apart ↦
      let none = ap {B = ℕ} (λ (b : Bool). cond b 1 0) (ne_eqb layer other apart) in
      let own = room.others other (λ e. apart (sym e)) in
      omega (arith, none, own)
]

-- ---- the batch at a place

abbrev pub shape_of : Batch → ℕ × List ℕ
shape_of b = (b.layer, b.indexes)

abbrev pub shape_in : Prepared → ℕ × List ℕ
shape_in p = (p.layer, p.indexes.items)

module _ (a : SerialWorld) (name : List ℕ) (place : ℕ) (batch : Batch) (prepared : Prepared) (sound : IsSound a) (at : batch_place a.books name ≡ Some place) (named : batch_named a.books name ≡ Some batch)
    (stands : prepared ≡ get_or (batches_of a.batches) place prepared) where
  stands-so : StandsAt a.books name batch place
  stands-so = stands-at a.books name batch place at named

  pub place-there : place < length (batches_of a.batches)
  place-there =
      let below = stands-so.below in
      let same = ap (λ (l : List (ℕ × List ℕ)). length l) sound.tokens.same in
      omega (arith, below, same, length-map a.books.prepared shape_of, length-map (batches_of a.batches) shape_in)

  -- the books have the same batch there
  pub same-shape : shape_in prepared ≡ shape_of batch
  same-shape =
      ap shape_in stands
      ∙ (sym (get_or-map shape_in (batches_of a.batches) place prepared (shape_in prepared) place-there)
      ∙ (ap (λ (l : List (ℕ × List ℕ)). get_or l place (shape_in prepared)) (sym sound.tokens.same)
      ∙ (get_or-map shape_of a.books.prepared place batch (shape_in prepared) stands-so.below ∙ ap shape_of stands-so.at)))

  its-nodes : batch.nodes ≡ need (length batch.indexes)
  its-nodes = subst (λ (b : Batch). b.nodes ≡ need (length b.indexes)) stands-so.at (sound.tokens.nodes place batch stands-so.below)

  -- the bodies in the broad phase are still few
  pub inside-fits : (world : World) (pass : Pass) → IsOf world pass → WasAttached prepared.layer prepared.indexes.items (view_of a.pass) (view_of pass) → a.inside + length batch.indexes ≤ 65536
  inside-fits world pass of attached =
      let start = view_of a.pass in
      let entry = Join prepared.layer prepared.indexes.items in
      let counted = in-counted start.config.layers (entry ∷ []) (scene_of start) (lone-consistent a.pass) attached.made.lawful in
      let after : in_count (scene_of (view_of pass)) ≡ in_count (after_entry (scene_of start) entry) = ap in_count attached.made.scene in
      let many : length prepared.indexes.items ≡ length batch.indexes = ap (λ (s : ℕ × List ℕ). length s.1) same-shape in
      let is = sound.inside in
      omega (arith, counted, after, many, is, in-few world pass of)

  module _ (b : SerialWorld) (lone : IsLone b.world b.pass) (good : AreGood b.batches (view_of b.pass)) (others : batches_of b.batches ≡ remove (batches_of a.batches) place) (sizes : b.world.map ≡ a.world.map)
      (prepared_left : b.books.prepared ≡ (spent a.books name).prepared) where
    tokens-left : AreTokens b.books.prepared b.batches (view_of b.pass)
    tokens-left =
        let left : b.books.prepared ≡ remove a.books.prepared place = prepared_left ∙ ap (λ (k : Books). k.prepared) stands-so.gone in
        subst (λ (l : List Batch). AreTokens l b.batches (view_of b.pass)) (sym left) (record {
          good = good;
          same =
              map-remove shape_of a.books.prepared place
              ∙ (ap (λ (l : List (ℕ × List ℕ)). remove l place) sound.tokens.same
              ∙ (sym (map-remove shape_in (batches_of a.batches) place) ∙ ap (map shape_in) (sym others)));
          nodes = All-remove (λ (k : Batch). k.nodes ≡ need (length k.indexes)) a.books.prepared place stands-so.below sound.tokens.nodes;
        })

    -- it comes into the broad phase
    pub finalized : WasAttached prepared.layer prepared.indexes.items (view_of a.pass) (view_of b.pass) → b.books ≡ with_attached (spent a.books name) batch.layer batch.nodes → b.live ≡ a.live
        → b.inside ≡ a.inside + length batch.indexes → room_of b.finder ≡ room_of a.finder → b.books.known ≡ a.books.known → Attempts (finalize_named (table_of a) name) a b None
    finalized attached books live inside finder known =
        let entry = Join batch.layer batch.indexes in
        let made : MakesEntries (view_of a.pass) (view_of b.pass) (entry ∷ []) =
        subst (λ (s : ℕ × List ℕ). MakesEntries (view_of a.pass) (view_of b.pass) (Join s.0 s.1 ∷ [])) same-shape attached.made
        in
        let goes : Goes a b (entry ∷ []) = record { sizes = sizes; lone = lone; made = made; live = omega (arith, live); inside = omega (arith, inside) } in
        let room = attached.room in
        let rooms : HasRooms (view_of b.pass) b.books = subst (HasRooms (view_of b.pass)) (sym books) (record {
          slots = λ layer below.
              let was = sound.rooms.slots layer (subst (λ (c : Config). layer < c.layers) room.config below) in
              omega (arith, was, room.slots layer, attached-slots (spent a.books name) batch.layer batch.nodes layer, spent-slots a.books name batch place stands-so layer);
          nodes =
              let was = sound.rooms.nodes in
              let all = ap (λ (c : Config). c.nodes) room.config in
              omega (arith, was, all, room.free, attached-nodes (spent a.books name) batch.layer batch.nodes, nodes-spent a.books name batch place stands-so);
        }) in
        subst (λ (t : Attempt). Attempts t a b None) (ap (finalize_batch (table_of a) name) (sym named)) (record {
          refusal_is = refl;
          after = table-goes a b (entry ∷ []) goes ∙ ap (table_with (table_of a) (entry ∷ [])) books;
          sound = sound-goes a b (entry ∷ []) sound goes rooms tokens-left finder known;
        })

    -- it is given up
    pub given-up : WasGivenUp prepared.layer prepared.indexes.items (view_of a.pass) (view_of b.pass) → b.books ≡ spent a.books name → b.live ≡ a.live → b.inside ≡ a.inside → room_of b.finder ≡ room_of a.finder
        → b.books.known ≡ a.books.known → Attempts (abort_named (table_of a) name) a b None
    given-up given books live inside finder known =
        let entries = unmarks batch.indexes in
        let made : MakesEntries (view_of a.pass) (view_of b.pass) entries =
        subst (λ (s : ℕ × List ℕ). MakesEntries (view_of a.pass) (view_of b.pass) (unmarks s.1)) same-shape given.made
        in
        let goes : Goes a b entries = record { sizes = sizes; lone = lone; made = made; live = unmarks-live batch.indexes a.live b.live live; inside = unmarks-inside batch.indexes a.inside b.inside inside } in
        let room : TakesRoom batch.layer (need (length batch.indexes)) (view_of b.pass) (view_of a.pass) =
        subst (λ (s : ℕ × List ℕ). TakesRoom s.0 (need (length s.1)) (view_of b.pass) (view_of a.pass)) same-shape given.room
        in
        let rooms : HasRooms (view_of b.pass) b.books = subst (HasRooms (view_of b.pass)) (sym books) (record {
          slots = λ layer below.
              let was = sound.rooms.slots layer (subst (λ (c : Config). layer < c.layers) (sym room.config) below) in
              let left = took-slots batch.layer (need (length batch.indexes)) (view_of b.pass) (view_of a.pass) room layer in
              omega (arith, was, left, spent-slots a.books name batch place stands-so layer);
          nodes =
              let was = sound.rooms.nodes in
              let all = ap (λ (c : Config). c.nodes) room.config in
              omega (arith, was, all, room.free, its-nodes, nodes-spent a.books name batch place stands-so);
        }) in
        subst (λ (t : Attempt). Attempts t a b None) (ap (abort_batch (table_of a) name) (sym named)) (record {
          refusal_is = refl;
          after = table-goes a b entries goes ∙ ap (table_with (table_of a) entries) books;
          sound = sound-goes a b entries sound goes rooms tokens-left finder known;
        })
