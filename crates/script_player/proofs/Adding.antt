-- Why an add is refused.
use Rattle.std.proofs.Common.{◌≡◌, ℕ, ◌+◌, ◌≤◌, ◌⊎◌, List, [], ◌∷◌, ◌++◌, length, map, fold, eqb, Option, Some, None, refl, ap, sym, subst, ◌∙◌, count_by, sum_by, inl, inr, arith}
use Rattle.std.specs.List.{range_with_len}
use Rattle.std.proofs.lemmas.List.Sums.{fold-append}
use Rattle.word_map.specs.declared.config.Config.{Config}
use Rattle.scene_model.specs.declared.entry.Entry.{Entry}
use Rattle.scene_model.specs.declared.entry.Entry.TheVariants.{Join}
use Rattle.scene_model.specs.Need.{need}
use Rattle.scene_model.specs.Scene.{Scene}
use Rattle.scene_model.specs.Step.{after_entry}
use Rattle.reply_text.specs.declared.refusal.Refusal.{Refusal}
use Rattle.script_player.specs.declared.books.Known.{Known}
use Rattle.script_player.specs.declared.books.Batch.{Batch}
use Rattle.script_player.specs.Books.{Books, with_attached, has_batch, slots_kept, nodes_kept}
use Rattle.script_player.specs.Table.{Table, table_with}
use Rattle.script_player.specs.Attempt.{outcome}
use Rattle.script_player.specs.Taking.{room_refusal, marking, marks, taking}
use Rattle.script_player.specs.Batches.{join_taken, add_layer, followed, in_layer, add_layers, add_known}
use Rattle.script_player.specs.Prepared.{Kept, kept_with, joins, nodes_joined}
use Rattle.script_player.specs.Refused.{LooksForRoom, joined, LooksAtLayer, LooksAtLayers, AnswersAdd}
use Rattle.script_player.proofs.Batching.{whole, room_for}
use Rattle.script_player.proofs.GoingOn.{nodes-attached}
use Rattle.script_player.proofs.Causes.{replied}
use Rattle.script_player.proofs.Preparing.{kept_in, taking_looks}
use Rattle.script_player.proofs.Joins.{joinless_none, joinless_taking, attaches_more}
use Rattle.script_player.proofs.Taken.{are_taken, all_taken}
use Rattle.script_player.proofs.Keeping.{Adds, adds_none, join_adds}

-- a table after entries of an add: its scene, its books, and that its batches keep no more nodes than there are
pub record IsAfter (start : Books) (scene : Scene) (made : List Entry) (world : Config) (table : Table) : Type 0 where
  pub world_is : table.world ≡ world
  pub scene_is : table.scene ≡ fold after_entry scene made
  pub adds : Adds start table.books made
  pub within : nodes_kept table.books ≤ world.nodes

pub kept_after : (start now : Books) (made : List Entry) (layer : ℕ) → Adds start now made → kept_in now [] layer ≡ kept_with (kept_in start [] layer) layer made
kept_after start now made layer a =
    let named : has_batch now [] ≡ has_batch start [] = ap (λ (bs : List Batch). has_batch (record start { prepared = bs }) []) a.prepared in
    let slots_prepared = ap (λ (bs : List Batch). count_by (λ b. eqb b.layer layer) bs) a.prepared in
    let nodes_prepared = ap (λ (bs : List Batch). sum_by (λ b. b.nodes) bs) a.prepared in
    let slots : slots_kept now layer ≡ slots_kept start layer + count_by (joins layer) made = omega (arith, slots_prepared, a.attaches.slots layer) in
    let nodes : nodes_kept now ≡ nodes_kept start + sum_by nodes_joined made = omega (arith, nodes_prepared, a.attaches.nodes) in
    λ i. record { named = named i; slots = slots i; nodes = nodes i }

-- one layer, and those behind it
layer_then : (table : Table) (layer nodes : ℕ) (indexes : List ℕ) (made : List Entry) (o : Option Refusal) (bodies : List Known) (layers : List ℕ)
    (Looks Later : Option Refusal → Type 0) → Looks o
    → (o ≡ None → Later (add_layers (table_with table (made ++ Join layer indexes ∷ []) (with_attached table.books layer nodes)) bodies layers).refusal)
    → let first = join_taken table layer nodes indexes made o in
    let answer = (followed first.refusal first (add_layers (table_with table first.entries first.books) bodies layers)).refusal in
    (Looks None × Later answer) ⊎ ((refusal : Refusal) × Looks (Some refusal) × (answer ≡ Some refusal))
layer_then table layer nodes indexes made None bodies layers Looks Later h later = inl (h, later refl)
layer_then table layer nodes indexes made (Some refusal) bodies layers Looks Later h later = inr (refusal, h, refl)

-- the table after a layer came in
pub after_layer : (start : Books) (scene : Scene) (made : List Entry) (world : Config) (table : Table) (layer : ℕ) (part : List Known) → IsAfter start scene made world table
    → (taking table layer part).refusal ≡ None
    → IsAfter start scene (made ++ joined layer part) world
    (table_with table ((taking table layer part).entries ++ Join layer (taking table layer part).indexes ∷ []) (with_attached table.books layer (need (length part))))
after_layer start scene made world table layer part h e =
    let t = taking table layer part in
    let nodes = need (length part) in
    let taken = are_taken table layer part e in
    let new : t.entries ++ Join layer t.indexes ∷ [] ≡ joined layer part =
    ap (λ (es : List Entry). es ++ Join layer t.indexes ∷ []) taken.entries ∙ ap (λ (xs : List ℕ). marks (map (λ k. k.id.index) part) ++ Join layer xs ∷ []) taken.indexes in
    let one = join_adds table layer nodes t.indexes t.entries None (λ n. ap need (sym (all_taken table layer part e)))
    (joinless_taking (room_refusal table layer (length part)) (marking table.scene layer part)) in
    let adds : Adds table.books (with_attached table.books layer nodes) (joined layer part) = subst (Adds table.books (with_attached table.books layer nodes)) new one in
    let room = room_for table layer (length part) (whole table layer part e).room_is in
    let size = ap (λ (w : Config). w.nodes) h.world_is in
    record {
      world_is = h.world_is;
      scene_is =
          ap (λ (es : List Entry). fold after_entry table.scene es) new
          ∙ ap (λ (s : Scene). fold after_entry s (joined layer part)) h.scene_is
          ∙ sym (fold-append after_entry scene made (joined layer part));
      adds = record {
        prepared = adds.prepared ∙ h.adds.prepared;
        attaches = attaches_more start table.books (with_attached table.books layer nodes) made (joined layer part) h.adds.attaches adds.attaches;
      };
      within = omega (arith, nodes-attached table.books layer nodes, h.within, room.1, size);
    }

-- what a layer is refused for
looks_here : (start : Books) (scene : Scene) (made : List Entry) (world : Config) (table : Table) (layer : ℕ) (part : List Known) → IsAfter start scene made world table
    → LooksForRoom world (kept_with (kept_in start [] layer) layer made) (fold after_entry scene made) layer (map (λ k. k.id) part) (taking table layer part).refusal
looks_here start scene made world table layer part h =
    let ids = map (λ (k : Known). k.id) part in
    let answer = (taking table layer part).refusal in
    let size = ap (λ (w : Config). w.nodes) h.world_is in
    let looks = taking_looks table [] layer part (omega (arith, h.within, size)) in
    subst (λ (s : Scene). LooksForRoom world (kept_with (kept_in start [] layer) layer made) s layer ids answer) h.scene_is
    (subst (λ (k : Kept). LooksForRoom world k table.scene layer ids answer) (kept_after start table.books made layer h.adds)
    (subst (λ (w : Config). LooksForRoom w (kept_in table.books [] layer) table.scene layer ids answer) h.world_is looks))

layer_looks : (start : Books) (scene : Scene) (made : List Entry) (world : Config) (table : Table) (layer : ℕ) (part bodies : List Known) (layers : List ℕ)
    → IsAfter start scene made world table
    → ((next : Table) (more : List Entry) → IsAfter start scene more world next → LooksAtLayers world (kept_in start []) scene bodies layers more (add_layers next bodies layers).refusal)
    → let first = add_layer table layer part in
    LooksAtLayer world (kept_in start []) scene layer part (LooksAtLayers world (kept_in start []) scene bodies layers) made
    (followed first.refusal first (add_layers (table_with table first.entries first.books) bodies layers)).refusal
layer_looks start scene made world table layer [] bodies layers h rest = rest table made h
layer_looks start scene made world table layer (known ∷ part) bodies layers h rest =
    let own = known ∷ part in
    let t = taking table layer own in
    layer_then table layer (need (length own)) t.indexes t.entries t.refusal bodies layers
    (LooksForRoom world (kept_with (kept_in start [] layer) layer made) (fold after_entry scene made) layer (map (λ k. k.id) own))
    (LooksAtLayers world (kept_in start []) scene bodies layers (made ++ joined layer own))
    (looks_here start scene made world table layer own h)
    (λ e. rest (table_with table (t.entries ++ Join layer t.indexes ∷ []) (with_attached table.books layer (need (length own)))) (made ++ joined layer own)
    (after_layer start scene made world table layer own h e))

layers_look : (start : Books) (scene : Scene) (world : Config) (bodies : List Known) (layers : List ℕ) (table : Table) (made : List Entry) → IsAfter start scene made world table
    → LooksAtLayers world (kept_in start []) scene bodies layers made (add_layers table bodies layers).refusal
layers_look start scene world bodies [] table made h = refl
layers_look start scene world bodies (layer ∷ layers) table made h =
    layer_looks start scene made world table layer (in_layer layer bodies) bodies layers h (λ next more k. layers_look start scene world bodies layers next more k)

pub add_answered : (table : Table) (o : Option (List Known)) → nodes_kept table.books ≤ table.world.nodes
    → AnswersAdd table.world (kept_in table.books []) table.scene o (outcome (add_known table o).refusal)
add_answered table None within = refl
add_answered table (Some bodies) within =
    let answer = (add_layers table bodies (range_with_len 0 table.world.layers)).refusal in
    record {
      answer = answer;
      replied = replied answer;
      first = layers_look table.books table.scene table.world bodies (range_with_len 0 table.world.layers) table []
          (record { world_is = refl; scene_is = refl; adds = adds_none table.books [] joinless_none; within = within });
    }
