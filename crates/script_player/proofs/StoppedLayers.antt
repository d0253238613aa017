-- Where an add is refused: which layer stopped it, and what was made by then.
use Rattle.std.proofs.Common.{◌≡◌, ℕ, ◌≤◌, List, [], ◌∷◌, ◌++◌, length, map, fold, Option, Some, None, refl, ap, sym, subst, ◌∙◌, append_assoc, arith}
use Rattle.std.specs.List.{range_with_len}
use Rattle.std.proofs.lemmas.List.{append-nil}
use Rattle.std.proofs.lemmas.List.Sums.{fold-append}
use Rattle.word_map.specs.declared.config.Config.{Config}
use Rattle.scene_model.specs.declared.entry.Entry.{Entry}
use Rattle.scene_model.specs.declared.entry.Entry.TheVariants.{Join}
use Rattle.scene_model.specs.Need.{need}
use Rattle.scene_model.specs.Scene.{Scene}
use Rattle.scene_model.specs.Step.{after_entry}
use Rattle.scene_model.specs.Cause.{Cause, IsCauseAt}
use Rattle.reply_text.specs.declared.refusal.Refusal.{Refusal}
use Rattle.script_player.specs.declared.books.Known.{Known}
use Rattle.script_player.specs.Books.{Books, with_attached, nodes_kept}
use Rattle.script_player.specs.Table.{Table, table_with}
use Rattle.script_player.specs.Attempt.{outcome}
use Rattle.script_player.specs.Taking.{marks, taking}
use Rattle.script_player.specs.Batches.{join_taken, add_layer, followed, in_layer, add_layers, add_known}
use Rattle.script_player.specs.Prepared.{Kept, kept_with}
use Rattle.script_player.specs.Refused.{joined}
use Rattle.script_player.specs.Done.{joined_some, joined_each}
use Rattle.script_player.specs.Right.{IsRefusedRoom, IsAddedUpTo, IsAddedIn, IsAddedOf}
use Rattle.script_player.proofs.Preparing.{kept_in}
use Rattle.script_player.proofs.Joins.{joinless_none}
use Rattle.script_player.proofs.Taken.{are_taken}
use Rattle.script_player.proofs.Keeping.{adds_none}
use Rattle.script_player.proofs.Doing.{layers_make}
use Rattle.script_player.proofs.Adding.{IsAfter, kept_after, after_layer}
use Rattle.script_player.proofs.Stopping.{ShowsIn, taking_right}

-- the entries of an add that are made from here on, up to the layer that is refused; these were made before
record IsAddedFrom (world : Config) (start : Books) (before_all : List Entry) (Shows : Cause → Type 0) (bodies : List Known) (layers : List ℕ) (r : Refusal) (made : List Entry) : Type 0 where
  before : List ℕ
  layer : ℕ
  rest : List ℕ
  parts : layers ≡ before ++ layer ∷ rest
  undone : List Entry
  entries : made ≡ joined_each bodies before ++ undone
  refused : IsRefusedRoom world (kept_with (kept_in start [] layer) layer (before_all ++ joined_each bodies before)) Shows layer (in_layer layer bodies) r undone

-- a layer came in, and then one below it is refused
one_more_layer : (world : Config) (start : Books) (before_all : List Entry) (Shows : Cause → Type 0) (bodies : List Known) (layer : ℕ) (layers : List ℕ) (r : Refusal) (later : List Entry)
    → IsAddedFrom world start (before_all ++ joined_some layer (in_layer layer bodies)) Shows bodies layers r later
    → IsAddedFrom world start before_all Shows bodies (layer ∷ layers) r (joined_some layer (in_layer layer bodies) ++ later)
one_more_layer world start before_all Shows bodies layer layers r later p =
    let own = joined_some layer (in_layer layer bodies) in
    record {
      before = layer ∷ p.before;
      layer = p.layer;
      rest = p.rest;
      parts = ap (λ (ls : List ℕ). layer ∷ ls) p.parts;
      undone = p.undone;
      entries = ap (λ (es : List Entry). own ++ es) p.entries ∙ sym (append_assoc own (joined_each bodies p.before) p.undone);
      refused = subst (λ (es : List Entry). IsRefusedRoom world (kept_with (kept_in start [] p.layer) p.layer es) Shows p.layer (in_layer p.layer bodies) r p.undone)
          (append_assoc before_all own (joined_each bodies p.before)) p.refused;
    }

-- so it is where these are the entries of that layer
own_layer : (world : Config) (start : Books) (before_all : List Entry) (Shows : Cause → Type 0) (bodies : List Known) (layer : ℕ) (layers : List ℕ) (r : Refusal) (own later : List Entry)
    → own ≡ joined_some layer (in_layer layer bodies) → IsAddedFrom world start (before_all ++ own) Shows bodies layers r later
    → IsAddedFrom world start before_all Shows bodies (layer ∷ layers) r (own ++ later)
own_layer world start before_all Shows bodies layer layers r own later same =
    subst (λ (es : List Entry). IsAddedFrom world start (before_all ++ es) Shows bodies layers r later → IsAddedFrom world start before_all Shows bodies (layer ∷ layers) r (es ++ later))
    (sym same) (one_more_layer world start before_all Shows bodies layer layers r later)

shows_later : (scene : Scene) (first later : List Entry) (Shows : Cause → Type 0) → ShowsIn scene (first ++ later) Shows → ShowsIn (fold after_entry scene first) later Shows
shows_later scene first later Shows shows = λ xs ys c e here.
    shows (first ++ xs) ys c (ap (λ (es : List Entry). first ++ es) e ∙ sym (append_assoc first xs ys))
    (subst (IsCauseAt c) (sym (fold-append after_entry scene first xs)) here)

followed_right : (world : Config) (start : Books) (made : List Entry) (Shows : Cause → Type 0) (bodies : List Known) (layers all : List ℕ) (r : Refusal) (table : Table)
    (layer nodes : ℕ) (indexes : List ℕ) (own : List Entry) (o : Option Refusal)
    → (o ≡ None → let es = own ++ Join layer indexes ∷ [] in
    let later = add_layers (table_with table es (with_attached table.books layer nodes)) bodies layers in
    ShowsIn table.scene (es ++ later.entries) Shows → later.refusal ≡ Some r → IsAddedFrom world start made Shows bodies all r (es ++ later.entries))
    → (o ≡ Some r → ShowsIn table.scene own Shows → IsAddedFrom world start made Shows bodies all r own)
    → let first = join_taken table layer nodes indexes own o in
    let whole = followed first.refusal first (add_layers (table_with table first.entries first.books) bodies layers) in
    ShowsIn table.scene whole.entries Shows → whole.refusal ≡ Some r → IsAddedFrom world start made Shows bodies all r whole.entries
followed_right world start made Shows bodies layers all r table layer nodes indexes own None on stop shows e = on refl shows e
followed_right world start made Shows bodies layers all r table layer nodes indexes own (Some refusal) on stop shows e = stop e shows

layer_right : (start : Books) (scene : Scene) (made : List Entry) (world : Config) (table : Table) (layer : ℕ) (part bodies : List Known) (layers : List ℕ) (Shows : Cause → Type 0)
    (r : Refusal) → IsAfter start scene made world table → in_layer layer bodies ≡ part
    → ((next : Table) (more : List Entry) → IsAfter start scene more world next → ShowsIn next.scene (add_layers next bodies layers).entries Shows
    → (add_layers next bodies layers).refusal ≡ Some r → IsAddedFrom world start more Shows bodies layers r (add_layers next bodies layers).entries)
    → let first = add_layer table layer part in
    let whole = followed first.refusal first (add_layers (table_with table first.entries first.books) bodies layers) in
    ShowsIn table.scene whole.entries Shows → whole.refusal ≡ Some r → IsAddedFrom world start made Shows bodies (layer ∷ layers) r whole.entries
layer_right start scene made world table layer [] bodies layers Shows r h same rest shows e =
    let later = add_layers table bodies layers in
    own_layer world start made Shows bodies layer layers r [] later.entries (sym (ap (joined_some layer) same))
    (subst (λ (es : List Entry). IsAddedFrom world start es Shows bodies layers r later.entries) (sym (append-nil made)) (rest table made h shows e))
layer_right start scene made world table layer (known ∷ part) bodies layers Shows r h same rest shows e =
    let own = known ∷ part in
    let t = taking table layer own in
    let nodes = need (length own) in
    let es = t.entries ++ Join layer t.indexes ∷ [] in
    let next = table_with table es (with_attached table.books layer nodes) in
    let later = add_layers next bodies layers in
    followed_right world start made Shows bodies layers (layer ∷ layers) r table layer nodes t.indexes t.entries t.refusal
    (λ none shows e.
    let taken = are_taken table layer own none in
    let new : es ≡ joined layer own =
    ap (λ (xs : List Entry). xs ++ Join layer t.indexes ∷ []) taken.entries ∙ ap (λ (xs : List ℕ). marks (map (λ k. k.id.index) own) ++ Join layer xs ∷ []) taken.indexes in
    own_layer world start made Shows bodies layer layers r es later.entries (new ∙ sym (ap (joined_some layer) same))
    (subst (λ (xs : List Entry). IsAddedFrom world start (made ++ xs) Shows bodies layers r later.entries) (sym new)
    (rest next (made ++ joined layer own) (after_layer start scene made world table layer own h none) (shows_later table.scene es later.entries Shows shows) e)))
    (λ stopped shows.
    let size = ap (λ (w : Config). w.nodes) h.world_is in
    let refused = taking_right table [] layer own Shows r (omega (arith, h.within, size)) shows stopped in
    let kept = kept_after start table.books made layer h.adds ∙ ap (λ (es : List Entry). kept_with (kept_in start [] layer) layer es) (sym (append-nil made)) in
    record {
      before = [];
      layer = layer;
      rest = layers;
      parts = refl;
      undone = t.entries;
      entries = refl;
      refused =
          subst (λ (ks : List Known). IsRefusedRoom world (kept_with (kept_in start [] layer) layer (made ++ [])) Shows layer ks r t.entries) (sym same)
          (subst (λ (k : Kept). IsRefusedRoom world k Shows layer own r t.entries) kept
          (subst (λ (w : Config). IsRefusedRoom w (kept_in table.books [] layer) Shows layer own r t.entries) h.world_is refused));
    })
    shows e

layers_right : (start : Books) (scene : Scene) (world : Config) (bodies : List Known) (Shows : Cause → Type 0) (r : Refusal) (layers : List ℕ) (table : Table) (made : List Entry)
    → IsAfter start scene made world table → ShowsIn table.scene (add_layers table bodies layers).entries Shows → (add_layers table bodies layers).refusal ≡ Some r
    → IsAddedFrom world start made Shows bodies layers r (add_layers table bodies layers).entries
layers_right start scene world bodies Shows r [] table made h shows e = absurd cc
layers_right start scene world bodies Shows r (layer ∷ layers) table made h shows e =
    layer_right start scene made world table layer (in_layer layer bodies) bodies layers Shows r h refl
    (λ next more k. layers_right start scene world bodies Shows r layers next more k) shows e

-- every layer came in, or one was refused
added_right : (table : Table) (bodies : List Known) (Shows : Cause → Type 0) (made : List Entry) (o : Option Refusal)
    → (o ≡ None → made ≡ joined_each bodies (range_with_len 0 table.world.layers))
    → ((r : Refusal) → o ≡ Some r → IsAddedUpTo table.world (kept_in table.books []) Shows bodies (range_with_len 0 table.world.layers) r made)
    → IsAddedIn table.world (kept_in table.books []) Shows bodies (outcome o) made
added_right table bodies Shows made None all stops = all refl
added_right table bodies Shows made (Some r) all stops = stops r refl

pub add_right : (table : Table) (o : Option (List Known)) (Shows : Cause → Type 0) → nodes_kept table.books ≤ table.world.nodes → ShowsIn table.scene (add_known table o).entries Shows
    → IsAddedOf table.world (kept_in table.books []) Shows o (outcome (add_known table o).refusal) (add_known table o).entries
add_right table None Shows within shows = (refl, refl)
add_right table (Some bodies) Shows within shows =
    let layers = range_with_len 0 table.world.layers in
    let a = add_layers table bodies layers in
    added_right table bodies Shows a.entries a.refusal (layers_make bodies layers table)
    (λ r e.
    let p = layers_right table.books table.scene table.world bodies Shows r layers table []
    (record { world_is = refl; scene_is = refl; adds = adds_none table.books [] joinless_none; within = within }) shows e in
    record { before = p.before; layer = p.layer; rest = p.rest; parts = p.parts; undone = p.undone; entries = p.entries; refused = p.refused })
