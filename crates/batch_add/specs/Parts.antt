-- What the parts of preparing a batch and of giving it up leave. The pass is at rest before and after each.
use Rattle.std.specs.Prelude.{◌≡◌, ◌≢◌, ◌⊎◌, ℕ, ◌+◌, ◌%◌, ◌<◌, nat_eq, true, false, List, [], ◌∷◌, ◌++◌, length, map, take, slice_index_or, All, Contains}
use Rattle.std.specs.List.{IsDistinct}
use Rattle.fixed_box.specs.FixBox.{words_of}
use Rattle.fixed_box.specs.declared.fix_box.FixBox.{FixBox}
use Rattle.body_ident.specs.Id.{Id}
use Rattle.scene_model.specs.declared.body_view.Phase.TheVariants.{Out}
use Rattle.scene_model.specs.declared.entry.Entry.TheVariants.{Mark, Unmark}
use Rattle.scene_model.specs.Cause.{Cause, HasIdBody, IsCauseAt, gone, held, already_in, wrong_layer}
use Rattle.word_map.specs.declared.config.Config.{Config}
use Rattle.word_map.specs.declared.name.Name.{Name}
use Rattle.word_map.specs.declared.name.Name.TheVariants.{State, Phase, Layer, Slot, PoolFree}
use Rattle.core_state.specs.declared.item.Item.{Item}
use Rattle.core_state.specs.declared.item.Store.{Store}
use Rattle.core_state.specs.declared.view.Marked.{Marked}
use Rattle.core_state.specs.declared.view.Batch.{Batch}
use Rattle.core_state.specs.declared.view.View.{View}
use Rattle.core_state.specs.Log.{word}
use Rattle.core_state.specs.View.{IsPass}
use Rattle.core_state.specs.Encoding.{reserved_by, phase_join}
use Rattle.core_state.specs.Bodies.{IsForSlot}
use Rattle.core_state.specs.Batches.{new_batch, batch_nodes_of, written_outside}
use Rattle.core_state.specs.Guards.{scene_at}
use Rattle.tree_plan.specs.Plan.{Plan}
use Rattle.tree_plan.specs.Arranged.{AreApart}
use Rattle.pass_table.specs.Calls.{AtPoint}
use Rattle.batch_add.specs.declared.mark_op.MarkRefused.{MarkRefused}
use Rattle.batch_add.specs.declared.mark_op.MarkRefused.TheVariants.{Gone, Held, AlreadyIn, WrongLayer}
use Rattle.pass_table.specs.Work.{Outcome, HasDone, idle}
use Rattle.batch_add.specs.Drawing.{IsWritten, WritesOnly}

-- ---- stores

abbrev pub stored_as : Name → ℕ → Store
stored_as name value = record { name = name; value = value }

-- the pass stored a new value in the place of an old one: at a point of the call the word was the old one, and the pass's
-- store came next
pub record StoresFrom (view next : View) (name : Name) (old new : ℕ) : Type 0 where
  pub since : List Item
  pub item : Item
  pub later : List Item
  pub parts : next.known ≡ (view.known ++ since) ++ item ∷ later
  pub pass : IsPass view item.pass
  pub named : item.name ≡ name
  pub is : item.value ≡ new
  pub was : word view.config (view.known ++ since) name ≡ old

-- ---- a slot

abbrev pub reserved_outcome : View → ℕ → ℕ → ℕ → Outcome
reserved_outcome view layer slot number = record (idle view) {
  stores = stored_as (Slot layer slot) (reserved_by number) ∷ [];
  batches = view.batches ++ new_batch layer slot ∷ [];
}

-- the pass has reserved this slot of the layer, which was empty: it has a new batch, and none other for the slot
pub record HasReserved (layer : ℕ) (start next : View) (slot : ℕ) : Type 0 where
  pub number : ℕ
  pub pass : IsPass start number
  pub below : slot < start.config.slots
  pub done : HasDone start next (reserved_outcome start layer slot number)
  pub from : StoresFrom start next (Slot layer slot) 0 (reserved_by number)
  pub alone : All (λ b. ¬ IsForSlot layer slot b) start.batches

-- each slot of the layer was found with a word of its own, and none of them empty
pub record FoundNoSlot (layer : ℕ) (start next : View) (words : List ℕ) : Type 0 where
  pub done : HasDone start next (idle start)
  pub all : length words ≡ start.config.slots
  pub each : (slot past : ℕ) → slot < start.config.slots
      → (slice_index_or words slot past ≢ 0) × AtPoint start next (λ log. word start.config log (Slot layer slot) ≡ slice_index_or words slot past)

-- ---- nodes

-- the newest batch is this one, and the others are before it
abbrev pub IsNewest : View → List Batch → Batch → Type 0
IsNewest view before batch = view.batches ≡ before ++ batch ∷ []

abbrev pub with_nodes : Batch → List ℕ → Batch
with_nodes batch nodes = record batch { nodes = batch.nodes ++ nodes }

abbrev pub nodes_outcome : View → List Batch → Batch → List ℕ → ℕ → Outcome
nodes_outcome view before batch nodes left = record (idle view) {
  stores = stored_as PoolFree left ∷ [];
  batches = before ++ with_nodes batch nodes ∷ [];
}

-- so many nodes of the pool are the newest batch's, each another, and none of them was the pass's before
pub record HasNodes (count : ℕ) (before : List Batch) (batch : Batch) (start next : View) (nodes : List ℕ) : Type 0 where
  pub left : ℕ
  pub done : HasDone start next (nodes_outcome start before batch nodes left)
  pub from : StoresFrom start next PoolFree (left + count) left
  pub many : length nodes ≡ count
  pub below : All (λ n. n < start.config.nodes) nodes
  pub distinct : IsDistinct nat_eq nodes
  pub others : All (λ n. ¬ Contains (batch_nodes_of start) n) nodes

-- fewer were free
pub record FoundFewNodes (count : ℕ) (start next : View) (free : ℕ) : Type 0 where
  pub done : HasDone start next (idle start)
  pub few : free < count
  pub at : AtPoint start next (λ log. word start.config log PoolFree ≡ free)

-- ---- marks

-- bodies as they are marked: with their boxes, and at no place yet
abbrev pub marked_as : ℕ × FixBox → Marked
marked_as body = record { index = body.0; bounds = words_of body.1; place = 0; is_placed = false }

abbrev pub marks_outcome : View → List Batch → Batch → List (ℕ × FixBox) → Outcome
marks_outcome view before batch bodies = record (idle view) {
  entries = map (λ b. Mark b.0) bodies;
  batches = before ++ (record batch { marked = map marked_as bodies }) ∷ [];
}

-- a batch of the layer may take the body that the id names: it is out of the broad phase, held for no batch, and in the layer
abbrev pub IsFreeAt : Config → ℕ → Id → List Item → Type 0
IsFreeAt c layer id log = HasIdBody (scene_at c log) id (λ r. (r.phase ≡ Out) × (r.layer ≡ layer))

-- so was the body of each of these ids, each at a point of the call
abbrev pub WereFree : ℕ → View → View → List Id → Type 0
WereFree layer start next ids = All (λ id. AtPoint start next (IsFreeAt start.config layer id)) ids

-- the bodies of these ids, in order, are marked for the newest batch, which had none: each index once, and each body was free
pub record HasMarked (before : List Batch) (batch : Batch) (ids : List Id) (start next : View) (bodies : List (ℕ × FixBox)) : Type 0 where
  pub done : HasDone start next (marks_outcome start before batch bodies)
  pub indexes : map (λ b. b.0) bodies ≡ map (λ id. id.index) ids
  pub apart : AreApart bodies
  pub each : WereFree batch.layer start next ids

-- the cause of a refusal to mark, by the words that were read under the body's stripe. A slot word below 1024 is that of a
-- slot whose batch is prepared
abbrev pub cause_of : ℕ → Id → MarkRefused → Cause
cause_of layer id (Gone state) = gone id
cause_of layer id (Held slot) = held id
cause_of layer id (AlreadyIn phase) = already_in id
cause_of layer id (WrongLayer found) = wrong_layer id layer

-- the words say so
abbrev pub Says : Config → Id → List Item → MarkRefused → Type 0
Says c id log (Gone state) = (word c log (State id.index) ≡ state) × ((state < 256) ⊎ (state % 256 ≢ id.seq))
Says c id log (Held found) = (t : ℕ) × (word c log (Phase id.index) ≡ phase_join t) × (word c log (Slot (word c log (Layer id.index)) t) ≡ found) × (found ≢ 0) × (found < 1024)
Says c id log (AlreadyIn phase) = (word c log (Phase id.index) ≡ phase) × (phase ≢ 0)
Says c id log (WrongLayer found) = word c log (Layer id.index) ≡ found

-- the refusal is right for a log: the scene gives its cause, and the words say so
pub record IsMarkRefusedAt (c : Config) (layer : ℕ) (id : Id) (refusal : MarkRefused) (log : List Item) : Type 0 where
  pub cause : IsCauseAt (cause_of layer id refusal) (scene_at c log)
  pub says : Says c id log refusal

-- The id at this place was refused, at a point of the call; those before it are marked
pub record HasMarkedBefore (before : List Batch) (batch : Batch) (ids : List Id) (start next : View) (bodies : List (ℕ × FixBox)) (refusal : MarkRefused) : Type 0 where
  pub first : HasMarked before batch (take (length bodies) ids) start next bodies
  pub some : length bodies < length ids
  pub refused : (past : Id) → AtPoint start next (IsMarkRefusedAt start.config batch.layer (slice_index_or ids (length bodies) past) refusal)

-- ---- the tree

abbrev pub drawn_outcome : View → List Batch → Batch → List Store → Outcome
drawn_outcome view before batch written = record (idle view) {
  batches = before ++ batch ∷ [];
  written = written;
  places = true;
}

-- the nodes of the newest batch are drawn as the tree over its bodies, and these are placed there
pub record HasDrawn (bodies : List (ℕ × FixBox)) (before : List Batch) (start next : View) (drawn : Batch) : Type 0 where
  pub written : List Store
  pub done : HasDone start next (drawn_outcome start before drawn written)
  pub plan : Plan
  pub bound : ℕ → ℕ → FixBox
  pub tree : IsWritten written bodies plan bound drawn
  pub only : WritesOnly drawn.nodes start.written written

-- ---- giving up

-- the batch is one of the pass's, and these are the others
abbrev pub IsAmong : View → List Batch → Batch → List Batch → Type 0
IsAmong view before batch after = view.batches ≡ before ++ batch ∷ after

-- what is stored where a batch has nodes to be given back, and where it has none
abbrev pub given_stores : Batch → ℕ → List Store
given_stores batch free = given batch.nodes
  where
    given : List ℕ → List Store
    given [] = stored_as (Slot batch.layer batch.slot) 0 ∷ []
    given (n ∷ rest) = stored_as (Slot batch.layer batch.slot) 0 ∷ stored_as PoolFree free ∷ []

abbrev pub given_outcome : View → List Batch → Batch → List Batch → ℕ → Outcome
given_outcome view before batch after free = record {
  entries = map (λ m. Unmark m.index) batch.marked;
  stores = given_stores batch free;
  batches = before ++ after;
  loose = view.loose;
  written = written_outside batch.nodes view.written;
  places = true;
}

-- The batch is given up: its bodies are unmarked, in order, its slot is empty, and its nodes are in the pool again
pub record HasGivenUp (before : List Batch) (batch : Batch) (after : List Batch) (start next : View) : Type 0 where
  pub free : ℕ
  pub done : HasDone start next (given_outcome start before batch after free)
  pub from : 0 < length batch.nodes → (old : ℕ) × (free ≡ old + length batch.nodes) × StoresFrom start next PoolFree old free
