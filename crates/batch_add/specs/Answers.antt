-- What preparing a batch and giving it up answer.
use Rattle.std.specs.Prelude.{◌≡◌, ◌≢◌, ℕ, ◌+◌, ◌<◌, nat_eq, true, List, [], ◌∷◌, ◌++◌, length, map, take, slice_index_or, All, Result, Ok, Err, Contains}
use Rattle.std.specs.List.{IsDistinct}
use Rattle.body_ident.specs.Id.{Id}
use Rattle.fixed_box.specs.declared.fix_box.FixBox.{FixBox}
use Rattle.scene_model.specs.declared.entry.Entry.TheVariants.{Mark, Unmark}
use Rattle.scene_model.specs.Need.{need}
use Rattle.word_map.specs.declared.name.Name.TheVariants.{Slot, PoolFree}
use Rattle.core_state.specs.declared.item.Store.{Store}
use Rattle.core_state.specs.declared.view.Batch.{Batch}
use Rattle.core_state.specs.declared.view.View.{View}
use Rattle.core_state.specs.Log.{word}
use Rattle.core_state.specs.View.{IsPass}
use Rattle.core_state.specs.Encoding.{reserved_by}
use Rattle.core_state.specs.Batches.{written_outside, batch_nodes_of}
use Rattle.pass_table.specs.Calls.{AtPoint}
use Rattle.batch_add.specs.declared.answers.PrepareRefused.{PrepareRefused}
use Rattle.batch_add.specs.declared.answers.PrepareRefused.TheVariants.{Memory, Empty as NoBodies, NoSlot, NoNodes as FewNodes, Gone as IdGone, Held as IdHeld, AlreadyIn as IdIn, WrongLayer as IdElsewhere}
use Rattle.batch_add.specs.declared.mark_op.MarkRefused.{MarkRefused}
use Rattle.batch_add.specs.declared.mark_op.MarkRefused.TheVariants.{Gone, Held, AlreadyIn, WrongLayer}
use Rattle.batch_add.specs.declared.prepared.Prepared.{Prepared}
use Rattle.pass_table.specs.Work.{Outcome, HasDone, idle}
use Rattle.batch_add.specs.Parts.{stored_as, StoresFrom, FoundNoSlot, WereFree, IsMarkRefusedAt, HasGivenUp}
use Rattle.batch_add.specs.Prepared.{IsGood, IsApart, IsTheBatch, LeavesOthers}
use Rattle.pass_table.specs.Belongings.{belongings_of}

-- what a preparation leaves that ends well
abbrev pub prepared_outcome : View → ℕ → ℕ → ℕ → List Id → ℕ → Batch → List Store → Outcome
prepared_outcome view layer slot number ids left batch written = record {
  entries = map (λ id. Mark id.index) ids;
  stores = stored_as (Slot layer slot) (reserved_by number) ∷ stored_as PoolFree left ∷ [];
  batches = view.batches ++ batch ∷ [];
  loose = view.loose;
  written = written;
  places = true;
}

-- The bodies of the ids are marked, in order, for a batch of a slot of the layer that was empty, with as many nodes of the pool
-- as their tree needs, none of which the pass had. It is good for the pass, which has no other batch more and is at rest; in
-- other nodes it has written what it had, so each batch that was good is, and it is apart from each. The body of
-- each id was free, at a point of the call
pub record HasPrepared (layer : ℕ) (ids : List Id) (start next : View) (prepared : Prepared) : Type 0 where
  pub left : ℕ
  pub written : List Store
  pub good : IsGood prepared next
  pub first : good.before ≡ start.batches
  pub last : good.after ≡ []
  pub fresh : All (λ n. ¬ Contains (batch_nodes_of start) n) prepared.nodes.items
  pub only : written_outside prepared.nodes.items written ≡ start.written
  pub others : (other : Prepared) → IsGood other start → IsGood other next
  pub apart : (other : Prepared) → IsGood other start → IsApart other prepared
  pub of_layer : prepared.layer ≡ layer
  pub of_pass : IsPass start prepared.number
  pub indexes : prepared.indexes.items ≡ map (λ id. id.index) ids
  pub done : HasDone start next (prepared_outcome start layer prepared.slot prepared.number ids left good.batch written)
  pub from_slot : StoresFrom start next (Slot layer prepared.slot) 0 (reserved_by prepared.number)
  pub from_pool : StoresFrom start next PoolFree (left + need (length ids)) left
  pub each : WereFree layer start next ids

-- there is no id, and nothing was done
pub record HadNoBodies (ids : List Id) (start next : View) : Type 0 where
  pub none : ids ≡ []
  pub done : HasDone start next (idle start)

-- Fewer nodes were free than the tree needs, at a point of the call. A slot was reserved and is empty again
pub record HadFewNodes (layer : ℕ) (ids : List Id) (start next : View) (wanted free : ℕ) : Type 0 where
  pub number : ℕ
  pub pass : IsPass start number
  pub slot : ℕ
  pub below : slot < start.config.slots
  pub done : HasDone start next (record (idle start) { stores = stored_as (Slot layer slot) (reserved_by number) ∷ stored_as (Slot layer slot) 0 ∷ []; places = true })
  pub from_slot : StoresFrom start next (Slot layer slot) 0 (reserved_by number)
  pub need_of : wanted ≡ need (length ids)
  pub few : free < wanted
  pub at : AtPoint start next (λ log. word start.config log PoolFree ≡ free)

-- what a preparation leaves that is refused for an id
abbrev pub refused_outcome : View → ℕ → ℕ → ℕ → List Id → ℕ → ℕ → Outcome
refused_outcome view layer slot number ids left free = record (idle view) {
  entries = map (λ id. Mark id.index) ids ++ map (λ id. Unmark id.index) ids;
  stores = stored_as (Slot layer slot) (reserved_by number) ∷ stored_as PoolFree left ∷ stored_as (Slot layer slot) 0 ∷ stored_as PoolFree free ∷ [];
  places = true;
}

-- The id at this place is refused, at a point of the call, and none before it. The bodies of those were free, each at a point of
-- the call, and were marked, in order, each index once; they are unmarked again, the slot is empty, and the nodes are in the pool
-- again
pub record HadBadId (layer : ℕ) (ids : List Id) (start next : View) (at : ℕ) (refused : MarkRefused) : Type 0 where
  pub number : ℕ
  pub pass : IsPass start number
  pub slot : ℕ
  pub below : slot < start.config.slots
  pub left : ℕ
  pub old : ℕ
  pub some : at < length ids
  pub done : HasDone start next (refused_outcome start layer slot number (take at ids) left (old + need (length ids)))
  pub from_slot : StoresFrom start next (Slot layer slot) 0 (reserved_by number)
  pub from_pool : StoresFrom start next PoolFree (left + need (length ids)) left
  pub back : StoresFrom start next PoolFree old (old + need (length ids))
  pub each : WereFree layer start next (take at ids)
  pub once : IsDistinct nat_eq (map (λ id. id.index) (take at ids))
  pub cause : (past : Id) → AtPoint start next (IsMarkRefusedAt start.config layer (slice_index_or ids at past) refused)

-- why it was refused. No turn answers want of memory
abbrev pub WasRefused : ℕ → List Id → View → View → PrepareRefused → Type 0
WasRefused layer ids start next Memory = ⊥
WasRefused layer ids start next NoBodies = HadNoBodies ids start next
WasRefused layer ids start next (NoSlot words) = (ids ≢ []) × FoundNoSlot layer start next words.words.items
WasRefused layer ids start next (FewNodes wanted free) = HadFewNodes layer ids start next wanted free
WasRefused layer ids start next (IdGone at state) = HadBadId layer ids start next at (Gone state)
WasRefused layer ids start next (IdHeld at slot) = HadBadId layer ids start next at (Held slot)
WasRefused layer ids start next (IdIn at phase) = HadBadId layer ids start next at (AlreadyIn phase)
WasRefused layer ids start next (IdElsewhere at found) = HadBadId layer ids start next at (WrongLayer found)

abbrev pub IsPrepareAnswer : ℕ → List Id → View → View → Result Prepared PrepareRefused → Type 0
IsPrepareAnswer layer ids start next (Ok prepared) = HasPrepared layer ids start next prepared
IsPrepareAnswer layer ids start next (Err refused) = WasRefused layer ids start next refused

-- what the whole call answers: where there is not enough memory nothing was done
abbrev pub PrepareAnswers : ℕ → List Id → View → View → Result Prepared PrepareRefused → Type 0
PrepareAnswers layer ids start next (Ok prepared) = HasPrepared layer ids start next prepared
PrepareAnswers layer ids start next (Err Memory) = next ≡ start
PrepareAnswers layer ids start next (Err refused) = WasRefused layer ids start next refused

-- The batch is given up: its bodies are unmarked, in order, its slot is empty, and its nodes, as many as the tree over its bodies
-- needs, are in the pool again
pub record HasAborted (prepared : Prepared) (start next : View) : Type 0 where
  pub before : List Batch
  pub batch : Batch
  pub after : List Batch
  pub bodies : List (ℕ × FixBox)
  pub is : IsTheBatch prepared (belongings_of start) before batch after bodies
  pub given : HasGivenUp before batch after start next
  pub back : (old : ℕ) × StoresFrom start next PoolFree old (old + need (length prepared.indexes.items))
  pub others : LeavesOthers prepared start next
