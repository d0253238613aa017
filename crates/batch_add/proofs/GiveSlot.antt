-- How the slot of a batch is let go that is given up, and what giving a batch up answers.
use Rattle.std.proofs.Common.{◌≡◌, ℕ, ◌+◌, ◌<◌, List, [], ◌∷◌, ◌++◌, true, None, Option, Contains, AllPairs, length, refl, ap, sym, ◌∙◌, subst, arith}
use Rattle.std.proofs.lemmas.List.{append-nil}
use Rattle.std.proofs.lemmas.List.Elements.{Contains-append_right}
use Rattle.word_map.specs.declared.name.Name.{Name}
use Rattle.word_map.specs.declared.name.Name.TheVariants.{Slot, PoolFree}
use Rattle.core_state.specs.declared.view.Task.{Task}
use Rattle.core_state.specs.declared.view.Task.TheVariants.{Nothing}
use Rattle.core_state.specs.declared.view.Batch.{Batch}
use Rattle.core_state.specs.declared.view.View.{View}
use Rattle.core_state.specs.View.{IsPass}
use Rattle.core_state.specs.Event.{lets_slot_go, of_batches}
use Rattle.core_state.specs.Bodies.{AreOtherSlots}
use Rattle.core_state.specs.Batches.{MayLetSlotGo, let_slot_go, without_batch, batch_for, nodes_for, written_outside}
use Rattle.core_state.proofs.Beginning.{contains_first}
use Rattle.core_batch.proofs.Mapped.{own-slots}
use Rattle.pass_table.specs.Stepping.{Stored}
use Rattle.pass_table.specs.Turning.{AtMostOneStep, MadeBy}
use Rattle.pass_table.proofs.Turning.{one-step}
use Rattle.pass_table.proofs.Calling.{stores-word, stored-made}
use Rattle.free_list.proofs.Pool.{now-by}
use Rattle.batch_add.specs.declared.kept_batch.KeptBatch.{KeptBatch}
use Rattle.pass_table.specs.Work.{HasDone}
use Rattle.pass_table.proofs.WorkLater.{worked-batches, worked-loose, worked-written, worked-pass}
use Rattle.batch_add.specs.Parts.{stored_as, StoresFrom, given_stores, HasGivenUp}
use Rattle.batch_add.specs.stages.Keeping.{IsBegunFor}
use Rattle.batch_add.specs.stages.GivingUp.{WorksFree, with_marks, unmark_entries, unmarking_work, giving_work, counted_work}
use Rattle.batch_add.proofs.GiveLists.{batch-gone, batch-found, written-none}
use Rattle.batch_add.proofs.GiveWork.{free-told, free-done}

-- ---- the slot

module _ (start : View) (before : List Batch) (batch : Batch) (after : List Batch) (kept : KeptBatch) (begun : IsBegunFor kept start before batch after) (view : View)
    (work : WorksFree start view (unmarking_work start before batch after batch.marked [])) where
  abbrev bare : Batch
  bare = with_marks batch []

  bare_batches : view.batches ≡ before ++ with_marks batch [] ∷ after
  bare_batches = worked-batches start view _ work.worked

  pub asks-slot : MayLetSlotGo view (Slot kept.layer kept.slot) 0 0
  asks-slot = record {
    layer = kept.layer;
    slot = kept.slot;
    batch = with_marks batch [];
    names = refl;
    has = record {
      among = subst (λ (l : List Batch). Contains l (with_marks batch [])) (sym bare_batches) (Contains-append_right before (with_marks batch [] ∷ after) (with_marks batch []) (contains_first (with_marks batch []) after));
      for_slot = (begun.keeps.layer, begun.keeps.slot);
    };
    bare = refl;
    empty = refl;
  }

  module _ (next : View) (kept_stored : Stored MayLetSlotGo let_slot_go view (Slot kept.layer kept.slot) 0 next) where
    stored : Stored MayLetSlotGo let_slot_go view (Slot batch.layer batch.slot) 0 next
    stored = subst (λ (n : Name). Stored MayLetSlotGo let_slot_go view n 0 next) (λ i. Slot (sym begun.keeps.layer i) (sym begun.keeps.slot i)) kept_stored

    slot-made : (number : ℕ) → IsPass view number → MadeBy view next None
    slot-made number pass = stored-made MayLetSlotGo let_slot_go view next (Slot batch.layer batch.slot) 0 refl stored number pass

    slots_apart : AllPairs AreOtherSlots (before ++ with_marks batch [] ∷ after)
    slots_apart =
        let s = stored.1 in
        subst (AllPairs AreOtherSlots) bare_batches (own-slots s.before s.stands.laws.bodies s.seat s.number view s.allowed.at s.allowed.pass)

    slot_batches : without_batch batch.layer batch.slot view.batches ≡ before ++ after
    slot_batches = ap (without_batch batch.layer batch.slot) bare_batches ∙ batch-gone before (with_marks batch []) after slots_apart

    slot_nodes : nodes_for (batch_for batch.layer batch.slot view) ≡ batch.nodes
    slot_nodes =
        ap (λ (l : List Batch). nodes_for (batch_for batch.layer batch.slot (record view { batches = l }))) bare_batches
        ∙ ap (λ (o : Option Batch). nodes_for o) (batch-found before (with_marks batch []) after slots_apart)

    slot_left : next ≡ record view { known = next.known; joined = None; call = view.call; batches = before ++ after; loose = start.loose ++ batch.nodes; written = written_outside [] start.written }
    slot_left =
        now-by MayLetSlotGo let_slot_go view next (Slot batch.layer batch.slot) 0 0 stored.0 stored.1
        ∙ (λ i. record view {
          known = next.known;
          joined = None;
          batches = slot_batches i;
          loose = worked-loose start view _ work.worked i ++ slot_nodes i;
          written = (worked-written start view _ work.worked ∙ sym (written-none start.written)) i;
        })

    pub slot-gone : WorksFree start next (giving_work start before batch after Nothing [] batch.nodes)
    slot-gone =
        subst (λ (t : Task). WorksFree start next (giving_work start before batch after t [] batch.nodes)) work.worked.doing
        (free-told start view next _ (Slot batch.layer batch.slot) 0 view.call (before ++ after) (start.loose ++ batch.nodes) (written_outside [] start.written)
        (stores-word MayLetSlotGo let_slot_go view next (Slot batch.layer batch.slot) 0 refl stored) slot_left (slot-made work.worked.adds.number (worked-pass start view _ work.worked)) refl work)

-- the turn
module _ (view next : View) (layer slot : ℕ) (stored : Stored MayLetSlotGo let_slot_go view (Slot layer slot) 0 next) where
  pub slot-step : AtMostOneStep view next
  slot-step = one-step MayLetSlotGo let_slot_go view next (Slot layer slot) 0 0 stored.0 stored.1 (λ before_it after_it steps. of_batches (lets_slot_go steps))

  pub slot-turn-made : (number : ℕ) → IsPass view number → MadeBy view next None
  slot-turn-made number pass = stored-made MayLetSlotGo let_slot_go view next (Slot layer slot) 0 refl stored number pass

-- ---- answers

-- what is told to be stored
none_given : (batch : Batch) (free : ℕ) → batch.nodes ≡ [] → given_stores batch free ≡ stored_as (Slot batch.layer batch.slot) 0 ∷ []
none_given batch free none = ap (λ (l : List ℕ). given_stores (record batch { nodes = l }) free) none

some_given : (batch : Batch) (free : ℕ) (nodes : List ℕ) → batch.nodes ≡ nodes → 0 < length nodes → given_stores batch free ≡ stored_as (Slot batch.layer batch.slot) 0 ∷ stored_as PoolFree free ∷ []
some_given batch free [] same some = absurd (omega arith)
some_given batch free (n ∷ rest) same some = ap (λ (l : List ℕ). given_stores (record batch { nodes = l }) free) same

module _ (start : View) (before : List Batch) (batch : Batch) (after : List Batch) (kept : KeptBatch) (begun : IsBegunFor kept start before batch after) (view : View) where
  -- a batch without nodes is given up with its slot
  pub gives-none : length batch.nodes ≡ 0 → WorksFree start view (giving_work start before batch after Nothing [] batch.nodes) → HasGivenUp before batch after start view
  gives-none zero work = record {
    free = 0;
    done =
        subst (HasDone start view)
        (λ i. record {
          entries = unmark_entries batch.marked;
          stores = sym (none_given batch 0 (empty batch.nodes zero)) i;
          batches = before ++ after;
          loose = (ap (λ (l : List ℕ). start.loose ++ l) (empty batch.nodes zero) ∙ append-nil start.loose) i;
          written = written_outside (sym (empty batch.nodes zero) i) start.written;
          places = true;
        })
        (free-done start view _ begun.rest refl work);
    from = λ some. absurd (omega arith);
  }
    where
      empty : (l : List ℕ) → length l ≡ 0 → l ≡ []
      empty [] none = refl
      empty (n ∷ l) none = absurd (omega arith)

  -- and another one with its nodes
  pub gives-all : (free : ℕ) → 0 < length batch.nodes → WorksFree start view (counted_work start before batch after (free + length batch.nodes))
      → StoresFrom start view PoolFree free (free + length batch.nodes) → HasGivenUp before batch after start view
  gives-all free some work from = record {
    free = free + length batch.nodes;
    done =
        subst (HasDone start view)
        (λ i. record {
          entries = unmark_entries batch.marked;
          stores = sym (some_given batch (free + length batch.nodes) batch.nodes refl some) i;
          batches = before ++ after;
          loose = append-nil start.loose i;
          written = written_outside batch.nodes start.written;
          places = true;
        })
        (free-done start view _ begun.rest refl work);
    from = λ more. (free, refl, from);
  }
