-- Giving a batch up, as the last part of a preparation that is refused.
use Rattle.std.specs.List.{IsDistinct}
use Rattle.std.specs.Prelude.{true, nat_eq, take, slice_index_or, Err, option_and_then, All}
use Rattle.std.proofs.Common.{◌≡◌, ℕ, ◌+◌, ◌<◌, List, [], ◌∷◌, ◌++◌, length, map, Option, Some, refl, ap, sym, ◌∙◌, subst, arith}
use Rattle.std.proofs.lemmas.List.{append-nil}
use Rattle.body_ident.specs.Id.{Id}
use Rattle.fixed_box.specs.declared.fix_box.FixBox.{FixBox}
use Rattle.scene_model.specs.Need.{need}
use Rattle.scene_model.specs.declared.entry.Entry.{Entry}
use Rattle.scene_model.specs.declared.entry.Entry.TheVariants.{Mark, Unmark}
use Rattle.word_map.specs.declared.config.Config.{Config}
use Rattle.word_map.specs.declared.name.Name.TheVariants.{Slot, PoolFree}
use Rattle.core_state.specs.declared.view.Batch.{Batch}
use Rattle.core_state.specs.declared.view.Marked.{Marked}
use Rattle.core_state.specs.declared.view.View.{View}
use Rattle.core_state.specs.Log.{word}
use Rattle.core_state.specs.Encoding.{reserved_by}
use Rattle.core_state.specs.Batches.{new_batch, written_outside}
use Rattle.tree_plan.proofs.Slots.{need_some}
use Rattle.pass_table.specs.declared.turn.Turn.TheVariants.{Done, More, Again}
use Rattle.pass_table.specs.Bodies.{IsCurrent}
use Rattle.pass_table.specs.Calls.{AtPoint}
use Rattle.pass_table.specs.Turning.{AtMostOneStep, MadeBy, Turned, IsUnderWay, LoadsNow}
use Rattle.pass_table.proofs.Calling.{point-later}
use Rattle.batch_add.specs.declared.answers.PrepareRefused.{PrepareRefused}
use Rattle.batch_add.specs.declared.mark_op.MarkRefused.{MarkRefused}
use Rattle.batch_add.specs.declared.mark_op.MarkRefused.TheVariants.{Gone, Held, AlreadyIn, WrongLayer}
use Rattle.batch_add.specs.declared.prepare_op.Undone.{Undone}
use Rattle.batch_add.specs.declared.prepare_op.Undone.TheVariants.{NoNodes, Mark as NoMark}
use Rattle.batch_add.specs.declared.prepare_op.PrepareStage.{PrepareStage}
use Rattle.batch_add.specs.declared.prepare_op.PrepareStage.TheVariants.{GivingUp as GivingUpStage}
use Rattle.batch_add.specs.declared.prepare_op.PrepareOp.{PrepareOp}
use Rattle.batch_add.specs.declared.giving_up.GivingUp.{GivingUp}
use Rattle.pass_table.specs.Work.{Outcome, HasDone, followed, idle}
use Rattle.batch_add.specs.Parts.{stored_as, StoresFrom, reserved_outcome, nodes_outcome, marks_outcome, marked_as, IsMarkRefusedAt, WereFree, given_stores, given_outcome, HasGivenUp}
use Rattle.batch_add.specs.stages.GivingUp.{IsGivingUp, HasGiven, give_left, give_takes}
use Rattle.batch_add.specs.stages.GivingLater.{from-later}
use Rattle.batch_add.specs.stages.Preparing.{ids_of, need_of, IsInPart, IsInSome, CameToGive, HasSlotAndNodes, HasFailed, AtPrepare, IsPreparing, with_slot_nodes, with_marks, refusal_of, refusal_of_mark, part_left, stage_left, prepare_left, entry_at, entry_of, IsPrepareTurn, prepare_takes, takes_at}
use Rattle.batch_add.specs.Answers.{HadFewNodes, HadBadId, WasRefused}
use Rattle.pass_table.proofs.Working.{done-then, done-prefix, point-from}
use Rattle.batch_add.proofs.GiveLists.{written-none}
use Rattle.batch_add.proofs.Known.{fresh-unwritten}
use Rattle.batch_add.proofs.Staying.{fresh-start}
use Rattle.batch_add.proofs.Parting.{from-from, were-inside}
use Rattle.batch_add.proofs.PartTurns.{part-more, part-again}

-- ---- lists

map_map : {A B C : Type 0} (g : B → C) (f : A → B) (xs : List A) → map g (map f xs) ≡ map (λ x. g (f x)) xs
map_map g f [] = refl
map_map {C = C} g f (x ∷ xs) = ap (λ (l : List C). g (f x) ∷ l) (map_map g f xs)

-- the entries of bodies are those of their ids
entries_of : (entry : ℕ → Entry) (bodies : List (ℕ × FixBox)) (ids : List Id) → map (λ b. b.0) bodies ≡ map (λ id. id.index) ids → map (λ b. entry b.0) bodies ≡ map (λ id. entry id.index) ids
entries_of entry bodies ids same =
    sym (map_map entry (λ (b : ℕ × FixBox). b.0) bodies) ∙ (ap (λ (l : List ℕ). map entry l) same ∙ map_map entry (λ (id : Id). id.index) ids)

-- what is stored of a batch that has nodes
stores_some : (batch : Batch) (free : ℕ) (nodes : List ℕ) → 0 < length nodes
    → given_stores (record batch { nodes = nodes }) free ≡ stored_as (Slot batch.layer batch.slot) 0 ∷ stored_as PoolFree free ∷ []
stores_some batch free [] some = absurd (omega arith)
stores_some batch free (n ∷ rest) some = refl

-- ---- fewer nodes were free

module _ (operation : PrepareOp) (start mid next : View) (current : ∥ IsCurrent start ∥₁) (batch : Batch) (given : HasGivenUp start.batches batch [] mid next) where
  abbrev layer : ℕ
  layer = operation.layer

  abbrev slot : ℕ
  slot = operation.slot

  few-nodes : (free : ℕ) → HasFailed operation start mid batch (NoNodes free) → HadFewNodes layer (ids_of operation) start next (need_of operation) free
  few-nodes free failed =
      let reserved_at = failed.0 in
      let reserved = failed.1 in
      let few = failed.2 in
      let is : batch ≡ new_batch layer slot = failed.3 in
      let number = reserved.number in
      let first = done-then start reserved_at mid (reserved_outcome start layer slot number) (idle reserved_at) reserved.done few.done in
      let rest = done-then reserved_at mid next (idle reserved_at) (given_outcome mid start.batches batch [] given.free) few.done given.done in
      let all = done-then start mid next (followed (reserved_outcome start layer slot number) (idle reserved_at)) (given_outcome mid start.batches batch [] given.free) first given.done in
      let loose : mid.loose ≡ start.loose = ap (λ (v : View). v.loose) first.left ∙ ap (λ (v : View). v.loose) reserved.done.left in
      let written : mid.written ≡ start.written = ap (λ (v : View). v.written) first.left ∙ ap (λ (v : View). v.written) reserved.done.left in
      let sizes : reserved_at.config ≡ start.config = ap (λ (v : View). v.config) reserved.done.left in
      let kept : written_outside batch.nodes mid.written ≡ start.written = (λ i. written_outside (is i).nodes (written i)) ∙ written-none start.written in
      record {
        number = number;
        pass = reserved.pass;
        slot = slot;
        below = reserved.below;
        done =
            subst (HasDone start next)
            (λ i. record {
              entries = map (λ (m : Marked). Unmark m.index) (is i).marked;
              stores = stored_as (Slot layer slot) (reserved_by number) ∷ given_stores (is i) given.free;
              batches = append-nil start.batches i;
              loose = loose i;
              written = kept i;
              places = true;
            })
            all;
        from_slot =
            from-later start reserved_at next (Slot layer slot) 0 (reserved_by number)
            (done-prefix reserved_at next (followed (idle reserved_at) (given_outcome mid start.batches batch [] given.free)) rest) reserved.from;
        need_of = refl;
        few = few.few;
        at =
            point-later start mid next (λ log. word start.config log PoolFree ≡ free) (done-prefix mid next (given_outcome mid start.batches batch [] given.free) given.done)
            (point-from start reserved_at mid (λ log. word start.config log PoolFree ≡ free) (done-prefix start reserved_at (reserved_outcome start layer slot number) reserved.done)
            (subst (λ (c : Config). AtPoint reserved_at mid (λ log. word c log PoolFree ≡ free)) sizes few.at));
      }

  -- ---- an id was refused

  bad-id : (at : ℕ) (refused : MarkRefused) → HasFailed operation start mid batch (NoMark at refused) → HadBadId layer (ids_of operation) start next at refused
  bad-id at refused failed =
      let taken_at = failed.0 in
      let nodes = failed.1 in
      let bodies = failed.2 in
      let has = failed.3 in
      let marked = failed.4 in
      let many : length bodies ≡ at = failed.5 in
      let is : batch ≡ with_marks (with_slot_nodes layer slot nodes) bodies = failed.6 in
      let ids = ids_of operation in
      let reserved_at = has.reserved_at in
      let reserved = has.reserved in
      let taken = has.taken in
      let number = reserved.number in
      let left = taken.left in
      let one : Outcome = reserved_outcome start layer slot number in
      let two : Outcome = nodes_outcome reserved_at start.batches (new_batch layer slot) nodes left in
      let three : Outcome = marks_outcome taken_at start.batches (with_slot_nodes layer slot nodes) bodies in
      let four : Outcome = given_outcome mid start.batches batch [] given.free in
      let early = done-then start reserved_at taken_at one two reserved.done taken.done in
      let before = done-then start taken_at mid (followed one two) three early marked.first.done in
      let late = done-then taken_at mid next three four marked.first.done given.done in
      let all = done-then start mid next (followed (followed one two) three) four before given.done in
      let after_slot = done-then reserved_at taken_at next two (followed three four) taken.done late in
      let some : at < length ids = subst (λ (n : ℕ). n < length ids) many marked.some in
      let nodes_many : length nodes ≡ need (length ids) = taken.many in
      let nodes_some : 0 < length nodes = let need_more = need_some (length ids) (omega arith) in omega arith in
      let own : batch.nodes ≡ nodes = ap (λ (b : Batch). b.nodes) is in
      let from = given.from (subst (λ (l : List ℕ). 0 < length l) (sym own) nodes_some) in
      let free : given.free ≡ from.0 + need (length ids) = from.1 ∙ ap (λ (n : ℕ). from.0 + n) (ap (λ (l : List ℕ). length l) own ∙ nodes_many) in
      let indexes : map (λ b. b.0) bodies ≡ map (λ id. id.index) (take at ids) = marked.first.indexes ∙ ap (λ (n : ℕ). map (λ (id : Id). id.index) (take n ids)) many in
      let sizes_taken : taken_at.config ≡ start.config = ap (λ (v : View). v.config) early.left in
      let sizes_mid : mid.config ≡ start.config = ap (λ (v : View). v.config) before.left in
      let loose : mid.loose ≡ start.loose =
      ap (λ (v : View). v.loose) before.left ∙ (ap (λ (v : View). v.loose) early.left ∙ ap (λ (v : View). v.loose) reserved.done.left)
      in
      let written : mid.written ≡ start.written =
      ap (λ (v : View). v.written) before.left ∙ (ap (λ (v : View). v.written) early.left ∙ ap (λ (v : View). v.written) reserved.done.left)
      in
      let fresh = fresh-start start reserved_at layer slot nodes (ap (λ (v : View). v.batches) reserved.done.left) (ap (λ (v : View). v.loose) reserved.done.left) taken.others in
      let low = subst (λ (c : Config). All (λ (n : ℕ). n < c.nodes) nodes) (ap (λ (v : View). v.config) reserved.done.left) taken.below in
      let kept : written_outside batch.nodes mid.written ≡ start.written =
      (λ i. written_outside (own i) (written i)) ∙ fresh-unwritten start number reserved.pass current nodes fresh low
      in
      let unmarks : map (λ (m : Marked). Unmark m.index) batch.marked ≡ map (λ (id : Id). Unmark id.index) (take at ids) =
      ap (λ (b : Batch). map (λ (m : Marked). Unmark m.index) b.marked) is ∙ (map_map (λ (m : Marked). Unmark m.index) marked_as bodies ∙ entries_of (λ n. Unmark n) bodies (take at ids) indexes)
      in
      let stores : given_stores batch given.free ≡ stored_as (Slot layer slot) 0 ∷ stored_as PoolFree (from.0 + need (length ids)) ∷ [] =
      (λ i. given_stores (is i) (free i)) ∙ stores_some (with_marks (with_slot_nodes layer slot nodes) bodies) (from.0 + need (length ids)) nodes nodes_some
      in
      record {
        number = number;
        pass = reserved.pass;
        slot = slot;
        below = reserved.below;
        left = left;
        old = from.0;
        some = some;
        done =
            subst (HasDone start next)
            (λ i. record {
              entries = entries_of (λ n. Mark n) bodies (take at ids) indexes i ++ unmarks i;
              stores = stored_as (Slot layer slot) (reserved_by number) ∷ stored_as PoolFree left ∷ stores i;
              batches = append-nil start.batches i;
              loose = loose i;
              written = kept i;
              places = true;
            })
            all;
        from_slot = from-later start reserved_at next (Slot layer slot) 0 (reserved_by number) (done-prefix reserved_at next (followed two (followed three four)) after_slot) reserved.from;
        from_pool =
            from-later start taken_at next PoolFree (left + need (length ids)) left (done-prefix taken_at next (followed three four) late)
            (from-from start reserved_at taken_at PoolFree (left + need (length ids)) left (ap (λ (v : View). v.config) reserved.done.left) (ap (λ (v : View). v.role) reserved.done.left)
            (done-prefix start reserved_at one reserved.done) taken.from);
        back =
            from-from start mid next PoolFree from.0 (from.0 + need (length ids)) sizes_mid (ap (λ (v : View). v.role) before.left) (done-prefix start mid (followed (followed one two) three) before)
            (subst (λ (n : ℕ). StoresFrom mid next PoolFree from.0 n) free from.2);
        each =
            subst (λ (n : ℕ). WereFree layer start next (take n ids)) many
            (were-inside layer start taken_at mid next (take (length bodies) ids) sizes_taken (done-prefix start taken_at (followed one two) early) (done-prefix mid next four given.done) marked.first.each);
        once = subst (IsDistinct nat_eq) indexes marked.first.apart;
        cause = λ past.
            point-later start mid next (IsMarkRefusedAt start.config layer (slice_index_or ids at past) refused) (done-prefix mid next four given.done)
            (point-from start taken_at mid (IsMarkRefusedAt start.config layer (slice_index_or ids at past) refused) (done-prefix start taken_at (followed one two) early)
            (subst (λ (n : ℕ). AtPoint taken_at mid (IsMarkRefusedAt start.config layer (slice_index_or ids n past) refused)) many
            (subst (λ (c : Config). AtPoint taken_at mid (IsMarkRefusedAt c layer (slice_index_or ids (length bodies) past) refused)) sizes_taken (marked.refused past))));
      }

  refused-mark : (at : ℕ) (refused : MarkRefused) → HadBadId layer (ids_of operation) start next at refused → WasRefused layer (ids_of operation) start next (refusal_of_mark at refused)
  refused-mark at (Gone state) had = had
  refused-mark at (Held found) had = had
  refused-mark at (AlreadyIn phase) had = had
  refused-mark at (WrongLayer found) had = had

  -- once all is undone it was refused for its reason
  pub refused-so : (undone : Undone) → HasFailed operation start mid batch undone → WasRefused layer (ids_of operation) start next (refusal_of (need_of operation) undone)
  refused-so (NoNodes free) failed = few-nodes free failed
  refused-so (NoMark at refused) failed = refused-mark at refused (bad-id at refused failed)

-- ---- the operation

module _ (operation : PrepareOp) (undone : Undone) (giving : GivingUp) (stage : operation.stage ≡ GivingUpStage undone) (there : operation.giving ≡ Some giving) (view : View) where
  -- the part that is under way, and what it was begun for
  gives-at : (first : PrepareOp) (start : View) → IsPreparing first start operation view → IsInPart IsGivingUp (CameToGive operation start undone) giving view × (operation.taking.count ≡ need_of operation)
  gives-at first start preparing =
      let at = subst (AtPrepare operation start view) stage preparing.at in (
        subst (λ (o : Option GivingUp). IsInSome IsGivingUp (CameToGive operation start undone) o view) there at.0,
        at.1,
      )

  pub giving-inside : IsUnderWay IsPreparing operation view → IsUnderWay IsGivingUp giving view
  giving-inside way = let part = (gives-at way.first way.start way.goes).0 in record { first = part.first; start = part.mid; goes = part.goes }

  module _ (new : GivingUp) (next : View) (step : AtMostOneStep view next) (made : MadeBy view next new.made) where
    abbrev pub given_on : PrepareOp
    given_on = record operation { giving = Some new }

    has_on : (start mid : View) (nodes : List ℕ) → HasSlotAndNodes operation start mid nodes → HasSlotAndNodes given_on start mid nodes
    has_on start mid nodes has = record { reserved_at = has.reserved_at; reserved = has.reserved; taken = has.taken }

    failed_on : (start mid : View) (batch : Batch) (why : Undone) → HasFailed operation start mid batch why → HasFailed given_on start mid batch why
    failed_on start mid batch (NoNodes free) failed = failed
    failed_on start mid batch (NoMark at refused) failed = (failed.0, failed.1, failed.2, has_on start failed.0 failed.1 failed.3, failed.4, failed.5, failed.6)

    keeps_on : ((first : GivingUp) (start : View) → IsGivingUp first start giving view → IsGivingUp first start new next) → (first : PrepareOp) (start : View)
        → IsPreparing first start operation view → IsPreparing first start given_on next
    keeps_on keeps first start preparing =
        let at = gives-at first start preparing in
        let part = at.0 in
        let wanted = preparing.wanted in
        record {
          layer = preparing.layer;
          ids = preparing.ids;
          wanted = record { in_layers = wanted.in_layers; below = wanted.below; few = wanted.few; rest = wanted.rest; current = wanted.current };
          at =
              subst (AtPrepare given_on start next) (sym stage) (
                record {
                  mid = part.mid;
                  first = part.first;
                  so = record { batch = part.so.batch; begun = part.so.begun; failed = failed_on start part.mid part.so.batch undone part.so.failed };
                  goes = keeps part.first part.mid part.goes;
                },
                at.1,
              );
        }

    made_on : MadeBy view next (entry_of given_on)
    made_on = subst (λ (s : PrepareStage). MadeBy view next (entry_at given_on s)) (sym stage) made

    left_before : prepare_left operation ≡ 0 + give_left giving
    left_before = let same : prepare_left operation ≡ give_left giving = ap (stage_left operation) stage ∙ ap (part_left give_left) there in omega arith

    takes_before : prepare_takes operation ≡ give_takes giving
    takes_before = ap (takes_at operation) stage ∙ ap (option_and_then give_takes) there

    takes_on : prepare_takes given_on ≡ give_takes new
    takes_on = ap (takes_at given_on) stage

    left_on : prepare_left given_on ≡ 0 + give_left new
    left_on = let same : prepare_left given_on ≡ give_left new = ap (stage_left given_on) stage in omega arith

    module _ (keeps : (first : GivingUp) (start : View) → IsGivingUp first start giving view → IsGivingUp first start new next) where
      pub giving-more : Turned {T = Unit {0}} More view next (give_takes giving) (give_left giving) (give_left new) → LoadsNow view next (give_takes new) → IsPrepareTurn More operation given_on view next
      giving-more turned loads = part-more operation given_on view next step made_on (keeps_on keeps) (Unit {0}) 0 (give_left giving) (give_left new) left_before left_on (give_takes giving) (give_takes new) takes_before takes_on turned loads

      pub giving-again : (lock found : ℕ) → Turned {T = Unit {0}} (Again lock found) view next (give_takes giving) (give_left giving) (give_left new) → LoadsNow view next (give_takes new) → IsPrepareTurn (Again lock found) operation given_on view next
      giving-again lock found turned loads = part-again operation given_on view next step made_on (keeps_on keeps) (Unit {0}) 0 (give_left giving) (give_left new) left_before left_on (give_takes giving) (give_takes new) takes_before takes_on lock found turned loads

    -- the last turn
    module _ (answers : (first : GivingUp) (start : View) → IsGivingUp first start giving view → HasGiven first start new next tt) (refusal : PrepareRefused) (is : refusal ≡ refusal_of operation.taking.count undone) where
      refused_as : (first : PrepareOp) (start : View) → IsPreparing first start operation view → WasRefused first.layer (ids_of first) start next refusal
      refused_as first start preparing =
          let at = gives-at first start preparing in
          let part = at.0 in
          let given = answers part.first part.mid part.goes start.batches part.so.batch [] part.so.begun in
          subst (λ (l : ℕ). WasRefused l (ids_of first) start next refusal) preparing.layer
          (subst (λ (l : List Id). WasRefused operation.layer l start next refusal) preparing.ids
          (subst (WasRefused operation.layer (ids_of operation) start next) (sym (is ∙ ap (λ (n : ℕ). refusal_of n undone) at.1))
          (refused-so operation start part.mid next preparing.wanted.current part.so.batch given undone part.so.failed)))

      pub giving-done : IsPrepareTurn (Done (Err refusal)) operation given_on view next
      giving-done = record { step = step; made = made_on; turned = tt; loads = tt; keeps = λ first start preparing. tt; answered = refused_as }
