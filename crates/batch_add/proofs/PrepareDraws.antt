-- The turns of drawing the tree of a batch, as turns of its preparation, and what they answer.
use Rattle.std.specs.Prelude.{true, All, Contains, nat_eq, length}
use Rattle.std.specs.List.{IsDistinct}
use Rattle.std.proofs.Common.{◌≡◌, ℕ, ◌+◌, ◌<◌, List, [], ◌∷◌, ◌++◌, map, get_or, Option, Some, None, Ok, refl, ap, sym, ◌∙◌, subst, arith}
use Rattle.std.proofs.lemmas.List.{append-nil, length-map}
use Rattle.std.proofs.lemmas.Option.{same_Some}
use Rattle.std.proofs.lemmas.List.Elements.{All-map}
use Rattle.body_ident.specs.Id.{Id}
use Rattle.fixed_box.specs.declared.fix_box.FixBox.{FixBox}
use Rattle.scene_model.specs.Need.{need}
use Rattle.scene_model.specs.declared.entry.Entry.TheVariants.{Mark}
use Rattle.word_map.specs.declared.config.Config.{Config}
use Rattle.word_map.specs.declared.name.Name.TheVariants.{Slot, PoolFree, Parent}
use Rattle.word_map.specs.Names.{IsName}
use Rattle.core_state.specs.declared.item.Store.{Store}
use Rattle.core_state.specs.declared.view.Marked.{Marked}
use Rattle.core_state.specs.declared.view.Batch.{Batch}
use Rattle.core_state.specs.declared.view.View.{View}
use Rattle.core_state.specs.Encoding.{reserved_by}
use Rattle.core_state.specs.Log.{IsPrefix}
use Rattle.core_state.specs.View.{IsPass}
use Rattle.core_state.specs.Batches.{new_batch, batch_nodes_of, written_outside}
use Rattle.core_state.specs.Bodies.{IsForSlot}
use Rattle.pass_table.specs.declared.turn.Turn.TheVariants.{Done, More, Again}
use Rattle.pass_table.specs.Belongings.{belongings_of}
use Rattle.pass_table.specs.Turning.{AtMostOneStep, MadeBy, Turned, IsUnderWay}
use Rattle.batch_add.specs.declared.prepared.Prepared.{Prepared}
use Rattle.batch_add.specs.declared.tree_drawing.TreeDrawing.{TreeDrawing}
use Rattle.batch_add.specs.declared.prepare_op.PrepareStage.{PrepareStage}
use Rattle.batch_add.specs.declared.prepare_op.PrepareStage.TheVariants.{Drawing}
use Rattle.batch_add.specs.declared.prepare_op.PrepareOp.{PrepareOp}
use Rattle.pass_table.specs.Work.{Outcome, HasDone, followed}
use Rattle.pass_table.proofs.WorkLater.{same_pass}
use Rattle.batch_add.specs.Parts.{stored_as, StoresFrom, HasMarked, marked_as, reserved_outcome, nodes_outcome, marks_outcome, drawn_outcome}
use Rattle.batch_add.specs.Drawing.{IsWritten}
use Rattle.batch_add.specs.Prepared.{IsTheBatch}
use Rattle.batch_add.specs.stages.TakingNodes.{from-later}
use Rattle.batch_add.specs.stages.DrawStages.{IsDrawing, HasDrawnAll, draw_left}
use Rattle.batch_add.specs.stages.Preparing.{ids_of, need_of, HasPreparedOr, HasSlotAndNodes, with_slot_nodes, with_marks, IsInPart, IsInSome, CameToDraw, AtPrepare, IsPreparing, part_left, stage_left, prepare_left, entry_at, entry_of, IsPrepareTurn, takes_at}
use Rattle.batch_add.specs.Answers.{prepared_outcome, HasPrepared}
use Rattle.pass_table.proofs.Working.{done-then, done-prefix}
use Rattle.batch_add.proofs.DrawBegun.{IsDrawnNow, drawn-newest}
use Rattle.batch_add.proofs.Known.{fresh-unwritten}
use Rattle.batch_add.proofs.Staying.{comes-apart, comes-beside, fresh-start}
use Rattle.batch_add.proofs.Parting.{from-from, were-inside}
use Rattle.batch_add.proofs.PartTurns.{part-more, part-again}
use Rattle.batch_add.proofs.PrepareMarks.{same-has, same-wanted, nodes-sizes, from_map, map_twice}

-- ---- the drawing goes on

none_more : (n : ℕ) → n ≡ 0 + n
none_more n = omega arith

module _ (before : PrepareOp) (drawing new : TreeDrawing) (view next : View) (stage : before.stage ≡ Drawing) (is : before.drawing ≡ Some drawing) where
  draws_part : (first : PrepareOp) (start : View) → IsPreparing first start before view → IsInPart IsDrawing (CameToDraw before start) drawing view
  draws_part first start preparing =
      let at : AtPrepare before start view Drawing = subst (AtPrepare before start view) stage preparing.at in
      subst (λ (o : Option TreeDrawing). IsInSome IsDrawing (CameToDraw before start) o view) is at.0

  draws_indexes : (first : PrepareOp) (start : View) → IsPreparing first start before view → before.indexes.items ≡ map (λ (id : Id). id.index) (ids_of before)
  draws_indexes first start preparing =
      let at : AtPrepare before start view Drawing = subst (AtPrepare before start view) stage preparing.at in
      at.1

  pub draws-begun : IsUnderWay IsPreparing before view → IsUnderWay IsDrawing drawing view
  draws-begun under =
      let part = draws_part under.first under.start under.goes in
      record { first = part.first; start = part.mid; goes = part.goes }

  module _ (step : AtMostOneStep view next) (made : MadeBy view next None)
      (keeps : (first : TreeDrawing) (start : View) → IsDrawing first start drawing view → IsDrawing first start new next) where
    abbrev on : PrepareOp
    on = record before { drawing = Some new }

    draws_keep : (first : PrepareOp) (start : View) → IsPreparing first start before view → IsPreparing first start on next
    draws_keep first start preparing =
        let part = draws_part first start preparing in
        let came = part.so in
        let goes : IsInPart IsDrawing (CameToDraw on start) new next =
        record {
          mid = part.mid;
          first = part.first;
          so = record {
            taken_at = came.taken_at;
            bodies = came.bodies;
            has = same-has before on start came.taken_at part.first.nodes.items refl refl refl came.has;
            marked = came.marked;
            same = came.same;
          };
          goes = keeps part.first part.mid part.goes;
        }
        in
        record {
          layer = preparing.layer;
          ids = preparing.ids;
          wanted = same-wanted before on start refl refl preparing.wanted;
          at =
              subst (AtPrepare on start next) (sym stage) (goes, draws_indexes first start preparing);
        }

    draws_before : prepare_left before ≡ 0 + draw_left drawing
    draws_before = ap (stage_left before) stage ∙ (ap (part_left draw_left) is ∙ none_more (draw_left drawing))

    draws_on : prepare_left on ≡ 0 + draw_left new
    draws_on = ap (stage_left on) stage ∙ none_more (draw_left new)

    draws_made : MadeBy view next (entry_of on)
    draws_made = subst (λ (s : PrepareStage). MadeBy view next (entry_at on s)) (sym stage) made

    pub draws-more : Turned {T = Unit {0}} More view next None (draw_left drawing) (draw_left new) → IsPrepareTurn More before on view next
    draws-more turned = part-more before on view next step draws_made draws_keep (Unit {0}) 0 (draw_left drawing) (draw_left new) draws_before draws_on None None (ap (takes_at before) stage) (ap (takes_at on) stage) turned tt

    pub draws-again : (lock word : ℕ) → Turned {T = Unit {0}} (Again lock word) view next None (draw_left drawing) (draw_left new) → IsPrepareTurn (Again lock word) before on view next
    draws-again lock word turned = part-again before on view next step draws_made draws_keep (Unit {0}) 0 (draw_left drawing) (draw_left new) draws_before draws_on None None (ap (takes_at before) stage) (ap (takes_at on) stage) lock word turned tt

  -- ---- the tree is drawn

  module _ (ends : (first : TreeDrawing) (start : View) → IsDrawing first start drawing view → HasDrawnAll first start new next) (prepared : Prepared) (pass : IsPass next prepared.number) (layer : prepared.layer ≡ before.layer)
      (slot : prepared.slot ≡ before.slot) (indexes : prepared.indexes.items ≡ before.indexes.items) (nodes : prepared.nodes.items ≡ new.nodes.items) where
    module _ (first : PrepareOp) (start : View) (preparing : IsPreparing first start before view) where
      part : IsInPart IsDrawing (CameToDraw before start) drawing view
      part = draws_part first start preparing

      abbrev own : List ℕ
      own = part.first.nodes.items

      abbrev bare : Batch
      bare = with_slot_nodes before.layer before.slot own

      abbrev bodies : List (ℕ × FixBox)
      bodies = part.so.bodies

      has : HasSlotAndNodes before start part.so.taken_at own
      has = part.so.has

      marked : HasMarked start.batches bare (ids_of before) part.so.taken_at part.mid bodies
      marked = part.so.marked

      now : IsDrawnNow bodies start.batches (with_marks bare bodies) part.mid next
      now = drawn-newest part.first part.mid new next bodies start.batches (with_marks bare bodies) (ap (λ (v : View). v.batches) marked.done.left) part.so.same (ends part.first part.mid part.goes)

      -- ---- what stayed as it was

      reserved_sizes : has.reserved_at.config ≡ start.config
      reserved_sizes = ap (λ (v : View). v.config) has.reserved.done.left

      sizes : next.config ≡ start.config
      sizes = ap (λ (v : View). v.config) now.has.done.left ∙ (ap (λ (v : View). v.config) marked.done.left ∙ nodes-sizes before start part.so.taken_at own has)

      reserved_role : has.reserved_at.role ≡ start.role
      reserved_role = ap (λ (v : View). v.role) has.reserved.done.left

      role : next.role ≡ start.role
      role = ap (λ (v : View). v.role) now.has.done.left ∙ (ap (λ (v : View). v.role) marked.done.left ∙ (ap (λ (v : View). v.role) has.taken.done.left ∙ reserved_role))

      loose : part.mid.loose ≡ start.loose
      loose = ap (λ (v : View). v.loose) marked.done.left ∙ (ap (λ (v : View). v.loose) has.taken.done.left ∙ ap (λ (v : View). v.loose) has.reserved.done.left)

      of_pass : IsPass start prepared.number
      of_pass = same_pass next start prepared.number (sym role) pass

      number : has.reserved.number ≡ prepared.number
      number = same_Some has.reserved.number prepared.number (sym has.reserved.pass ∙ of_pass)

      -- ---- the batch

      own_nodes : own ≡ prepared.nodes.items
      own_nodes = sym (ends part.first part.mid part.goes).nodes ∙ sym nodes

      -- none of its nodes was the pass's
      fresh : All (λ (n : ℕ). ¬ Contains (batch_nodes_of start) n) own
      fresh = fresh-start start has.reserved_at before.layer before.slot own (ap (λ (v : View). v.batches) has.reserved.done.left) (ap (λ (v : View). v.loose) has.reserved.done.left) has.taken.others

      own_below : All (λ (n : ℕ). n < start.config.nodes) own
      own_below = subst (λ (c : Config). All (λ (n : ℕ). n < c.nodes) own) reserved_sizes has.taken.below

      mid_written : part.mid.written ≡ start.written
      mid_written = ap (λ (v : View). v.written) marked.done.left ∙ (ap (λ (v : View). v.written) has.taken.done.left ∙ ap (λ (v : View). v.written) has.reserved.done.left)

      -- in other nodes it wrote nothing
      only : written_outside now.drawn.nodes now.has.written ≡ start.written
      only =
          now.has.only
          ∙ ((λ i. written_outside (now.from.nodes i) (mid_written i)) ∙ fresh-unwritten start prepared.number of_pass preparing.wanted.current own fresh own_below)

      alone : All (λ (b : Batch). ¬ IsForSlot prepared.layer prepared.slot b) start.batches
      alone = λ k d below for_slot. has.reserved.alone k d below (for_slot.0 ∙ layer, for_slot.1 ∙ slot)

      all_indexes : prepared.indexes.items ≡ map (λ (id : Id). id.index) (ids_of before)
      all_indexes = indexes ∙ draws_indexes first start preparing

      drawn_indexes : map (λ (m : Marked). m.index) now.drawn.marked ≡ map (λ (id : Id). id.index) (ids_of before)
      drawn_indexes = now.from.indexes ∙ (map_twice (λ (m : Marked). m.index) marked_as bodies ∙ marked.indexes)

      own_named : All (λ (n : ℕ). IsName next.config (Parent n)) own
      own_named k d below =
          let low : get_or own k d < next.config.nodes =
          subst (λ (c : Config). get_or own k d < c.nodes) (reserved_sizes ∙ sym sizes) (has.taken.below k d below)
          in
          omega arith

      the_batch : IsTheBatch prepared (belongings_of next) start.batches now.drawn [] bodies
      the_batch = record {
        among = ap (λ (v : View). v.batches) now.has.done.left;
        for_slot = (now.from.layer ∙ sym layer, now.from.slot ∙ sym slot);
        named =
            subst (λ (c : Config). (prepared.layer < c.layers) × (prepared.slot < c.slots)) (sym sizes) (
              subst (λ (l : ℕ). l < start.config.layers) (sym layer) preparing.wanted.in_layers,
              subst (λ (s : ℕ). s < start.config.slots) (sym slot) has.reserved.below,
            );
        nodes = now.from.nodes ∙ own_nodes;
        indexes = drawn_indexes ∙ sym all_indexes;
        many =
            ap (λ (l : List ℕ). length l) (sym own_nodes)
            ∙ (has.taken.many ∙ ap need (sym (length-map (ids_of before) (λ (id : Id). id.index)) ∙ ap (λ (l : List ℕ). length l) (sym all_indexes)));
        once = subst (λ (l : List ℕ). IsDistinct nat_eq l) (marked.indexes ∙ sym all_indexes) marked.apart;
        plan = now.has.plan;
        bound = now.has.bound;
        drawn = subst (λ (l : List Store). IsWritten l bodies now.has.plan now.has.bound now.drawn) (sym (ap (λ (v : View). v.written) now.has.done.left)) now.has.tree;
        alone_before = alone;
        alone_after = λ k d below. absurd (omega arith);
        nodes_named = subst (λ (l : List ℕ). All (λ (n : ℕ). IsName next.config (Parent n)) l) (sym now.from.nodes) own_named;
        bodies_named =
            from_map (λ (i : ℕ). i < next.config.bodies) (λ (m : Marked). m.index) now.drawn.marked
            (subst (λ (l : List ℕ). All (λ (i : ℕ). i < next.config.bodies) l) (sym drawn_indexes)
            (All-map (λ (i : ℕ). i < next.config.bodies) (λ (id : Id). id.index) (ids_of before)
            (subst (λ (c : Config). All (λ (id : Id). id.index < c.bodies) (ids_of before)) (sym sizes) preparing.wanted.below)));
      }

      -- ---- what was done

      abbrev first_outcome : Outcome
      first_outcome = reserved_outcome start before.layer before.slot has.reserved.number

      abbrev nodes_then : Outcome
      nodes_then = nodes_outcome has.reserved_at start.batches (new_batch before.layer before.slot) own has.taken.left

      abbrev marks_then : Outcome
      marks_then = marks_outcome part.so.taken_at start.batches bare bodies

      abbrev tree_then : Outcome
      tree_then = drawn_outcome part.mid start.batches now.drawn now.has.written

      after_nodes : HasDone start part.so.taken_at (followed first_outcome nodes_then)
      after_nodes = done-then start has.reserved_at part.so.taken_at first_outcome nodes_then has.reserved.done has.taken.done

      after_marks : HasDone start part.mid (followed (followed first_outcome nodes_then) marks_then)
      after_marks = done-then start part.so.taken_at part.mid (followed first_outcome nodes_then) marks_then after_nodes marked.done

      after_tree : HasDone start next (followed (followed (followed first_outcome nodes_then) marks_then) tree_then)
      after_tree = done-then start part.mid next (followed (followed first_outcome nodes_then) marks_then) tree_then after_marks now.has.done

      entries : map (λ (b : ℕ × FixBox). Mark b.0) bodies ++ [] ≡ map (λ (id : Id). Mark id.index) (ids_of before)
      entries =
          append-nil (map (λ (b : ℕ × FixBox). Mark b.0) bodies)
          ∙ (sym (map_twice (λ (i : ℕ). Mark i) (λ (b : ℕ × FixBox). b.0) bodies)
          ∙ (ap (λ (l : List ℕ). map (λ (i : ℕ). Mark i) l) marked.indexes ∙ map_twice (λ (i : ℕ). Mark i) (λ (id : Id). id.index) (ids_of before)))

      outcome : followed (followed (followed first_outcome nodes_then) marks_then) tree_then
          ≡ prepared_outcome start before.layer prepared.slot prepared.number (ids_of before) has.taken.left now.drawn now.has.written
      outcome = λ i. record {
        entries = entries i;
        stores = stored_as (Slot before.layer (sym slot i)) (reserved_by (number i)) ∷ stored_as PoolFree has.taken.left ∷ [];
        batches = start.batches ++ now.drawn ∷ [];
        loose = loose i;
        written = now.has.written;
        places = true;
      }

      -- ---- what was stored

      from_nodes : IsPrefix part.so.taken_at.known next.known
      from_nodes =
          done-prefix part.so.taken_at next (followed marks_then tree_then) (done-then part.so.taken_at part.mid next marks_then tree_then marked.done now.has.done)

      from_reserved : IsPrefix has.reserved_at.known next.known
      from_reserved =
          done-prefix has.reserved_at next (followed nodes_then (followed marks_then tree_then))
          (done-then has.reserved_at part.so.taken_at next nodes_then (followed marks_then tree_then) has.taken.done
          (done-then part.so.taken_at part.mid next marks_then tree_then marked.done now.has.done))

      from_slot : StoresFrom start next (Slot before.layer prepared.slot) 0 (reserved_by prepared.number)
      from_slot =
          subst (λ (s : ℕ). StoresFrom start next (Slot before.layer s) 0 (reserved_by prepared.number)) (sym slot)
          (subst (λ (n : ℕ). StoresFrom start next (Slot before.layer before.slot) 0 (reserved_by n)) number
          (from-later start has.reserved_at next (Slot before.layer before.slot) 0 (reserved_by has.reserved.number) from_reserved has.reserved.from))

      from_pool : StoresFrom start next PoolFree (has.taken.left + need_of before) has.taken.left
      from_pool =
          from-from start has.reserved_at next PoolFree (has.taken.left + need_of before) has.taken.left reserved_sizes reserved_role
          (done-prefix start has.reserved_at first_outcome has.reserved.done)
          (from-later has.reserved_at part.so.taken_at next PoolFree (has.taken.left + need_of before) has.taken.left from_nodes has.taken.from)

      has_prepared : HasPrepared before.layer (ids_of before) start next prepared
      has_prepared = record {
        left = has.taken.left;
        written = now.has.written;
        good = record { pass = pass; before = start.batches; batch = now.drawn; after = []; bodies = bodies; is = the_batch };
        first = refl;
        last = refl;
        fresh = subst (All (λ (n : ℕ). ¬ Contains (batch_nodes_of start) n)) own_nodes fresh;
        only = subst (λ (l : List ℕ). written_outside l now.has.written ≡ start.written) the_batch.nodes only;
        others =
            comes-beside prepared start next now.drawn the_batch.for_slot alone sizes role (ap (λ (v : View). v.batches) now.has.done.left)
            (ap (written_outside now.drawn.nodes) (ap (λ (v : View). v.written) now.has.done.left) ∙ only);
        apart = comes-apart prepared start alone;
        of_layer = layer;
        of_pass = of_pass;
        indexes = all_indexes;
        done = subst (HasDone start next) outcome after_tree;
        from_slot = from_slot;
        from_pool = from_pool;
        each = were-inside before.layer start part.so.taken_at part.mid next (ids_of before) (nodes-sizes before start part.so.taken_at own has)
            (done-prefix start part.so.taken_at (followed first_outcome nodes_then) after_nodes) (done-prefix part.mid next tree_then now.has.done) marked.each;
      }

      pub draws-answers : HasPreparedOr first start next (Ok prepared)
      draws-answers =
          subst (λ (l : ℕ). HasPrepared l (ids_of first) start next prepared) preparing.layer
          (subst (λ (l : List Id). HasPrepared before.layer l start next prepared) preparing.ids has_prepared)

    pub draws-done : (after : PrepareOp) → after.stage ≡ Drawing → AtMostOneStep view next → MadeBy view next None → IsPrepareTurn (Done (Ok prepared)) before after view next
    draws-done after at step made = record {
      step = step;
      made = subst (λ (s : PrepareStage). MadeBy view next (entry_at after s)) (sym at) made;
      turned = tt;
      loads = tt;
      keeps = λ first start preparing. tt;
      answered = λ first start preparing. draws-answers first start preparing;
    }
