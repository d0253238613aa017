-- What attaching a batch that is prepared leaves.
use Rattle.std.specs.Prelude.{option_map, find, slice_index}
use Rattle.std.specs.List.{cons_option}
use Rattle.std.proofs.lemmas.Grind.{same_number_lists}
use Rattle.body_ident.specs.Id.{Id}
use Rattle.fixed_box.specs.FixBox.{words_of}
use Rattle.fixed_box.proofs.Words.{words_tell_boxes_apart}
use Rattle.scene_model.specs.Tree.{tree}
use Rattle.scene_model.specs.Step.{with_phase}
use Rattle.word_map.specs.Names.{stripe_of}
use Rattle.core_state.specs.declared.view.Mode.{Mode}
use Rattle.core_state.specs.View.{number_of, mode_of}
use Rattle.core_state.specs.Core.{scene_of}
use Rattle.core_state.specs.Event.{attaches, of_batches}
use Rattle.core_state.specs.Batches.{is_for, nodes_for, written_outside, IsWholeTree}
use Rattle.core_state.proofs.Beginning.{record_body}
use Rattle.core_batch.proofs.Attaching.{Attaching as AttachingOf, joining}
use Rattle.pass_table.specs.Work.{Tells}
use Rattle.batch_add.specs.Parts.{stored_as}
use Rattle.batch_add.specs.Shape.{tree_at}
use Rattle.batch_add.proofs.Batches.{owns-batch_node, among-middle}
use Rattle.std.proofs.Common.{◌≡◌, ℕ, ◌<◌, ◌++◌, ◌∷◌, List, [], Option, Some, None, IsSomeAnd, Contains, map, fold, get_or, refl, ap, sym, ◌∙◌, subst, arith}
use Rattle.std.proofs.lemmas.List.Elements.{Contains-get_or, filter_map-append}
use Rattle.std.proofs.lemmas.List.Sums.{fold-append}
use Rattle.fixed_box.specs.declared.fix_box.FixBox.{FixBox}
use Rattle.scene_model.specs.declared.body_view.Phase.TheVariants.{Held, In}
use Rattle.scene_model.specs.declared.entry.Entry.{Entry}
use Rattle.scene_model.specs.declared.entry.Entry.TheVariants.{Join}
use Rattle.scene_model.specs.declared.entry.Made.{Made}
use Rattle.scene_model.specs.Scene.{Scene, Record, record_at, empty_scene}
use Rattle.scene_model.specs.Step.{HasBody, after_entry, in_phase}
use Rattle.scene_model.specs.History.{scene_after, IsLawfulHistory}
use Rattle.scene_model.specs.Batch.{JoinsOnly}
use Rattle.scene_model.proofs.Batches.{JoinsOnly-fold}
use Rattle.scene_model.proofs.Histories.{lawful_parts}
use Rattle.word_map.specs.declared.config.Config.{Config}
use Rattle.word_map.specs.declared.name.Name.{Name}
use Rattle.word_map.specs.declared.name.Name.TheVariants.{Slot, State}
use Rattle.core_state.specs.declared.item.Item.{Item}
use Rattle.core_state.specs.declared.view.Batch.{Batch}
use Rattle.core_state.specs.declared.view.View.{View}
use Rattle.core_state.specs.Log.{history, made_by}
use Rattle.core_state.specs.View.{IsPass, known_word}
use Rattle.core_state.specs.Encoding.{slot_tree}
use Rattle.core_state.specs.Guards.{scene_at}
use Rattle.core_state.specs.Quietly.{IsSteady, of_pass}
use Rattle.core_state.specs.Nodes.{node_in}
use Rattle.core_state.specs.Kind.{Step, item_of}
use Rattle.core_state.specs.Batches.{without_batch, batch_for, joined_by, MayAttach, attach}
use Rattle.pass_table.specs.Stepping.{step_by, Stored}
use Rattle.pass_table.specs.Belongings.{belongings_of}
use Rattle.pass_table.specs.Bodies.{IsCurrent, IsGuarding, IsAlone}
use Rattle.pass_table.proofs.LockedBodies.{live-steady}
use Rattle.pass_table.specs.Turning.{OneStep, MadeBy}
use Rattle.pass_table.specs.Calls.{StoresWord}
use Rattle.pass_table.proofs.Calling.{Adds-refl, adds-made, stepped-sizes, stepped-known, stores-word, stored-gained, stored-made, word-now, word-beside}
use Rattle.batch_add.specs.declared.prepared.Prepared.{Prepared}
use Rattle.batch_add.specs.Drawing.{node_at, IsDrawn}
use Rattle.batch_add.specs.Prepared.{IsTheBatch, LeavesOthers, AllHeld, HaveBoxes, HasAttached}
use Rattle.batch_add.proofs.Batches.{without-one, found-one}
use Rattle.batch_add.proofs.Drawn.{drawn-as}
use Rattle.batch_add.proofs.Known.{drawn-now}
use Rattle.batch_add.proofs.Staying.{goes-beside}
use Rattle.batch_add.proofs.Whole.{drawn-whole}
use Rattle.batch_add.proofs.Shape.{drawn-tree}
use Rattle.pass_table.proofs.Working.{tells-refl, tells-stored}

-- ---- scenes

-- the history of an item that made an entry
one_made : (item : Item) (entry : Entry) → item.entry ≡ Some entry → history (item ∷ []) ≡ (record { pass = item.pass; entry = entry }) ∷ []
one_made item entry is = ap (λ (o : Option Entry). cons_option (option_map (λ e. record { pass = item.pass; entry = e }) o) []) is

-- a body that was held is in the broad phase
joined-in : (scene later : Scene) (indexes : List ℕ) (layer i : ℕ) → JoinsOnly scene later indexes → Contains indexes i → HasBody scene i (λ r. (r.phase ≡ Held) × (r.layer ≡ layer)) → HasBody later i (λ r. r.phase ≡ In)
joined-in scene later indexes layer i joins among held = subst (λ (o : Option Record). IsSomeAnd o (λ r. r.phase ≡ In)) (sym (joins.listed i among)) (go (record_at scene i) held)
  where
    go : (o : Option Record) → IsSomeAnd o (λ r. (r.phase ≡ Held) × (r.layer ≡ layer)) → IsSomeAnd (option_map (in_phase In) o) (λ r. r.phase ≡ In)
    go None h = h
    go (Some r) h = refl

-- ---- the step

module _ (prepared : Prepared) (view next : View) (number : ℕ) (pass : IsPass view number) (before : List Batch) (batch : Batch) (after : List Batch) (bodies : List (ℕ × FixBox))
    (is : IsTheBatch prepared (belongings_of view) before batch after bodies) (now : ∥ IsCurrent view ∥₁) where
  abbrev slot_name : Name
  slot_name = Slot prepared.layer prepared.slot

  abbrev root : ℕ
  root = node_at prepared.nodes.items 0

  root_same : node_at batch.nodes 0 ≡ root
  root_same = ap (λ (l : List ℕ). node_at l 0) is.nodes

  among_batches : Contains view.batches batch
  among_batches = subst (λ (l : List Batch). Contains l batch) (sym is.among) (among-middle before batch after)

  drawn_known : IsDrawn (known_word view) bodies is.plan is.bound batch
  drawn_known = drawn-now view number pass now prepared before batch after bodies is

  whole_known : IsWholeTree (known_word view) batch (node_at batch.nodes 0)
  whole_known = drawn-whole (known_word view) bodies is.plan is.bound batch drawn_known

  pub may-attach : (value : ℕ) → value ≡ slot_tree root → MayAttach view slot_name value 0
  may-attach value same = record {
    layer = prepared.layer;
    slot = prepared.slot;
    batch = batch;
    names = refl;
    has = record { among = among_batches; for_slot = is.for_slot };
    root = node_at batch.nodes 0;
    whole = whole_known;
    attached = same ∙ ap slot_tree (sym root_same);
  }

  -- the words of its nodes are the pass's
  pub batch-steady : (name : Name) (n : ℕ) → node_in name ≡ Some n → Contains batch.nodes n → IsSteady view name
  batch-steady name n of_node among = of_pass (owns-batch_node view batch n name among_batches among of_node)

  found : batch_for prepared.layer prepared.slot view ≡ Some batch
  found =
      ap (λ (l : List Batch). find (λ b. is_for prepared.layer prepared.slot b) l) is.among ∙ found-one prepared.layer prepared.slot batch is.for_slot after before is.alone_before

  entry_made : joined_by view slot_name ≡ Some (Join prepared.layer prepared.indexes.items)
  entry_made = ap (option_map (λ b. Join prepared.layer (map (λ m. m.index) b.marked))) found ∙ ap (λ (l : List ℕ). Some (Join prepared.layer l)) is.indexes

  module _ (value : ℕ) (same : value ≡ slot_tree root) (stored : Stored MayAttach attach view slot_name value next) where
    sizes : next.config ≡ view.config
    sizes = ap (λ (v : View). v.config) stored.1.leaves

    word_stored : StoresWord view next slot_name value
    word_stored = stores-word MayAttach attach view next slot_name value refl stored

    by : MadeBy view next (Some (record { pass = number; entry = Join prepared.layer prepared.indexes.items }))
    by =
        subst (λ (o : Option Entry). MadeBy view next (option_map (λ e. record { pass = number; entry = e }) o)) entry_made
        (stored-made MayAttach attach view next slot_name value refl stored number pass)

    left_now : next ≡ record view { known = next.known; joined = None; batches = before ++ after; written = written_outside batch.nodes view.written }
    left_now =
        stored.1.leaves
        ∙ ((λ i. record view {
          known = sym (ap (λ (v : View). v.known) stored.1.leaves) i;
          joined = None;
          batches = without_batch prepared.layer prepared.slot view.batches;
          written = written_outside (nodes_for (found i)) view.written;
        })
        ∙ ap (λ (l : List Batch). record view { known = next.known; joined = None; batches = l; written = written_outside batch.nodes view.written })
        (ap (without_batch prepared.layer prepared.slot) is.among ∙ without-one prepared.layer prepared.slot batch is.for_slot after before is.alone_before is.alone_after))

    -- the words of its nodes are as they were
    nodes_still : (name : Name) (n : ℕ) → node_in name ≡ Some n → Contains batch.nodes n → known_word next name ≡ known_word view name
    nodes_still name n of_node among =
        word-beside view next slot_name value word_stored sizes name (λ e. let none = ap node_in e ∙ of_node in absurd cc) (batch-steady name n of_node among)

    drawn_now : IsDrawn (known_word next) bodies is.plan is.bound batch
    drawn_now =
        drawn-as (λ name value. known_word view name ≡ value) (λ name value. known_word next name ≡ value) bodies is.plan is.bound batch drawn_known
        (λ name n value of_node among says. nodes_still name n of_node among ∙ says)

    -- ---- the entry

    abbrev log : List Item
    log = view.known ++ stored.1.since

    abbrev step_made : Step
    step_made = step_by stored.1.seat view stored.1.number slot_name value 0

    abbrev item : Item
    item = item_of attach step_made value

    known_now : next.known ≡ log ++ item ∷ []
    known_now =
        stepped-known MayAttach attach view next slot_name value 0 stored.0 stored.1
        ∙ (λ i. stored.1.learns i ++ stored-gained MayAttach attach view next slot_name value refl stored i)

    abbrev joined_made : Made
    joined_made = record { pass = stored.1.number; entry = Join prepared.layer prepared.indexes.items }

    history_now : history (log ++ item ∷ []) ≡ history log ++ joined_made ∷ []
    history_now = filter_map-append made_by log (item ∷ []) ∙ ap (λ (l : List Made). history log ++ l) (one_made item (Join prepared.layer prepared.indexes.items) entry_made)

    abbrev scene_before : Scene
    scene_before = scene_at view.config log

    scene_now : scene_at view.config next.known ≡ fold (with_phase In) scene_before prepared.indexes.items
    scene_now =
        ap (scene_at view.config) known_now
        ∙ (ap (scene_after view.config.bodies) history_now
        ∙ fold-append (λ s made. after_entry s made.entry) (empty_scene view.config.bodies) (history log) (joined_made ∷ []))

    joins : JoinsOnly scene_before (scene_at view.config next.known) prepared.indexes.items
    joins = subst (λ (s : Scene). JoinsOnly scene_before s prepared.indexes.items) (sym scene_now) (JoinsOnly-fold scene_before prepared.indexes.items)

    lawful_now : IsLawfulHistory view.config.layers view.config.bodies (history log ++ joined_made ∷ [])
    lawful_now =
        subst (λ (c : Config). IsLawfulHistory c.layers c.bodies (history log ++ joined_made ∷ [])) (sym (stepped-sizes MayAttach attach view next slot_name value 0 stored.0 stored.1))
        (subst (λ (l : List Made). IsLawfulHistory stored.1.before.config.layers stored.1.before.config.bodies l)
        (ap history (sym (ap (λ (v : View). v.known) stored.1.leaves) ∙ known_now) ∙ history_now) stored.1.still_stands.laws.bodies.lawful)

    held_before : AllHeld view.config prepared.layer prepared.indexes.items log
    held_before = (lawful_parts view.config.layers (empty_scene view.config.bodies) (history log) (joined_made ∷ []) lawful_now).1.0.0.2

    -- ---- the step

    step_so : OneStep view next
    step_so = record {
      kind = attach;
      before = stored.1.before;
      step = step_made;
      since = stored.1.since;
      of = refl;
      at = stored.1.allowed.at;
      pass = stored.1.allowed.pass;
      stands = stored.1.stands;
      event = of_batches (attaches (record { step = step_made; allowed = stored.1.allowed; result = refl }));
      learns = stored.1.learns;
      foreign = stored.1.foreign;
      leaves = stored.1.leaves;
      still_stands = stored.1.still_stands;
    }

    others_left : LeavesOthers prepared view next
    others_left =
        goes-beside view now number pass prepared before batch after bodies is next sizes (ap (λ (v : View). v.role) stored.1.leaves)
        (ap (λ (v : View). v.batches) left_now) (ap (λ (v : View). v.written) left_now)

    -- what is guarded is guarded still
    pub guards_left : (other : ℕ) (id : Id) (mode : Mode) → IsGuarding other id mode view → IsGuarding other id mode next
    guards_left other id mode guarding = record {
      pass = ap (λ (v : View). number_of v) left_now ∙ guarding.pass;
      stripe = ap (λ (v : View). mode_of v.locks (stripe_of v.config id.index)) left_now ∙ guarding.stripe;
      below = subst (λ (c : Config). id.index < c.bodies) (sym sizes) guarding.below;
      state =
          word-beside view next slot_name value word_stored sizes (State id.index) (λ e. absurd cc) (live-steady id mode view (State id.index) guarding.stripe guarding.state refl)
          ∙ guarding.state;
      done = ap (λ (v : View). v.call.task) left_now ∙ guarding.done;
    }

    -- and it holds no other lock where it held none
    pub alone_left : (other : ℕ) (id : Id) (mode : Mode) → IsAlone other id mode view → IsAlone other id mode next
    alone_left other id mode alone = record {
      guarding = guards_left other id mode alone.guarding;
      only = λ lock apart. ap (λ (v : View). mode_of v.locks lock) left_now ∙ alone.only lock (λ same. apart (same ∙ ap (λ (c : Config). stripe_of c id.index) (sym sizes)));
      still = ap (λ (v : View). v.walk.is_on) left_now ∙ alone.still;
    }

    -- ---- the boxes

    abbrev attaching : AttachingOf stored.1.before
    attaching = record {
      seat = stored.1.seat;
      number = stored.1.number;
      layer = prepared.layer;
      slot = prepared.slot;
      root = node_at batch.nodes 0;
      second = 0;
      view = view;
      batch = batch;
      at = stored.1.allowed.at;
      pass = stored.1.allowed.pass;
      among = among_batches;
      for_slot = is.for_slot;
      whole = whole_known;
    }

    core_sizes : view.config ≡ stored.1.before.config
    core_sizes = stepped-sizes MayAttach attach view next slot_name value 0 stored.0 stored.1

    scene_core : scene_at view.config log ≡ scene_of stored.1.before
    scene_core = λ i. scene_at (core_sizes i) (sym stored.1.learns i)

    -- the bodies have the boxes with which they are marked
    boxes_then : HaveBoxes view.config bodies log
    boxes_then body among =
        let t = is.drawn.of_batch.all body among in
        let m = t.0 in
        let joins = joining stored.1.before attaching stored.1.stands.formed stored.1.stands.laws stored.1.stands.guards m t.1 in
        let same : joins.body.bounds ≡ body.1 =
        words_tell_boxes_apart joins.body.bounds body.1
        (same_number_lists (words_of joins.body.bounds) (words_of body.1) refl (λ k below. joins.bounds k below ∙ ap (λ (l : List ℕ). slice_index l k) t.2.bounds))
        in
        record_body (record_at (scene_at view.config log) body.0) (λ r. r.bounds ≡ body.1) joins.body
        (ap (λ (s : Scene). record_at s body.0) scene_core ∙ (ap (record_at (scene_of stored.1.before)) (sym t.2.index) ∙ joins.live)) same

    pub attached : HasAttached prepared view next
    attached = record {
      before = before;
      batch = batch;
      after = after;
      bodies = bodies;
      is = is;
      step = step_so;
      stores = subst (λ (v : ℕ). StoresWord view next slot_name v) same word_stored;
      adds = adds-made view view next [] (Some (record { pass = number; entry = Join prepared.layer prepared.indexes.items })) refl (Adds-refl view number pass) by;
      tells =
          subst (λ (v : ℕ). Tells view next (stored_as slot_name v ∷ [])) same
          (tells-stored view view next [] slot_name value refl (tells-refl view number pass) word_stored refl);
      left = left_now;
      others = others_left;
      makes = record {
        since = stored.1.since;
        item = item;
        later = [];
        parts = known_now;
        pass = stored.1.allowed.pass;
        makes = entry_made;
        holds = (held_before, boxes_then, joins);
      };
      now_in = λ k d below.
          joined-in scene_before (scene_at view.config next.known) prepared.indexes.items prepared.layer (get_or prepared.indexes.items k d) joins
          (Contains-get_or prepared.indexes.items k d below) (held_before k d below);
      names = word-now view next slot_name value word_stored sizes ∙ same;
      still = drawn_now;
      whole = subst (IsWholeTree (known_word next) batch) root_same (drawn-whole (known_word next) bodies is.plan is.bound batch drawn_now);
      stated =
          subst (λ (r : ℕ). tree_at (known_word next) 10 r ≡ tree bodies) root_same
          (drawn-tree (known_word next) bodies is.plan is.bound batch drawn_now 10 (omega arith));
    }
