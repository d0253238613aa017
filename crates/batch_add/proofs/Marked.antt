-- What the turn tells that marks a body.
use Rattle.std.specs.Prelude.{Contains, nat_eq, ◌&&◌, option_to_list}
use Rattle.std.specs.List.{IsDistinct, range_with_len}
use Rattle.std.proofs.Common.{◌≡◌, ℕ, suc, ◌-◌, ◌<◌, ◌≤◌, List, [], ◌∷◌, ◌++◌, Bool, true, false, cond, eqb, All, Some, length, map, take, get_or, slice_index, append_assoc, refl, ap, sym, ◌∙◌, subst, arith}
use Rattle.std.specs.Cmp.{nat_eq_equiv}
use Rattle.std.proofs.Math.Seq.{take-suc}
use Rattle.std.proofs.lemmas.Bool.{eq-eqb, ne_eqb, eqb-true}
use Rattle.std.proofs.lemmas.List.{length-append, map-append, get_or-map, length-map}
use Rattle.std.proofs.lemmas.List.Elements.{All-head, All-tail, All-push, Contains-append_right}
use Rattle.std.proofs.lemmas.List.Folds.{list_any_none}
use Rattle.std.proofs.lemmas.Map.Keys.{IsDistinct-push}
use Rattle.fixed_box.specs.FixBox.{words_of}
use Rattle.fixed_box.specs.declared.fix_box.FixBox.{FixBox}
use Rattle.body_ident.specs.Id.{Id}
use Rattle.scene_model.specs.declared.entry.Entry.{Entry}
use Rattle.scene_model.specs.declared.entry.Entry.TheVariants.{Mark}
use Rattle.word_map.specs.declared.name.Name.{Name}
use Rattle.word_map.specs.declared.name.Name.TheVariants.{Phase, Layer, BoxWord}
use Rattle.word_map.specs.Names.{stripe_of}
use Rattle.core_state.specs.declared.item.Item.{Item}
use Rattle.core_state.specs.declared.view.Mode.TheVariants.{Write}
use Rattle.core_state.specs.declared.view.LockStep.TheVariants.{Taken as TakenStep}
use Rattle.core_state.specs.declared.view.Task.TheVariants.{Nothing}
use Rattle.core_state.specs.declared.view.Batch.{Batch}
use Rattle.core_state.specs.declared.view.View.{View}
use Rattle.core_state.specs.Log.{word, IsPrefix}
use Rattle.core_state.specs.View.{IsPass, Holds, known_word}
use Rattle.core_state.specs.Encoding.{phase_join}
use Rattle.core_state.specs.Event.{marks as marks_body, of_batches}
use Rattle.core_state.specs.Quietly.{IsSteady}
use Rattle.core_state.specs.Bodies.{IsForSlot}
use Rattle.core_state.specs.Batches.{is_for, change_batch, marked_now, MayMark, mark}
use Rattle.core_state.proofs.Beginning.{contains_first}
use Rattle.core_state.proofs.SameNames.{and_left, and_right}
use Rattle.core_guard.proofs.Leaving.{Acts}
use Rattle.core_batch.proofs.Mapped.{held-by}
use Rattle.core_batch.proofs.MarkSteps.{unmarked-yet}
use Rattle.pass_table.specs.Stepping.{step_by, Stored}
use Rattle.pass_table.specs.Turning.{AtMostOneStep, MadeBy}
use Rattle.pass_table.proofs.Knowing.{step-alone}
use Rattle.pass_table.proofs.Turning.{one-step}
use Rattle.pass_table.proofs.LockedBodies.{live-steady}
use Rattle.pass_table.proofs.Calling.{stepped-sizes, steady-now, stores-word, stored-made}
use Rattle.batch_add.specs.declared.mark_op.MarkStage.TheVariants.{Boxed, Leaving}
use Rattle.pass_table.specs.Work.{HasWorked}
use Rattle.pass_table.specs.Calls.{AtPoint}
use Rattle.batch_add.specs.Parts.{marked_as, IsFreeAt, WereFree}
use Rattle.batch_add.specs.stages.Marking.{Marks, current, AreFirst, IsBegunFor, marks_work, PastLook}
use Rattle.batch_add.specs.stages.MarkLater.{body-held, were-later}
use Rattle.pass_table.proofs.WorkLater.{worked-batches, worked-loose, worked-written}
use Rattle.pass_table.proofs.Working.{worked-untold}

-- ---- the newest batch

-- only the last of these is for the slot, and is changed
pub change-last : (layer slot : ℕ) (change : Batch → Batch) (before : List Batch) (batch : Batch) → All (λ b. ¬ IsForSlot layer slot b) before → IsForSlot layer slot batch
    → change_batch layer slot change (before ++ batch ∷ []) ≡ before ++ change batch ∷ []
change-last layer slot change [] batch others for_slot = λ i. cond (own i) (change batch) batch ∷ []
  where
    own : is_for layer slot batch ≡ true
    own = λ i. eq-eqb batch.layer layer for_slot.0 i && eq-eqb batch.slot slot for_slot.1 i
change-last layer slot change (first ∷ before) batch others for_slot =
    λ i. cond (other i) (change first) first ∷ change-last layer slot change before batch (All-tail (λ (b : Batch). ¬ IsForSlot layer slot b) first before others) for_slot i
  where
    by_test : (t : Bool) → is_for layer slot first ≡ t → t ≡ false
    by_test false e = refl
    by_test true e =
        absurd (All-head (λ (b : Batch). ¬ IsForSlot layer slot b) first before others (
          eqb-true first.layer layer (and_left (eqb first.layer layer) (eqb first.slot slot) e),
          eqb-true first.slot slot (and_right (eqb first.layer layer) (eqb first.slot slot) e),
        ))

    other : is_for layer slot first ≡ false
    other = by_test (is_for layer slot first) refl

-- ---- the body

module _ (layer slot : ℕ) (start : View) (before : List Batch) (batch : Batch) (marks : Marks) (begun : IsBegunFor layer slot start before batch marks) (view : View) (bounds : FixBox)
    (at : PastLook start before batch marks view (Boxed bounds)) where
  abbrev body_id : Id
  body_id = current marks

  abbrev body : ℕ × FixBox
  body = (body_id.index, bounds)

  abbrev batch_now : Batch
  batch_now = record batch { marked = map marked_as marks.bodies }

  pub holds : Holds view (stripe_of view.config body_id.index) Write
  holds = body-held layer slot start before batch marks begun view at.0

  pub among : Contains view.batches batch_now
  among =
      subst (λ (bs : List Batch). Contains bs batch_now) (sym (worked-batches start view _ at.0.held.worked))
      (Contains-append_right before (batch_now ∷ []) batch_now (contains_first batch_now []))

  -- it may be marked
  abbrev pub asks-mark : (value : ℕ) → value ≡ phase_join slot → MayMark view (Phase body_id.index) value 0
  asks-mark value joins = record {
    index = body_id.index;
    layer = batch.layer;
    slot = slot;
    batch = batch_now;
    names = refl;
    has = record { among = among; for_slot = (refl, begun.for_newest.for_slot.1) };
    stripe = holds;
    idle = at.0.held.worked.doing;
    live = subst (λ (n : ℕ). 256 ≤ n) (sym at.1.0.0) (omega arith);
    out = at.1.0.1;
    in_layer = at.1.1;
    joins = joins;
  }

  -- the marks with this body
  abbrev pub more_marks : Marks
  more_marks = record { ids = marks.ids; marked = suc marks.marked; bodies = marks.bodies ++ body ∷ [] }

  module _ (value : ℕ) (joins : value ≡ phase_join slot) (next : View) (stored : Stored MayMark mark view (Phase body_id.index) value next) where
    abbrev name : Name
    name = Phase body_id.index

    abbrev log : List Item
    log = stored.1.before.log

    abbrev view_then : View
    view_then = record view { known = log }

    -- ---- each index is marked once

    unmarked : (k : ℕ) (past : ℕ) → k < length (map (λ (b : ℕ × FixBox). b.0) marks.bodies) → eqb body_id.index (get_or (map (λ (b : ℕ × FixBox). b.0) marks.bodies) k past) ≡ false
    unmarked k past less =
        let fits : k < length marks.bodies = omega (arith, length-map marks.bodies (λ (b : ℕ × FixBox). b.0)) in
        let one : ℕ × FixBox = get_or marks.bodies k body in
        let s = stored.1.stands in
        let has : Contains batch_now.marked (marked_as one) =
        (k, omega (arith, length-map marks.bodies marked_as), get_or-map marked_as marks.bodies k body (marked_as one) fits)
        in
        let allowed = stored.1.allowed in
        let acts : Acts stored.1.before (step_by stored.1.seat view stored.1.number name value 0) =
        record { at = allowed.at; pass = allowed.pass; named = allowed.named; formed = s.formed; guards = s.guards; laws = s.laws }
        in
        let apart =
        unmarked-yet stored.1.before (step_by stored.1.seat view stored.1.number name value 0) acts (asks-mark value joins) batch_now (marked_as one)
        (held-by stored.1.before stored.1.seat stored.1.number view batch_now stored.1.allowed.at stored.1.allowed.pass among) has
        in
        ne_eqb body_id.index _ (λ same. apart (sym (get_or-map (λ (b : ℕ × FixBox). b.0) marks.bodies k body past fits) ∙ sym same))

    pub marks-first : AreFirst more_marks
    marks-first = record {
      within = at.0.next;
      many = let many = begun.first.many in omega (arith, length-append marks.bodies (body ∷ []));
      indexes =
          map-append (λ (b : ℕ × FixBox). b.0) marks.bodies (body ∷ [])
          ∙ ((λ i. begun.first.indexes i ++ body_id.index ∷ [])
          ∙ (sym (map-append (λ (id : Id). id.index) (take marks.marked marks.ids) (body_id ∷ []))
          ∙ ap (map (λ (id : Id). id.index)) (sym (take-suc marks.ids marks.marked (record { index = 0; seq = 0 }) at.0.next))));
      apart =
          subst (IsDistinct nat_eq) (sym (map-append (λ (b : ℕ × FixBox). b.0) marks.bodies (body ∷ [])))
          (IsDistinct-push nat_eq_equiv (map (λ (b : ℕ × FixBox). b.0) marks.bodies) body_id.index begun.first.apart (list_any_none (eqb body_id.index) (map (λ (b : ℕ × FixBox). b.0) marks.bodies) unmarked));
    }

    pub marks-begun : IsBegunFor layer slot start before batch more_marks
    marks-begun = record { for_newest = begun.for_newest; below = begun.below; rest = begun.rest; first = marks-first }

    -- ---- what the pass has then

    word_then : (other : Name) → IsSteady view other → known_word view_then other ≡ known_word view other
    word_then other steady =
        (λ i. word (stepped-sizes MayMark mark view next name value 0 stored.0 stored.1 i) log other) ∙ steady-now MayMark mark view next name value 0 stored.0 stored.1 other steady

    layer_then : known_word view_then (Layer body_id.index) ≡ layer
    layer_then = word_then (Layer body_id.index) (live-steady body_id Write view (Layer body_id.index) holds at.1.0.0 refl) ∙ (at.1.1 ∙ begun.for_newest.for_slot.0)

    slot_then : value - 2 ≡ slot
    slot_then = omega arith

    side_then : (k : ℕ) → k < 6 → known_word view_then (BoxWord body_id.index k) ≡ slice_index (words_of bounds) k
    side_then k below = word_then (BoxWord body_id.index k) (live-steady body_id Write view (BoxWord body_id.index k) holds at.1.0.0 refl) ∙ at.2 k below

    box_then : map (λ k. known_word view_then (BoxWord body_id.index k)) (range_with_len 0 6) ≡ words_of bounds
    box_then =
        let s0 = side_then 0 (omega arith) in
        let s1 = side_then 1 (omega arith) in
        let s2 = side_then 2 (omega arith) in
        let s3 = side_then 3 (omega arith) in
        let s4 = side_then 4 (omega arith) in
        let s5 = side_then 5 (omega arith) in
        λ i. s0 i ∷ s1 i ∷ s2 i ∷ s3 i ∷ s4 i ∷ s5 i ∷ []

    abbrev with_one : Batch → Batch
    with_one b = record b { marked = b.marked ++ marked_now view_then body_id.index ∷ [] }

    abbrev batches_next : List Batch
    batches_next = before ++ (record batch { marked = map marked_as more_marks.bodies }) ∷ []

    batches_then : change_batch (known_word view_then (Layer body_id.index)) (value - 2) with_one view.batches ≡ batches_next
    batches_then =
        (λ i. change_batch (layer_then i) (slot_then i) with_one (worked-batches start view _ at.0.held.worked i))
        ∙ (change-last layer slot with_one before batch_now begun.for_newest.alone begun.for_newest.for_slot
        ∙ ((λ i. before ++ (record batch { marked = map marked_as marks.bodies ++ (record (marked_as body) { bounds = box_then i }) ∷ [] }) ∷ [])
        ∙ (λ i. before ++ (record batch { marked = sym (map-append marked_as marks.bodies (body ∷ [])) i }) ∷ [])))

    pub mark-step : AtMostOneStep view next
    mark-step = one-step MayMark mark view next name value 0 stored.0 stored.1 (λ early late steps. of_batches (marks_body steps))

    pub mark-made : (number : ℕ) → IsPass view number → MadeBy view next (Some (record { pass = number; entry = Mark body_id.index }))
    mark-made number pass = stored-made MayMark mark view next name value refl stored number pass

    mark_left : next ≡ record view { known = next.known; joined = next.joined; call = next.call; batches = batches_next; loose = start.loose; written = start.written }
    mark_left =
        let leaves = stored.1.leaves in
        leaves
        ∙ (λ i. record view {
          known = sym (ap (λ (v : View). v.known) leaves) i;
          joined = sym (ap (λ (v : View). v.joined) leaves) i;
          call = sym (ap (λ (v : View). v.call) leaves) i;
          batches = batches_then i;
          loose = worked-loose start view _ at.0.held.worked i;
          written = worked-written start view _ at.0.held.worked i;
        })

    entries_then : map (λ (b : ℕ × FixBox). Mark b.0) marks.bodies ++ Mark body_id.index ∷ [] ≡ map (λ (b : ℕ × FixBox). Mark b.0) more_marks.bodies
    entries_then = sym (map-append (λ (b : ℕ × FixBox). Mark b.0) marks.bodies (body ∷ []))

    pub mark-worked : (number : ℕ) → IsPass view number → HasWorked start next (marks_work start before batch more_marks.bodies (at.0.held.steps ++ TakenStep (stripe_of start.config body_id.index) Write ∷ []))
    mark-worked number pass =
        subst
        (λ (entries : List Entry).
        HasWorked start next (record (marks_work start before batch more_marks.bodies (at.0.held.steps ++ TakenStep (stripe_of start.config body_id.index) Write ∷ [])) { entries = entries }))
        entries_then
        (worked-untold start view next _ at.0.held.worked name value (Some (record { pass = number; entry = Mark body_id.index })) Nothing batches_next start.loose start.written (stores-word MayMark mark view next name value refl stored)
        (mark-made number pass) (ap (λ (v : View). v.call.task) stored.1.leaves ∙ at.0.held.worked.doing) mark_left refl
        (step-alone MayMark mark view next name value 0 stored.0 stored.1))

    -- each of the bodies was free
    mark_each : (number : ℕ) → IsPass view number → WereFree batch.layer start next (take (suc marks.marked) marks.ids)
    mark_each number pass =
        let made = mark-made number pass in
        let own = made.since ++ option_to_list made.own in
        let later : IsPrefix view.known next.known = (own, made.parts ∙ append_assoc view.known made.since (option_to_list made.own)) in
        subst (WereFree batch.layer start next) (sym (take-suc marks.ids marks.marked (record { index = 0; seq = 0 }) at.0.next))
        (were-later batch.layer start view next (take marks.marked marks.ids ++ body_id ∷ []) later
        (All-push (λ (id : Id). AtPoint start view (IsFreeAt start.config batch.layer id)) (take marks.marked marks.ids) body_id at.0.held.each at.3))

    -- its stripe is to be let go
    pub mark-leaves : (number stripe : ℕ) → IsPass view number → stripe ≡ stripe_of start.config body_id.index → stripe < start.config.stripes → PastLook start before batch more_marks next (Leaving stripe)
    mark-leaves number stripe pass same low = (
      record {
        steps = at.0.held.steps;
        free = at.0.held.free;
        worked = subst (λ (s : ℕ). HasWorked start next (marks_work start before batch more_marks.bodies (at.0.held.steps ++ TakenStep s Write ∷ []))) (sym same) (mark-worked number pass);
        each = mark_each number pass;
      },
      low,
    )
