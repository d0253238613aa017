-- What the turns tell that let the stripe of a body go, and what marking bodies answers.
use Rattle.std.proofs.Common.{◌≡◌, ℕ, suc, ◌+◌, ◌-◌, ◌*◌, ◌<◌, ◌≤◌, List, [], ◌∷◌, ◌++◌, None, Ok, Err, length, map, take, get_or, inl, refl, ap, sym, ◌∙◌, subst, arith}
use Rattle.std.proofs.Math.Seq.{take-length, take-suc-set}
use Rattle.std.proofs.lemmas.Bool.{eqb-true}
use Rattle.std.proofs.lemmas.List.{length-set, length-map, length-take-le, get_or-map, get_or-take, get_or_default, same_from_push}
use Rattle.std.proofs.lemmas.List.Elements.{All-get_or}
use Rattle.std.proofs.lemmas.Map.Steps.{length-le_from_distinct_below}
use Rattle.std.proofs.lemmas.Map.Views.{Contains-from_any}
use Rattle.fixed_box.specs.declared.fix_box.FixBox.{FixBox}
use Rattle.body_ident.specs.Id.{Id}
use Rattle.word_map.specs.declared.config.Config.{Config}
use Rattle.word_map.specs.declared.name.Name.TheVariants.{Lock, Phase}
use Rattle.word_map.specs.Names.{stripe_of}
use Rattle.core_state.specs.declared.view.Mode.TheVariants.{Write}
use Rattle.core_state.specs.declared.view.LockStep.TheVariants.{Taken as TakenStep, Released}
use Rattle.core_state.specs.declared.view.Batch.{Batch}
use Rattle.core_state.specs.declared.view.View.{View}
use Rattle.core_state.specs.Log.{IsPrefix}
use Rattle.core_state.specs.View.{IsPass}
use Rattle.core_state.specs.Encoding.{phase_join}
use Rattle.core_state.specs.Batches.{MayMark, mark}
use Rattle.core_state.specs.Locking.{MayRelease, release}
use Rattle.pass_table.specs.declared.turn.Turn.TheVariants.{Done, More}
use Rattle.pass_table.specs.Stepping.{Stored}
use Rattle.pass_table.specs.Holding.{MayLetGo, LetGo}
use Rattle.pass_table.specs.Turning.{MadeBy, IsUnderWay, LoadsNow}
use Rattle.pass_table.specs.Calls.{AtPoint}
use Rattle.pass_table.proofs.Knowing.{known-more}
use Rattle.pass_table.proofs.Calling.{point-later, released-step, released-made}
use Rattle.body_look.specs.declared.look_op.LookDepth.TheVariants.{Phase as ItsPhase}
use Rattle.body_look.specs.declared.look_op.LookOp.{LookOp}
use Rattle.body_look.specs.stages.Looking.{looking_of, IsLooking}
use Rattle.batch_add.specs.declared.mark_op.MarkRefused.{MarkRefused}
use Rattle.batch_add.specs.declared.mark_op.MarkStage.{MarkStage}
use Rattle.batch_add.specs.declared.mark_op.MarkStage.TheVariants.{Looking, Boxed, Leaving, Refusing}
use Rattle.batch_add.specs.declared.mark_op.Marking.{Marking}
use Rattle.pass_table.specs.Work.{HasWorked, HasDone}
use Rattle.batch_add.specs.Parts.{IsNewest, HasMarked, HasMarkedBefore, marks_outcome, IsMarkRefusedAt, WereFree}
use Rattle.batch_add.specs.stages.Marking.{Marks, marks_of, marked_bodies, current, IsBegunFor, marks_work, HasStripe, AtMark, PastLook, GoesOnFrom, IsMarking, Notes, mark_left, IsMarkTurn, takes_at}
use Rattle.batch_add.specs.stages.MarkLater.{stripe-held, were-later}
use Rattle.pass_table.proofs.WorkLater.{worked-sizes}
use Rattle.pass_table.proofs.Working.{worked-released, worked-done}
use Rattle.batch_add.proofs.MarkLocks.{free-again}
use Rattle.batch_add.proofs.Marked.{asks-mark, mark-step, mark-made, mark-leaves, marks-begun}

-- ---- how many there are

-- each index is marked once, so no more bodies are than there are in the world
pub marked-few : (layer slot : ℕ) (start : View) (before : List Batch) (batch : Batch) (marks : Marks) → IsBegunFor layer slot start before batch marks → marks.marked ≤ start.config.bodies
marked-few layer slot start before batch marks begun =
    let indexes : List ℕ = map (λ (b : ℕ × FixBox). b.0) marks.bodies in
    let some : indexes ≡ map (λ (id : Id). id.index) (take marks.marked marks.ids) = begun.first.indexes in
    let few : length indexes ≤ start.config.bodies =
    length-le_from_distinct_below indexes start.config.bodies begun.first.apart
    (λ q any.
    let among = Contains-from_any eqb-true q indexes any in
    let at : q ≡ get_or (map (λ (id : Id). id.index) (take marks.marked marks.ids)) among.0 q = sym among.2 ∙ ap (λ (l : List ℕ). get_or l among.0 q) some in
    let many = length-take-le marks.marked marks.ids begun.first.within in
    let less : among.0 < marks.marked = omega (arith, among.1, begun.first.many, length-map marks.bodies (λ (b : ℕ × FixBox). b.0)) in
    let past : Id = record { index = 0; seq = 0 } in
    let own : get_or (map (λ (id : Id). id.index) (take marks.marked marks.ids)) among.0 q ≡ (get_or marks.ids among.0 past).index =
    get_or-map (λ (id : Id). id.index) (take marks.marked marks.ids) among.0 past q (omega arith) ∙ ap (λ (id : Id). id.index) (get_or-take marks.marked marks.ids among.0 past less) in
    subst (λ (n : ℕ). n < start.config.bodies) (sym (at ∙ own)) (All-get_or (λ (id : Id). id.index < start.config.bodies) marks.ids among.0 past (let within = begun.first.within in omega arith) begun.below))
    in
    let many = begun.first.many in
    omega (arith, length-map marks.bodies (λ (b : ℕ × FixBox). b.0))

-- ---- the turn that marks a body

-- what a going marking is at
pub going-at : (operation : Marking) (stage : MarkStage) (start view : View) (goes : GoesOnFrom start operation view) → operation.stage ≡ stage → AtMark start goes.before goes.batch (marks_of operation) view operation.look stage
going-at operation stage start view goes at = subst (AtMark start goes.before goes.batch (marks_of operation) view operation.look) at goes.at

-- the store of the phase word may be made
pub may-mark : (operation : Marking) (bounds : FixBox) (view : View) (value : ℕ) → IsUnderWay IsMarking operation view → operation.stage ≡ Boxed bounds → value ≡ phase_join operation.slot
    → MayMark view (Phase (current (marks_of operation)).index) value 0
may-mark operation bounds view value way at joins =
    let goes = way.goes.goes in
    asks-mark operation.layer operation.slot way.start goes.before goes.batch (marks_of operation) goes.begun view bounds (going-at operation (Boxed bounds) way.start view goes at) value joins

module _ (operation new : Marking) (number : ℕ) (bounds : FixBox) (stripe : ℕ) (notes : Notes operation new number (current (marks_of operation)).index bounds stripe) (view next : View) where
  -- the marks are those with this body
  more_noted : operation.marked < length operation.bodies.items
      → (record { ids = operation.ids.items; marked = suc operation.marked; bodies = marked_bodies operation ++ ((current (marks_of operation)).index, bounds) ∷ [] }) ≡ marks_of new
  more_noted less = λ i. record {
    ids = sym (ap (λ v. v.items) notes.ids) i;
    marked = sym notes.marked i;
    bodies = sym ((λ j. take (notes.marked j) (notes.bodies j)) ∙ take-suc-set operation.bodies.items operation.marked ((current (marks_of operation)).index, bounds) less) i;
  }

  noted_goes : (value : ℕ) → value ≡ phase_join operation.slot → Stored MayMark mark view (Phase (current (marks_of operation)).index) value next → IsPass view number → operation.stage ≡ Boxed bounds
      → stripe ≡ stripe_of view.config (current (marks_of operation)).index → stripe < view.config.stripes → (start : View) → GoesOnFrom start operation view → GoesOnFrom start new next
  noted_goes value joins stored pass at same low start goes =
      let here = going-at operation (Boxed bounds) start view goes at in
      let less : operation.marked < length operation.bodies.items = (let room = goes.room in let fits = here.0.next in omega arith) in
      let sizes : view.config ≡ start.config = worked-sizes start view _ here.0.held.worked in
      let marks = more_noted less in
      record {
        before = goes.before;
        batch = goes.batch;
        room =
            ap (length {A = ℕ × FixBox}) notes.bodies
            ∙ (length-set operation.bodies.items operation.marked ((current (marks_of operation)).index, bounds)
            ∙ (goes.room ∙ ap (λ v. length v.items) (sym notes.ids)));
        begun =
            subst (λ (l : ℕ). IsBegunFor l new.slot start goes.before goes.batch (marks_of new)) (sym notes.layer)
            (subst (λ (s : ℕ). IsBegunFor operation.layer s start goes.before goes.batch (marks_of new)) (sym notes.slot)
            (subst (IsBegunFor operation.layer operation.slot start goes.before goes.batch) marks
            (marks-begun operation.layer operation.slot start goes.before goes.batch (marks_of operation) goes.begun view bounds here value joins next stored)));
        at =
            subst (AtMark start goes.before goes.batch (marks_of new) next new.look) (sym notes.stage)
            (subst (λ (m : Marks). PastLook start goes.before goes.batch m next (Leaving stripe)) marks
            (mark-leaves operation.layer operation.slot start goes.before goes.batch (marks_of operation) goes.begun view bounds here value joins next stored number stripe pass
            (same ∙ ap (λ (c : Config). stripe_of c (current (marks_of operation)).index) sizes) (subst (λ (c : Config). stripe < c.stripes) sizes low)));
      }

  pub mark-turn : (value : ℕ) → value ≡ phase_join operation.slot → Stored MayMark mark view (Phase (current (marks_of operation)).index) value next → IsPass view number → operation.stage ≡ Boxed bounds
      → stripe ≡ stripe_of view.config (current (marks_of operation)).index → stripe < view.config.stripes → IsUnderWay IsMarking operation view → IsMarkTurn More operation new view next
  mark-turn value joins stored pass at same low way =
      let goes = way.goes.goes in
      let here = going-at operation (Boxed bounds) way.start view goes at in
      let one : mark_left operation ≡ 2 + 15 * (length operation.ids.items - suc operation.marked) =
      ap (λ (s : MarkStage). mark_left (record operation { stage = s })) at
      in
      let two : mark_left new ≡ 1 + 15 * (length operation.ids.items - suc operation.marked) =
      ap (λ (s : MarkStage). mark_left (record new { stage = s })) notes.stage ∙ (λ i. 1 + 15 * (length (ap (λ v. v.items) notes.ids i) - notes.marked i))
      in
      record {
        step = mark-step operation.layer operation.slot way.start goes.before goes.batch (marks_of operation) goes.begun view bounds here value joins next stored;
        made =
            subst (MadeBy view next) (sym notes.made)
            (mark-made operation.layer operation.slot way.start goes.before goes.batch (marks_of operation) goes.begun view bounds here value joins next stored number pass);
        turned = inl (omega arith);
        loads = subst (λ (s : MarkStage). LoadsNow view next (takes_at new.look s)) (sym notes.stage) tt;
        keeps = λ first start marking. record {
          layer = notes.layer ∙ marking.layer;
          slot = notes.slot ∙ marking.slot;
          ids = ap (λ v. v.items) notes.ids ∙ marking.ids;
          goes = noted_goes value joins stored pass at same low start marking.goes;
        };
        answered = λ first start marking. tt;
      }

-- ---- the turns that let the stripe go

-- a stripe may be let go
pub may-let_go : (start : View) (before : List Batch) (batch : Batch) (layer slot : ℕ) (marks : Marks) (begun : IsBegunFor layer slot start before batch marks) (view : View) (stripe : ℕ)
    → HasStripe start before batch marks stripe view → MayLetGo view stripe
may-let_go start before batch layer slot marks begun view stripe held =
    record { mode = Write; holds = stripe-held start before batch marks view stripe begun.rest held; done = held.worked.doing }

module _ (start : View) (before : List Batch) (batch : Batch) (layer slot : ℕ) (marks : Marks) (begun : IsBegunFor layer slot start before batch marks) (view next : View) (stripe found : ℕ)
    (held : HasStripe start before batch marks stripe view) (go : LetGo view stripe found next) where
  gone_worked : HasWorked start next (marks_work start before batch marks.bodies ((held.steps ++ TakenStep stripe Write ∷ []) ++ Released stripe ∷ []))
  gone_worked = worked-released start view next _ held.worked stripe found go refl

  gone_later : IsPrefix view.known next.known
  gone_later = known-more MayRelease release view next (Lock stripe) go.0 0 found go.1

  gone_each : WereFree batch.layer start next (take marks.marked marks.ids)
  gone_each = were-later batch.layer start view next (take marks.marked marks.ids) gone_later held.each

  -- the call may end
  pub ends-with : HasDone start next (marks_outcome start before batch marks.bodies)
  ends-with = worked-done start next _ gone_worked begun.rest refl (free-again held.steps stripe held.free)

  -- or the next body comes
  pub then-next : marks.marked < length marks.ids → (look : LookOp) → IsLooking (looking_of start.config (current marks) Write ItsPhase) next look next → AtMark start before batch marks next look Looking
  then-next less look looking = record {
    mid = next;
    between = record { next = less; steps = (held.steps ++ TakenStep stripe Write ∷ []) ++ Released stripe ∷ []; free = free-again held.steps stripe held.free; worked = gone_worked; each = gone_each };
    looking = looking;
  }

  -- its index is one of the world's
  pub next-below : marks.marked < length marks.ids → (current marks).index < next.config.bodies
  next-below less =
      subst (λ (c : Config). (current marks).index < c.bodies) (sym (worked-sizes start next _ gone_worked))
      (All-get_or (λ (i : Id). i.index < start.config.bodies) marks.ids marks.marked (record { index = 0; seq = 0 }) less begun.below)

  -- with the bodies of the first ids marked
  pub has-marked : HasMarked before batch (take marks.marked marks.ids) start next marks.bodies
  has-marked = record { done = ends-with; indexes = begun.first.indexes; apart = begun.first.apart; each = gone_each }

  -- and the next one refused
  pub has-refused : (refused : MarkRefused) → marks.marked < length marks.ids → AtPoint start view (IsMarkRefusedAt start.config batch.layer (current marks) refused)
      → HasMarkedBefore before batch marks.ids start next marks.bodies refused
  has-refused refused less point =
      let many = begun.first.many in
      record {
        first = subst (λ (n : ℕ). HasMarked before batch (take n marks.ids) start next marks.bodies) (sym many) has-marked;
        some = omega arith;
        refused = λ past.
            let same : current marks ≡ get_or marks.ids (length marks.bodies) past =
            get_or_default marks.ids marks.marked (record { index = 0; seq = 0 }) past less ∙ ap (λ (n : ℕ). get_or marks.ids n past) (sym many)
            in
            subst (λ (id : Id). AtPoint start next (IsMarkRefusedAt start.config batch.layer id refused)) same
            (point-later start view next _ gone_later point);
      }

-- the newest batch is one, and so are those before it
one_newest : (start : View) (before other : List Batch) (batch second : Batch) (P : List Batch → Batch → Type 0) → IsNewest start before batch → IsNewest start other second → P before batch → P other second
one_newest start before other batch second P newest again h =
    let same = same_from_push before other batch second (sym newest ∙ again) in
    subst (λ (l : List Batch). P l second) same.0 (subst (P before) same.1 h)

-- all are marked: the last turn
pub done-turn : (operation : Marking) (stripe : ℕ) (view next : View) (number found : ℕ) → IsPass view number → operation.stage ≡ Leaving stripe → operation.marked ≡ length operation.ids.items → LetGo view stripe found next
    → IsMarkTurn (Done (Ok tt)) operation (record operation { made = None }) view next
done-turn operation stripe view next number found pass at all go = record {
  step = released-step view next stripe found go;
  made = released-made view next stripe found go number pass;
  turned = tt;
  loads = tt;
  keeps = λ first start marking. tt;
  answered = λ first start marking.
      let goes = marking.goes in
      let here = going-at operation (Leaving stripe) start view goes at in
      let marked = has-marked start goes.before goes.batch operation.layer operation.slot (marks_of operation) goes.begun view next stripe found here.0 go in
      let bodies : marked_bodies operation ≡ operation.bodies.items = ap (λ (n : ℕ). take n operation.bodies.items) (all ∙ sym goes.room) ∙ take-length operation.bodies.items in
      let ids : take operation.marked operation.ids.items ≡ first.ids.items = ap (λ (n : ℕ). take n operation.ids.items) all ∙ (take-length operation.ids.items ∙ marking.ids) in
      record {
        ids = marking.ids;
        room = goes.room ∙ ap (length {A = Id}) marking.ids;
        within = subst (λ (l : List Id). operation.marked ≤ length l) marking.ids goes.begun.first.within;
        made = refl;
        is = λ before batch newest.
            one_newest start goes.before before goes.batch batch (λ b c. HasMarked b c first.ids.items start next operation.bodies.items) goes.begun.for_newest.newest newest
            (subst (λ (l : List Id). HasMarked goes.before goes.batch l start next operation.bodies.items) ids
            (subst (HasMarked goes.before goes.batch (take operation.marked operation.ids.items) start next) bodies marked));
      };
}

-- or one is not: the last turn then
pub refused-turn : (operation : Marking) (refused : MarkRefused) (view next : View) (number stripe found : ℕ) → IsPass view number → operation.stage ≡ Refusing refused
    → stripe ≡ stripe_of view.config (current (marks_of operation)).index → LetGo view stripe found next → IsMarkTurn (Done (Err refused)) operation (record operation { made = None }) view next
refused-turn operation refused view next number stripe found pass at same go = record {
  step = released-step view next stripe found go;
  made = released-made view next stripe found go number pass;
  turned = tt;
  loads = tt;
  keeps = λ first start marking. tt;
  answered = λ first start marking.
      let goes = marking.goes in
      let here = going-at operation (Refusing refused) start view goes at in
      let own : LetGo view (stripe_of start.config (current (marks_of operation)).index) found next =
      subst (λ (l : ℕ). LetGo view l found next) (same ∙ ap (λ (c : Config). stripe_of c (current (marks_of operation)).index) (worked-sizes start view _ here.0.held.worked)) go
      in
      let marked = has-refused start goes.before goes.batch operation.layer operation.slot (marks_of operation) goes.begun view next _ found here.0.held own refused here.0.next here.1 in
      record {
        ids = marking.ids;
        room = goes.room ∙ ap (length {A = Id}) marking.ids;
        within = subst (λ (l : List Id). operation.marked ≤ length l) marking.ids goes.begun.first.within;
        made = refl;
        is = λ before batch newest.
            one_newest start goes.before before goes.batch batch (λ b c. HasMarkedBefore b c first.ids.items start next (marked_bodies operation) refused) goes.begun.for_newest.newest newest
            (subst (λ (l : List Id). HasMarkedBefore goes.before goes.batch l start next (marked_bodies operation) refused) marking.ids marked);
      };
}
