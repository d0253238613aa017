-- What the turns of a move leave that load locations, widen bounds and store the box, and the last one.
use Rattle.std.specs.Prelude.{◌^◌}
use Rattle.std.proofs.lemmas.List.Sums.{fold-append}
use Rattle.std.proofs.Common.{fold, ◌≡◌, ◌≢◌, ◌⊎◌, ℕ, zero, suc, ◌+◌, ◌<◌, ◌≤◌, List, [], ◌∷◌, Bool, true, false, Option, Some, None, Ok, Err, Result, cond, eqb, refl, ap, sym, ◌∙◌, subst, inl, inr, arith}
use Rattle.fixed_box.specs.FixBox.{words_of}
use Rattle.fixed_box.specs.declared.fix_box.FixBox.{FixBox}
use Rattle.body_ident.specs.Id.{Id}
use Rattle.scene_model.specs.declared.body_view.Phase.{Phase as BodyPhase}
use Rattle.scene_model.specs.declared.body_view.Phase.TheVariants.{Out, Held, In}
use Rattle.scene_model.specs.declared.entry.Entry.TheVariants.{Move}
use Rattle.word_map.specs.declared.config.Config.{Config}
use Rattle.word_map.specs.declared.name.Name.TheVariants.{Lock, LocA, LocB}
use Rattle.word_map.specs.Names.{stripe_of}
use Rattle.core_state.specs.declared.view.Mode.{Mode}
use Rattle.core_state.specs.declared.view.Mode.TheVariants.{Write}
use Rattle.core_state.specs.declared.view.LockStep.{LockStep}
use Rattle.core_state.specs.declared.view.LockStep.TheVariants.{Taken as TakenStep, Released}
use Rattle.core_state.specs.declared.view.Task.{Task}
use Rattle.core_state.specs.declared.view.Call.{Call}
use Rattle.core_state.specs.declared.view.View.{View}
use Rattle.core_state.specs.View.{IsPass, mode_of, mode_after, known_word}
use Rattle.core_state.specs.Bodies.{MovesBody, IsBetweenBoxes}
use Rattle.core_state.specs.Encoding.{Sides, sides_of}
use Rattle.core_state.specs.Lives.{MayLoadBody, under_stripe}
use Rattle.core_state.specs.Locking.{MayRelease, release}
use Rattle.pass_table.specs.declared.turn.Turn.{Turn}
use Rattle.pass_table.specs.declared.turn.Turn.TheVariants.{Done, More}
use Rattle.pass_table.specs.Labels.{IsRefusal, SaysNew}
use Rattle.pass_table.specs.Turning.{AtMostOneStep, MadeBy, IsUnderWay, HasReached, LoadsNow}
use Rattle.pass_table.specs.Holding.{MayLetGo, LetGo, IsAtRest}
use Rattle.pass_table.specs.Bodies.{IsCurrent, Loaded}
use Rattle.pass_table.specs.Settled.{KnowsFirst, KnowsSecond}
use Rattle.pass_table.specs.Work.{IsCalling}
use Rattle.pass_table.proofs.Knowing.{known-more}
use Rattle.pass_table.proofs.Calling.{adds-none, released-step, released-made, released-lawful}
use Rattle.pass_table.proofs.Settled.{sound-now}
use Rattle.pass_table.proofs.WorkLater.{worked-role, worked-sizes, worked-pass, held-by, one-taken}
use Rattle.pass_table.proofs.Working.{worked-released, worked-done, done-keeps}
use Rattle.body_look.specs.declared.look_op.LookOp.{LookOp}
use Rattle.widen_bounds.specs.declared.answers.MoveRefused.{MoveRefused}
use Rattle.widen_bounds.specs.declared.climbing.Climb.{Climb}
use Rattle.widen_bounds.specs.declared.move_op.MoveStage.{MoveStage}
use Rattle.widen_bounds.specs.declared.move_op.MoveStage.TheVariants.{HalfLocated, Widening as IsWideningStage, Storing, Leaving}
use Rattle.widen_bounds.specs.declared.move_op.MoveOp.{MoveOp}
use Rattle.widen_bounds.specs.declared.widening.Widening.{Widening}
use Rattle.widen_bounds.specs.declared.widening.Widening.TheVariants.{First, Second, Ended}
use Rattle.widen_bounds.specs.Answers.{HasNotMoved, IsMoveAnswer, LabelSays}
use Rattle.widen_bounds.specs.stages.Widening.{HoldsStripe, IsMidMove, at_begin, HasClimbedTo, IsClimbing, HasClosed, IsWidening, IsBottom, IsBegun, widening_left, climb_label, widening_label, widening_says, WidensFor, IsWideningTurn}
use Rattle.widen_bounds.specs.stages.Storing.{where_widened, as_it_is_out, IsBoxing, StoresSideOf, StoresLastOf}
use Rattle.widen_bounds.specs.stages.Moving.{stripe_taken, IsUnheldIn, IsUnheld, IsHalfLocated, IsStoring, AtMove, IsBegunFor, IsMoving, HasMovedOr, stage_after, GoesOnBy, stage_label, answer_label, stage_left, takes_at, IsMoveTurn}
use Rattle.widen_bounds.specs.stages.MoveLater.{answer-later, unheld-more, half-more}
use Rattle.widen_bounds.proofs.BoxStores.{side-calling, boxing-on, last-step, last-made, last-calling, has-moved}
use Rattle.widen_bounds.proofs.Locations.{has-place, in-first, in-second, no-location}
use Rattle.widen_bounds.proofs.MoveTurns.{unlabelled, move-on}

-- ---- the locations are loaded

-- a word of the body may be loaded
pub may-load-first : (id : Id) (steps : List LockStep) (start view : View) → IsUnheld id steps start view → MayLoadBody view (LocA id.index) 0 0
may-load-first id steps start view at = under_stripe id.index Write refl at.1.stripe

pub may-load-second : (id : Id) (steps : List LockStep) (start view : View) → IsUnheld id steps start view → MayLoadBody view (LocB id.index) 0 0
may-load-second id steps start view at = under_stripe id.index Write refl at.1.stripe

pub first-loaded : (id : Id) (steps : List LockStep) (start view next : View) (first : ℕ) → Loaded view next (LocA id.index) first → IsUnheld id steps start view → IsHalfLocated id steps start next first
first-loaded id steps start view next first loaded at = (unheld-more id view next loaded.more steps start at, λ sound. loaded.word)

-- ---- where a move goes on from the locations

pub by-stage : (id : Id) (to : FixBox) (start view : View) (look : LookOp) (w : Widening) → GoesOnBy id to (stripe_taken start.config id) start view w → AtMove id to start view look w (stage_after w)
by-stage id to start view look (First climb later) goes = goes
by-stage id to start view look (Second climb) goes = goes
by-stage id to start view look Ended goes = goes

pub left-after : (look : LookOp) (w : Widening) → stage_left look w (stage_after w) ≡ 7 + widening_left w
left-after look (First climb later) = refl
left-after look (Second climb) = refl
left-after look Ended = refl

pub label-after : (w : Widening) → stage_label w (stage_after w) ≡ widening_label w
label-after (First climb later) = refl
label-after (Second climb) = refl
label-after Ended = refl

-- no lock is taken there
no-takes : (view next : View) (look : LookOp) (w : Widening) → LoadsNow view next (takes_at look (stage_after w))
no-takes view next look (First climb later) = tt
no-takes view next look (Second climb) = tt
no-takes view next look Ended = tt

-- a word that is 0 names no place
none-closed : (call : Call) (box : Sides) (at : ℕ) → at ≡ 0 → HasClosed call box at
none-closed call box at none n k below is = absurd (omega arith)

-- a way up that begins
begun-climbing : (call : Call) (box : Sides) (at : ℕ) (climb : Climb) → IsBottom at climb → IsClimbing call box 0 at climb
begun-climbing call box at climb bottom =
    let lowest = bottom.lowest in
    let untouched = bottom.untouched in
    record {
      node = climb.node;
      child = climb.child;
      begins = bottom.names;
      below = bottom.below;
      way = subst (λ (l : ℕ). HasClimbedTo call box climb.node climb.child l climb.node climb.child) (sym lowest) at_begin;
      low = omega arith;
      inside = bottom.below;
      sides = omega arith;
      widened = λ q less. absurd (omega arith);
      so_far = inl (sym untouched, lowest);
    }

module _ (id : Id) (steps : List LockStep) (start next : View) (now : IsCurrent next) (first second : ℕ)
    (is_first : KnowsFirst id first next) (is_second : KnowsSecond id second next) where
  at-first : known_word next (LocA id.index) ≡ first
  at-first = is_first (sound-now next now)

  -- a body that is out has none
  nowhere : IsUnheldIn id Out steps start next → (first ≡ 0) × (second ≡ 0)
  nowhere at =
      let none = no-location id next now at.knows at.calling.adds.number (worked-pass start next _ at.calling) at.stripe at.calling.doing in
      (sym at-first ∙ none.0, sym is_second ∙ none.1)

  -- location words fit
  fits-in : (phase : BodyPhase) → IsUnheldIn id phase steps start next → (first ≤ 2 ^ 34) × (second ≤ 2 ^ 34)
  fits-in In at = (subst (λ (n : ℕ). n ≤ 2 ^ 34) at-first (in-first id next now at.knows), subst (λ (n : ℕ). n ≤ 2 ^ 34) is_second (in-second id next now at.knows))
  fits-in Out at = let none = nowhere at in (subst (λ (n : ℕ). n ≤ 2 ^ 34) (sym none.0) (omega arith), subst (λ (n : ℕ). n ≤ 2 ^ 34) (sym none.1) (omega arith))
  fits-in Held at = absurd (at.free refl)

  pub located-fits : IsUnheld id steps start next → (first ≤ 2 ^ 34) × (second ≤ 2 ^ 34)
  located-fits at = fits-in at.0 at.1

  module _ (to : FixBox) where
    -- a body that is in the broad phase is to be widened for
    mid-move : HoldsStripe id steps start → IsUnheldIn id In steps start next → IsMidMove id to steps start next 0 first second
    mid-move holds at = record { stripe = holds; calling = at.calling; phase = at.knows; at_first = is_first; at_second = is_second; few = omega arith; no_box_word = λ some. absurd (omega arith) }

    begun-in : HoldsStripe id steps start → (w : Widening) → IsBegun first second w → IsUnheldIn id In steps start next → GoesOnBy id to steps start next w
    begun-in holds (First climb later) begun at = (
      record { known = 0; first = first; second = second; move = mid-move holds at; at = (begun.1, begun-climbing next.call (sides_of (words_of to)) first climb begun.0) },
      λ same. absurd cc,
    )
    begun-in holds (Second climb) begun at = (
      record {
        known = 0;
        first = first;
        second = second;
        move = mid-move holds at;
        at = (none-closed next.call (sides_of (words_of to)) first begun.0, inl begun.0, begun-climbing next.call (sides_of (words_of to)) second climb begun.1);
      },
      λ same. absurd cc,
    )
    begun-in holds Ended begun at = absurd (has-place id next now at.knows (at-first ∙ begun.0) (is_second ∙ begun.1))

    not-bottom : (word : ℕ) (climb : Climb) → IsBottom word climb → word ≢ 0
    not-bottom word climb bottom none = let names = bottom.names in absurd (omega arith)

    -- for one that is out nothing is widened
    begun-out : (w : Widening) → IsBegun first second w → IsUnheldIn id Out steps start next → GoesOnBy id to steps start next w
    begun-out (First climb later) begun at = absurd (not-bottom first climb begun.0 (nowhere at).0)
    begun-out (Second climb) begun at = absurd (not-bottom second climb begun.1 (nowhere at).1)
    begun-out Ended begun at = record {
      calling = subst (λ (t : Task). IsCalling start next steps t []) (sym at.calling.doing) at.calling;
      boxing = record { stripe = at.stripe; below = at.below; gets = as_it_is_out at.knows (inl at.calling.doing); stored = λ q less. absurd (omega arith) };
      few = omega arith;
    }

    begun-by : (phase : BodyPhase) → HoldsStripe id steps start → (w : Widening) → IsBegun first second w → IsUnheldIn id phase steps start next → GoesOnBy id to steps start next w
    begun-by In holds w begun at = begun-in holds w begun at
    begun-by Out holds w begun at = begun-out w begun at
    begun-by Held holds w begun at = absurd (at.free refl)

    pub goes-on-by : HoldsStripe id steps start → (w : Widening) → IsBegun first second w → IsUnheld id steps start next → GoesOnBy id to steps start next w
    goes-on-by holds w begun at = begun-by at.0 holds w begun at.1

    -- ---- the labels that are reached with that

    unmoved : IsUnheld id steps start next → HasNotMoved id start next
    unmoved at = record { adds = at.1.calling.adds; whole = λ between. subst (λ (t : Task). MovesBody t id.index) at.1.calling.doing between.0 }

    none-says : IsUnheld id steps start next → first ≡ 0 → (label : ℕ) → (label ≡ 0) ⊎ (second ≡ 0) → LabelSays id to start next label
    none-says at none zero which = record { unmoved = unmoved at; wide = λ n k below is. absurd (let same = at-first in omega arith) }
    none-says at none (suc more) which = record {
      unmoved = unmoved at;
      wide = λ n k a b known above. absurd (elim (which) [
        | inl low ↦ omega arith
        | inr none_second ↦ elim (known.1) [ inl e ↦ (let same = at-first in omega arith) | inr e ↦ (let same : known_word next (LocB id.index) ≡ second = is_second in omega arith) ]
      ]);
    }

    pub located-says : IsUnheld id steps start next → (w : Widening) → IsBegun first second w → SaysNew None (widening_label w) (LabelSays id to start next)
    located-says at (First climb later) begun = subst (λ (l : ℕ). SaysNew None (climb_label l climb.side) (LabelSays id to start next)) (sym begun.0.lowest) tt
    located-says at (Second climb) begun = λ label fresh below. none-says at begun.0 label (inl (omega arith))
    located-says at Ended begun = λ label fresh below. none-says at begun.0 label (inr begun.1)

-- ---- bounds are widened

-- with the last turn the box may be stored
widened-box : (id : Id) (to : FixBox) (steps : List LockStep) (start view : View) → id.index < view.config.bodies → IsWidening id to steps start view Ended → IsStoring id to steps start view 0
widened-box id to steps start view below w =
    let move = w.move in
    let six = w.at.2 in
    let calling = subst (λ (k : ℕ). IsMidMove id to steps start view k w.first w.second) six move in
    record {
      calling = subst (λ (t : Task). IsCalling start view steps t []) (sym calling.calling.doing) calling.calling;
      boxing = record {
        stripe = ap (λ (v : View). mode_of v.locks (stripe_of v.config id.index)) move.calling.left ∙ move.stripe;
        below = below;
        gets = where_widened w.first w.second move.phase calling.calling.doing move.at_first move.at_second w.at.0 w.at.1;
        stored = λ q less. absurd (omega arith);
      };
      few = omega arith;
    }

pub goes-on-after : (id : Id) (to : FixBox) (steps : List LockStep) (start view : View) (w : Widening) → id.index < view.config.bodies → IsWidening id to steps start view w → GoesOnBy id to steps start view w
goes-on-after id to steps start view (First climb later) below widens = (widens, λ same. absurd cc)
goes-on-after id to steps start view (Second climb) below widens = (widens, λ same. absurd cc)
goes-on-after id to steps start view Ended below widens = widened-box id to steps start view below widens

-- the body is not moved meanwhile
mid-unmoved : (id : Id) (to : FixBox) (steps : List LockStep) (start view : View) (known first second : ℕ) → IsMidMove id to steps start view known first second → HasNotMoved id start view
mid-unmoved id to steps start view known first second move = record {
  adds = move.calling.adds;
  whole = λ between. go known move between;
}
  where
    go : (k : ℕ) → IsMidMove id to steps start view k first second → ¬ IsBetweenBoxes view id.index
    go zero m between = subst (λ (t : Task). MovesBody t id.index) m.calling.doing between.0
    go (suc more) m between = let none = m.no_box_word (omega arith) in let some = between.1 in absurd cc

-- so the labels say what the widening says
pub label-as : (id : Id) (to : FixBox) (steps : List LockStep) (start view : View) (w : Widening) → IsWidening id to steps start view w → (label : ℕ) → widening_says id to view label → LabelSays id to start view label
label-as id to steps start view w widens zero says = record { unmoved = mid-unmoved id to steps start view _ _ _ widens.move; wide = says }
label-as id to steps start view w widens (suc more) says = record { unmoved = mid-unmoved id to steps start view _ _ _ widens.move; wide = says }

pub says-as : (before after : Option ℕ) (P Q : ℕ → Type 0) → ((label : ℕ) → P label → Q label) → SaysNew before after P → SaysNew before after Q
says-as before None P Q one says = tt
says-as before (Some last) P Q one says = λ label fresh below. one label (says label fresh below)

-- ---- the box is stored

pub stored-side : (id : Id) (to : FixBox) (steps : List LockStep) (start view next : View) (side : ℕ) → side < 5 → StoresSideOf id to side view next → IsStoring id to steps start view side
    → IsStoring id to steps start next (side + 1)
stored-side id to steps start view next side less stores at = record {
  calling = side-calling id to side view next at.boxing stores start steps at.calling;
  boxing = boxing-on id to side view next at.boxing stores;
  few = omega arith;
}

module _ (id : Id) (to : FixBox) (view next : View) (side : ℕ) (last : 5 ≤ side) (current : ∥ IsCurrent view ∥₁) (stores : StoresLastOf id to view next) where
  pub as-last : (steps : List LockStep) (start : View) → IsStoring id to steps start view side → IsStoring id to steps start view 5
  as-last steps start at = let few = at.few in let same : side ≡ 5 = omega arith in subst (IsStoring id to steps start view) same at

  pub stored-last : (start : View) (look : LookOp) (w : Widening) → IsStoring id to (stripe_taken start.config id) start view side → AtMove id to start next look w (Leaving (Ok tt))
  stored-last start look w at =
      let five = as-last (stripe_taken start.config id) start at in (
        Move id.index to ∷ [],
        last-calling id to view next five.boxing current stores start (stripe_taken start.config id) five.calling,
        has-moved id to view next five.boxing current stores start (stripe_taken start.config id) five.calling,
      )

-- so is the turn
pub last-turn : (before first : MoveOp) (start view next : View) (number side : ℕ) → IsMoving first start before view → IsPass view number → before.stage ≡ Storing side → 5 ≤ side → ∥ IsCurrent view ∥₁
    → StoresLastOf before.id before.to view next
    → IsMoveTurn More before (record before { stage = Leaving (Ok tt); made = Some (record { pass = number; entry = Move before.id.index before.to }) }) view next
last-turn before first start view next number side moving pass at last current stores =
    let here = subst (AtMove first.id first.to start view before.look before.widening) at moving.at in
    let own = subst (λ (i : Id). StoresLastOf i first.to view next) moving.id (subst (λ (t : FixBox). StoresLastOf before.id t view next) moving.to stores) in
    let five = as-last first.id first.to view next side last current own (stripe_taken start.config first.id) start here in
    let few = here.few in
    unlabelled More before (record before { stage = Leaving (Ok tt); made = Some (record { pass = number; entry = Move before.id.index before.to }) }) view next
    (record {
      step = last-step first.id first.to view next five.boxing current own;
      made =
          subst (λ (i : Id). MadeBy view next (Some (record { pass = number; entry = Move i.index before.to }))) (sym moving.id)
          (subst (λ (t : FixBox). MadeBy view next (Some (record { pass = number; entry = Move first.id.index t }))) (sym moving.to)
          (last-made first.id first.to view next five.boxing current own number pass));
      turned = inl (subst (λ (s : MoveStage). 1 < stage_left before.look before.widening s) (sym at) (omega arith));
      loads = tt;
      keeps = λ other begin goes.
          let there = subst (AtMove other.id other.to begin view before.look before.widening) at goes.at in
          let named = subst (λ (i : Id). StoresLastOf i other.to view next) goes.id (subst (λ (t : FixBox). StoresLastOf before.id t view next) goes.to stores) in
          record { id = goes.id; to = goes.to; begun = goes.begun; at = stored-last other.id other.to view next side last current named begin before.look before.widening there };
      answered = λ other begin goes. tt;
    }) (ap (stage_label before.widening) (sym at)) tt

-- ---- letting the stripe go

-- then no lock is held
none-held : (a lock : ℕ) → mode_of (TakenStep a Write ∷ Released a ∷ []) lock ≡ None
none-held a lock = go (eqb a lock)
  where
    go : (t : Bool) → cond {A = Option Mode} t None (cond t (Some Write) None) ≡ None
    go true = refl
    go false = refl

module _ (id : Id) (to : FixBox) (start view : View) (look : LookOp) (w : Widening) (answer : Result (Unit {0}) MoveRefused) (begun : IsBegunFor id start) (at : AtMove id to start view look w (Leaving answer)) where
  pub may-leave : MayLetGo view (stripe_of view.config id.index)
  may-leave = record { mode = Write; holds = held-by start view _ at.1 begun.rest (λ c. stripe_of c id.index) Write (one-taken (stripe_of start.config id.index) Write); done = at.1.doing }

  has_left : (first : MoveOp) → first.id ≡ id → first.to ≡ to → (next : View) (found : ℕ) → LetGo view (stripe_of start.config id.index) found next → HasMovedOr first start next answer
  has_left first same target next found go =
      let lock = stripe_of start.config id.index in
      let by = released-made view next lock found go at.1.adds.number (worked-pass start view _ at.1) in
      let done = worked-done start next _ (worked-released start view next _ at.1 lock found go refl) begun.rest refl (none-held lock) in
      record {
        ended = record { rest = done.rest; tells = done.tells; keeps = done-keeps start next _ done; lawful = released-lawful view next lock found go };
        spares = done.spares refl;
        answers =
            subst (λ (i : Id). IsMoveAnswer i first.to start next answer) (sym same)
            (subst (λ (t : FixBox). IsMoveAnswer id t start next answer) (sym target)
            (answer-later id to start view next answer (known-more MayRelease release view next (Lock lock) go.0 0 found go.1) (λ entries adds. adds-none start view next entries (worked-role start view _ at.1) adds by) at.2));
      }

-- an answer that is no refusal comes after the labels
answer-ends : (answer : Result (Unit {0}) MoveRefused) → IsRefusal answer ⊎ HasReached (answer_label answer) 1
answer-ends (Ok done) = inr (omega arith)
answer-ends (Err refused) = inl tt

-- so is the last turn
pub leave-turn : (before : MoveOp) (answer : Result (Unit {0}) MoveRefused) (view next : View) (number lock found : ℕ) → IsPass view number → before.stage ≡ Leaving answer
    → lock ≡ stripe_of view.config before.id.index → LetGo view lock found next → IsMoveTurn (Done answer) before (record before { made = None }) view next
leave-turn before answer view next number lock found pass at same go =
    unlabelled (Done answer) before (record before { made = None }) view next
    (record {
      step = released-step view next lock found go;
      made = released-made view next lock found go number pass;
      turned = tt;
      loads = tt;
      keeps = λ first start moving. tt;
      answered = λ first start moving.
          let there = subst (AtMove first.id first.to start view before.look before.widening) at moving.at in
          has_left first.id first.to start view before.look before.widening answer moving.begun there first refl refl next found
          (subst (λ (l : ℕ). LetGo view l found next) (same ∙ (λ i. stripe_of (worked-sizes start view _ there.1 i) (moving.id i).index)) go);
    }) refl (subst (λ (s : MoveStage). IsRefusal answer ⊎ HasReached (stage_label before.widening s) 1) (sym at) (answer-ends answer))

pub may-leave-stripe : (before : MoveOp) (answer : Result (Unit {0}) MoveRefused) (view : View) (lock : ℕ) → IsUnderWay IsMoving before view → before.stage ≡ Leaving answer
    → lock ≡ stripe_of view.config before.id.index → MayLetGo view lock
may-leave-stripe before answer view lock way at same =
    let there = subst (AtMove way.first.id way.first.to way.start view before.look before.widening) at way.goes.at in
    subst (MayLetGo view) (sym (same ∙ ap (λ (i : Id). stripe_of view.config i.index) way.goes.id)) (may-leave way.first.id way.first.to way.start view before.look before.widening answer way.goes.begun there)

-- ---- the same for a move that is under way

-- the second location is loaded
module _ (before : MoveOp) (view next : View) (first second : ℕ) (at : before.stage ≡ HalfLocated first) (loaded : Loaded view next (LocB before.id.index) second) where
  located : (op : MoveOp) (start : View) → IsMoving op start before view → IsHalfLocated op.id (stripe_taken start.config op.id) start next first × KnowsSecond op.id second next
  located op start moving =
      let here = subst (AtMove op.id op.to start view before.look before.widening) at moving.at in
      (half-more op.id view next loaded.more (stripe_taken start.config op.id) start first here, subst (λ (i : Id). KnowsSecond i second next) moving.id loaded.word)

  pub second-fits : IsUnderWay IsMoving before view → (first ≤ 2 ^ 34) × (second ≤ 2 ^ 34)
  second-fits way =
      let op = way.first in
      let there = located op way.start way.goes in
      located-fits op.id (stripe_taken way.start.config op.id) way.start next loaded.now first second there.0.1 there.1 there.0.0

  -- what a turn that does so leaves
  pub second-turn : (turn : Turn (Result (Unit {0}) MoveRefused)) (new : MoveOp) (w : Widening) → turn ≡ More → new ≡ record before { widening = w; stage = stage_after w; made = None } → IsBegun first second w
      → AtMostOneStep view next → MadeBy view next None → IsMoveTurn turn before new view next
  second-turn turn new w more is begun step made =
      move-on turn before new w (HalfLocated first) (stage_after w) view next more is at step made
      (subst (λ (n : ℕ). n < 149) (sym (left-after before.look w)) (begun-left w begun)) (no-takes view next before.look w)
      (λ label reached. absurd reached)
      (λ op start moving here.
      let there = located op start moving in
      subst (λ (o : Option ℕ). SaysNew None o (LabelSays op.id op.to start next)) (sym (label-after w))
      (located-says op.id (stripe_taken start.config op.id) start next loaded.now first second there.0.1 there.1 op.to there.0.0 w begun))
      (λ op start moving here.
      let there = located op start moving in
      by-stage op.id op.to start next before.look w
      (goes-on-by op.id (stripe_taken start.config op.id) start next loaded.now first second there.0.1 there.1 op.to
      (stripe-holds op.id start moving.begun.rest) w begun there.0.0))
    where
      begun-left : (w : Widening) → IsBegun first second w → 7 + widening_left w < 149
      begun-left (First climb later) b = omega arith
      begun-left (Second climb) b = omega arith
      begun-left Ended b = omega arith

      stripe-holds : (id : Id) (start : View) → IsAtRest start → HoldsStripe id (stripe_taken start.config id) start
      stripe-holds id start rest =
          fold-append (mode_after (stripe_of start.config id.index)) None start.locks (stripe_taken start.config id)
          ∙ (ap (λ (o : Option Mode). fold (mode_after (stripe_of start.config id.index)) o (stripe_taken start.config id)) (rest.free (stripe_of start.config id.index)) ∙ one-taken (stripe_of start.config id.index) Write)

-- bounds are widened
module _ (before : MoveOp) (view : View) (at : before.stage ≡ IsWideningStage) (index : ℕ) (named : before.id.index ≡ index) where
  widens : (op : MoveOp) (start : View) → IsMoving op start before view → IsWidening op.id op.to (stripe_taken start.config op.id) start view before.widening × (before.widening ≢ Ended)
  widens op start moving = subst (AtMove op.id op.to start view before.look before.widening) at moving.at

  same-index : (op : MoveOp) (start : View) → IsMoving op start before view → op.id.index ≡ index
  same-index op start moving = sym (ap (λ (i : Id). i.index) moving.id) ∙ named

  pub widens-for : IsUnderWay IsMoving before view → WidensFor index before.to before.widening view
  widens-for way = record {
    id = way.first.id;
    same = same-index way.first way.start way.goes;
    steps = stripe_taken way.start.config way.first.id;
    start = way.start;
    goes = subst (λ (t : FixBox). IsWidening way.first.id t (stripe_taken way.start.config way.first.id) way.start view before.widening) (sym way.goes.to) (widens way.first way.start way.goes).0;
  }

  pub not-ended : IsUnderWay IsMoving before view → before.widening ≢ Ended
  not-ended way = (widens way.first way.start way.goes).1

  -- what such a turn leaves
  pub widen-turn : (turn : Turn (Result (Unit {0}) MoveRefused)) (new : MoveOp) (w : Widening) (next : View) → turn ≡ More → new ≡ record before { widening = w; stage = stage_after w; made = None }
      → IsWideningTurn index before.to before.widening w view next → IsMoveTurn turn before new view next
  widen-turn turn new w next more is made =
      move-on turn before new w IsWideningStage (stage_after w) view next more is at made.step made.made
      (subst (λ (n : ℕ). n < 7 + widening_left before.widening) (sym (left-after before.look w)) (let fewer = made.fewer in omega arith)) (no-takes view next before.look w)
      (λ label reached. subst (λ (o : Option ℕ). HasReached o label) (sym (label-after w)) (made.labelled label reached))
      (λ op start moving here.
      let owed = subst (λ (t : FixBox). IsWideningTurn index t before.widening w view next) moving.to made in
      subst (λ (o : Option ℕ). SaysNew (widening_label before.widening) o (LabelSays op.id op.to start next)) (sym (label-after w))
      (says-as (widening_label before.widening) (widening_label w) (widening_says op.id op.to next) (LabelSays op.id op.to start next)
      (label-as op.id op.to (stripe_taken start.config op.id) start next w (keeps op start moving))
      (owed.says op.id (stripe_taken start.config op.id) start (same-index op start moving) (widens op start moving).0)))
      (λ op start moving here.
      let goes = keeps op start moving in
      by-stage op.id op.to start next before.look w
      (goes-on-after op.id op.to (stripe_taken start.config op.id) start next w
      (subst (λ (c : Config). op.id.index < c.bodies) (sym (worked-sizes start next _ goes.move.calling)) moving.begun.below) goes))
    where
      keeps : (op : MoveOp) (start : View) → IsMoving op start before view → IsWidening op.id op.to (stripe_taken start.config op.id) start next w
      keeps op start moving =
          (subst (λ (t : FixBox). IsWideningTurn index t before.widening w view next) moving.to made).keeps op.id (stripe_taken start.config op.id) start (same-index op start moving) (widens op start moving).0

-- a box is stored
pub boxing-of : (before : MoveOp) (view : View) (side : ℕ) → IsUnderWay IsMoving before view → before.stage ≡ Storing side → IsBoxing before.id before.to side view
boxing-of before view side way at =
    let here = subst (AtMove way.first.id way.first.to way.start view before.look before.widening) at way.goes.at in
    subst (λ (i : Id). IsBoxing i before.to side view) (sym way.goes.id) (subst (λ (t : FixBox). IsBoxing way.first.id t side view) (sym way.goes.to) here.boxing)

pub boxing-last : (before : MoveOp) (view : View) (side : ℕ) → IsUnderWay IsMoving before view → before.stage ≡ Storing side → 5 ≤ side → IsBoxing before.id before.to 5 view
boxing-last before view side way at last =
    let here = subst (AtMove way.first.id way.first.to way.start view before.look before.widening) at way.goes.at in
    let few = here.few in
    let same : side ≡ 5 = omega arith in
    subst (λ (n : ℕ). IsBoxing before.id before.to n view) same (boxing-of before view side way at)
