-- What the parts of a move under a guard ask, and what they leave.
use Rattle.std.specs.Prelude.{◌^◌}
use Rattle.std.proofs.Common.{◌≡◌, ◌≢◌, ℕ, ◌<◌, ◌≤◌, List, [], Some, None, refl, ap, sym, ◌∙◌, subst}
use Rattle.std.proofs.lemmas.List.{append-nil}
use Rattle.fixed_box.specs.declared.fix_box.FixBox.{FixBox}
use Rattle.body_ident.specs.Id.{Id}
use Rattle.scene_model.specs.declared.body_view.Phase.{Phase as BodyPhase}
use Rattle.scene_model.specs.declared.body_view.Phase.TheVariants.{Held}
use Rattle.word_map.specs.declared.config.Config.{Config}
use Rattle.word_map.specs.declared.name.Name.TheVariants.{LocA, LocB}
use Rattle.word_map.specs.Names.{stripe_of}
use Rattle.core_state.specs.declared.view.Mode.TheVariants.{Write}
use Rattle.core_state.specs.declared.view.LockStep.{LockStep}
use Rattle.core_state.specs.declared.view.Task.TheVariants.{Nothing}
use Rattle.core_state.specs.declared.view.View.{View}
use Rattle.core_state.specs.View.{mode_of, number_in}
use Rattle.pass_table.specs.Knowing.{KnowsMore}
use Rattle.pass_table.specs.Belongings.{belongings_of}
use Rattle.pass_table.specs.Bodies.{IsCurrent, Loaded, IsGuarded, IsAlone}
use Rattle.pass_table.specs.Work.{IsCalling}
use Rattle.pass_table.proofs.Calling.{Adds-refl, point-now}
use Rattle.pass_table.proofs.LockedBodies.{told-body, guarding-more}
use Rattle.pass_table.proofs.WorkLater.{worked-role, worked-sizes, worked-more, worked-keeps}
use Rattle.pass_table.proofs.Working.{tells-refl, spares-refl}
use Rattle.body_look.specs.declared.body_found.BodyFound.{BodyFound}
use Rattle.body_look.specs.Found.{phase_found, IsFound, IsHeldAt}
use Rattle.body_look.proofs.Answering.{phase-told}
use Rattle.widen_bounds.specs.declared.widening.Widening.{Widening}
use Rattle.widen_bounds.specs.declared.widening.Widening.TheVariants.{First, Second, Ended}
use Rattle.widen_bounds.specs.Answers.{WasHeld}
use Rattle.widen_bounds.specs.stages.Widening.{HoldsStripe, IsBegun, IsWidening, WidensFor, HasWidenedOn}
use Rattle.widen_bounds.specs.stages.Storing.{IsBoxing, StoresLastOf}
use Rattle.widen_bounds.specs.stages.Moving.{IsUnheld, IsHalfLocated, IsStoring, GoesOnBy}
use Rattle.widen_bounds.specs.stages.Guarded.{HoldsOrFree, MayMove, HasLocated, HasGiven, HasStoredBox, MovesFree}
use Rattle.widen_bounds.specs.stages.MoveLater.{half-more}
use Rattle.widen_bounds.proofs.BoxStores.{last-calling, has-moved, last-live}
use Rattle.widen_bounds.proofs.MoveSteps.{first-loaded, located-fits, goes-on-by, goes-on-after}

-- ---- whether a batch holds the body

-- it does not
pub free-at : (id : Id) (view : View) (found : BodyFound) (phase : BodyPhase) → phase ≢ Held → phase_found found ≡ Some phase → IsGuarded id view → IsFound id view found → HoldsOrFree id view None
free-at id view found phase free same guarded at =
    let told = phase-told id view found phase same at in
    (phase, record { free = free; knows = record { live = guarded.2.state; body = λ sound. told-body id view told.0 (λ r. r.phase ≡ phase) told.1 } })

-- ---- the locations

module _ (id : Id) (view mid next : View) (first second : ℕ) (one : Loaded view mid (LocA id.index) first) (two : Loaded mid next (LocB id.index) second) where
  half : (steps : List LockStep) (start : View) → IsUnheld id steps start view → IsHalfLocated id steps start next first
  half steps start at = half-more id mid next two.more steps start first (first-loaded id steps start view mid first one at)

  pub locate-fits : MayMove id view → (first ≤ 2 ^ 34) × (second ≤ 2 ^ 34)
  locate-fits may = let there = half may.steps may.start may.unheld in located-fits id may.steps may.start next two.now first second there.1 two.word there.0

  pub has-located : (w : Widening) → IsBegun first second w → HasLocated id w view next
  has-located w begun to steps start holds at = let there = half steps start at in goes-on-by id steps start next two.now first second there.1 two.word to holds w begun there.0

-- ---- all bounds are widened

pub widens-or-not : (id : Id) (to : FixBox) (steps : List LockStep) (start view : View) (index : ℕ) → id.index ≡ index → (w : Widening) → GoesOnBy id to steps start view w → w ≢ Ended → WidensFor index to w view
widens-or-not id to steps start view index named (First climb later) goes unended = record { id = id; same = named; steps = steps; start = start; goes = goes.0 }
widens-or-not id to steps start view index named (Second climb) goes unended = record { id = id; same = named; steps = steps; start = start; goes = goes.0 }
widens-or-not id to steps start view index named Ended goes unended = absurd (unended refl)

module _ (id : Id) (to : FixBox) (steps : List LockStep) (start view next : View) (index : ℕ) (named : id.index ≡ index) (below : id.index < start.config.bodies) where
  ended : IsWidening id to steps start next Ended → IsStoring id to steps start next 0
  ended at = goes-on-after id to steps start next Ended (subst (λ (c : Config). id.index < c.bodies) (sym (worked-sizes start next _ at.move.calling)) below) at

  pub all-widened : (w : Widening) → HasWidenedOn index to w Ended view next → GoesOnBy id to steps start view w → IsStoring id to steps start next 0
  all-widened (First climb later) on goes = ended (on.keeps id steps start named goes.0)
  all-widened (Second climb) on goes = ended (on.keeps id steps start named goes.0)
  all-widened Ended on goes = subst (λ (v : View). IsStoring id to steps start v 0) (sym (on.idle refl).1) goes

-- ---- the box

pub box-stored : (id : Id) (to : FixBox) (view mid next : View) → ∥ IsCurrent mid ∥₁ → ((steps : List LockStep) (start : View) → IsStoring id to steps start view 0 → IsStoring id to steps start mid 5) → StoresLastOf id to mid next
    → HasStoredBox id to view next
box-stored id to view mid next current five stores steps start at =
    let there = five steps start at in
    record {
      calling = last-calling id to mid next there.boxing current stores start steps there.calling;
      moved = has-moved id to mid next there.boxing current stores start steps there.calling;
      live = last-live id to mid next there.boxing current stores;
    }

-- ---- the guard

module _ (number : ℕ) (id : Id) (view : View) (alone : IsAlone number id Write view) where
  -- a call that has done nothing
  calling-here : IsCalling view view [] Nothing []
  calling-here = record {
    adds = Adds-refl view number alone.guarding.pass;
    tells = tells-refl view number alone.guarding.pass;
    spares = λ none. spares-refl view;
    doing = alone.guarding.done;
    left = λ i. record view { locks = sym (append-nil view.locks) i };
  }

  pub holds-here : HoldsStripe id [] view
  holds-here = ap (λ (l : List LockStep). mode_of l (stripe_of view.config id.index)) (append-nil view.locks) ∙ alone.guarding.stripe

  module _ (next : View) (more : KnowsMore view next) where
    pub calling-more : IsCalling view next [] Nothing []
    calling-more = worked-more view view next _ calling-here more

    -- it may move the body
    unheld-here : HoldsOrFree id next None → IsUnheld id [] view next
    unheld-here (phase, free) =
        let guarding = guarding-more number id Write view alone.guarding next more in
        (phase, record { calling = calling-more; stripe = guarding.stripe; below = guarding.below; free = free.free; knows = free.knows })

    pub may-move : HoldsOrFree id next None → MayMove id next
    may-move free = record { steps = []; start = view; holds = holds-here; unheld = unheld-here free }

    -- or is refused
    pub was-held : (slot : ℕ) → HoldsOrFree id next (Some slot) → WasHeld id view next (record { slot = slot })
    was-held slot held = record {
      adds = calling-more.adds;
      at =
          point-now view next [] (IsHeldAt view.config id slot) calling-more.adds
          (subst (λ (c : Config). IsHeldAt c id slot next.known) (ap (λ (v : View). v.config) more.rest) held);
    }

    -- and has moved it
    pub given-here : (to : FixBox) (last : View) → HoldsOrFree id next None → MovesFree id to next last → HasGiven id to [] view last
    given-here to last free moves = moves [] view holds-here (unheld-here free)

  -- after the move the guard is good
  pub good-after : (to : FixBox) (next : View) → HasGiven id to [] view next → IsAlone number id Write next
  good-after to next given =
      let calling = given.calling in
      let sizes = worked-sizes view next _ calling in
      let locks : (lock : ℕ) → mode_of next.locks lock ≡ mode_of view.locks lock =
      λ lock. ap (λ (v : View). mode_of v.locks lock) calling.left ∙ ap (λ (l : List LockStep). mode_of l lock) (append-nil view.locks) in
      record {
        guarding = record {
          pass = ap number_in (worked-role view next _ calling) ∙ alone.guarding.pass;
          stripe = locks (stripe_of next.config id.index) ∙ (ap (λ (c : Config). mode_of view.locks (stripe_of c id.index)) sizes ∙ alone.guarding.stripe);
          below = subst (λ (c : Config). id.index < c.bodies) (sym sizes) alone.guarding.below;
          state = given.live;
          done = calling.doing;
        };
        only = λ lock other. locks lock ∙ alone.only lock (λ same. other (same ∙ ap (λ (c : Config). stripe_of c id.index) (sym sizes)));
        still = ap (λ (v : View). v.walk.is_on) calling.left ∙ alone.still;
      }

  pub keeps-after : (to : FixBox) (next : View) → HasGiven id to [] view next → belongings_of next ≡ belongings_of view
  keeps-after to next given = worked-keeps view next _ given.calling

-- ---- a body that no batch holds is moved

module _ (id : Id) (to : FixBox) (index : ℕ) (named : id.index ≡ index) (view next : View) (w : Widening) (located : HasLocated id w view next) where
  pub asks-widen : MayMove id view → w ≢ Ended → WidensFor index to w next
  asks-widen may unended = widens-or-not id to may.steps may.start next index named w (located to may.steps may.start may.holds may.unheld) unended

  module _ (last : View) (widened : HasWidenedOn index to w Ended next last) where
    storing : (steps : List LockStep) (start : View) → HoldsStripe id steps start → IsUnheld id steps start view → IsStoring id to steps start last 0
    storing steps start holds at =
        all-widened id to steps start next last index named (subst (λ (c : Config). id.index < c.bodies) (worked-sizes start view _ at.1.calling) at.1.below) w widened (located to steps start holds at)

    pub asks-box : MayMove id view → IsBoxing id to 0 last
    asks-box may = (storing may.steps may.start may.holds may.unheld).boxing

    pub moves-free : (end : View) → HasStoredBox id to last end → MovesFree id to view end
    moves-free end stored steps start holds at = stored steps start (storing steps start holds at)
