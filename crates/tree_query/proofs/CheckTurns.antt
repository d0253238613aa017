-- The turns of the check of a candidate.
use Rattle.std.proofs.Common.{◌≡◌, ℕ, ◌<◌, List, [], ◌∷◌, Option, Some, None, length, eqb, refl, ap, sym, subst, arith}
use Rattle.fixed_box.specs.declared.shape.Shape.{Shape}
use Rattle.word_map.specs.declared.config.Config.{Config}
use Rattle.word_map.specs.declared.name.Name.{Name}
use Rattle.word_map.specs.Names.{stripe_of}
use Rattle.core_state.specs.declared.view.Mode.TheVariants.{Read}
use Rattle.core_state.specs.declared.view.LockStep.TheVariants.{Taken}
use Rattle.core_state.specs.declared.view.View.{View}
use Rattle.core_state.specs.View.{IsPass, Holds}
use Rattle.pass_table.specs.declared.take_op.TakeOp.{TakeOp}
use Rattle.pass_table.specs.declared.turn.Turn.{Turn}
use Rattle.pass_table.specs.declared.turn.Turn.TheVariants.{Done, More, Again}
use Rattle.pass_table.specs.Knowing.{KnowsMore}
use Rattle.pass_table.specs.Holding.{IsAtRest, MayLetGo, LetGo}
use Rattle.pass_table.specs.Turning.{AtMostOneStep, MadeBy, Turned, LoadsNow}
use Rattle.pass_table.specs.TakeTurns.{taking_of, IsTaking, HasTaken, turns_left}
use Rattle.pass_table.specs.Bodies.{Loaded}
use Rattle.pass_table.proofs.Between.{more-refl, more-trans}
use Rattle.core_state.specs.Log.{IsPrefix}
use Rattle.pass_table.specs.Work.{HasWorked, begun as begun_work}
use Rattle.tree_query.specs.Checking.{check_steps}
use Rattle.tree_query.proofs.OneCheck.{none-held, checked-within}
use Rattle.pass_table.proofs.Calling.{some-left, released-step, released-made}
use Rattle.pass_table.proofs.Stages.{Staged, went-on, take-more, take-again}
use Rattle.pass_table.proofs.TakingTurns.{taking-anew}
use Rattle.pass_table.proofs.Working.{worked-begun, worked-taken, worked-waited, worked-released, worked-done}
use Rattle.pass_table.proofs.WorkLater.{worked-sizes, worked-more, held-by, one-taken}
use Rattle.tree_query.specs.declared.check_op.CheckStage.{CheckStage}
use Rattle.tree_query.specs.declared.check_op.CheckStage.TheVariants.{Taking, Striped, Leaving}
use Rattle.tree_query.specs.declared.check_op.Check.{Check}
use Rattle.tree_query.specs.stages.CandidateCheck.{HasTakenStripe, HasStripe, KnowsAt, AtCheck, IsBegunFor, IsInCheck, IsBegunSo, HasChecked, stage_left, takes_at, IsCheckTurn}
use Rattle.tree_query.specs.stages.CheckLater.{stripe-later}

-- ---- begun

pub check-begun : (shape : Shape) (mask index : ℕ) (words : List ℕ) (view next : View) (taking : TakeOp) (lock number : ℕ) → lock ≡ stripe_of view.config index → IsPass view number → index < view.config.bodies
    → IsAtRest view → length words ≡ 6 → next ≡ view → IsTaking (taking_of lock Read) view taking next
    → IsInCheck shape mask (record { index = index; stage = Taking taking; words = words }) view (record { index = index; stage = Taking taking; words = words }) next
check-begun shape mask index words view next taking lock number same pass below rest six still goes = (
  refl,
  record { below = below; rest = rest },
  six,
  subst (AtCheck shape mask index view words (Taking taking)) (sym still) (record {
    worked = worked-begun view number pass rest;
    goes = subst (λ (l : ℕ). IsTaking (taking_of l Read) view taking view) same (subst (IsTaking (taking_of lock Read) view taking) still goes);
  }),
)

-- ---- stages

-- a check goes from stage to stage
abbrev pub check_stages : Shape → ℕ → Staged (Option ℕ) Check (List ℕ × CheckStage)
check_stages shape mask = record {
  under_way = IsInCheck shape mask;
  answers = HasChecked shape mask;
  made = λ operation. None;
  stage = λ operation. (operation.words, operation.stage);
  left = λ at. stage_left at.1;
  takes = λ at. takes_at at.1;
  at = λ first start view at. (length at.0 ≡ 6) × AtCheck shape mask first.index start at.0 at.1 view;
  to = λ operation after. record operation { words = after.0; stage = after.1 };
  reached = λ operation after. refl;
  unmade = λ operation after. refl;
  holds = λ first start operation view way. (way.2, way.3);
  goes = λ first start operation after view next way at. (way.0, way.1, at.0, at.1);
}

-- what is known at a stage, of an operation that is at it
pub at-stage : (before : Check) (stage : CheckStage) (view : View) → before.stage ≡ stage → IsBegunSo before view
    → (shape : Shape) × (mask : ℕ) × (start : View) × IsBegunFor before.index start × (length before.words ≡ 6) × AtCheck shape mask before.index start before.words stage view
at-stage before stage view at so =
    let way = so.2 in
    let goes = way.goes in (
      so.0,
      so.1,
      way.start,
      subst (λ (i : ℕ). IsBegunFor i way.start) (sym goes.0) goes.1,
      goes.2,
      subst (λ (i : ℕ). AtCheck so.0 so.1 i way.start before.words stage view) (sym goes.0)
          (subst (λ (s : CheckStage). AtCheck so.0 so.1 way.first.index way.start before.words s view) at goes.3),
    )

module _ (shape : Shape) (mask : ℕ) (before new : Check) (stage after : CheckStage) (words : List ℕ) (view next : View) (is : new ≡ record before { words = words; stage = after }) (at : before.stage ≡ stage)
    (step : AtMostOneStep view next) (made : MadeBy view next None) (loads : LoadsNow view next (takes_at after))
    (keeps : (start : View) → IsBegunFor before.index start → length before.words ≡ 6 → AtCheck shape mask before.index start before.words stage view
    → (length words ≡ 6) × AtCheck shape mask before.index start words after next) where
  -- what holds goes on to hold, for the index with which it was begun
  pub keeps-at : (first : Check) (start : View) → IsInCheck shape mask first start before view → (length before.words ≡ 6) × AtCheck shape mask first.index start before.words stage view
      → (length words ≡ 6) × AtCheck shape mask first.index start words after next
  keeps-at first start way now =
      subst (λ (i : ℕ). (length words ≡ 6) × AtCheck shape mask i start words after next) way.0
      (keeps start (subst (λ (i : ℕ). IsBegunFor i start) (sym way.0) way.1) now.0 (subst (λ (i : ℕ). AtCheck shape mask i start before.words stage view) (sym way.0) now.1))

  -- a turn after which it is at another stage
  pub check-on : (turn : Turn (Option ℕ)) → turn ≡ More → stage_left after < stage_left stage → IsCheckTurn shape mask turn before new view next
  check-on turn more less =
      went-on (check_stages shape mask) turn before new (before.words, stage) (words, after) view next more is (λ i. (before.words, at i)) step made less loads keeps-at

-- ---- the stripe

module _ (shape : Shape) (mask : ℕ) (before new : Check) (taking : TakeOp) (view next : View) (at : before.stage ≡ Taking taking) (step : AtMostOneStep view next) (made : MadeBy view next None) where
  -- it was taken
  pub stripe-taken : (turn : Turn (Option ℕ)) → turn ≡ More → new ≡ record before { stage = Striped } → ((first : TakeOp) (start : View) → IsTaking first start taking view → HasTaken first start next)
      → IsCheckTurn shape mask turn before new view next
  stripe-taken turn more is taken =
      check-on shape mask before new (Taking taking) Striped before.words view next is at step made tt
      (λ start begun six now.
      let lock : ℕ = stripe_of start.config before.index in
      let is_taken : HasTaken (taking_of lock Read) view next = taken (taking_of lock Read) view now.goes in (
        six,
        record {
          mid = next;
          taken = worked-taken start view next _ now.worked lock Read is_taken made;
          more = more-refl next (ap (λ (v : View). v.joined) is_taken.left.rest);
          knows = tt;
        },
      )) turn more (let some = some-left taking in omega arith)

  -- or not yet
  module _ (after : TakeOp) (is : new ≡ record before { stage = Taking after }) (loads : LoadsNow view next (Some after))
      (keeps : (first : TakeOp) (start : View) → IsTaking first start taking view → IsTaking first start after next) where
    tried : (start : View) → IsBegunFor before.index start → length before.words ≡ 6 → AtCheck shape mask before.index start before.words (Taking taking) view
        → (length before.words ≡ 6) × AtCheck shape mask before.index start before.words (Taking after) next
    tried start begun six now =
        let goes = keeps (taking_of (stripe_of start.config before.index) Read) view now.goes in (
          six,
          record { worked = worked-waited start view next _ now.worked (stripe_of start.config before.index) goes.waited made goes.alone; goes = taking-anew _ view after next goes },
        )

    on : (first : Check) (start : View) → IsInCheck shape mask first start before view → (length before.words ≡ 6) × AtCheck shape mask first.index start before.words (Taking taking) view
        → (length before.words ≡ 6) × AtCheck shape mask first.index start before.words (Taking after) next
    on = keeps-at shape mask before new (Taking taking) (Taking after) before.words view next is at step made loads tried

    pub stripe-more : (turn : Turn (Option ℕ)) → turn ≡ More → Turned {T = Unit {0}} More view next (Some taking) (turns_left taking) (turns_left after) → IsCheckTurn shape mask turn before new view next
    stripe-more =
        take-more (check_stages shape mask) (λ t. (before.words, Taking t)) 11 (λ t. refl) (λ t. refl) before new taking after view next is (λ i. (before.words, at i)) step made loads on

    pub stripe-again : (lock found : ℕ) → Turned {T = Unit {0}} (Again lock found) view next (Some taking) (turns_left taking) (turns_left after) → IsCheckTurn shape mask (Again lock found) before new view next
    stripe-again =
        take-again (check_stages shape mask) (λ t. (before.words, Taking t)) 11 (λ t. refl) (λ t. refl) before new taking after view next is (λ i. (before.words, at i)) step made loads on

-- ---- once it is held

module _ (index : ℕ) (start mid view : View) (begun : IsBegunFor index start) (taken : HasTakenStripe index start mid) (more : KnowsMore mid view) where
  pub held-worked : HasTakenStripe index start view
  held-worked = worked-more start mid view _ taken more

  pub held-sizes : view.config ≡ start.config
  held-sizes = worked-sizes start view _ held-worked

  pub held-stripe : Holds view (stripe_of view.config index) Read
  held-stripe = held-by start view _ held-worked begun.rest (λ c. stripe_of c index) Read (one-taken (stripe_of start.config index) Read)

  pub held-below : index < view.config.bodies
  held-below = subst (λ (c : Config). index < c.bodies) (sym held-sizes) begun.below

-- what a load asks at a stage where the stripe is held
module _ (before : Check) (stage : CheckStage) (view : View) (at : before.stage ≡ stage) (so : IsBegunSo before view)
    (held : (shape : Shape) (mask : ℕ) (start : View) → AtCheck shape mask before.index start before.words stage view → HasStripe before.index start view (λ mid. KnowsAt shape mask before.index start before.words stage mid view)) where
  abbrev pub now-at : (shape : Shape) × (mask : ℕ) × (start : View) × IsBegunFor before.index start × (length before.words ≡ 6) × AtCheck shape mask before.index start before.words stage view
  now-at = at-stage before stage view at so

  abbrev pub now-held : HasStripe before.index now-at.2 view (λ mid. KnowsAt now-at.0 now-at.1 before.index now-at.2 before.words stage mid view)
  now-held = held now-at.0 now-at.1 now-at.2 now-at.5

  pub load-stripe : Holds view (stripe_of view.config before.index) Read
  load-stripe = held-stripe before.index now-at.2 now-held.mid view now-at.3 now-held.taken now-held.more

  pub load-below : (c : Config) → view.config ≡ c → before.index < c.bodies
  load-below c sizes = subst (λ (s : Config). before.index < s.bodies) sizes (held-below before.index now-at.2 now-held.mid view now-at.3 now-held.taken now-held.more)

  pub load-sizes : view.config ≡ now-at.2.config
  load-sizes = held-sizes before.index now-at.2 now-held.mid view now-at.3 now-held.taken now-held.more

-- a load under the stripe, after which this is known
pub load-on : (shape : Shape) (mask : ℕ) (before new : Check) (stage after : CheckStage) (words : List ℕ) (view next : View) (name : Name) (value : ℕ) → new ≡ record before { words = words; stage = after }
    → before.stage ≡ stage → AtMostOneStep view next → MadeBy view next None → Loaded view next name value → LoadsNow view next (takes_at after) → (turn : Turn (Option ℕ)) → turn ≡ More
    → stage_left after < stage_left stage
    → ((start : View) → AtCheck shape mask before.index start before.words stage view → HasStripe before.index start view (λ mid. KnowsAt shape mask before.index start before.words stage mid view))
    → ((start : View) → HasStripe before.index start next (λ mid. KnowsAt shape mask before.index start words after mid next) → AtCheck shape mask before.index start words after next)
    → (length before.words ≡ 6 → length words ≡ 6)
    → ((start mid : View) → IsBegunFor before.index start → HasTakenStripe before.index start next → next.config ≡ start.config → KnowsMore mid next → length before.words ≡ 6
    → KnowsAt shape mask before.index start before.words stage mid view → KnowsAt shape mask before.index start words after mid next)
    → IsCheckTurn shape mask turn before new view next
load-on shape mask before new stage after words view next name value is at step made loaded loads turn more less held back six on =
    check-on shape mask before new stage after words view next is at step made loads
    (λ start begun all now. (
      six all,
      back start
          (stripe-later before.index start view next _ _ loaded.more
          (λ mid taken early knows.
          let later = more-trans mid view next early loaded.more in
          on start mid begun (held-worked before.index start mid next begun taken later) (held-sizes before.index start mid next begun taken later) later all knows) (held start now)),
    )) turn more less

-- ---- letting it go

module _ (shape : Shape) (mask index : ℕ) (start view : View) (begun : IsBegunFor index start) (answer : Option ℕ) (at : AtCheck shape mask index start [] (Leaving answer) view) where
  leaving_worked : HasTakenStripe index start view
  leaving_worked = held-worked index start at.mid view begun at.taken at.more

  leaving_lock : stripe_of view.config index ≡ stripe_of start.config index
  leaving_lock = ap (λ (c : Config). stripe_of c index) (held-sizes index start at.mid view begun at.taken at.more)

  left : (next : View) (found : ℕ) → LetGo view (stripe_of start.config index) found next → HasWorked start next (record (begun_work start) { steps = check_steps start.config index })
  left next found go = worked-released start view next (record (begun_work start) { steps = Taken (stripe_of start.config index) Read ∷ [] }) leaving_worked (stripe_of start.config index) found go refl

  pub check-ended : (first : Check) (next : View) (found : ℕ) → first.index ≡ index → IsPrefix view.known next.known → LetGo view (stripe_of view.config index) found next → HasChecked shape mask first start next answer
  check-ended first next found is later go =
      let worked = left next found (subst (λ (l : ℕ). LetGo view l found next) leaving_lock go) in
      subst (λ (i : ℕ). HasChecked shape mask (record first { index = i }) start next answer) (sym is) (record {
        done = worked-done start next (record (begun_work start) { steps = check_steps start.config index }) worked begun.rest refl (λ other. none-held (eqb (stripe_of start.config index) other));
        locks = ap (λ (v : View). v.locks) worked.left;
        checked = checked-within shape mask index start at.mid view next (worked-sizes start at.mid _ at.taken) (at.taken.adds.since, at.taken.adds.known) later answer at.knows;
      })

pub leave-turn : (shape : Shape) (mask : ℕ) (before : Check) (answer : Option ℕ) (view next : View) (number lock found : ℕ) → IsPass view number → before.stage ≡ Leaving answer
    → lock ≡ stripe_of view.config before.index → IsPrefix view.known next.known → LetGo view lock found next → IsCheckTurn shape mask (Done answer) before before view next
leave-turn shape mask before answer view next number lock found pass at same later go = record {
  step = released-step view next lock found go;
  made = released-made view next lock found go number pass;
  turned = tt;
  loads = tt;
  keeps = λ first start way. tt;
  answered = λ first start way.
      check-ended shape mask before.index start view (subst (λ (i : ℕ). IsBegunFor i start) (sym way.0) way.1) answer
      (subst (λ (i : ℕ). AtCheck shape mask i start [] (Leaving answer) view) (sym way.0) (subst (λ (s : CheckStage). AtCheck shape mask first.index start before.words s view) at way.3))
      first next found (sym way.0) later (subst (λ (l : ℕ). LetGo view l found next) same go);
}

pub may-leave : (before : Check) (answer : Option ℕ) (view : View) (lock : ℕ) → before.stage ≡ Leaving answer → IsBegunSo before view → lock ≡ stripe_of view.config before.index → MayLetGo view lock
may-leave before answer view lock at so same = subst (MayLetGo view) (sym same) (record {
  mode = Read;
  holds = load-stripe before (Leaving answer) view at so (λ shape mask start at. at);
  done =
      let now = at-stage before (Leaving answer) view at so in
      (held-worked before.index now.2 now.5.mid view now.3 now.5.taken now.5.more).doing;
})
