-- What others' steps between two turns of a look leave as it was.
use Rattle.std.specs.Prelude.{[]}
use Rattle.std.proofs.Common.{◌≡◌, ℕ, List, ◌∷◌, ◌++◌, append_assoc, Bool, Option, Some, None, cond, refl, ap, sym, ◌∙◌, subst}
use Rattle.std.proofs.lemmas.Bool.{eq-eqb}
use Rattle.std.proofs.lemmas.Option.{none-some}
use Rattle.body_ident.specs.Id.{Id}
use Rattle.word_map.specs.declared.config.Config.{Config}
use Rattle.word_map.specs.declared.name.Name.{Name}
use Rattle.word_map.specs.declared.name.Name.TheVariants.{Lock}
use Rattle.word_map.specs.Names.{stripe_of}
use Rattle.core_state.specs.declared.item.Item.{Item}
use Rattle.core_state.specs.declared.view.Mode.{Mode}
use Rattle.core_state.specs.declared.view.LockStep.{LockStep}
use Rattle.core_state.specs.declared.view.LockStep.TheVariants.{Taken}
use Rattle.core_state.specs.declared.view.Joined.{Joined}
use Rattle.core_state.specs.declared.view.Call.{Call}
use Rattle.core_state.specs.declared.view.View.{View}
use Rattle.core_state.specs.View.{number_of, Holds}
use Rattle.core_state.specs.Guards.{Owns, by_lock, by_creation, by_batch, by_mark, by_node, by_update, IsQuiet}
use Rattle.core_state.specs.Quietly.{KnowsQuietly}
use Rattle.core_state.proofs.Quiet.{append_cut, in_first, in_second}
use Rattle.pass_table.specs.declared.take_op.TakeOp.{TakeOp}
use Rattle.pass_table.specs.Knowing.{KnowsMore, alone-trans, more-alone}
use Rattle.pass_table.specs.Holding.{IsAtRest}
use Rattle.pass_table.specs.TakeTurns.{taking-later, more-quiet}
use Rattle.pass_table.specs.Work.{begun, HasWorked}
use Rattle.pass_table.specs.Bodies.{IsGuarded}
use Rattle.pass_table.proofs.WorkLater.{worked-role, worked-sizes, worked-pass, worked-mode, worked-more}
use Rattle.pass_table.proofs.TakingTurns.{taking-anew}
use Rattle.pass_table.proofs.LockedBodies.{guarding-more, layer-stays, phase-stays}
use Rattle.body_look.specs.declared.look_op.LookDepth.{LookDepth}
use Rattle.body_look.specs.declared.look_op.LookStage.{LookStage}
use Rattle.body_look.specs.declared.look_op.LookStage.TheVariants.{Taking, Striped, Live, Joining, Placed}
use Rattle.body_look.specs.declared.look_op.LookOp.{LookOp}
use Rattle.body_look.specs.stages.Looking.{HasOnly, HasStripe, Guards, AtLive, AtJoin, AtLook, IsLooking}

-- ---- what a pass had for itself before the call

-- a pass at rest has nothing by its locks or its task, so that it still has it when it takes a lock
module _ (start : View) (rest : IsAtRest start) (known : List Item) (joined : Option Joined) (locks : List LockStep) (call : Call) (c : Config) where
  abbrev there : View
  there = record start { known = known; joined = joined; locks = locks; call = call }

  holds-none : (lock : ℕ) (mode : Mode) → Holds start lock mode → ⊥
  holds-none lock mode holds = none-some mode (sym (rest.free lock) ∙ holds)

  still-owned : (name : Name) → Owns c start name → Owns c there name
  still-owned name (by_lock lock mode holds e) = absurd (holds-none lock mode holds)
  still-owned name (by_creation i e h) = absurd (let none = rest.done in cc)
  still-owned name (by_batch batch among e) = by_batch batch among e
  still-owned name (by_mark batch m among marked h) = by_mark batch m among marked h
  still-owned name (by_node n among e) = by_node n among e
  still-owned name (by_update h) = by_update h

  was-quiet : (first : List Item) (item : Item) → IsQuiet c there first item → IsQuiet c start first item
  was-quiet first item quiet = record {
    others = λ owns. quiet.others (still-owned item.name owns);
    body = λ i mode holds. absurd (holds-none _ mode holds);
    location = λ i mode holds. absurd (holds-none _ mode holds);
  }

-- what a call comes to know quietly, that a pass began at rest
quiet-on : (start view next : View) (steps : List LockStep) → IsAtRest start → HasWorked start view (record (begun start) { steps = steps }) → KnowsQuietly start view → KnowsQuietly view next → KnowsQuietly start next
quiet-on start view next steps rest worked one two = record {
  since = one.since ++ two.since;
  known = two.known ∙ (ap (λ (l : List Item). l ++ two.since) one.known ∙ append_assoc start.known one.since two.since);
  quiet = λ early later item parts.
      elim (append_cut one.since two.since early later item parts) [
        | in_first rest_of p ↦ one.quiet early rest_of item p
        | in_second front p q ↦
            let same : view.known ++ front ≡ start.known ++ early =
            ap (λ (l : List Item). l ++ front) one.known ∙ (append_assoc start.known one.since front ∙ ap (λ (l : List Item). start.known ++ l) (sym p))
            in
            was-quiet start rest view.known view.joined (start.locks ++ steps) view.call start.config (start.known ++ early) item
            (subst (λ (l : List Item). IsQuiet start.config (record start { known = view.known; joined = view.joined; locks = start.locks ++ steps; call = view.call }) l item) same
            (subst (λ (v : View). IsQuiet v.config v (view.known ++ front) item) worked.left (two.quiet front later item q)))
      ];
}

-- ---- locks

module _ (id : Id) (start view : View) (steps : List LockStep) (only : HasOnly id start steps view) where
  pub only-role : view.role ≡ start.role
  only-role = worked-role start view _ only.worked

  pub only-sizes : view.config ≡ start.config
  only-sizes = worked-sizes start view _ only.worked

  pub only-quiet : IsAtRest start → (next : View) → KnowsQuietly view next → KnowsQuietly start next
  only-quiet rest next quiet = quiet-on start view next steps rest only.worked only.quiet quiet

  -- others made steps, or the pass loaded a word
  pub only-more : IsAtRest start → (next : View) → KnowsMore view next → HasOnly id start steps next
  only-more rest next more =
      let lock = Lock (stripe_of start.config id.index) in
      record {
        worked = worked-more start view next _ only.worked more;
        alone = alone-trans start view next lock only-role only.alone (more-alone view next lock more);
        quiet = only-quiet rest next (more-quiet view next more);
      }

-- how each lock is held once the stripe is
pub stripe-mode : (id : Id) (mode : Mode) (start view : View) → IsAtRest start → HasStripe id mode start view → Holds view (stripe_of view.config id.index) mode
stripe-mode id mode start view rest stripe =
    let steps : List LockStep = Taken (stripe_of start.config id.index) mode ∷ [] in
    let held = stripe_of start.config id.index in
    subst (λ (c : Config). Holds view (stripe_of c id.index) mode) (sym (only-sizes id start view steps stripe))
    (worked-mode start view _ stripe.worked rest held ∙ ap (λ (t : Bool). cond {A = Option Mode} t (Some mode) None) (eq-eqb held held refl))

-- ---- stages

-- a guard stays one
pub guards-more : (id : Id) (mode : Mode) (view next : View) → KnowsMore view next → Guards id mode view → Guards id mode next
guards-more id mode view next more guards number pass = guarding-more number id mode view (guards number (sym (ap (λ (v : View). number_of v) more.rest) ∙ pass)) next more

-- and is one of some pass
pub is-guarded : (id : Id) (mode : Mode) (start view : View) → HasStripe id mode start view → Guards id mode view → IsGuarded id view
is-guarded id mode start view stripe guards =
    let number = stripe.worked.adds.number in
    (number, mode, guards number (worked-pass start view _ stripe.worked))

module _ (id : Id) (mode : Mode) (depth : LookDepth) (start : View) (rest : IsAtRest start) (view next : View) (more : KnowsMore view next) where
  pub stripe-more : HasStripe id mode start view → HasStripe id mode start next
  stripe-more stripe = only-more id start view (Taken (stripe_of start.config id.index) mode ∷ []) stripe rest next more

  pub live-more : AtLive id mode depth start view → AtLive id mode depth start next
  live-more at = record { stripe = stripe-more at.stripe; deep = at.deep; guards = guards-more id mode view next more at.guards }

  pub guarded : AtLive id mode depth start view → IsGuarded id view
  guarded at = is-guarded id mode start view at.stripe at.guards

  pub join-more : (slot : ℕ) → AtJoin id mode depth start slot view → AtJoin id mode depth start slot next
  join-more slot at = record { live = live-more at.live; joins = phase-stays id view next (guarded at.live) more ∙ at.joins; in_slots = at.in_slots }

  stage-more : (taking : TakeOp) (stage : LookStage) → AtLook id mode depth start taking stage view → AtLook id mode depth start taking stage next
  stage-more taking Taking at = record {
    only = only-more id start view [] at.only rest next more;
    goes = taking-anew _ view taking next (taking-later _ view taking view next more at.goes);
  }
  stage-more taking Striped at = stripe-more at
  stage-more taking Live at = live-more at
  stage-more taking (Joining slot) at = join-more slot at
  stage-more taking (Placed slot layer) at = (join-more slot at.0, layer-stays id view next (guarded at.0.live) more ∙ at.1, at.2)

-- ---- a look

pub looking-later : (first : LookOp) (start : View) (operation : LookOp) (view next : View) → KnowsMore view next → IsLooking first start operation view → IsLooking first start operation next
looking-later first start operation view next more looking = record {
  id = looking.id;
  mode = looking.mode;
  depth = looking.depth;
  below = looking.below;
  rest = looking.rest;
  stage = stage-more operation.id operation.mode operation.depth start looking.rest view next more operation.taking operation.stage looking.stage;
}
