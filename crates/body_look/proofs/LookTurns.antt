-- The turns of a look at a body.
use Rattle.std.proofs.Common.{◌≡◌, ◌≢◌, inl, ℕ, ◌<◌, ◌≤◌, [], ◌∷◌, Some, None, refl, sym, ◌∙◌, subst, arith}
use Rattle.body_ident.specs.Id.{Id}
use Rattle.word_map.specs.declared.config.Config.{Config}
use Rattle.word_map.specs.declared.name.Name.{Name}
use Rattle.word_map.specs.declared.name.Name.TheVariants.{Lock, State, Phase, Layer, Slot}
use Rattle.word_map.specs.Names.{stripe_of}
use Rattle.core_state.specs.declared.view.Mode.{Mode}
use Rattle.core_state.specs.declared.view.LockStep.TheVariants.{Taken}
use Rattle.core_state.specs.declared.view.View.{View}
use Rattle.core_state.specs.View.{IsPass}
use Rattle.core_state.specs.Encoding.{phase_join}
use Rattle.core_state.specs.Lives.{MayLoadBody, load_body, under_stripe}
use Rattle.core_state.proofs.Quiet.{KnowsQuietly-refl}
use Rattle.pass_table.specs.declared.take_op.TakeOp.{TakeOp}
use Rattle.pass_table.specs.declared.turn.Turn.{Turn}
use Rattle.pass_table.specs.declared.turn.Turn.TheVariants.{Done, More, Again}
use Rattle.pass_table.specs.Stepping.{Stepped}
use Rattle.pass_table.specs.Knowing.{alone-refl, alone-trans}
use Rattle.pass_table.specs.Holding.{IsAtRest}
use Rattle.pass_table.specs.Turning.{IsUnderWay, AtMostOneStep, MadeBy, Turned, LoadsNow}
use Rattle.pass_table.specs.TakeTurns.{taking_of, IsTaking, HasTaken, turns_left}
use Rattle.pass_table.specs.Bodies.{IsGuarded, Loaded, live_state, KnowsLive}
use Rattle.pass_table.proofs.Bodies.{loaded-body, body-load-step, body-load-made, gone-now}
use Rattle.pass_table.proofs.Calling.{some-left, turned-more, turned-again}
use Rattle.pass_table.proofs.Working.{worked-begun, worked-taken, worked-waited}
use Rattle.pass_table.proofs.TakingTurns.{taking-anew}
use Rattle.pass_table.proofs.Between.{more-refl}
use Rattle.pass_table.proofs.LockedBodies.{guarded-tells, layer-below}
use Rattle.body_look.specs.declared.body_found.BodyFound.{BodyFound}
use Rattle.body_look.specs.declared.body_found.BodyFound.TheVariants.{Gone, Live as FoundLive, Out, In, Held, Joined}
use Rattle.body_look.specs.declared.look_op.LookDepth.{LookDepth}
use Rattle.body_look.specs.declared.look_op.LookDepth.TheVariants.{Life, Phase as ItsPhase}
use Rattle.body_look.specs.declared.look_op.LookStage.{LookStage}
use Rattle.body_look.specs.declared.look_op.LookStage.TheVariants.{Taking, Striped, Live, Joining, Placed}
use Rattle.body_look.specs.declared.look_op.LookOp.{LookOp}
use Rattle.body_look.specs.Found.{IsAsked, IsFound}
use Rattle.body_look.specs.stages.Looking.{loads_of, left_at, look_left, HasStripe, Guards, AtLive, AtLook, IsLooking, GuardsFound, HasLooked, takes_at, IsLookTurn}
use Rattle.body_look.specs.stages.LookLater.{only-role, only-sizes, only-quiet, only-more, stripe-mode, is-guarded, live-more, join-more, guarded}
use Rattle.body_look.proofs.Finding.{finds-out, finds-in, names-slot, finds-held, finds-joined}

-- ---- turns by stages

-- a turn at a stage that made no entry
module _ (before : LookOp) (stage : LookStage) (view next : View) (at : before.stage ≡ stage) (step : AtMostOneStep view next) (made : MadeBy view next None) where
  -- what holds at the stage
  pub now-at : (first : LookOp) (start : View) → IsLooking first start before view → AtLook before.id before.mode before.depth start before.taking stage view
  now-at first start looking = subst (λ (s : LookStage). AtLook before.id before.mode before.depth start before.taking s view) at looking.stage

  -- it goes on to another one
  module _ (taken : TakeOp) (after : LookStage) (loads : LoadsNow view next (takes_at taken after))
      (keeps : (start : View) → IsAtRest start → before.id.index < start.config.bodies → AtLook before.id before.mode before.depth start before.taking stage view → AtLook before.id before.mode before.depth start taken after next) where
    abbrev then : LookOp
    then = record before { taking = taken; stage = after }

    goes_on : (first : LookOp) (start : View) → IsLooking first start before view → IsLooking first start then next
    goes_on first start looking = record {
      id = looking.id;
      mode = looking.mode;
      depth = looking.depth;
      below = looking.below;
      rest = looking.rest;
      stage = keeps start looking.rest looking.below (now-at first start looking);
    }

    pub goes-more : Turned {T = BodyFound} More view next (takes_at before.taking stage) (left_at before.depth before.taking stage) (look_left then) → IsLookTurn More before then view next
    goes-more turned = record {
      step = step;
      made = made;
      turned = subst (λ (s : LookStage). Turned {T = BodyFound} More view next (takes_at before.taking s) (left_at before.depth before.taking s) (look_left then)) (sym at) turned;
      loads = loads;
      keeps = goes_on;
      answered = λ first start looking. tt;
    }

    pub goes-again : (lock word : ℕ) → Turned {T = BodyFound} (Again lock word) view next (takes_at before.taking stage) (left_at before.depth before.taking stage) (look_left then)
        → IsLookTurn (Again lock word) before then view next
    goes-again lock word turned = record {
      step = step;
      made = made;
      turned = subst (λ (s : LookStage). Turned {T = BodyFound} (Again lock word) view next (takes_at before.taking s) (left_at before.depth before.taking s) (look_left then)) (sym at) turned;
      loads = loads;
      keeps = goes_on;
      answered = λ first start looking. tt;
    }

  -- or it is done
  pub answers : (found : BodyFound) → ((start : View) → IsAtRest start → before.id.index < start.config.bodies → AtLook before.id before.mode before.depth start before.taking stage view → HasLooked before.id before.mode before.depth start next found)
      → IsLookTurn (Done found) before before view next
  answers found tells = record {
    step = step;
    made = made;
    turned = tt;
    loads = tt;
    keeps = λ first start looking. tt;
    answered = λ first start looking.
        subst (λ (d : LookDepth). HasLooked first.id first.mode d start next found) looking.depth
        (subst (λ (m : Mode). HasLooked first.id m before.depth start next found) looking.mode
        (subst (λ (i : Id). HasLooked i before.mode before.depth start next found) looking.id (tells start looking.rest looking.below (now-at first start looking))));
  }

-- ---- the stripe

-- a look that is begun
pub looking-begun : (id : Id) (mode : Mode) (depth : LookDepth) (view next : View) (taking : TakeOp) (lock number : ℕ) → lock ≡ stripe_of view.config id.index → IsPass view number → id.index < view.config.bodies
    → IsAtRest view → next ≡ view → IsTaking (taking_of lock mode) view taking next
    → IsLooking (record { id = id; mode = mode; depth = depth; taking = taking; stage = Taking }) view (record { id = id; mode = mode; depth = depth; taking = taking; stage = Taking }) next
looking-begun id mode depth view next taking lock number same pass below rest still goes =
    subst (λ (v : View). IsLooking op view op v) (sym still) (record {
      id = refl;
      mode = refl;
      depth = refl;
      below = below;
      rest = rest;
      stage = record {
        only = record { worked = worked-begun view number pass rest; alone = alone-refl view (Lock (stripe_of view.config id.index)); quiet = KnowsQuietly-refl view };
        goes = subst (λ (l : ℕ). IsTaking (taking_of l mode) view taking view) same (subst (IsTaking (taking_of lock mode) view taking) still goes);
      };
    })
  where
    op : LookOp
    op = record { id = id; mode = mode; depth = depth; taking = taking; stage = Taking }

module _ (id : Id) (mode : Mode) (depth : LookDepth) (start view next : View) (rest : IsAtRest start) (taking : TakeOp) (made : MadeBy view next None) (at : AtLook id mode depth start taking Taking view) where
  -- it was taken
  pub stripe-taken : HasTaken (taking_of (stripe_of start.config id.index) mode) view next → HasStripe id mode start next
  stripe-taken taken = record {
    worked = worked-taken start view next _ at.only.worked (stripe_of start.config id.index) mode taken made;
    alone = alone-trans start view next (Lock (stripe_of start.config id.index)) (only-role id start view [] at.only) at.only.alone taken.alone;
    quiet = only-quiet id start view [] at.only rest next taken.quiet;
  }

  -- or not yet
  pub stripe-tried : (after : TakeOp) → IsTaking (taking_of (stripe_of start.config id.index) mode) view after next → AtLook id mode depth start after Taking next
  stripe-tried after goes = record {
    only = record {
      worked = worked-waited start view next _ at.only.worked (stripe_of start.config id.index) goes.waited made goes.alone;
      alone = alone-trans start view next (Lock (stripe_of start.config id.index)) (only-role id start view [] at.only) at.only.alone goes.alone;
      quiet = only-quiet id start view [] at.only rest next goes.quiet;
    };
    goes = taking-anew _ view after next goes;
  }

-- a turn of taking it
module _ (before : LookOp) (view next : View) (after : TakeOp) (at : before.stage ≡ Taking) (step : AtMostOneStep view next) (made : MadeBy view next None) where
  pub take-done : ((first : TakeOp) (start : View) → IsTaking first start before.taking view → HasTaken first start next) → IsLookTurn More before (record before { taking = after; stage = Striped }) view next
  take-done taken =
      goes-more before Taking view next at step made after Striped tt
      (λ start rest below now. stripe-taken before.id before.mode before.depth start view next rest before.taking made now (taken (taking_of (stripe_of start.config before.id.index) before.mode) view now.goes))
      (inl (let some = some-left before.taking in omega arith))

  module _ (loads : LoadsNow view next (Some after)) (keeps : (first : TakeOp) (start : View) → IsTaking first start before.taking view → IsTaking first start after next) where
    tried : (start : View) → IsAtRest start → before.id.index < start.config.bodies → AtLook before.id before.mode before.depth start before.taking Taking view → AtLook before.id before.mode before.depth start after Taking next
    tried start rest below now = stripe-tried before.id before.mode before.depth start view next rest before.taking made now after (keeps (taking_of (stripe_of start.config before.id.index) before.mode) view now.goes)

    -- it stays at this stage
    stays : (turn : Turn BodyFound) → IsLookTurn turn before (record before { taking = after; stage = Taking }) view next → IsLookTurn turn before (record before { taking = after }) view next
    stays turn is = subst (λ (s : LookStage). IsLookTurn turn before (record before { taking = after; stage = s }) view next) (sym at) is

    pub take-more : Turned {T = Unit {0}} More view next (Some before.taking) (turns_left before.taking) (turns_left after) → IsLookTurn More before (record before { taking = after }) view next
    take-more turned =
        stays More
        (goes-more before Taking view next at step made after Taking loads tried
        (turned-more (Unit {0}) BodyFound (loads_of before.depth) view next (Some before.taking) (turns_left before.taking) (turns_left after) turned))

    pub take-again : (lock word : ℕ) → Turned {T = Unit {0}} (Again lock word) view next (Some before.taking) (turns_left before.taking) (turns_left after)
        → IsLookTurn (Again lock word) before (record before { taking = after }) view next
    take-again lock word turned =
        stays (Again lock word)
        (goes-again before Taking view next at step made after Taking loads tried lock word
        (turned-again (Unit {0}) BodyFound (loads_of before.depth) view next (Some before.taking) (turns_left before.taking) (turns_left after) lock word turned))

-- ---- the state word

-- it may be loaded
pub state-asks : (before : LookOp) (view : View) (index : ℕ) → before.stage ≡ Striped → index ≡ before.id.index → IsUnderWay IsLooking before view → MayLoadBody view (State index) 0 0
state-asks before view index at names way =
    let looking = way.goes in
    under_stripe before.id.index before.mode names
    (stripe-mode before.id before.mode way.start view looking.rest (subst (λ (s : LookStage). AtLook before.id before.mode before.depth way.start before.taking s view) at looking.stage))

-- who holds the stripe and knows the body as live guards it
pub guards-live : (id : Id) (mode : Mode) (start view : View) → IsAtRest start → id.index < start.config.bodies → HasStripe id mode start view → KnowsLive id view → Guards id mode view
guards-live id mode start view rest below stripe live number pass = record {
  pass = pass;
  stripe = stripe-mode id mode start view rest stripe;
  below = subst (λ (c : Config). id.index < c.bodies) (sym (only-sizes id start view (Taken (stripe_of start.config id.index) mode ∷ []) stripe)) below;
  state = live;
  done = stripe.worked.doing;
}

module _ (before : LookOp) (view next : View) (index state : ℕ) (at : before.stage ≡ Striped) (names : index ≡ before.id.index) (stepped : Stepped MayLoadBody load_body view (State index) 0 0 state next) where
  abbrev id : Id
  id = before.id

  loaded : Loaded view next (State id.index) state
  loaded = subst (λ (i : ℕ). Loaded view next (State i) state) names (loaded-body view next (State index) state stepped)

  stripe_then : (start : View) → IsAtRest start → HasStripe id before.mode start view → HasStripe id before.mode start next
  stripe_then start rest stripe = only-more id start view (Taken (stripe_of start.config id.index) before.mode ∷ []) stripe rest next loaded.more

  -- the body is gone
  pub state-gone : state ≢ live_state id.seq → IsLookTurn (Done (Gone state)) before before view next
  state-gone other =
      answers before Striped view next at (body-load-step view next (State index) state stepped) (body-load-made view next (State index) state stepped) (Gone state)
      (λ start rest below stripe.
      let held = stripe_then start rest stripe in
      let sizes = only-sizes id start next (Taken (stripe_of start.config id.index) before.mode ∷ []) held in
      record {
        stripe = held;
        guards = tt;
        now = loaded.now;
        asked = tt;
        is = gone-now next loaded.now id (subst (λ (c : Config). id.index < c.bodies) (sym sizes) below) state loaded.word other;
      })

  module _ (live : state ≡ live_state id.seq) where
    guards_then : (start : View) → IsAtRest start → id.index < start.config.bodies → HasStripe id before.mode start view → Guards id before.mode next
    guards_then start rest below stripe = guards-live id before.mode start next rest below (stripe_then start rest stripe) (loaded.word ∙ live)

    -- it is live, and no more is asked for
    pub state-lives : before.depth ≡ Life → IsLookTurn (Done FoundLive) before before view next
    state-lives so =
        answers before Striped view next at (body-load-step view next (State index) state stepped) (body-load-made view next (State index) state stepped) FoundLive
        (λ start rest below stripe.
        let held = stripe_then start rest stripe in
        let guards = guards_then start rest below stripe in
        record {
          stripe = held;
          guards = guards;
          now = loaded.now;
          asked = subst (λ (d : LookDepth). IsAsked d FoundLive) (sym so) tt;
          is = guarded-tells id next (is-guarded id before.mode start next held guards) loaded.now;
        })

    -- or its phase is
    pub state-goes : before.depth ≡ ItsPhase → IsLookTurn More before (record before { stage = Live }) view next
    state-goes so =
        goes-more before Striped view next at (body-load-step view next (State index) state stepped) (body-load-made view next (State index) state stepped) before.taking Live tt
        (λ start rest below stripe. record { stripe = stripe_then start rest stripe; deep = so; guards = guards_then start rest below stripe })
        (inl (subst (λ (d : LookDepth). 3 < left_at d before.taking Striped) (sym so) (omega arith)))

-- ---- a word of the body, or of the slot

-- the body of a look is guarded once it is known as live
pub live-guarded : (before : LookOp) (stage : LookStage) (view : View) → before.stage ≡ stage → IsUnderWay IsLooking before view
    → ((start : View) → AtLook before.id before.mode before.depth start before.taking stage view → AtLive before.id before.mode before.depth start view) → IsGuarded before.id view
live-guarded before stage view at way live =
    let now = live way.start (subst (λ (s : LookStage). AtLook before.id before.mode before.depth way.start before.taking s view) at way.goes.stage) in
    is-guarded before.id before.mode way.start view now.stripe now.guards

-- a phase was asked for, and this is the answer
tells-phase : (depth : LookDepth) (found : BodyFound) → depth ≡ ItsPhase → IsAsked ItsPhase found → IsAsked depth found
tells-phase depth found deep asked = subst (λ (d : LookDepth). IsAsked d found) (sym deep) asked

-- what is answered at a load under the guard
module _ (id : Id) (mode : Mode) (depth : LookDepth) (start view next : View) (name : Name) (value : ℕ) (rest : IsAtRest start) (live : AtLive id mode depth start view) (loaded : Loaded view next name value) where
  lives : AtLive id mode depth start next
  lives = live-more id mode depth start rest view next loaded.more live

  guards-next : IsGuarded id next
  guards-next = guarded id mode depth start rest next next (more-refl next loaded.now.alone) lives

  sizes-next : next.config ≡ start.config
  sizes-next = only-sizes id start next (Taken (stripe_of start.config id.index) mode ∷ []) lives.stripe

  found-so : (found : BodyFound) → GuardsFound id mode next found → IsAsked ItsPhase found → IsFound id next found → HasLooked id mode depth start next found
  found-so found guards asked is = record { stripe = lives.stripe; guards = guards; now = loaded.now; asked = tells-phase depth found lives.deep asked; is = is }

-- the phase word
module _ (before : LookOp) (view next : View) (word : ℕ) (at : before.stage ≡ Live) (step : AtMostOneStep view next) (made : MadeBy view next None) (loaded : Loaded view next (Phase before.id.index) word) where
  pub phase-out : 0 ≡ word → IsLookTurn (Done Out) before before view next
  phase-out says =
      answers before Live view next at step made Out
      (λ start rest below live.
      let so = guards-next before.id before.mode before.depth start view next (Phase before.id.index) word rest live loaded in
      found-so before.id before.mode before.depth start view next (Phase before.id.index) word rest live loaded Out
      (lives before.id before.mode before.depth start view next (Phase before.id.index) word rest live loaded).guards tt (finds-out before.id next so loaded.now (loaded.word ∙ sym says)))

  pub phase-in : 1 ≡ word → IsLookTurn (Done In) before before view next
  phase-in says =
      answers before Live view next at step made In
      (λ start rest below live.
      let so = guards-next before.id before.mode before.depth start view next (Phase before.id.index) word rest live loaded in
      found-so before.id before.mode before.depth start view next (Phase before.id.index) word rest live loaded In
      (lives before.id before.mode before.depth start view next (Phase before.id.index) word rest live loaded).guards tt (finds-in before.id next so loaded.now (loaded.word ∙ sym says)))

  pub phase-joins : (slot : ℕ) → phase_join slot ≡ word → IsLookTurn More before (record before { stage = Joining slot }) view next
  phase-joins slot says =
      goes-more before Live view next at step made before.taking (Joining slot) tt
      (λ start rest below live.
      let so = guards-next before.id before.mode before.depth start view next (Phase before.id.index) word rest live loaded in
      record {
        live = lives before.id before.mode before.depth start view next (Phase before.id.index) word rest live loaded;
        joins = loaded.word ∙ sym says;
        in_slots =
            subst (λ (c : Config). slot < c.slots) (sizes-next before.id before.mode before.depth start view next (Phase before.id.index) word rest live loaded)
            (names-slot before.id next so loaded.now slot (loaded.word ∙ sym says));
      })
      (inl (omega arith))

-- the layer
pub layer-placed : (before : LookOp) (view next : View) (slot layer : ℕ) → before.stage ≡ Joining slot → AtMostOneStep view next → MadeBy view next None → Loaded view next (Layer before.id.index) layer
    → IsLookTurn More before (record before { stage = Placed slot layer }) view next
layer-placed before view next slot layer at step made loaded =
    goes-more before (Joining slot) view next at step made before.taking (Placed slot layer) tt
    (λ start rest below now.
    let so = guards-next before.id before.mode before.depth start view next (Layer before.id.index) layer rest now.live loaded in (
      join-more before.id before.mode before.depth start rest view next loaded.more slot now,
      loaded.word,
      subst (λ (c : Config). layer < c.layers) (sizes-next before.id before.mode before.depth start view next (Layer before.id.index) layer rest now.live loaded)
          (layer-below before.id next so loaded.now layer loaded.word),
    ))
    (inl (omega arith))

-- the slot that may be loaded is one of the world's
pub slot-named : (before : LookOp) (view : View) (slot layer : ℕ) → before.stage ≡ Placed slot layer → IsUnderWay IsLooking before view → (layer < view.config.layers) × (slot < view.config.slots)
slot-named before view slot layer at way =
    let now = subst (λ (s : LookStage). AtLook before.id before.mode before.depth way.start before.taking s view) at way.goes.stage in
    subst (λ (c : Config). (layer < c.layers) × (slot < c.slots)) (sym (only-sizes before.id way.start view (Taken (stripe_of way.start.config before.id.index) before.mode ∷ []) now.0.live.stripe)) (now.2, now.0.in_slots)

-- the slot
module _ (before : LookOp) (view next : View) (slot layer word : ℕ) (at : before.stage ≡ Placed slot layer) (step : AtMostOneStep view next) (made : MadeBy view next None) (loaded : Loaded view next (Slot layer slot) word) where
  before_it : (start : View) → IsAtRest start → AtLook before.id before.mode before.depth start before.taking (Placed slot layer) view → IsGuarded before.id view
  before_it start rest now = guarded before.id before.mode before.depth start rest view next loaded.more now.0.live

  pub slot-held : word < 1024 → IsLookTurn (Done (Held layer slot word)) before before view next
  slot-held low =
      answers before (Placed slot layer) view next at step made (Held layer slot word)
      (λ start rest below now.
      found-so before.id before.mode before.depth start view next (Slot layer slot) word rest now.0.live loaded (Held layer slot word)
      (lives before.id before.mode before.depth start view next (Slot layer slot) word rest now.0.live loaded).guards tt
      (finds-held before.id view next layer slot word (before_it start rest now) now.0.joins now.1 loaded low))

  pub slot-joined : 1024 ≤ word → IsLookTurn (Done (Joined layer slot word)) before before view next
  slot-joined high =
      answers before (Placed slot layer) view next at step made (Joined layer slot word)
      (λ start rest below now.
      found-so before.id before.mode before.depth start view next (Slot layer slot) word rest now.0.live loaded (Joined layer slot word)
      (lives before.id before.mode before.depth start view next (Slot layer slot) word rest now.0.live loaded).guards tt
      (finds-joined before.id view next layer slot word (before_it start rest now) now.0.joins now.1 loaded high))
