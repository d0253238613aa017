-- How locking several bodies begins, and how their state words are read.
use Rattle.std.proofs.Common.{◌≡◌, ℕ, ◌+◌, ◌-◌, ◌<◌, ◌≤◌, List, [], ◌∷◌, ◌++◌, length, get_or, take, true, refl, ap, sym, ◌∙◌, subst, arith}
use Rattle.std.specs.Prelude.{All, Contains}
use Rattle.std.proofs.lemmas.Bool.{false≢true}
use Rattle.std.proofs.lemmas.Option.{same_Some}
use Rattle.std.proofs.lemmas.List.{append-nil, take_more, take_all, length-map, map-append, get_or-map, length-append}
use Rattle.std.proofs.lemmas.List.Elements.{All-push, All-get_or, All-weaker, Contains-get_or}
use Rattle.body_ident.specs.Id.{Id}
use Rattle.word_map.specs.declared.config.Config.{Config}
use Rattle.word_map.specs.declared.name.Name.TheVariants.{State}
use Rattle.word_map.specs.Limits.{IsConfig}
use Rattle.word_map.proofs.Stripes.{stripes-range}
use Rattle.std.proofs.Math.Nat.{mod-lt}
use Rattle.word_map.specs.Names.{stripe_of}
use Rattle.core_state.specs.declared.view.Mode.{Mode}
use Rattle.core_state.specs.declared.view.LockStep.{LockStep}
use Rattle.core_state.specs.declared.view.Task.TheVariants.{Nothing}
use Rattle.core_state.specs.declared.view.View.{View}
use Rattle.core_state.specs.View.{Holds, IsPass, number_of, mode_of}
use Rattle.core_state.specs.Lives.{MayLoadBody, under_stripe, load_body}
use Rattle.pass_table.specs.declared.take_op.TakeOp.{TakeOp}
use Rattle.pass_table.specs.TakeTurns.{taking_of, IsTaking}
use Rattle.pass_table.specs.Stepping.{Stepped}
use Rattle.pass_table.specs.Holding.{IsAtRest}
use Rattle.pass_table.specs.Knowing.{KnowsMore}
use Rattle.body_lock.specs.declared.multi_guard.MultiEntry.{MultiEntry}
use Rattle.body_lock.specs.declared.multi_guard.MultiEntry.TheVariants.{Reached, Gone}
use Rattle.body_lock.specs.declared.multi_guard.LockedBody.{LockedBody}
use Rattle.body_lock.specs.declared.multi_op.Wanted.{Wanted}
use Rattle.body_lock.specs.declared.multi_op.MultiStage.{MultiStage}
use Rattle.body_lock.specs.declared.multi_op.MultiStage.TheVariants.{Taking, Held}
use Rattle.body_lock.specs.declared.multi_op.LockMultiOp.{LockMultiOp}
use Rattle.body_lock.specs.declared.stripe_set.StripeSet.{StripeSet}
use Rattle.arrayvec.specs.ArrayVec.{ArrayVec}
use Rattle.pass_table.specs.Bodies.{IsGuarding, Loaded, IsGoneAt}
use Rattle.pass_table.proofs.Bodies.{loaded-body, gone-now}
use Rattle.pass_table.proofs.WorkLater.{worked-sizes, worked-more}
use Rattle.pass_table.proofs.Working.{worked-begun}
use Rattle.pass_table.specs.Work.{IsCalling}
use Rattle.body_lock.specs.Stripes.{has_stripe, IsNext, HasNone, AreStripesOf, HoldsAll}
use Rattle.body_lock.specs.Multi.{IsReachGood, IsEntryGood}
use Rattle.body_lock.specs.Settled.{IsEntrySettled}
use Rattle.body_lock.specs.Answers.{wanted_ids, body_ids, IsEntryRight, IsReachRight, takes_below, HeldSince, HasMultiLock}
use Rattle.body_lock.specs.stages.LockingAll.{turns_of, multi_left, taken_to, ReadsStates, IsAtMulti, IsLockingAll, SaysEntry, MayLoadState, ReadsEntry, entries-later, held-later}
use Rattle.body_lock.proofs.Guards.{holds-more}
use Rattle.body_lock.proofs.TakingAll.{takes-none}
use Rattle.body_lock.proofs.Settling.{entry-settled}

-- ---- the beginning

-- of some ids there is a first stripe
pub some-stripe : (c : Config) (ids : List Id) (bits : ℕ) → AreStripesOf c ids bits → 0 < length ids → HasNone bits 0 → ⊥
some-stripe c [] bits are some none = absurd (omega arith)
some-stripe c (id ∷ ids) bits are some none =
    let stripe = stripe_of c id.index in
    false≢true (sym (none stripe (omega arith)) ∙ are.all id (0, omega arith, refl))

-- the stripes of ids are stripes of the world
pub stripes-within : (c : Config) (ids : List Id) (bits : ℕ) → IsConfig c → AreStripesOf c ids bits → (stripe : ℕ) → has_stripe bits stripe ≡ true → stripe < c.stripes
stripes-within c ids bits limits are stripe has =
    let from = are.only stripe has in
    let range = stripes-range c.stripes limits.stripes in
    subst (λ (n : ℕ). n < c.stripes) from.2 (mod-lt from.0.index {m = c.stripes} (omega arith))

-- what is asked of the ids is so of the bodies that are wanted
pub wanted-below : (bodies : ℕ) (wanted : List Wanted) (ids : List Id) → wanted_ids wanted ≡ ids → All (λ i. i.index < bodies) ids → All (λ w. w.id.index < bodies) wanted
wanted-below bodies wanted ids same below k w within =
    let all : All (λ i. i.index < bodies) (wanted_ids wanted) = subst (λ (l : List Id). All (λ i. i.index < bodies) l) (sym same) below in
    let lengths : length (wanted_ids wanted) ≡ length wanted = length-map wanted (λ (v : Wanted). v.id) in
    subst (λ (i : Id). i.index < bodies) (get_or-map (λ (v : Wanted). v.id) wanted k w w.id within) (All-get_or (λ i. i.index < bodies) (wanted_ids wanted) k w.id (omega arith) all)

pub all-begun : (wanted : ArrayVec Wanted) (mode : Mode) (stripes : StripeSet) (bodies : ArrayVec LockedBody) (ids : List Id) (view next : View) (stripe number : ℕ) (taking : TakeOp)
    → IsPass view number → IsAtRest view → next ≡ view → wanted_ids wanted.items ≡ ids → 0 < length ids → length ids ≤ 64 → All (λ i. i.index < view.config.bodies) ids → AreStripesOf view.config ids stripes.bits
    → ((s : ℕ) → has_stripe stripes.bits s ≡ true → s < view.config.stripes) → bodies.items ≡ [] → IsNext stripes.bits 0 stripe → IsTaking (taking_of stripe mode) view taking next
    → let operation : LockMultiOp = record { wanted = wanted; mode = mode; stripes = stripes; stage = Taking stripe taking; bodies = bodies } in IsLockingAll operation view operation next
all-begun wanted mode stripes bodies ids view next stripe number taking pass rest still same some few below are within none first goes =
    let operation : LockMultiOp = record { wanted = wanted; mode = mode; stripes = stripes; stage = Taking stripe taking; bodies = bodies } in
    let lengths : length wanted.items ≡ length ids = sym (length-map wanted.items (λ (v : Wanted). v.id)) ∙ ap length same in
    subst (IsLockingAll operation view operation) (sym still)
    (record {
      wanted = refl;
      mode = refl;
      stripes = refl;
      begun = record {
        some = omega arith;
        few = omega arith;
        below = wanted-below view.config.bodies wanted.items ids same below;
        stripes = subst (λ (l : List Id). AreStripesOf view.config l stripes.bits) (sym same) are;
        within = within;
        rest = rest;
      };
      number = number;
      pass = pass;
      calling = subst (λ (l : List LockStep). IsCalling view view l Nothing []) (sym (takes-none stripes.bits stripe mode first)) (worked-begun view number pass rest);
      stage = record {
        goes = subst (IsTaking (taking_of stripe mode) view taking) still goes;
        has = first.has;
        low = first.below;
        holds = record { held = λ lock low own. absurd (false≢true (sym (first.first lock (omega arith) low) ∙ own)); later = λ lock above. rest.free lock; others = λ lock own. rest.free lock };
        none = none;
      };
    })

-- ---- one state word

pub entry-asks : (id : Id) (view : View) (index : ℕ) → index ≡ id.index → MayLoadState id view → MayLoadBody view (State index) 0 0
entry-asks id view index same may = subst (λ (i : ℕ). MayLoadBody view (State i) 0 0) (sym same) (under_stripe id.index may.mode refl may.stripe)

pub entry-reads : (id wanted : Id) (view next : View) (index state : ℕ) (entry : MultiEntry) → id ≡ wanted → index ≡ id.index → Stepped MayLoadBody load_body view (State index) 0 0 state next
    → SaysEntry id.seq state entry → ReadsEntry wanted view next (record { id = id; entry = entry })
entry-reads id wanted view next index state entry same names step says = record {
  names = same;
  state = state;
  loaded = subst (λ (i : ℕ). Loaded view next (State i) state) (names ∙ ap (λ (i : Id). i.index) same) (loaded-body view next (State index) state step);
  says = subst (λ (i : Id). SaysEntry i.seq state entry) same says;
}

-- ---- the states of all

-- one body less is to be looked at
pub read-less : (operation : LockMultiOp) (bodies : List LockedBody) → operation.stage ≡ Held → (body : LockedBody) → bodies ≡ operation.bodies.items ++ body ∷ [] → length bodies < length operation.wanted.items
    → turns_of (length operation.wanted.items) (length bodies) operation.stage < multi_left operation
read-less operation bodies stage body is left =
    let before : multi_left operation ≡ length operation.wanted.items - length operation.bodies.items = ap (turns_of (length operation.wanted.items) (length operation.bodies.items)) stage in
    let after : turns_of (length operation.wanted.items) (length bodies) operation.stage ≡ length operation.wanted.items - length bodies = ap (turns_of (length operation.wanted.items) (length bodies)) stage in
    let count : length bodies ≡ length operation.bodies.items + 1 = ap length is ∙ length-append operation.bodies.items (body ∷ []) in
    omega arith

module _ (operation : LockMultiOp) (view : View) (stage : operation.stage ≡ Held) (first : LockMultiOp) (start : View) (locking : IsLockingAll first start operation view) where
  reading : ReadsStates locking.number first.stripes.bits first.mode first.wanted.items operation.bodies.items start view
  reading = subst (λ (s : MultiStage). IsAtMulti locking.number first.stripes.bits first.mode first.wanted.items operation.bodies.items start s view) stage locking.stage

  holds-now : HoldsAll view first.stripes.bits first.mode
  holds-now = holds-more reading.held view first.stripes.bits first.mode reading.holds.since reading.holds.all

  sizes : view.config ≡ start.config
  sizes = worked-sizes start view _ locking.calling

  -- the next body
  pub more-wanted : length operation.bodies.items < length operation.wanted.items
  more-wanted = subst (λ (w : ArrayVec Wanted). length operation.bodies.items < length w.items) (sym locking.wanted) reading.left

  next-wanted : (past : Wanted) → get_or operation.wanted.items (length operation.bodies.items) past ≡ get_or first.wanted.items (length operation.bodies.items) past
  next-wanted past = ap (λ (w : ArrayVec Wanted). get_or w.items (length operation.bodies.items) past) locking.wanted

  next-held : (w : Wanted) → Holds view (stripe_of view.config (get_or first.wanted.items (length operation.bodies.items) w).id.index) first.mode
  next-held w =
      let k = length operation.bodies.items in
      let id = (get_or first.wanted.items k w).id in
      let lengths : length (wanted_ids first.wanted.items) ≡ length first.wanted.items = length-map first.wanted.items (λ (v : Wanted). v.id) in
      let left = reading.left in
      let among : Contains (wanted_ids first.wanted.items) id =
      subst (Contains (wanted_ids first.wanted.items)) (get_or-map (λ (v : Wanted). v.id) first.wanted.items k w w.id reading.left)
      (Contains-get_or (wanted_ids first.wanted.items) k w.id (omega arith))
      in
      holds-now.held (stripe_of view.config id.index) (subst (λ (c : Config). has_stripe first.stripes.bits (stripe_of c id.index) ≡ true) (sym sizes) (locking.begun.stripes.all id among))

  next-below : (w : Wanted) → (get_or first.wanted.items (length operation.bodies.items) w).id.index < view.config.bodies
  next-below w =
      subst (λ (c : Config). (get_or first.wanted.items (length operation.bodies.items) w).id.index < c.bodies) (sym sizes)
      (All-get_or (λ v. v.id.index < start.config.bodies) first.wanted.items (length operation.bodies.items) w reading.left locking.begun.below)

  pub next-may : (past : Wanted) → MayLoadState (get_or operation.wanted.items (length operation.bodies.items) past).id view
  next-may past =
      subst (λ (w : Wanted). MayLoadState w.id view) (sym (next-wanted past)) (record { mode = first.mode; stripe = next-held past; below = next-below past })

  -- what is found of it is right
  module _ (next : View) (body : LockedBody) (past : Wanted) (reads : ReadsEntry (get_or operation.wanted.items (length operation.bodies.items) past).id view next body) where
    found : ReadsEntry (get_or first.wanted.items (length operation.bodies.items) past).id view next body
    found = subst (λ (w : Wanted). ReadsEntry w.id view next body) (next-wanted past) reads

    abbrev wanted : Id
    wanted = (get_or first.wanted.items (length operation.bodies.items) past).id

    more : KnowsMore view next
    more = found.loaded.more

    same_sizes : next.config ≡ view.config
    same_sizes = ap (λ (v : View). v.config) more.rest

    held_sizes : next.config ≡ reading.held.config
    held_sizes = same_sizes ∙ ap (λ (v : View). v.config) reading.holds.since.rest

    since : HeldSince first.stripes.bits first.mode start reading.held next
    since = held-later first.stripes.bits first.mode start reading.held view next more reading.holds

    pub next-calling : IsCalling start next (takes_below first.stripes.bits first.mode (taken_to operation.stage)) Nothing []
    next-calling = worked-more start view next _ locking.calling more

    right : (entry : MultiEntry) → SaysEntry wanted.seq found.state entry → IsReachRight locking.number first.mode reading.held next wanted entry
    right Reached says = record {
      pass = ap (λ (v : View). number_of v) next-calling.left ∙ locking.pass;
      stripe =
          ap (λ (v : View). mode_of v.locks (stripe_of next.config wanted.index)) more.rest
          ∙ (ap (λ (c : Config). mode_of view.locks (stripe_of c wanted.index)) same_sizes ∙ next-held past);
      below = subst (λ (c : Config). wanted.index < c.bodies) (sym same_sizes) (next-below past);
      state = found.loaded.word ∙ says;
      done = next-calling.doing;
    }
    right (Gone state) says =
        let gone : IsGoneAt next.config wanted found.state next.known =
        gone-now next found.loaded.now wanted (subst (λ (c : Config). wanted.index < c.bodies) (sym same_sizes) (next-below past)) found.state found.loaded.word says.1
        in
        let there : IsGoneAt reading.held.config wanted state next.known =
        subst (λ (n : ℕ). IsGoneAt reading.held.config wanted n next.known) (sym says.0) (subst (λ (c : Config). IsGoneAt c wanted found.state next.known) held_sizes gone)
        in
        record {
          since = since.since.since;
          later = [];
          parts = since.since.known ∙ sym (append-nil (reading.held.known ++ since.since.since));
          holds = subst (IsGoneAt reading.held.config wanted state) since.since.known there;
        }

    entry-right : IsEntryRight locking.number first.mode reading.held next body
    entry-right = subst (λ (i : Id). IsReachRight locking.number first.mode reading.held next i body.entry) (sym found.names) (right body.entry found.says)

    all-right : (bodies : List LockedBody) → bodies ≡ operation.bodies.items ++ body ∷ [] → All (IsEntryRight locking.number first.mode reading.held next) bodies
    all-right bodies is =
        subst (λ (l : List LockedBody). All (IsEntryRight locking.number first.mode reading.held next) l) (sym is)
        (All-push (IsEntryRight locking.number first.mode reading.held next) operation.bodies.items body
        (entries-later locking.number first.mode reading.held view next operation.bodies.items more reading.each) entry-right)

    all-ids : (bodies : List LockedBody) → bodies ≡ operation.bodies.items ++ body ∷ [] → body_ids bodies ≡ take (length bodies) (wanted_ids first.wanted.items)
    all-ids bodies is =
        let k = length operation.bodies.items in
        let lengths : length (wanted_ids first.wanted.items) ≡ length first.wanted.items = length-map first.wanted.items (λ (v : Wanted). v.id) in
        let left = reading.left in
        let count : length bodies ≡ k + 1 = ap length is ∙ length-append operation.bodies.items (body ∷ []) in
        let last : body.id ≡ get_or (wanted_ids first.wanted.items) k past.id = found.names ∙ sym (get_or-map (λ (v : Wanted). v.id) first.wanted.items k past past.id reading.left) in
        ap body_ids is
        ∙ (map-append (λ (b : LockedBody). b.id) operation.bodies.items (body ∷ [])
        ∙ ((λ i. reading.ids i ++ last i ∷ [])
        ∙ (sym (take_more (wanted_ids first.wanted.items) k past.id (omega arith)) ∙ ap (λ (n : ℕ). take n (wanted_ids first.wanted.items)) (sym count))))

    pub read-keeps : (bodies : ArrayVec LockedBody) → bodies.items ≡ operation.bodies.items ++ body ∷ [] → length bodies.items < length operation.wanted.items
        → IsLockingAll first start (record operation { bodies = bodies }) next
    read-keeps bodies is left = record {
      wanted = locking.wanted;
      mode = locking.mode;
      stripes = locking.stripes;
      begun = locking.begun;
      number = locking.number;
      pass = locking.pass;
      calling = next-calling;
      stage =
          subst (λ (s : MultiStage). IsAtMulti locking.number first.stripes.bits first.mode first.wanted.items bodies.items start s next) (sym stage)
          (record {
            held = reading.held;
            holds = since;
            left = subst (λ (w : ArrayVec Wanted). length bodies.items < length w.items) locking.wanted left;
            ids = all-ids bodies.items is;
            each = all-right bodies.items is;
          });
    }

    reach-good : (number : ℕ) → number ≡ locking.number → (id : Id) (entry : MultiEntry) → IsReachRight locking.number first.mode reading.held next id entry → IsReachGood number first.mode next id entry
    reach-good number same id Reached is = subst (λ (n : ℕ). IsGuarding n id first.mode next) (sym same) is
    reach-good number same id (Gone state) is = tt

    pub read-locked : (bodies : ArrayVec LockedBody) (number : ℕ) → bodies.items ≡ operation.bodies.items ++ body ∷ [] → length operation.wanted.items ≤ length bodies.items → IsPass next number
        → HasMultiLock first start next (record { number = number; mode = operation.mode; stripes = operation.stripes; bodies = bodies })
    read-locked bodies number is all pass =
        let same : number ≡ locking.number = same_Some number locking.number (sym pass ∙ (ap (λ (v : View). number_of v) next-calling.left ∙ locking.pass)) in
        let lengths : length (wanted_ids first.wanted.items) ≡ length first.wanted.items = length-map first.wanted.items (λ (v : Wanted). v.id) in
        let counts : length operation.wanted.items ≡ length first.wanted.items = ap (λ (w : ArrayVec Wanted). length w.items) locking.wanted in
        let ids : body_ids bodies.items ≡ wanted_ids first.wanted.items = all-ids bodies.items is ∙ take_all (length bodies.items) (wanted_ids first.wanted.items) (omega arith) in
        let good : HasMultiLock first start next (record { number = number; mode = first.mode; stripes = first.stripes; bodies = bodies }) = record {
          good = record {
            pass = pass;
            holds = holds-more view next first.stripes.bits first.mode more holds-now;
            within = λ stripe has. subst (λ (c : Config). stripe < c.stripes) (sym (same_sizes ∙ sizes)) (locking.begun.within stripe has);
            done = next-calling.doing;
            still = ap (λ (v : View). v.walk.is_on) next-calling.left ∙ locking.begun.rest.still;
            each =
                All-weaker (IsEntryRight locking.number first.mode reading.held next) (IsEntryGood number first.mode next) (λ b. reach-good number same b.id b.entry) bodies.items
                (all-right bodies.items is);
          };
          mode = refl;
          ids = ids;
          stripes = subst (λ (l : List Id). AreStripesOf start.config l first.stripes.bits) (sym ids) locking.begun.stripes;
          held = reading.held;
          holds = since;
          each = subst (λ (n : ℕ). All (IsEntryRight n first.mode reading.held next) bodies.items) (sym same) (all-right bodies.items is);
          settled =
              All-weaker (IsEntryRight locking.number first.mode reading.held next) (IsEntrySettled start.config start.known next.known)
              (λ b. entry-settled start reading.held next since.reached found.loaded.now (same_sizes ∙ sizes) held_sizes (since.since.since, since.since.known) locking.number first.mode b)
              bodies.items (all-right bodies.items is);
          now = found.loaded.now;
          calling = subst (λ (s : MultiStage). IsCalling start next (takes_below first.stripes.bits first.mode (taken_to s)) Nothing []) stage next-calling;
        } in
        subst (λ (m : Mode). HasMultiLock first start next (record { number = number; mode = m; stripes = operation.stripes; bodies = bodies })) (sym locking.mode)
        (subst (λ (s : StripeSet). HasMultiLock first start next (record { number = number; mode = first.mode; stripes = s; bodies = bodies })) (sym locking.stripes) good)
