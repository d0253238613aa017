-- The turns of a query.
use Rattle.std.proofs.lemmas.Option.{same_Some}
use Rattle.std.proofs.Common.{◌≡◌, ◌≢◌, inl, inr, ℕ, ◌+◌, ◌-◌, ◌*◌, ◌<◌, ◌≤◌, Bool, false, Option, Some, None, refl, ap, sym, ◌∙◌, subst, arith}
use Rattle.core_state.specs.declared.view.View.{View}
use Rattle.core_state.specs.View.{number_in, IsPass, mode_of}
use Rattle.word_map.specs.declared.config.Config.{Config}
use Rattle.pass_table.specs.declared.take_op.TakeOp.{TakeOp}
use Rattle.pass_table.specs.declared.turn.Turn.{Turn}
use Rattle.pass_table.specs.declared.turn.Turn.TheVariants.{Done, More, Again}
use Rattle.pass_table.specs.Holding.{IsAtRest}
use Rattle.pass_table.specs.Labels.{SaysNew}
use Rattle.pass_table.specs.Turning.{IsUnderWay, Turned, LoadsNow, HasReached, GoesOn, Answers}
use Rattle.pass_table.proofs.Working.{tells-refl}
use Rattle.fixed_box.specs.declared.shape.Shape.{Shape}
use Rattle.tree_query.specs.declared.checks.Checks.{Checks}
use Rattle.tree_query.specs.declared.finder.Finder.{Finder}
use Rattle.tree_query.specs.declared.query_op.QueryOp.{QueryOp}
use Rattle.tree_query.specs.declared.walk.Walk.{Walk}
use Rattle.tree_query.specs.declared.walk.WalkStage.{WalkStage}
use Rattle.tree_query.specs.declared.walk.WalkStage.TheVariants.{Begin, Word, Child, LowX, LowY, LowZ, HighX, HighY, HighZ, End, Ended}
use Rattle.tree_query.specs.Finding.{has_index, room_of}
use Rattle.tree_query.specs.Answers.{SaysWalk, HasQueried}
use Rattle.tree_query.specs.stages.AllChecks.{going, AreInCheck, AreCheckTurn, left_at, taken_at, checks_left, checks_take}
use Rattle.tree_query.specs.stages.CollectTurns.{room_kept}
use Rattle.tree_query.specs.stages.WalkTurns.{IsWalkGoing, IsUnderWalk, IsWalkTurn, walk_left, walk_label_at, walk_label}
use Rattle.core_state.proofs.Quiet.{KnowsQuietly-refl}
use Rattle.pass_table.proofs.Calling.{Adds-refl}
use Rattle.std.proofs.lemmas.Bool.{false≢true}
use Rattle.tree_query.specs.stages.WalkPlaces.{IsNextLayer, BeginsWith, is_reading}
use Rattle.tree_query.specs.stages.QueryStages.{IsInChecks, IsQueryAt, IsQueryWith, IsQueryGoing, HasAnswered, by_stage, kept_left, kept_takes, query_left, query_label, query_says, IsChecksTurn, IsQueryTurn}
use Rattle.tree_query.specs.stages.WalkLater.{IsWalkingSince}
use Rattle.tree_query.proofs.WalkLater.{walk-later}
use Rattle.tree_query.proofs.ChecksTurns.{checks-begun}
use Rattle.tree_query.proofs.WholeQueries.{has-queried}

-- ---- by whether the walk has ended

by-other : {A : Type 0} (ended walks : A) (stage : WalkStage) → stage ≢ Ended → by_stage ended walks stage ≡ walks
by-other ended walks Begin on = refl
by-other ended walks Word on = refl
by-other ended walks Child on = refl
by-other ended walks LowX on = refl
by-other ended walks LowY on = refl
by-other ended walks LowZ on = refl
by-other ended walks HighX on = refl
by-other ended walks HighY on = refl
by-other ended walks HighZ on = refl
by-other ended walks End on = refl
by-other ended walks Ended on = absurd (on refl)

by-both : {A : Type 0} (P : A → Type 0) (ended walks : A) (stage : WalkStage) → P ended → P walks → P (by_stage ended walks stage)
by-both P ended walks Begin one two = two
by-both P ended walks Word one two = two
by-both P ended walks Child one two = two
by-both P ended walks LowX one two = two
by-both P ended walks LowY one two = two
by-both P ended walks LowZ one two = two
by-both P ended walks HighX one two = two
by-both P ended walks HighY one two = two
by-both P ended walks HighZ one two = two
by-both P ended walks End one two = two
by-both P ended walks Ended one two = one

-- ---- a turn of the walk

-- how it goes on now
pub walks-now : (room : ℕ) (first : Walk) (start : View) (walk : Walk) (finder : Finder) (view : View) → IsWalkingSince room first start walk finder view → IsWalkGoing room first start walk finder view
walks-now room first start walk finder view h =
    elim h.since [
      | inl same ↦ subst (IsWalkGoing room first start walk finder) same h.goes
      | inr past ↦ walk-later h.mid view past room first start walk finder h.goes
    ]

-- a walk that has ended begins the check of what it found
walk-ended : (room : ℕ) (first : Walk) (start : View) (rest : IsAtRest start) (walk : Walk) (checks : Checks) (finder : Finder) (view : View) → IsWalkGoing room first start walk finder view → checks.next ≡ 0
    → checks.is_at_one ≡ false → walk.stage ≡ Ended → IsInChecks room first start walk checks finder view
walk-ended room first start rest walk checks finder view goes zero none ended =
    let collected = goes.ended ended in
    let left = collected.walked.left in
    record {
      plan = goes.plan;
      mid = view;
      found = finder;
      roomy = goes.roomy;
      collected = collected;
      fresh = checks;
      goes =
          checks-begun walk.shape walk.mask checks finder view collected.number (ap (λ (v : View). number_in v.role) left ∙ collected.pass)
          (record { free = λ lock. ap (λ (v : View). mode_of v.locks lock) left ∙ rest.free lock; done = ap (λ (v : View). v.call.task) left ∙ rest.done; still = collected.ended })
          (λ index has. subst (λ (c : Config). index < c.bodies) (sym (ap (λ (v : View). v.config) left)) (collected.below index has)) zero none;
    }

module _ (walk after : Walk) (checks : Checks) (finder kept : Finder) (view next : View) (on : walk.stage ≢ Ended) (is : IsWalkTurn walk after finder kept view next) where
  abbrev old_query : QueryOp
  old_query = record { walk = walk; checks = checks; finder = Some finder }

  abbrev new_query : QueryOp
  new_query = record { walk = after; checks = checks; finder = Some kept }

  pub walks-on : IsUnderWay IsQueryGoing old_query view → IsQueryTurn More old_query new_query view next
  walks-on so =
      let was = so.goes.walks on in
      let was_going = walks-now (room_kept so.first.finder) so.first.walk so.start walk finder view was.goes in
      let then = is.keeps (room_kept so.first.finder) so.first.walk so.start was_going in
      let room : room_of kept ≡ room_of finder = then.roomy ∙ sym was_going.roomy in
      let before : query_left old_query ≡ (1 + 14 * room_of finder) + walk_left walk.stage finder.loads = by-other _ _ walk.stage on in
      let fewer = is.fewer in
      let ends_with : left_at kept checks.next checks.check checks.is_at_one ≡ 1 + 14 * (room_of kept - 0) =
      (λ i. left_at kept (was.next i) checks.check (was.none i))
      in
      record {
        plain = record {
          step = is.step;
          made = is.made;
          turned =
              inl (by-both (λ (n : ℕ). n < query_left old_query) (kept_left checks (Some kept)) ((1 + 14 * room_of kept) + walk_left after.stage kept.loads) after.stage
              (omega arith) (omega arith));
          loads =
              by-both (λ (t : Option TakeOp). LoadsNow view next t) (kept_takes checks (Some kept)) None after.stage
              (subst (λ (t : Bool). LoadsNow view next (taken_at checks.check t)) (sym was.none) tt) tt;
          keeps = λ first start way.
              let now = way.walks on in
              let goes = is.keeps (room_kept first.finder) first.walk start (walks-now (room_kept first.finder) first.walk start walk finder view now.goes) in
              record {
                rest = way.rest;
                walks = λ still. record { goes = record { mid = next; goes = goes; since = inl refl }; next = now.next; none = now.none };
                checked = walk-ended (room_kept first.finder) first.walk start way.rest after checks kept next goes now.next now.none;
              };
          answered = λ first start way. tt;
        };
        labelled = is.labelled;
        ends = tt;
        says = λ first start way.
            let now = walks-now (room_kept first.finder) first.walk start walk finder view (way.walks on).goes in
            subst (λ (m : ℕ). SaysNew (walk_label walk) (walk_label after) (SaysWalk m start next)) now.plan.mask (is.says (room_kept first.finder) first.walk start now);
      }

-- ---- a turn of the check of its candidates

on-map : {T A B : Type 0} (turn : Turn T) → GoesOn turn A → (A → B) → GoesOn turn B
on-map (Done answer) a f = tt
on-map More a f = f a
on-map (Again lock word) a f = f a

answers-map : {T : Type 0} (turn : Turn T) (P Q : T → Type 0) → Answers turn P → ((t : T) → P t → Q t) → Answers turn Q
answers-map (Done answer) P Q a f = f answer a
answers-map More P Q a f = tt
answers-map (Again lock word) P Q a f = tt

module _ (walk : Walk) (checks after : Checks) (finder kept : Finder) (view next : View) (ended : walk.stage ≡ Ended) (turn : Turn (Unit {0}))
    (is : AreCheckTurn walk.shape walk.mask turn (going checks finder) (going after kept) view next) where
  abbrev old_check : QueryOp
  old_check = record { walk = walk; checks = checks; finder = Some finder }

  abbrev new_check : QueryOp
  new_check = record { walk = walk; checks = after; finder = Some kept }

  pub checks-on : IsChecksTurn turn old_check new_check view next
  checks-on = record {
    plain = record {
      step = is.step;
      made = is.made;
      turned =
          subst (λ (s : WalkStage). Turned turn view next (by_stage (checks_take (going checks finder)) None s) (by_stage (checks_left (going checks finder)) ((1 + 14 * room_of finder) + walk_left walk.stage finder.loads) s)
          (by_stage (checks_left (going after kept)) ((1 + 14 * room_of kept) + walk_left walk.stage kept.loads) s)) (sym ended) is.turned;
      loads = subst (λ (s : WalkStage). GoesOn turn (LoadsNow view next (by_stage (checks_take (going after kept)) None s))) (sym ended) is.loads;
      keeps = λ first start way.
          let now = way.checked ended in
          on-map turn (is.keeps (going now.fresh now.found) now.mid now.goes)
          (λ goes. record {
            rest = way.rest;
            walks = λ on. absurd (on ended);
            checked = λ same. record { plan = now.plan; mid = now.mid; found = now.found; roomy = now.roomy; collected = now.collected; fresh = now.fresh; goes = goes };
          });
      answered = λ first start way.
          let now = way.checked ended in
          answers-map turn _ _ (is.answered (going now.fresh now.found) now.mid now.goes)
          (λ done checked. record {
            finder = kept;
            held = refl;
            answer = record {
              queried =
                  subst (λ (m : ℕ). HasQueried first.walk.shape m start next kept) now.plan.mask
                  (subst (λ (s : Shape). HasQueried s walk.mask start next kept) now.plan.shape
                  (has-queried walk.shape walk.mask start now.mid next now.found kept now.collected checked.done checked.locks checked.checked));
              room = checked.checked.room ∙ now.roomy;
            };
          });
    };
    walk = refl;
  }

-- it goes on, or hands out the finder
module _ (before after : QueryOp) (view next : View) (ended : before.walk.stage ≡ Ended) where
  same_label : query_label after ≡ query_label before → (first : QueryOp) (start : View) → SaysNew (query_label before) (query_label after) (query_says first start next)
  same_label same first start = go (query_label before) (query_label after) same
    where
      go : (one two : Option ℕ) → two ≡ one → SaysNew one two (query_says first start next)
      go one None e = tt
      go one (Some last) e = λ label fresh below. absurd (fresh (subst (λ (o : Option ℕ). HasReached o label) e below))

  pub check-goes : IsChecksTurn More before after view next → IsQueryTurn More before after view next
  check-goes is = record {
    plain = record { step = is.plain.step; made = is.plain.made; turned = is.plain.turned; loads = is.plain.loads; keeps = is.plain.keeps; answered = λ first start way. tt };
    labelled = λ label reached. subst (λ (o : Option ℕ). HasReached o label) (sym (ap walk_label is.walk)) reached;
    ends = tt;
    says = λ first start way. same_label (ap walk_label is.walk) first start;
  }

  pub check-waits : (lock word : ℕ) → IsChecksTurn (Again lock word) before after view next → IsQueryTurn (Again lock word) before after view next
  check-waits lock word is = record {
    plain = record { step = is.plain.step; made = is.plain.made; turned = is.plain.turned; loads = is.plain.loads; keeps = is.plain.keeps; answered = λ first start way. tt };
    labelled = ap walk_label is.walk;
    ends = tt;
    says = λ first start way. same_label (ap walk_label is.walk) first start;
  }

  pub check-hands : (done : Unit {0}) (finder : Finder) (new : QueryOp) → after.finder ≡ Some finder → new ≡ record after { finder = None } → IsChecksTurn (Done done) before after view next
      → IsQueryTurn (Done finder) before new view next
  check-hands done finder new held empty is = record {
    plain = record {
      step = is.plain.step;
      made = is.plain.made;
      turned = tt;
      loads = tt;
      keeps = λ first start way. tt;
      answered = λ first start way.
          let holds = is.plain.answered first start way in
          subst (HasAnswered first start next) (same_Some holds.finder finder (sym holds.held ∙ held)) holds.answer;
    };
    labelled = ap query_label empty ∙ ap walk_label is.walk;
    ends = inr (subst (λ (s : WalkStage). HasReached (walk_label_at before.walk s) 2) (sym ended) (omega arith));
    says = λ first start way. subst (λ (o : QueryOp). SaysNew (query_label before) (query_label o) (query_says first start next)) (sym empty) (same_label (ap walk_label is.walk) first start);
  }

-- ---- an operation that keeps a finder

module _ (operation : QueryOp) (finder : Finder) (view : View) (held : operation.finder ≡ Some finder) (way : IsUnderWay IsQueryGoing operation view) where
  now_at : IsQueryAt (room_kept way.first.finder) way.first.walk way.start operation.walk operation.checks finder view
  now_at = subst (λ (o : Option Finder). IsQueryWith (room_kept way.first.finder) way.first.walk way.start operation.walk operation.checks o view) held way.goes

  -- its walk goes on
  pub walk-way : operation.walk.stage ≢ Ended → IsUnderWalk operation.walk finder view
  walk-way on = record {
    room = room_kept way.first.finder;
    first = way.first.walk;
    start = way.start;
    goes = walks-now (room_kept way.first.finder) way.first.walk way.start operation.walk finder view (now_at.walks on).goes;
  }

  pub walk-turned : (after : Walk) (kept : Finder) (next : View) → operation.walk.stage ≢ Ended → IsWalkTurn operation.walk after finder kept view next
      → IsQueryTurn More operation (record operation { walk = after; finder = Some kept }) view next
  walk-turned after kept next on is =
      subst (λ (o : Option Finder). IsQueryTurn More (record operation { finder = o }) (record operation { walk = after; finder = Some kept }) view next) (sym held)
      (walks-on operation.walk after operation.checks finder kept view next on is (record { first = way.first; start = way.start; goes = now_at }))

  -- or its check
  pub checks-way : operation.walk.stage ≡ Ended → IsUnderWay (AreInCheck operation.walk.shape operation.walk.mask) (going operation.checks finder) view
  checks-way ended = let now = now_at.checked ended in record { first = going now.fresh now.found; start = now.mid; goes = now.goes }

  pub checks-turned : (turn : Turn (Unit {0})) (after : Checks) (kept : Finder) (next : View) → operation.walk.stage ≡ Ended
      → AreCheckTurn operation.walk.shape operation.walk.mask turn (going operation.checks finder) (going after kept) view next → IsChecksTurn turn operation (record operation { checks = after; finder = Some kept }) view next
  checks-turned turn after kept next ended is =
      subst (λ (o : Option Finder). IsChecksTurn turn (record operation { finder = o }) (record operation { checks = after; finder = Some kept }) view next) (sym held)
      (checks-on operation.walk operation.checks after finder kept view next ended turn is)

-- it does keep one
pub keeps-none : (operation : QueryOp) (view : View) → operation.finder ≡ None → IsUnderWay IsQueryGoing operation view → ⊥
keeps-none operation view none way = subst (λ (o : Option Finder). IsQueryWith (room_kept way.first.finder) way.first.walk way.start operation.walk operation.checks o view) none way.goes

-- the finder that is left at the end
pub keeps-some : (done : Unit {0}) (before after : QueryOp) (view next : View) → IsChecksTurn (Done done) before after view next → IsUnderWay IsQueryGoing before view → (held : Finder) × (after.finder ≡ Some held)
keeps-some done before after view next is way = let holds = is.plain.answered way.first way.start way.goes in (holds.finder, holds.held)

-- ---- begun

walk-fresh : (walk : Walk) (shape : Shape) (mask : ℕ) (finder : Finder) (view : View) (number : ℕ) → IsPass view number → BeginsWith walk view.config shape mask → view.walk.is_on ≡ false
    → ((index : ℕ) → has_index finder index ≡ false) → finder.loads ≡ 0 → view.config.bodies ≤ room_of finder → IsWalkGoing (room_of finder) walk view walk finder view
walk-fresh walk shape mask finder view number pass begins still none zero room = record {
  plan = record { shape = refl; mask = refl; lowest = refl; layers = refl; slots = refl };
  sized = begins.sized;
  lowest = subst (λ (m : ℕ). IsNextLayer m view.config.layers 0 walk.lowest) (sym begins.mask_is) begins.lowest;
  roomy = refl;
  fits = room;
  before = λ at. record {
    layer = begins.layer;
    slot = begins.slot;
    stack = begins.stack;
    walked = record { adds = Adds-refl view number pass; tells = tells-refl view number pass; quiet = KnowsQuietly-refl view; left = refl };
    rests = still;
    none = none;
    loads = zero;
  };
  reads = λ reads. absurd (false≢true (sym (ap is_reading begins.stage) ∙ reads));
  ended = λ ended. absurd (let begun = begins.stage in cc);
}

pub query-begun : (walk : Walk) (checks : Checks) (finder : Finder) (shape : Shape) (mask : ℕ) (view : View) (number : ℕ) → IsPass view number → IsAtRest view → BeginsWith walk view.config shape mask
    → ((index : ℕ) → has_index finder index ≡ false) → finder.loads ≡ 0 → view.config.bodies ≤ room_of finder → checks.next ≡ 0 → checks.is_at_one ≡ false
    → IsQueryGoing (record { walk = walk; checks = checks; finder = Some finder }) view (record { walk = walk; checks = checks; finder = Some finder }) view
query-begun walk checks finder shape mask view number pass rest begins none zero room first apart = record {
  rest = rest;
  walks = λ on. record { goes = record { mid = view; goes = walk-fresh walk shape mask finder view number pass begins rest.still none zero room; since = inl refl }; next = first; none = apart };
  checked = λ ended. absurd (let begun = begins.stage in cc);
}
