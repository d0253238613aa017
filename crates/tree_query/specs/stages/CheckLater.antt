-- What others' steps between two turns of a check leave as it was.
use Rattle.std.proofs.Common.{ℕ, List, Option, Some, None, refl, ◌∙◌}
use Rattle.fixed_box.specs.declared.shape.Shape.{Shape}
use Rattle.word_map.specs.declared.name.Name.TheVariants.{BoxWord}
use Rattle.core_state.specs.declared.view.View.{View}
use Rattle.core_state.specs.Log.{IsPrefix}
use Rattle.pass_table.specs.Knowing.{KnowsMore}
use Rattle.pass_table.specs.TakeTurns.{taking-later}
use Rattle.pass_table.proofs.Between.{more-trans}
use Rattle.pass_table.proofs.Calling.{point-later}
use Rattle.pass_table.proofs.TakingTurns.{taking-anew}
use Rattle.pass_table.proofs.WorkLater.{worked-more}
use Rattle.pass_table.proofs.LockedBodies.{guarded-more, word-stays, layer-stays, phase-stays}
use Rattle.pass_table.specs.Bodies.{IsGuarded}
use Rattle.tree_query.specs.declared.check_op.CheckStage.{CheckStage}
use Rattle.tree_query.specs.declared.check_op.CheckStage.TheVariants.{Taking, Striped, Live, Joining, Placed, Inside, Sides, Leaving}
use Rattle.tree_query.specs.declared.check_op.Check.{Check}
use Rattle.tree_query.specs.Checking.{IsCheckedSo}
use Rattle.tree_query.specs.stages.CandidateCheck.{id_at, HasTakenStripe, HasStripe, KnowsSides, IsInAsked, IsJoiningAt, KnowsAt, AtCheck, IsInCheck}

-- ---- the stripe

-- it stays held, and what is known may be something else
pub stripe-later : (index : ℕ) (start view next : View) (P Q : View → Type 0) → KnowsMore view next → ((mid : View) → HasTakenStripe index start mid → KnowsMore mid view → P mid → Q mid) → HasStripe index start view P
    → HasStripe index start next Q
stripe-later index start view next P Q more on held = record { mid = held.mid; taken = held.taken; more = more-trans held.mid view next held.more more; knows = on held.mid held.taken held.more held.knows }

-- ---- stages

-- an answer stays right
pub answer-later : (shape : Shape) (mask index : ℕ) (start view next : View) (answer : Option ℕ) → IsPrefix view.known next.known → IsCheckedSo shape mask index start view answer
    → IsCheckedSo shape mask index start next answer
answer-later shape mask index start view next None later point = point-later start view next _ later point
answer-later shape mask index start view next (Some seq) later point = point-later start view next _ later point

module _ (index seq : ℕ) (view next : View) (more : KnowsMore view next) where
  pub guard-later : IsGuarded (id_at index seq) view → IsGuarded (id_at index seq) next
  guard-later guarded = guarded-more (id_at index seq) view next guarded more

  pub joining-later : (slot : ℕ) (start : View) → IsJoiningAt index seq slot start view → IsJoiningAt index seq slot start next
  joining-later slot start at = record { guarded = guard-later at.guarded; joins = phase-stays (id_at index seq) view next at.guarded more ∙ at.joins; in_slots = at.in_slots }

  pub asked-later : (mask : ℕ) (mid : View) → IsInAsked mask (id_at index seq) mid view → IsInAsked mask (id_at index seq) mid next
  asked-later mask mid at = record {
    layer = at.layer;
    asked = at.asked;
    seen = record {
      view = at.seen.view;
      more = at.seen.more;
      later = more-trans at.seen.view view next at.seen.later more;
      guarded = at.seen.guarded;
      told = at.seen.told;
      holds = at.seen.holds;
    };
  }

  pub sides-later : (words : List ℕ) (loaded : ℕ) → IsGuarded (id_at index seq) view → KnowsSides index view words loaded → KnowsSides index next words loaded
  sides-later words loaded guarded sides k below = word-stays (id_at index seq) view next guarded more (BoxWord index k) refl ∙ sides k below

module _ (shape : Shape) (mask index : ℕ) (start : View) (words : List ℕ) (view next : View) (more : KnowsMore view next) where
  pub knows-later : (stage : CheckStage) (mid : View) → KnowsMore mid view → KnowsAt shape mask index start words stage mid view → KnowsAt shape mask index start words stage mid next
  knows-later (Taking taking) mid early at = tt
  knows-later Striped mid early at = tt
  knows-later (Live seq) mid early at = guard-later index seq view next more at
  knows-later (Joining seq slot) mid early at = joining-later index seq view next more slot start at
  knows-later (Placed seq slot layer) mid early at = (
    joining-later index seq view next more slot start at.0,
    layer-stays (id_at index seq) view next at.0.guarded more ∙ at.1,
    at.2,
  )
  knows-later (Inside seq) mid early at = (guard-later index seq view next more at.0, phase-stays (id_at index seq) view next at.0 more ∙ at.1)
  knows-later (Sides seq loaded) mid early at = (
    guard-later index seq view next more at.0,
    asked-later index seq view next more mask mid at.1,
    at.2,
    sides-later index seq view next more words loaded at.0 at.3,
  )
  knows-later (Leaving answer) mid early at = answer-later shape mask index mid view next answer (more.since, more.known) at

  held-later : (stage : CheckStage) → HasStripe index start view (λ mid. KnowsAt shape mask index start words stage mid view) → HasStripe index start next (λ mid. KnowsAt shape mask index start words stage mid next)
  held-later stage = stripe-later index start view next _ _ more (λ mid taken early at. knows-later stage mid early at)

  stage-later : (stage : CheckStage) → AtCheck shape mask index start words stage view → AtCheck shape mask index start words stage next
  stage-later (Taking taking) at = record { worked = worked-more start view next _ at.worked more; goes = taking-anew _ view taking next (taking-later _ view taking view next more at.goes) }
  stage-later Striped at = held-later Striped at
  stage-later (Live seq) at = held-later (Live seq) at
  stage-later (Joining seq slot) at = held-later (Joining seq slot) at
  stage-later (Placed seq slot layer) at = held-later (Placed seq slot layer) at
  stage-later (Inside seq) at = held-later (Inside seq) at
  stage-later (Sides seq loaded) at = held-later (Sides seq loaded) at
  stage-later (Leaving answer) at = held-later (Leaving answer) at

-- ---- a check

pub checking-later : (shape : Shape) (mask : ℕ) (first : Check) (start : View) (operation : Check) (view next : View) → KnowsMore view next → IsInCheck shape mask first start operation view
    → IsInCheck shape mask first start operation next
checking-later shape mask first start operation view next more way = (way.0, way.1, way.2, stage-later shape mask first.index start operation.words view next more operation.stage way.3)
