-- A walk that collects as an operation by turns.
use Rattle.std.proofs.Common.{◌≡◌, ℕ, ◌<◌, ◌≤◌, false, Option, Some, None, refl, ap, sym, ◌∙◌, subst, inl, inr, arith}
use Rattle.std.proofs.lemmas.Bool.{false≢true}
use Rattle.std.proofs.lemmas.Option.{same_Some}
use Rattle.fixed_box.specs.declared.shape.Shape.{Shape}
use Rattle.word_map.specs.declared.config.Config.{Config}
use Rattle.core_state.specs.declared.view.View.{View}
use Rattle.core_state.specs.View.{IsPass}
use Rattle.pass_table.specs.Turning.{IsUnderWay, HasReached}
use Rattle.pass_table.specs.Labels.{SaysNew}
use Rattle.pass_table.specs.declared.turn.Turn.TheVariants.{Done, More}
use Rattle.pass_table.proofs.Turning.{still-made}
use Rattle.tree_query.specs.declared.collect_op.CollectOp.{CollectOp}
use Rattle.tree_query.specs.declared.finder.Finder.{Finder}
use Rattle.tree_query.specs.declared.walk.WalkStage.{WalkStage}
use Rattle.tree_query.specs.declared.walk.WalkStage.TheVariants.{Begin, Ended}
use Rattle.tree_query.specs.declared.walk.Walk.{Walk}
use Rattle.tree_query.specs.Finding.{has_index, room_of}
use Rattle.tree_query.specs.Answers.{SaysWalk, HasCollected}
use Rattle.tree_query.specs.stages.WalkPlaces.{IsNextLayer, is_reading, BeginsWith}
use Rattle.tree_query.specs.stages.WalkTurns.{IsWalkGoing, IsUnderWalk, walk_left, walk_label_at, walk_label, IsWalkTurn}
use Rattle.tree_query.specs.stages.CollectTurns.{loads_kept, room_kept, IsCollectGoing, IsCollectTurn}
use Rattle.tree_query.proofs.Ended.{walked-none}
use Rattle.tree_query.proofs.WalkLater.{walking-now}

-- ---- begun

pub walk-begun : (walk : Walk) (c : Config) (shape : Shape) (mask : ℕ) (finder : Finder) (view : View) (number : ℕ) → IsPass view number → BeginsWith walk c shape mask → view.config ≡ c → view.walk.is_on ≡ false
    → ((index : ℕ) → has_index finder index ≡ false) → finder.loads ≡ 0 → c.bodies ≤ room_of finder → IsWalkGoing (room_of finder) walk view walk finder view
walk-begun walk c shape mask finder view number pass begins sizes still none loads fits = record {
  plan = record { shape = refl; mask = refl; lowest = refl; layers = refl; slots = refl };
  sized = record { layers = begins.sized.layers ∙ ap (λ (s : Config). s.layers) (sym sizes); slots = begins.sized.slots ∙ ap (λ (s : Config). s.slots) (sym sizes) };
  lowest = subst (λ (m : ℕ). IsNextLayer m view.config.layers 0 walk.lowest) (sym begins.mask_is) (subst (λ (s : Config). IsNextLayer mask s.layers 0 walk.lowest) (sym sizes) begins.lowest);
  roomy = refl;
  fits = subst (λ (s : Config). s.bodies ≤ room_of finder) (sym sizes) fits;
  before = λ e. record {
    layer = begins.layer;
    slot = begins.slot;
    stack = begins.stack;
    walked = walked-none view number pass;
    rests = still;
    none = none;
    loads = loads;
  };
  reads = λ t. absurd (false≢true (sym (ap is_reading begins.stage) ∙ t));
  ended = λ e. let same : Begin ≡ Ended = sym begins.stage ∙ e in absurd cc;
}

-- ---- turns

collect-now : (first : CollectOp) (start : View) (operation : CollectOp) (finder : Finder) (view : View) → operation.finder ≡ Some finder → IsCollectGoing first start operation view
    → IsWalkGoing (room_kept first.finder) first.walk start operation.walk finder view
collect-now first start operation finder view is going =
    subst (λ (f : Finder). IsWalkGoing (room_kept first.finder) first.walk start operation.walk f view) (same_Some going.finder finder (sym going.held ∙ is))
    (walking-now (room_kept first.finder) first.walk start operation.walk going.finder view going.goes)

pub under-collect : (operation : CollectOp) (finder : Finder) (view : View) → operation.finder ≡ Some finder → IsUnderWay IsCollectGoing operation view → IsUnderWalk operation.walk finder view
under-collect operation finder view is way = record {
  room = room_kept way.first.finder;
  first = way.first.walk;
  start = way.start;
  goes = collect-now way.first way.start operation finder view is way.goes;
}

-- one of the walk
pub collect-turn : (before : CollectOp) (walk : Walk) (held finder : Finder) (view next : View) → before.finder ≡ Some held → IsWalkTurn before.walk walk held finder view next
    → IsCollectTurn More before (record { walk = walk; finder = Some finder }) view next
collect-turn before walk held finder view next is h = record {
  plain = record {
    step = h.step;
    made = h.made;
    turned = inl (subst (λ (o : Option Finder). walk_left walk.stage finder.loads < walk_left before.walk.stage (loads_kept o)) (sym is) h.fewer);
    loads = tt;
    keeps = λ first start way. record {
      finder = finder;
      held = refl;
      goes = record { mid = next; goes = h.keeps (room_kept first.finder) first.walk start (collect-now first start before held view is way); since = inl refl };
    };
    answered = λ first start way. tt;
  };
  labelled = h.labelled;
  ends = tt;
  says = λ first start way.
      let going = collect-now first start before held view is way in
      subst (λ (m : ℕ). SaysNew (walk_label before.walk) (walk_label walk) (SaysWalk m start next)) going.plan.mask (h.says (room_kept first.finder) first.walk start going);
}

says-old : (label : Option ℕ) (says : ℕ → Type 0) → SaysNew label label says
says-old None says = tt
says-old (Some last) says = λ label new below. absurd (new below)

-- the last one, which hands the finder out
pub hand-turn : (before after : CollectOp) (finder : Finder) (view : View) (number : ℕ) → IsPass view number → before.walk.stage ≡ Ended → before.finder ≡ Some finder → after.walk ≡ before.walk
    → IsCollectTurn (Done finder) before after view view
hand-turn before after finder view number pass stage is same = record {
  plain = record {
    step = inl refl;
    made = still-made view number pass;
    turned = tt;
    loads = tt;
    keeps = λ first start way. tt;
    answered = λ first start way.
        let going = collect-now first start before finder view is way in
        record {
          collected = subst (λ (m : ℕ). HasCollected first.walk.shape m start view finder) going.plan.mask (subst (λ (s : Shape). HasCollected s before.walk.mask start view finder) going.plan.shape (going.ended stage));
          room = going.roomy;
        };
  };
  labelled = ap walk_label same;
  ends = inr (subst (λ (s : WalkStage). HasReached (walk_label_at before.walk s) 2) (sym stage) (omega arith));
  says = λ first start way.
      subst (λ (w : Walk). SaysNew (walk_label before.walk) (walk_label w) (SaysWalk first.walk.mask start view)) (sym same) (says-old (walk_label before.walk) (SaysWalk first.walk.mask start view));
}
