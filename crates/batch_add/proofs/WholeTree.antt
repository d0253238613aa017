-- Stages of drawing a tree one after the other.
use Rattle.std.proofs.Common.{◌≡◌, ℕ, ◌+◌, ◌<◌, nat_lt, cond, sym, ap, subst, ◌∙◌, arith}
use Rattle.std.proofs.lemmas.Bool.{lt-ltb}
use Rattle.std.proofs.lemmas.Bool.Decides.{nat_tests}
use Rattle.core_state.specs.declared.view.View.{View}
use Rattle.tree_plan.specs.declared.plan_child.PlanChild.{PlanChild}
use Rattle.tree_plan.specs.declared.plan_child.PlanChild.TheVariants.{Nothing, Body, Node}
use Rattle.pass_table.specs.declared.turn.Turn.{Turn}
use Rattle.pass_table.specs.declared.turn.Turn.TheVariants.{More}
use Rattle.pass_table.specs.Turning.{IsUnderWay}
use Rattle.batch_add.specs.declared.draw_stage.DrawStage.{DrawStage}
use Rattle.batch_add.specs.declared.draw_stage.DrawStage.TheVariants.{Child, Side, Placing}
use Rattle.batch_add.specs.declared.tree_drawing.TreeDrawing.{TreeDrawing}
use Rattle.batch_add.specs.stages.DrawStages.{at_stage, next_child, after_child, after_sides, after_side, sides_done, Draws, IsDrawing, IsDrawTurn}

-- ---- a turn and its step

-- an operation is what it is at its stage
pub under-at : (operation : TreeDrawing) (stage : DrawStage) (view : View) → operation.stage ≡ stage → IsUnderWay IsDrawing operation view → IsUnderWay IsDrawing (at_stage operation stage) view
under-at operation stage view at under = subst (λ (s : DrawStage). IsUnderWay IsDrawing (at_stage operation s) view) at under

-- a step and the stage after it are a turn
pub turn-at : (turn : Turn (Unit {0})) (before new : TreeDrawing) (stage after : DrawStage) (view next : View) → turn ≡ More → new ≡ at_stage before after → before.stage ≡ stage
    → IsDrawTurn More (at_stage before stage) (at_stage before after) view next → IsDrawTurn turn before new view next
turn-at turn before new stage after view next goes is at h =
    subst (λ (t : Turn (Unit {0})). IsDrawTurn t before new view next) (sym goes)
    (subst (λ (o : TreeDrawing). IsDrawTurn More before o view next) (sym is) (subst (λ (s : DrawStage). IsDrawTurn More (at_stage before s) (at_stage before after) view next) (sym at) h))

pub goes-at : (operation : TreeDrawing) (stage : DrawStage) (first : TreeDrawing) (start view : View) → operation.stage ≡ stage → IsDrawing first start operation view → IsDrawing first start (at_stage operation stage) view
goes-at operation stage first start view at goes = subst (λ (s : DrawStage). IsDrawing first start (at_stage operation s) view) at goes

-- and so is the last step
pub end-at : (turn : Turn (Unit {0})) (before : TreeDrawing) (stage : DrawStage) (view next : View) → before.stage ≡ stage → IsDrawTurn turn (at_stage before stage) before view next → IsDrawTurn turn before before view next
end-at turn before stage view next at h = subst (λ (s : DrawStage). IsDrawTurn turn (at_stage before s) before view next) (sym at) h

-- ---- stages

pub draws-turn : (operation : TreeDrawing) (from to : DrawStage) (view next : View) → IsDrawTurn More (at_stage operation from) (at_stage operation to) view next → Draws operation from view to next
draws-turn operation from to view next turn = λ first start goes. turn.keeps first start goes

pub draws-then : (operation : TreeDrawing) (from mid to : DrawStage) (view between next : View) → Draws operation from view mid between → Draws operation mid between to next → Draws operation from view to next
draws-then operation from mid to view between next one two = λ first start goes. two first start (one first start goes)

-- what is under way at a stage is at the one that it leads to
pub under-draws : (operation : TreeDrawing) (from to : DrawStage) (view next : View) → Draws operation from view to next → IsUnderWay IsDrawing (at_stage operation from) view → IsUnderWay IsDrawing (at_stage operation to) next
under-draws operation from to view next draws under = record { first = under.first; start = under.start; goes = draws under.first under.start under.goes }

-- ---- sides

pub sides-next : (n k q : ℕ) (child : PlanChild) → q < 6 → sides_done n k q child ≡ Side n k q
sides-next n k q child below = ap (λ t. cond t (Side n k q) (after_sides n k child)) (lt-ltb q 6 below)

one_more : (q : ℕ) → nat_lt q 5 ≡ nat_lt (q + 1) 6
one_more q = grind (arith, nat_tests)

pub sides-more : (n k q : ℕ) (child : PlanChild) → after_side n k q child ≡ sides_done n k (q + 1) child
sides-more n k q child = ap (λ t. cond t (Side n k (q + 1)) (after_sides n k child)) (one_more q)

-- ---- children

module _ (operation : TreeDrawing) (n k : ℕ) (child : PlanChild) (view mid : View) (put : IsDrawTurn More (at_stage operation (Child n k)) (at_stage operation (after_child n k child)) view mid) where
  -- nothing stands there
  pub child-nothing : child ≡ Nothing → Draws operation (Child n k) view (next_child n k) mid
  child-nothing is = subst (λ (e : PlanChild). Draws operation (Child n k) view (after_child n k e) mid) is (draws-turn operation (Child n k) (after_child n k child) view mid put)

  -- a body does, or a node
  pub child-body : (index : ℕ) → child ≡ Body index → Draws operation (Child n k) view (Side n k 0) mid
  child-body index is = subst (λ (e : PlanChild). Draws operation (Child n k) view (after_child n k e) mid) is (draws-turn operation (Child n k) (after_child n k child) view mid put)

  pub child-node : (m : ℕ) → child ≡ Node m → Draws operation (Child n k) view (Side n k 0) mid
  child-node m is = subst (λ (e : PlanChild). Draws operation (Child n k) view (after_child n k e) mid) is (draws-turn operation (Child n k) (after_child n k child) view mid put)

  module _ (later : View) (here : PlanChild) (same : child ≡ here) (sides : Draws operation (Side n k 0) mid (after_sides n k here) later) where
    -- after the sides a body is placed, and a node is done
    pub sides-body : (index : ℕ) → child ≡ Body index → Draws operation (Child n k) view (Placing n k index) later
    sides-body index is =
        draws-then operation (Child n k) (Side n k 0) (Placing n k index) view mid later (child-body index is)
        (subst (λ (e : PlanChild). Draws operation (Side n k 0) mid (after_sides n k e) later) (sym same ∙ is) sides)

    pub sides-node : (m : ℕ) → child ≡ Node m → Draws operation (Child n k) view (next_child n k) later
    sides-node m is =
        draws-then operation (Child n k) (Side n k 0) (next_child n k) view mid later (child-node m is)
        (subst (λ (e : PlanChild). Draws operation (Side n k 0) mid (after_sides n k e) later) (sym same ∙ is) sides)
