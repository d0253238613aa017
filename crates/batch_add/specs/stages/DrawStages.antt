-- How the tree of a batch is drawn, turn by turn.
use Rattle.std.specs.Prelude.{◌≡◌, ◌≢◌, ℕ, suc, ◌+◌, ◌-◌, ◌*◌, ◌<◌, ◌≤◌, nat_eq, nat_lt, if◌then◌else◌, true, false, List, [], ◌∷◌, ◌++◌, length, map, All, Contains, None}
use Rattle.std.specs.List.{IsDistinct}
use Rattle.fixed_box.specs.declared.fix_box.FixBox.{FixBox}
use Rattle.scene_model.specs.Need.{need}
use Rattle.word_map.specs.declared.name.Name.{Name}
use Rattle.word_map.specs.declared.name.Name.TheVariants.{Child as ChildWord, Bound as BoundWord, Parent as ParentWord}
use Rattle.core_state.specs.declared.item.Store.{Store}
use Rattle.core_state.specs.declared.view.Marked.{Marked}
use Rattle.core_state.specs.declared.view.Batch.{Batch}
use Rattle.core_state.specs.declared.view.View.{View}
use Rattle.core_state.specs.Encoding.{place}
use Rattle.tree_plan.specs.declared.plan_child.PlanChild.{PlanChild}
use Rattle.tree_plan.specs.declared.plan_child.PlanChild.TheVariants.{Nothing, Body, Node}
use Rattle.tree_plan.specs.Plan.{Plan, node_count, child_at, parent_at, ParentsAgree, IsPlanOf}
use Rattle.tree_plan.specs.Arranged.{AreApart}
use Rattle.tree_bounds.specs.Bounds.{side, AreBoundsOf}
use Rattle.tree_bounds.specs.Held.{bound_of}
use Rattle.pass_table.specs.declared.turn.Turn.{Turn}
use Rattle.pass_table.specs.Holding.{IsAtRest}
use Rattle.pass_table.specs.Calls.{IsTurn}
use Rattle.batch_add.specs.declared.draw_stage.DrawStage.{DrawStage}
use Rattle.batch_add.specs.declared.draw_stage.DrawStage.TheVariants.{Child, Side, Placing, Parent}
use Rattle.batch_add.specs.declared.tree_drawing.TreeDrawing.{TreeDrawing}
use Rattle.pass_table.specs.Work.{Work, begun, HasWorked}
use Rattle.batch_add.specs.Parts.{IsNewest, marked_as, HasDrawn}
use Rattle.batch_add.specs.Drawing.{node_at, child_word, parent_word, HasBodies, HasWritten, WritesOnly}

-- ---- what is drawn

-- a plan over bodies with its bounds, and the nodes that its nodes become; so many of them have bounds
pub record Planned : Type 0 where
  pub plan : Plan
  pub bound : ℕ → ℕ → FixBox
  pub bounded : ℕ
  pub nodes : List ℕ
  pub bodies : List (ℕ × FixBox)

abbrev pub planned_of : TreeDrawing → Planned
planned_of operation = record {
  plan = operation.planner;
  bound = bound_of operation.bounds;
  bounded = operation.bounds.nodes;
  nodes = operation.nodes.items;
  bodies = operation.bodies.items;
}

-- the newest batch of a pass has so many nodes as its bodies need, each another batch node, and its bodies, each index
-- once, are at no place
pub record IsToDraw (start : View) (bodies : List (ℕ × FixBox)) (nodes : List ℕ) : Type 0 where
  pub before : List Batch
  pub batch : Batch
  pub newest : IsNewest start before batch
  pub marked : batch.marked ≡ map marked_as bodies
  pub nodes_are : batch.nodes ≡ nodes
  pub many : length nodes ≡ need (length bodies)
  pub below : All (λ n. n < start.config.nodes) nodes
  pub distinct : IsDistinct nat_eq nodes
  pub some : 0 < length bodies
  pub apart : AreApart bodies
  pub indexes : All (λ b. b.0 < start.config.bodies) bodies

-- it is planned, by a pass at rest
pub record IsBegun (p : Planned) (start : View) (before : List Batch) (batch : Batch) : Type 0 where
  pub rest : IsAtRest start
  pub newest : IsNewest start before batch
  pub nodes : batch.nodes ≡ p.nodes
  pub many : length p.nodes ≡ node_count p.plan
  pub below : All (λ n. n < start.config.nodes) p.nodes
  pub distinct : IsDistinct nat_eq p.nodes
  pub planned : IsPlanOf p.bodies p.plan
  pub apart : AreApart p.bodies
  pub some : 0 < length p.bodies
  pub all_bounded : p.bounded ≡ node_count p.plan
  pub bounds : AreBoundsOf p.bodies p.plan p.bound
  pub indexes : (body : ℕ × FixBox) → Contains p.bodies body → body.0 < start.config.bodies

-- the nodes are the plan's, and the plan's parents are known
pub record HasNodesFor (plan : Plan) (nodes : List ℕ) : Type 0 where
  pub many : length nodes ≡ node_count plan
  pub parents : ParentsAgree plan

-- ---- what comes next

-- the next child, and after the last one the parent
abbrev pub next_child : ℕ → ℕ → DrawStage
next_child n k = if nat_lt k 3 then Child n (k + 1) else Parent n

-- after the word of a child
abbrev pub after_child : ℕ → ℕ → PlanChild → DrawStage
after_child n k Nothing = next_child n k
after_child n k (Body index) = Side n k 0
after_child n k (Node m) = Side n k 0

-- after the last side of its bound
abbrev pub after_sides : ℕ → ℕ → PlanChild → DrawStage
after_sides n k Nothing = next_child n k
after_sides n k (Body index) = Placing n k index
after_sides n k (Node m) = next_child n k

abbrev pub after_side : ℕ → ℕ → ℕ → PlanChild → DrawStage
after_side n k q child = if nat_lt q 5 then Side n k (q + 1) else after_sides n k child

-- ---- how far it is

-- Places are numbered: child k of node n is 4 * n + k, and side q of its bound 6 * (4 * n + k) + q. The words of so many
-- children, sides and parents are stored, and the bodies at so many places are placed
pub record Reached : Type 0 where
  pub children : ℕ
  pub sides : ℕ
  pub places : ℕ
  pub parents : ℕ

-- all of the children before this one is done
abbrev pub before_child : ℕ → ℕ → Reached
before_child n k = record { children = 4 * n + k; sides = 6 * (4 * n + k); places = 4 * n + k; parents = n }

abbrev pub reached : DrawStage → Reached
reached (Child n k) = before_child n k
reached (Side n k q) = record { children = suc (4 * n + k); sides = 6 * (4 * n + k) + q; places = 4 * n + k; parents = n }
reached (Placing n k index) = record { children = suc (4 * n + k); sides = 6 * suc (4 * n + k); places = 4 * n + k; parents = n }
reached (Parent n) = before_child n 4

-- the stage is one of the plan
abbrev pub IsOfPlan : Plan → DrawStage → Type 0
IsOfPlan plan (Child n k) = (n < node_count plan) × (k < 4)
IsOfPlan plan (Side n k q) = (n < node_count plan) × (k < 4) × (q < 6) × (child_at plan n k ≢ Nothing)
IsOfPlan plan (Placing n k index) = (n < node_count plan) × (k < 4) × (child_at plan n k ≡ Body index)
IsOfPlan plan (Parent n) = n < node_count plan

-- the words say the plan as far as they are stored, where `has` tells which value a word has
pub record SaysUpTo (has : Name → ℕ → Type 0) (p : Planned) (r : Reached) : Type 0 where
  pub child : (n k : ℕ) → n < node_count p.plan → k < 4 → 4 * n + k < r.children → has (ChildWord (node_at p.nodes n) k) (child_word p.nodes (child_at p.plan n k))
  pub bounds : (n k q : ℕ) → n < node_count p.plan → k < 4 → q < 6 → 6 * (4 * n + k) + q < r.sides → child_at p.plan n k ≢ Nothing
      → has (BoundWord (node_at p.nodes n) k q) (side (p.bound n k) q)
  pub parent : (n : ℕ) → n < node_count p.plan → n < r.parents → has (ParentWord (node_at p.nodes n)) (parent_word p.nodes (parent_at p.plan n))

-- the bodies at so many places are placed, and the others are not
pub record ArePlacedUpTo (p : Planned) (marked : List Marked) (places : ℕ) : Type 0 where
  pub placed : (m : Marked) → Contains marked m → (n k : ℕ) → n < node_count p.plan → k < 4 → child_at p.plan n k ≡ Body m.index → 4 * n + k < places
      → (m.is_placed ≡ true) × (m.place ≡ place (node_at p.nodes n) k)
  pub waiting : (m : Marked) → Contains marked m → (n k : ℕ) → n < node_count p.plan → k < 4 → child_at p.plan n k ≡ Body m.index → places ≤ 4 * n + k → m.is_placed ≡ false

-- the batch is as it was, but that bodies of it may be placed
pub record IsDrawnFrom (batch drawn : Batch) : Type 0 where
  pub layer : drawn.layer ≡ batch.layer
  pub slot : drawn.slot ≡ batch.slot
  pub nodes : drawn.nodes ≡ batch.nodes
  pub indexes : map (λ m. m.index) drawn.marked ≡ map (λ m. m.index) batch.marked

-- what is worked: the newest batch is this one, and this was stored in own nodes
abbrev pub drawing_work : View → List Batch → Batch → List Store → Work
drawing_work start before drawn written = record (begun start) { batches = before ++ drawn ∷ []; written = written; places = true }

-- since the drawing was begun it came so far
pub record HasDrawnUpTo (p : Planned) (start view : View) (r : Reached) : Type 0 where
  pub before : List Batch
  pub batch : Batch
  pub begun_so : IsBegun p start before batch
  pub drawn : Batch
  pub written : List Store
  pub worked : HasWorked start view (drawing_work start before drawn written)
  pub from : IsDrawnFrom batch drawn
  pub of_batch : HasBodies drawn p.bodies
  pub says : SaysUpTo (HasWritten written) p r
  pub only : WritesOnly p.nodes start.written written
  pub placed : ArePlacedUpTo p drawn.marked r.places

abbrev pub AtDraw : Planned → View → View → DrawStage → Type 0
AtDraw p start view stage = IsOfPlan p.plan stage × HasDrawnUpTo p start view (reached stage)

abbrev pub IsDrawing : TreeDrawing → View → TreeDrawing → View → Type 0
IsDrawing first start operation view = (planned_of operation ≡ planned_of first) × AtDraw (planned_of operation) start view operation.stage

-- the drawing as it is at a stage
abbrev pub at_stage : TreeDrawing → DrawStage → TreeDrawing
at_stage operation stage = record operation { stage = stage }

-- what leads from one stage to another: the drawing goes on, since whenever it was begun
abbrev pub Draws : TreeDrawing → DrawStage → View → DrawStage → View → Type 0
Draws operation from view to next = (first : TreeDrawing) (start : View) → IsDrawing first start (at_stage operation from) view → IsDrawing first start (at_stage operation to) next

-- so many sides of the bound of a child are stored
abbrev pub sides_done : ℕ → ℕ → ℕ → PlanChild → DrawStage
sides_done n k q child = if nat_lt q 6 then Side n k q else after_sides n k child

-- at its end: the newest batch is drawn, in the nodes with which it was begun
pub record HasDrawnAll (first : TreeDrawing) (start : View) (last : TreeDrawing) (next : View) : Type 0 where
  pub nodes : last.nodes.items ≡ first.nodes.items
  pub before : List Batch
  pub batch : Batch
  pub newest : IsNewest start before batch
  pub drawn : Batch
  pub from : IsDrawnFrom batch drawn
  pub has : HasDrawn first.bodies.items before start next drawn

-- ---- turns

-- for each node 33: its parent, and for each child its word, six sides and a location
abbrev pub stage_left : ℕ → DrawStage → ℕ
stage_left count (Child n k) = 33 * (count - suc n) + 8 * (4 - k) + 1
stage_left count (Side n k q) = 33 * (count - suc n) + 8 * (4 - k) - q
stage_left count (Placing n k index) = 33 * (count - suc n) + 8 * (4 - k) - 6
stage_left count (Parent n) = 33 * (count - suc n) + 1

abbrev pub draw_left : TreeDrawing → ℕ
draw_left operation = stage_left (node_count operation.planner) operation.stage

abbrev pub IsDrawTurn : Turn (Unit {0}) → TreeDrawing → TreeDrawing → View → View → Type 0
IsDrawTurn turn before after view next = IsTurn IsDrawing (λ first start end answer. HasDrawnAll first start after end) draw_left (λ operation. None) (λ operation. None) turn before after view next
