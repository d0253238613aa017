-- What a planner holds.
use Rattle.std.specs.Prelude.{◌≡◌, ◌↔◌, ℕ, zero, suc, ◌+◌, ◌-◌, ◌*◌, ◌<◌, ◌≤◌, Option, None, Some, IsSome, List, length, map, slice_index_or}
use Rattle.std.specs.List.{filter_map, range_with_len, Contains}
use Rattle.std.specs.List.Sorted.{IsPermutation}
use Rattle.fixed_box.specs.declared.fix_box.FixBox.{FixBox}
use Rattle.scene_model.specs.Need.{need}
use Rattle.scene_model.specs.Tree.{Tree, nothing, body, node, tree, height_of}
use Rattle.tree_plan.specs.declared.plan_child.PlanChild.{PlanChild}
use Rattle.tree_plan.specs.declared.plan_child.PlanChild.TheVariants.{Nothing, Body, Node}

-- how many bodies it has room for, what stands at the four places of node 0, of node 1 and so on, and for each
-- node the place at which it stands: a node and a child's number
pub record Plan : Type 0 where
  pub most : ℕ
  pub children : List PlanChild
  pub parents : List (Option (ℕ × ℕ))

abbrev pub node_count : Plan → ℕ
node_count plan = length plan.parents

abbrev pub child_at : Plan → ℕ → ℕ → PlanChild
child_at plan n c = slice_index_or plan.children (4 * n + c) Nothing

abbrev pub parent_at : Plan → ℕ → Option (ℕ × ℕ)
parent_at plan n = slice_index_or plan.parents n None

-- the tree of a child, by those of the nodes
abbrev pub tree_under : (ℕ → Tree) → PlanChild → Tree
tree_under tree Nothing = nothing
tree_under tree (Body index) = body index
tree_under tree (Node n) = tree n

-- the tree that is read from a node, as far as so many levels reach
abbrev pub tree_from : Plan → ℕ → ℕ → Tree
tree_from plan zero n = nothing
tree_from plan (suc levels) n =
    let below = tree_under (tree_from plan levels) in
    node (below (child_at plan n 0)) (below (child_at plan n 1)) (below (child_at plan n 2)) (below (child_at plan n 3))

-- the tree that is read from node 0: it never has more levels than nodes
abbrev pub tree_of : Plan → Tree
tree_of plan = tree_from plan (node_count plan) 0

-- a child's body, and its node
abbrev pub body_of : PlanChild → Option ℕ
body_of Nothing = None
body_of (Body index) = Some index
body_of (Node n) = None

abbrev pub node_of : PlanChild → Option ℕ
node_of Nothing = None
node_of (Body index) = None
node_of (Node n) = Some n

-- each node but the root stands at one place, above it, and parents and children agree both ways
pub record ParentsAgree (plan : Plan) : Type 0 where
  pub root : parent_at plan 0 ≡ None
  pub others : (n : ℕ) → 0 < n → n < node_count plan → IsSome (parent_at plan n)
  pub above : (n m c : ℕ) → parent_at plan n ≡ Some (m, c) → (m < n) × (c < 4)
  pub agree : (m c n : ℕ) → m < node_count plan → c < 4 → (parent_at plan n ≡ Some (m, c)) ↔ (child_at plan m c ≡ Node n)

-- the plan is the tree over the bodies, with the nodes that they need; each index stands at one place; the nodes
-- are numbered breadth first, since the table names them in order, and parents come before their children
pub record IsPlanOf (bodies : List (ℕ × FixBox)) (plan : Plan) : Type 0 where
  pub nodes : node_count plan ≡ need (length bodies)
  pub slots : length plan.children ≡ 4 * node_count plan
  pub same_tree : tree_of plan ≡ tree bodies
  pub low : height_of (tree_of plan) ≤ 10
  pub once : IsPermutation (map (λ b. b.0) bodies) (filter_map body_of plan.children)
  pub breadth_first : filter_map node_of plan.children ≡ range_with_len 1 (node_count plan - 1)
  pub parents : ParentsAgree plan

-- the box of each body stands where the body does in the plan, four places for each node, as far as there are places
abbrev pub HaveBoxesOf : List (ℕ × FixBox) → Plan → List FixBox → Type 0
HaveBoxesOf bodies plan boxes =
    (n c index : ℕ) (d : FixBox) → n < node_count plan → c < 4 → 4 * n + c < length boxes → child_at plan n c ≡ Body index → Contains bodies (index, slice_index_or boxes (4 * n + c) d)
