-- The bounds of the children of a planned tree.
use Rattle.std.specs.Prelude.{◌≡◌, ◌≢◌, ℕ, ◌+◌, ◌<◌, ◌≤◌, List, slice_index, Contains}
use Rattle.fixed_box.specs.FixBox.{words_of}
use Rattle.fixed_box.specs.declared.fix_box.FixBox.{FixBox}
use Rattle.tree_plan.specs.declared.plan_child.PlanChild.TheVariants.{Nothing, Body, Node}
use Rattle.tree_plan.specs.Plan.{Plan, node_count, child_at}

-- the six sides of a box, as words: lo x, y, z and hi x, y, z
abbrev pub side : FixBox → ℕ → ℕ
side b q = slice_index (words_of b) q

-- a box lies in another
abbrev pub Encloses : FixBox → FixBox → Type 0
Encloses outer inner = (q : ℕ) → q < 3 → (side outer q ≤ side inner q) × (side inner (3 + q) ≤ side outer (3 + q))

-- the box is the hull of the bounds of a node's children: each lies in it, and it reaches no further than they
pub record IsHullOfNode (plan : Plan) (bound : ℕ → ℕ → FixBox) (n : ℕ) (hull : FixBox) : Type 0 where
  pub encloses : (k : ℕ) → k < 4 → child_at plan n k ≢ Nothing → Encloses hull (bound n k)
  pub reaches : (q : ℕ) → q < 6 → (k : ℕ) × (k < 4) × (child_at plan n k ≢ Nothing) × (side (bound n k) q ≡ side hull q)

-- The bound of each child, by the number of its node and its own: of a body it is the body's box, and of a node the hull of
-- the bounds of its children
pub record AreBoundsOf (bodies : List (ℕ × FixBox)) (plan : Plan) (bound : ℕ → ℕ → FixBox) : Type 0 where
  pub a_body : (n k index : ℕ) → n < node_count plan → k < 4 → child_at plan n k ≡ Body index → Contains bodies (index, bound n k)
  pub a_node : (n k m : ℕ) → n < node_count plan → k < 4 → child_at plan n k ≡ Node m → IsHullOfNode plan bound m (bound n k)
