-- How the words of a batch's nodes say the planned tree over its bodies.
use Rattle.std.specs.Prelude.{◌≡◌, ◌≢◌, ℕ, ◌<◌, nat_eq, List, length, slice_index_or, Option, Some, None, Contains, true}
use Rattle.std.specs.List.{IsDistinct}
use Rattle.fixed_box.specs.FixBox.{words_of}
use Rattle.fixed_box.specs.declared.fix_box.FixBox.{FixBox}
use Rattle.tree_plan.specs.declared.plan_child.PlanChild.{PlanChild}
use Rattle.tree_plan.specs.declared.plan_child.PlanChild.TheVariants.{Nothing, Body, Node}
use Rattle.tree_plan.specs.Plan.{Plan, node_count, child_at, parent_at, IsPlanOf}
use Rattle.tree_plan.specs.Arranged.{AreApart}
use Rattle.tree_bounds.specs.Bounds.{side, AreBoundsOf}
use Rattle.word_map.specs.declared.name.Name.{Name}
use Rattle.word_map.specs.declared.name.Name.TheVariants.{Child, Bound, Parent}
use Rattle.core_state.specs.declared.item.Store.{Store}
use Rattle.core_state.specs.declared.view.Marked.{Marked}
use Rattle.core_state.specs.declared.view.Batch.{Batch}
use Rattle.core_state.specs.Encoding.{body_child, node_child, place}
use Rattle.core_state.specs.Batches.{written_outside}

-- the node of the table that a node of the plan becomes: the plan's first node the first of the batch's, and so on
abbrev pub node_at : List ℕ → ℕ → ℕ
node_at nodes n = slice_index_or nodes n 0

-- the words that say what stands at a child's place, and where a node stands
abbrev pub child_word : List ℕ → PlanChild → ℕ
child_word nodes Nothing = 0
child_word nodes (Body index) = body_child index
child_word nodes (Node n) = node_child (node_at nodes n)

abbrev pub parent_word : List ℕ → Option (ℕ × ℕ) → ℕ
parent_word nodes None = 0
parent_word nodes (Some above) = place (node_at nodes above.0) above.1

-- a body that is marked, as an index and a box
pub record IsMarkedAs (m : Marked) (body : ℕ × FixBox) : Type 0 where
  pub index : m.index ≡ body.0
  pub bounds : m.bounds ≡ words_of body.1

-- a batch has these bodies and no others
pub record HasBodies (batch : Batch) (bodies : List (ℕ × FixBox)) : Type 0 where
  pub each : (m : Marked) → Contains batch.marked m → (body : ℕ × FixBox) × Contains bodies body × IsMarkedAs m body
  pub all : (body : ℕ × FixBox) → Contains bodies body → (m : Marked) × Contains batch.marked m × IsMarkedAs m body

-- the words of the nodes are the plan's, where `has` tells which value a word has
pub record SaysPlanBy (has : Name → ℕ → Type 0) (plan : Plan) (bound : ℕ → ℕ → FixBox) (nodes : List ℕ) : Type 0 where
  pub child : (n k : ℕ) → n < node_count plan → k < 4 → has (Child (node_at nodes n) k) (child_word nodes (child_at plan n k))
  pub bounds : (n k q : ℕ) → n < node_count plan → k < 4 → q < 6 → child_at plan n k ≢ Nothing → has (Bound (node_at nodes n) k q) (side (bound n k) q)
  pub parent : (n : ℕ) → n < node_count plan → has (Parent (node_at nodes n)) (parent_word nodes (parent_at plan n))

-- and each body of the batch is placed where the plan has it
abbrev pub ArePlaced : Plan → List ℕ → Batch → Type 0
ArePlaced plan nodes batch = (m : Marked) → Contains batch.marked m → (m.is_placed ≡ true)
    × ((n k : ℕ) → n < node_count plan → k < 4 → child_at plan n k ≡ Body m.index → m.place ≡ place (node_at nodes n) k)

-- The batch is drawn: its nodes are as many as the plan's, each another, their words say the plan over its bodies, of which
-- there is one at least, and each body is placed
pub record IsDrawnBy (has : Name → ℕ → Type 0) (bodies : List (ℕ × FixBox)) (plan : Plan) (bound : ℕ → ℕ → FixBox) (batch : Batch) : Type 0 where
  pub planned : IsPlanOf bodies plan
  pub apart : AreApart bodies
  pub some : 0 < length bodies
  pub bounded : AreBoundsOf bodies plan bound
  pub of_batch : HasBodies batch bodies
  pub nodes : length batch.nodes ≡ node_count plan
  pub distinct : IsDistinct nat_eq batch.nodes
  pub says : SaysPlanBy has plan bound batch.nodes
  pub placed : ArePlaced plan batch.nodes batch

-- it is drawn in these words
abbrev pub IsDrawn : (Name → ℕ) → List (ℕ × FixBox) → Plan → (ℕ → ℕ → FixBox) → Batch → Type 0
IsDrawn word bodies plan bound batch = IsDrawnBy (λ name value. word name ≡ value) bodies plan bound batch

-- the value is what was stored in the word
abbrev pub HasWritten : List Store → Name → ℕ → Type 0
HasWritten written name value = Contains written (record { name = name; value = value })

-- its words were so written
abbrev pub IsWritten : List Store → List (ℕ × FixBox) → Plan → (ℕ → ℕ → FixBox) → Batch → Type 0
IsWritten written bodies plan bound batch = IsDrawnBy (HasWritten written) bodies plan bound batch

-- the pass stored words of these nodes alone: what it has stored in others is what it had
abbrev pub WritesOnly : List ℕ → List Store → List Store → Type 0
WritesOnly nodes before written = written_outside nodes written ≡ written_outside nodes before
