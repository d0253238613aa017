-- How far the nodes have been numbered. A slot is a child's place: slot 4 * n + c is that of child c of node n.
use Rattle.std.specs.Prelude.{◌≡◌, ℕ, zero, suc, ◌+◌, ◌-◌, ◌*◌, ◌/◌, ◌%◌, ◌<◌, ◌≤◌, None, Some, List, [], ◌∷◌, ◌++◌, length, map, take, drop, slice_index_or}
use Rattle.std.specs.List.{filter_map, range_with_len, Contains}
use Rattle.std.specs.List.Sorted.{IsPermutation}
use Rattle.fixed_box.specs.declared.fix_box.FixBox.{FixBox}
use Rattle.scene_model.specs.Need.{need, need_of_run}
use Rattle.tree_plan.specs.declared.plan_child.PlanChild.{PlanChild}
use Rattle.tree_plan.specs.declared.plan_child.PlanChild.TheVariants.{Nothing, Body, Node}
use Rattle.tree_plan.specs.declared.run.Run.{Run}
use Rattle.tree_plan.specs.Quarters.{quarter_start, quarter_size}
use Rattle.tree_plan.specs.Plan.{body_of, node_of}

abbrev pub run_at : List Run → ℕ → Run
run_at runs n = slice_index_or runs n (record { start = 0; size = 0; parent = None })

abbrev pub slot_child : List PlanChild → ℕ → PlanChild
slot_child children t = slice_index_or children t Nothing

-- so many bodies from a place on
abbrev pub part : List (ℕ × FixBox) → ℕ → ℕ → List (ℕ × FixBox)
part bodies start size = take size (drop start bodies)

abbrev pub slot_start : List Run → ℕ → ℕ
slot_start runs t = (run_at runs (t / 4)).start + quarter_start (run_at runs (t / 4)).size (t % 4)

abbrev pub slot_size : List Run → ℕ → ℕ
slot_size runs t = quarter_size (run_at runs (t / 4)).size (t % 4)

abbrev pub slot_part : List (ℕ × FixBox) → List Run → ℕ → List (ℕ × FixBox)
slot_part bodies runs t = part bodies (slot_start runs t) (slot_size runs t)

-- the nodes that so many slots from one on still need, and the indexes that stand under them
abbrev pub needs_from : List Run → ℕ → ℕ → ℕ
needs_from runs t zero = 0
needs_from runs t (suc n) = need_of_run need (slot_size runs t) + needs_from runs (t + 1) n

abbrev pub indexes_from : List (ℕ × FixBox) → List Run → ℕ → ℕ → List ℕ
indexes_from bodies runs t zero = []
indexes_from bodies runs t (suc n) = map (λ b. b.0) (slot_part bodies runs t) ++ indexes_from bodies runs (t + 1) n

-- a node stands over the slot's run, and knows its place
pub record IsNodeAt (runs : List Run) (children : List PlanChild) (count t n : ℕ) : Type 0 where
  pub child : slot_child children t ≡ Node n
  pub later : t / 4 < n
  pub made : n < count
  pub start : (run_at runs n).start ≡ slot_start runs t
  pub size : (run_at runs n).size ≡ slot_size runs t
  pub parent : (run_at runs n).parent ≡ Some (t / 4, t % 4)

-- the slot has what its run asks for
pub record IsFilled (bodies : List (ℕ × FixBox)) (runs : List Run) (children : List PlanChild) (count t : ℕ) : Type 0 where
  pub none : slot_size runs t ≡ 0 → slot_child children t ≡ Nothing
  pub one : (b : ℕ × FixBox) → slot_size runs t ≡ 1 → slot_part bodies runs t ≡ b ∷ [] → slot_child children t ≡ Body b.0
  pub more : 2 ≤ slot_size runs t → (n : ℕ) × IsNodeAt runs children count t n

-- all slots below one are filled, and so many nodes stand over their runs
pub record IsNumbered (bodies : List (ℕ × FixBox)) (runs : List Run) (children : List PlanChild) (nodes count slot : ℕ) : Type 0 where
  pub root_start : (run_at runs 0).start ≡ 0
  pub root_size : (run_at runs 0).size ≡ length bodies
  pub root_parent : (run_at runs 0).parent ≡ None
  pub room : nodes ≤ length runs
  pub places : 4 * nodes ≤ length children
  pub first : 1 ≤ count
  pub reached : slot ≤ 4 * count
  pub still : count + needs_from runs slot (4 * count - slot) ≡ nodes
  pub within : (n : ℕ) → n < count → (0 < (run_at runs n).size) × ((run_at runs n).start + (run_at runs n).size ≤ length bodies)
  pub filled : (t : ℕ) → t < slot → IsFilled bodies runs children count t
  pub parents : (n : ℕ) → 0 < n → n < count → (t : ℕ) × (t < slot) × IsNodeAt runs children count t n
  pub numbers : filter_map node_of (take slot children) ≡ range_with_len 1 (count - 1)
  pub once : IsPermutation (map (λ b. b.0) bodies) (filter_map body_of (take slot children) ++ indexes_from bodies runs slot (4 * count - slot))

-- the box of each body at a slot below one stands at the slot's place, as far as there are places
abbrev pub HaveBoxes : List (ℕ × FixBox) → List PlanChild → List FixBox → ℕ → Type 0
HaveBoxes bodies children boxes slot = (t index : ℕ) (d : FixBox) → t < slot → t < length boxes → slot_child children t ≡ Body index → Contains bodies (index, slice_index_or boxes t d)
