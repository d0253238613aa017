-- A plan whose nodes are all numbered is the tree over its bodies.
use Rattle.std.proofs.Common.{◌≡◌, ℕ, zero, suc, ◌+◌, ◌-◌, ◌*◌, ◌/◌, ◌%◌, ◌<◌, ◌≤◌, inl, inr, Option, None, Some, IsSome, List, [], ◌∷◌, ◌++◌, length, take, drop, map, refl, sym, ◌∙◌, ap, subst, rules, arith}
use Rattle.std.specs.List.{filter_map, range_with_len}
use Rattle.std.specs.List.Sorted.{IsPermutation}
use Rattle.std.proofs.lemmas.Bool.{cases_lt}
use Rattle.std.proofs.lemmas.List.{get_or-take, get_or-map, get_or_past, length-map, length-take, append-nil}
use Rattle.std.proofs.lemmas.List.Sorted.{IsPermutation-refl, IsPermutation-trans, IsPermutation-map}
use Rattle.fixed_box.specs.declared.fix_box.FixBox.{FixBox}
use Rattle.scene_model.specs.Need.{need}
use Rattle.scene_model.specs.Tree.{Tree, child_of, tree, height_of}
use Rattle.scene_model.proofs.Trees.{same_node, height_of-tree_within}
use Rattle.tree_plan.specs.declared.node_count.TheConstants.{MAX_TREE_BODIES}
use Rattle.tree_plan.specs.declared.plan_child.PlanChild.{PlanChild}
use Rattle.tree_plan.specs.declared.plan_child.PlanChild.TheVariants.{Nothing, Body, Node}
use Rattle.tree_plan.specs.declared.run.Run.{Run}
use Rattle.tree_plan.specs.Arranged.{arranged}
use Rattle.tree_plan.specs.Quarters.{quarter_start, quarter_size}
use Rattle.tree_plan.specs.Standing.{front_of, back_of, standing_within}
use Rattle.tree_plan.specs.Plan.{Plan, node_count, child_at, parent_at, tree_under, tree_from, tree_of, body_of, ParentsAgree, IsPlanOf}
use Rattle.tree_plan.specs.Numbering.{run_at, slot_child, part, slot_start, slot_size, slot_part, indexes_from, IsNodeAt, IsFilled, IsNumbered}
use Rattle.tree_plan.proofs.Quarters.{quarter_less, length-part, part-whole, part-front, part-back}
use Rattle.tree_plan.proofs.Arrangement.{arranged-permutes}
use Rattle.tree_plan.proofs.Standing.{length-arranged, tree-standing}
use Rattle.tree_plan.proofs.Slots.{slot_within, need_some}

-- ---- what a plan shows of the lists behind it

unfoldable pub plan_over : ℕ → ℕ → List Run → List PlanChild → Plan
plan_over most nodes runs children = record { most = most; children = take (4 * nodes) children; parents = map (λ (r : Run). r.parent) (take nodes runs) }

count_over : (most nodes : ℕ) (runs : List Run) (children : List PlanChild) → nodes ≤ length runs → node_count (plan_over most nodes runs children) ≡ nodes
unfolding plan_over
count_over most nodes runs children room = length-map (take nodes runs) (λ (r : Run). r.parent) ∙ omega (arith, length-take nodes runs)

slots_over : (most nodes : ℕ) (runs : List Run) (children : List PlanChild) → 4 * nodes ≤ length children → length (plan_over most nodes runs children).children ≡ 4 * nodes
unfolding plan_over
slots_over most nodes runs children places = omega (arith, length-take (4 * nodes) children)

child_over : (most nodes : ℕ) (runs : List Run) (children : List PlanChild) (n c : ℕ) → n < nodes → c < 4 → child_at (plan_over most nodes runs children) n c ≡ slot_child children (4 * n + c)
unfolding plan_over
child_over most nodes runs children n c made few = get_or-take (4 * nodes) children (4 * n + c) Nothing (omega arith)

parent_over : (most nodes : ℕ) (runs : List Run) (children : List PlanChild) (n : ℕ) → nodes ≤ length runs → n < nodes → parent_at (plan_over most nodes runs children) n ≡ (run_at runs n).parent
unfolding plan_over
parent_over most nodes runs children n room made =
    let d : Run = record { start = 0; size = 0; parent = None } in
    get_or-map (λ (r : Run). r.parent) (take nodes runs) n d None (omega (arith, length-take nodes runs)) ∙ ap (λ (r : Run). r.parent) (get_or-take nodes runs n d made)

parent_past : (most nodes : ℕ) (runs : List Run) (children : List PlanChild) (n : ℕ) → nodes ≤ n → parent_at (plan_over most nodes runs children) n ≡ None
unfolding plan_over
parent_past most nodes runs children n past =
    get_or_past (map (λ (r : Run). r.parent) (take nodes runs)) n None (omega (arith, length-map (take nodes runs) (λ (r : Run). r.parent), length-take nodes runs))

-- ---- the tree

front_of-part : (bodies : List (ℕ × FixBox)) (start size : ℕ) → start + size ≤ length bodies → front_of (part bodies start size) ≡ part bodies start (size - size / 2)
front_of-part bodies start size within =
    ap (λ n. take (n - n / 2) (part bodies start size)) (length-part bodies start size within) ∙ part-front bodies start (size - size / 2) size (omega arith)

back_of-part : (bodies : List (ℕ × FixBox)) (start size : ℕ) → start + size ≤ length bodies → back_of (part bodies start size) ≡ part bodies (start + (size - size / 2)) (size / 2)
back_of-part bodies start size within =
    let rest : size - (size - size / 2) ≡ size / 2 = omega arith in
    ap (λ n. drop (n - n / 2) (part bodies start size)) (length-part bodies start size within) ∙ part-back bodies start (size - size / 2) size (omega arith)
    ∙ ap (part bodies (start + (size - size / 2))) rest

-- the halves of the halves are the four runs
record QuartersOf (bodies : List (ℕ × FixBox)) (start size : ℕ) : Type 0 where
  first : front_of (front_of (part bodies start size)) ≡ part bodies (start + quarter_start size 0) (quarter_size size 0)
  second : back_of (front_of (part bodies start size)) ≡ part bodies (start + quarter_start size 1) (quarter_size size 1)
  third : front_of (back_of (part bodies start size)) ≡ part bodies (start + quarter_start size 2) (quarter_size size 2)
  fourth : back_of (back_of (part bodies start size)) ≡ part bodies (start + quarter_start size 3) (quarter_size size 3)

quarters_of : (bodies : List (ℕ × FixBox)) (start size : ℕ) → start + size ≤ length bodies → QuartersOf bodies start size
quarters_of bodies start size within =
    let front = size - size / 2 in
    let back = size / 2 in
    let from : start ≡ start + 0 = omega arith in
    let further : start + front + (back - back / 2) ≡ start + (front + (back - back / 2)) = omega arith in record {
      first = ap front_of (front_of-part bodies start size within) ∙ front_of-part bodies start front (omega arith) ∙ ap (λ k. part bodies k (front - front / 2)) from;
      second = ap back_of (front_of-part bodies start size within) ∙ back_of-part bodies start front (omega arith);
      third = ap front_of (back_of-part bodies start size within) ∙ front_of-part bodies (start + front) back (omega arith);
      fourth = ap back_of (back_of-part bodies start size within) ∙ back_of-part bodies (start + front) back (omega arith) ∙ ap (λ k. part bodies k (back / 2)) further;
    }

child_match : (f : ℕ → Tree) (g : List (ℕ × FixBox) → Tree) (e : PlanChild) (ys : List (ℕ × FixBox)) (size : ℕ) → length ys ≡ size → (size ≡ 0 → e ≡ Nothing)
    → ((b : ℕ × FixBox) → size ≡ 1 → ys ≡ b ∷ [] → e ≡ Body b.0) → (2 ≤ size → tree_under f e ≡ g ys) → tree_under f e ≡ child_of g ys
child_match f g e [] size same none one more = ap (tree_under f) (none (sym same))
child_match f g e (b ∷ []) size same none one more = ap (tree_under f) (one b (sym same) refl)
child_match f g e (b ∷ c ∷ rest) size same none one more = more (omega arith)

part_same : (bodies : List (ℕ × FixBox)) (s t m n : ℕ) → s ≡ t → m ≡ n → part bodies s m ≡ part bodies t n
part_same bodies s t m n p q = ap (λ k. part bodies k m) p ∙ ap (part bodies t) q

-- one child: its slot's run is its quarter
child_tree : (bodies : List (ℕ × FixBox)) (runs : List Run) (children : List PlanChild) (nodes j t : ℕ) (f : ℕ → Tree) → IsNumbered bodies runs children nodes nodes (4 * nodes) → t < 4 * nodes
    → ((n : ℕ) → 2 ≤ slot_size runs t → t / 4 < n → n < nodes → (run_at runs n).size ≡ slot_size runs t → f n ≡ standing_within j (part bodies (run_at runs n).start (run_at runs n).size))
    → tree_under f (slot_child children t) ≡ child_of (standing_within j) (slot_part bodies runs t)
child_tree bodies runs children nodes j t f h below tree_at =
    let filled = h.filled t below in
    child_match f (standing_within j) (slot_child children t) (slot_part bodies runs t) (slot_size runs t)
    (length-part bodies (slot_start runs t) (slot_size runs t) (slot_within bodies runs children nodes nodes (4 * nodes) h t below)) filled.none filled.one
    (λ two.
    let found = filled.more two in
    let p = found.1 in
    ap (tree_under f) p.child ∙ tree_at found.0 two p.later p.made p.size ∙ ap (standing_within j) (part_same bodies _ _ _ _ p.start p.size))

quarter_slot : (bodies : List (ℕ × FixBox)) (runs : List Run) (n c : ℕ) → c < 4 → slot_part bodies runs (4 * n + c) ≡ part bodies ((run_at runs n).start + quarter_start (run_at runs n).size c) (quarter_size (run_at runs n).size c)
quarter_slot bodies runs n c few =
    let here : (4 * n + c) / 4 ≡ n = omega arith in
    let child : (4 * n + c) % 4 ≡ c = omega arith in
    ap (λ k. part bodies ((run_at runs k).start + quarter_start (run_at runs k).size ((4 * n + c) % 4)) (quarter_size (run_at runs k).size ((4 * n + c) % 4))) here
    ∙ ap (λ k. part bodies ((run_at runs n).start + quarter_start (run_at runs n).size k) (quarter_size (run_at runs n).size k)) child

quarter_size_slot : (runs : List Run) (n c : ℕ) → c < 4 → slot_size runs (4 * n + c) ≡ quarter_size (run_at runs n).size c
quarter_size_slot runs n c few =
    let here : (4 * n + c) / 4 ≡ n = omega arith in
    let child : (4 * n + c) % 4 ≡ c = omega arith in
    ap (λ k. quarter_size (run_at runs k).size ((4 * n + c) % 4)) here ∙ ap (quarter_size (run_at runs n).size) child

-- what is read from a node is the tree over its run
tree_at : (bodies : List (ℕ × FixBox)) (runs : List Run) (children : List PlanChild) (most nodes levels j n : ℕ) → IsNumbered bodies runs children nodes nodes (4 * nodes) → n < nodes → nodes ≤ n + levels
    → (run_at runs n).size ≤ j → tree_from (plan_over most nodes runs children) levels n ≡ standing_within j (part bodies (run_at runs n).start (run_at runs n).size)
tree_at bodies runs children most nodes zero j n h made deep fits = absurd (omega arith)
tree_at bodies runs children most nodes (suc levels) zero n h made deep fits = absurd (omega (arith, (h.within n made).0))
tree_at bodies runs children most nodes (suc levels) (suc j) n h made deep fits =
    let plan = plan_over most nodes runs children in
    let r : Run = run_at runs n in
    let f = tree_from plan levels in
    let child : (c : ℕ) → c < 4 → tree_under f (child_at plan n c) ≡ child_of (standing_within j) (part bodies (r.start + quarter_start r.size c) (quarter_size r.size c)) =
    λ c few.
    ap (tree_under f) (child_over most nodes runs children n c made few)
    ∙ child_tree bodies runs children nodes j (4 * n + c) f h (omega arith)
    (λ k two later below same.
    let size = quarter_size_slot runs n c few in
    let less : quarter_size r.size c < r.size = quarter_less r.size c (omega arith) in
    tree_at bodies runs children most nodes levels j k h below (omega arith) (omega arith))
    ∙ ap (child_of (standing_within j)) (quarter_slot bodies runs n c few) in
    let q = quarters_of bodies r.start r.size (h.within n made).1 in
    same_node _ _ _ _ _ _ _ _
    (child 0 (omega arith) ∙ sym (ap (child_of (standing_within j)) q.first))
    (child 1 (omega arith) ∙ sym (ap (child_of (standing_within j)) q.second))
    (child 2 (omega arith) ∙ sym (ap (child_of (standing_within j)) q.third))
    (child 3 (omega arith) ∙ sym (ap (child_of (standing_within j)) q.fourth))

tree_over : (bodies old : List (ℕ × FixBox)) (runs : List Run) (children : List PlanChild) (most nodes : ℕ) → bodies ≡ arranged old → 0 < nodes → IsNumbered bodies runs children nodes nodes (4 * nodes)
    → tree_of (plan_over most nodes runs children) ≡ tree old
tree_over bodies old runs children most nodes e some h =
    let plan = plan_over most nodes runs children in
    let size : length bodies ≡ length old = ap length e ∙ length-arranged old in
    ap (λ k. tree_from plan k 0) (count_over most nodes runs children h.room)
    ∙ tree_at bodies runs children most nodes nodes (length old) 0 h some (omega arith) (omega (arith, h.root_size, size))
    ∙ ap (standing_within (length old)) (part_same bodies _ 0 _ (length bodies) h.root_start h.root_size ∙ part-whole bodies ∙ e)
    ∙ sym (tree-standing old)

-- ---- parents

some_same : (p q : ℕ × ℕ) → Some p ≡ Some q → (p.0 ≡ q.0) × (p.1 ≡ q.1)
some_same p q e =
    let both : p ≡ q = cc in
    (ap (λ (r : ℕ × ℕ). r.0) both, ap (λ (r : ℕ × ℕ). r.1) both)

place_same : (o : Option (ℕ × ℕ)) (a b c d : ℕ) → o ≡ Some (a, b) → a ≡ c → b ≡ d → o ≡ Some (c, d)
place_same o a b c d e p q = e ∙ ap (λ k. Some (k, b)) p ∙ ap (λ k. Some (c, k)) q

none_some : (o : Option (ℕ × ℕ)) (p : ℕ × ℕ) → o ≡ None → o ≡ Some p → ⊥
none_some o p e f = cc

node_same : (e : PlanChild) (m n : ℕ) → e ≡ Node m → e ≡ Node n → m ≡ n
node_same e m n p q = cc

nothing_node : (e : PlanChild) (n : ℕ) → e ≡ Nothing → e ≡ Node n → ⊥
nothing_node e n p q = cc

body_node : (e : PlanChild) (i n : ℕ) → e ≡ Body i → e ≡ Node n → ⊥
body_node e i n p q = cc

node_at_by : (bodies : List (ℕ × FixBox)) (runs : List Run) (children : List PlanChild) (count t n : ℕ) (ys : List (ℕ × FixBox)) → slot_part bodies runs t ≡ ys → IsFilled bodies runs children count t
    → length ys ≡ slot_size runs t → slot_child children t ≡ Node n → IsNodeAt runs children count t n
node_at_by bodies runs children count t n [] e h size child = absurd (nothing_node (slot_child children t) n (h.none (sym size)) child)
node_at_by bodies runs children count t n (b ∷ []) e h size child = absurd (body_node (slot_child children t) b.0 n (h.one b (sym size) e) child)
node_at_by bodies runs children count t n (b ∷ c ∷ rest) e h size child =
    let found = h.more (omega arith) in
    subst (IsNodeAt runs children count t) (node_same (slot_child children t) found.0 n found.1.child child) found.1

-- a slot that names a node is the place of that node
node_at : (bodies : List (ℕ × FixBox)) (runs : List Run) (children : List PlanChild) (nodes t n : ℕ) → IsNumbered bodies runs children nodes nodes (4 * nodes) → t < 4 * nodes → slot_child children t ≡ Node n
    → IsNodeAt runs children nodes t n
node_at bodies runs children nodes t n h below child =
    node_at_by bodies runs children nodes t n (slot_part bodies runs t) refl (h.filled t below)
    (length-part bodies (slot_start runs t) (slot_size runs t) (slot_within bodies runs children nodes nodes (4 * nodes) h t below)) child

-- a node with a parent stands at a slot
record Found (runs : List Run) (children : List PlanChild) (nodes n m c : ℕ) : Type 0 where
  slot : ℕ
  below : slot < 4 * nodes
  node : IsNodeAt runs children nodes slot n
  above : slot / 4 ≡ m
  child : slot % 4 ≡ c

found_by : (bodies : List (ℕ × FixBox)) (runs : List Run) (children : List PlanChild) (nodes n m c : ℕ) → IsNumbered bodies runs children nodes nodes (4 * nodes) → n < nodes → (run_at runs n).parent ≡ Some (m, c)
    → Found runs children nodes n m c
found_by bodies runs children nodes zero m c h made e = absurd (none_some (run_at runs 0).parent (m, c) h.root_parent e)
found_by bodies runs children nodes (suc n) m c h made e =
    let p = h.parents (suc n) (omega arith) made in
    let same = some_same (p.0 / 4, p.0 % 4) (m, c) (sym p.2.parent ∙ e) in record {
      slot = p.0;
      below = p.1;
      node = p.2;
      above = same.0;
      child = same.1;
    }

found : (bodies : List (ℕ × FixBox)) (runs : List Run) (children : List PlanChild) (most nodes n m c : ℕ) → IsNumbered bodies runs children nodes nodes (4 * nodes)
    → parent_at (plan_over most nodes runs children) n ≡ Some (m, c) → Found runs children nodes n m c
found bodies runs children most nodes n m c h e =
    elim (cases_lt n nodes) [
      | inl made ↦ found_by bodies runs children nodes n m c h made (sym (parent_over most nodes runs children n h.room made) ∙ e)
      | inr past ↦ absurd (none_some (parent_at (plan_over most nodes runs children) n) (m, c) (parent_past most nodes runs children n past) e)
    ]

is_some_from : {X : Type 0} (o : Option X) (x : X) → o ≡ Some x → IsSome o
is_some_from o x e = search rules

parents_over : (bodies : List (ℕ × FixBox)) (runs : List Run) (children : List PlanChild) (most nodes : ℕ) → 0 < nodes → IsNumbered bodies runs children nodes nodes (4 * nodes)
    → ParentsAgree (plan_over most nodes runs children)
parents_over bodies runs children most nodes some h =
    let plan = plan_over most nodes runs children in
    let count : node_count plan ≡ nodes = count_over most nodes runs children h.room in record {
      root = parent_over most nodes runs children 0 h.room some ∙ h.root_parent;
      others = λ n later made.
          let below : n < nodes = omega arith in
          let p = h.parents n later below in
          is_some_from (parent_at plan n) (p.0 / 4, p.0 % 4) (parent_over most nodes runs children n h.room below ∙ p.2.parent);
      above = λ n m c e.
          let f = found bodies runs children most nodes n m c h e in
          (omega (arith, f.node.later, f.above), omega (arith, f.child));
      agree = λ m c n made few.
          let below : m < nodes = omega arith in
          let over = child_over most nodes runs children m c below few in (
            λ e.
                let f = found bodies runs children most nodes n m c h e in
                let slot : 4 * m + c ≡ f.slot = omega (arith, f.above, f.child) in
                over ∙ ap (slot_child children) slot ∙ f.node.child,
            λ e.
                let p = node_at bodies runs children nodes (4 * m + c) n h (omega arith) (sym over ∙ e) in
                let above : (4 * m + c) / 4 ≡ m = omega arith in
                let child : (4 * m + c) % 4 ≡ c = omega arith in
                place_same (parent_at plan n) ((4 * m + c) / 4) ((4 * m + c) % 4) m c (parent_over most nodes runs children n h.room p.made ∙ p.parent) above child,
          );
    }

-- ---- all together

low_tree : (old : List (ℕ × FixBox)) (t : Tree) → t ≡ tree old → length old ≤ MAX_TREE_BODIES → height_of t ≤ 10
low_tree old t e few = subst (λ s. height_of s ≤ 10) (sym e) (height_of-tree_within (length old) 10 old (omega arith) few)

once_over : (bodies old : List (ℕ × FixBox)) (runs : List Run) (children : List PlanChild) (nodes : ℕ) → bodies ≡ arranged old → IsNumbered bodies runs children nodes nodes (4 * nodes)
    → IsPermutation (map (λ b. b.0) old) (filter_map body_of (take (4 * nodes) children))
once_over bodies old runs children nodes e h =
    let index : ℕ × FixBox → ℕ = λ b. b.0 in
    let none : 4 * nodes - 4 * nodes ≡ 0 = omega arith in
    let first : IsPermutation (map index old) (map index bodies) =
    subst (λ (ys : List (ℕ × FixBox)). IsPermutation (map index old) (map index ys)) (sym e) (IsPermutation-map index old (arranged old) (arranged-permutes old)) in
    let picked = filter_map body_of (take (4 * nodes) children) in
    let all : picked ++ indexes_from bodies runs (4 * nodes) (4 * nodes - 4 * nodes) ≡ picked =
    ap (λ k. picked ++ indexes_from bodies runs (4 * nodes) k) none ∙ append-nil picked in
    IsPermutation-trans (map index old) (map index bodies) picked first (subst (λ (ys : List ℕ). IsPermutation (map index bodies) ys) all h.once)

IsPlanOf-some : (bodies old : List (ℕ × FixBox)) (runs : List Run) (children : List PlanChild) (most nodes : ℕ) → bodies ≡ arranged old → 0 < nodes → nodes ≡ need (length bodies) → length old ≤ MAX_TREE_BODIES
    → IsNumbered bodies runs children nodes nodes (4 * nodes) → IsPlanOf old (plan_over most nodes runs children)
unfolding plan_over
IsPlanOf-some bodies old runs children most nodes e some needed few h =
    let count = count_over most nodes runs children h.room in
    let size : length bodies ≡ length old = ap length e ∙ length-arranged old in
    let same = tree_over bodies old runs children most nodes e some h in record {
      nodes = count ∙ needed ∙ ap need size;
      slots = slots_over most nodes runs children h.places ∙ ap (λ k. 4 * k) (sym count);
      same_tree = same;
      low = low_tree old (tree_of (plan_over most nodes runs children)) same few;
      once = once_over bodies old runs children nodes e h;
      breadth_first = h.numbers ∙ ap (λ k. range_with_len 1 (k - 1)) (sym count);
      parents = parents_over bodies runs children most nodes some h;
    }

pub IsPlanOf-numbered : (bodies old : List (ℕ × FixBox)) (runs : List Run) (children : List PlanChild) (most nodes : ℕ) → bodies ≡ arranged old → 0 < nodes → nodes ≡ need (length bodies) → length old ≤ MAX_TREE_BODIES
    → IsNumbered bodies runs children nodes nodes (4 * nodes)
    → IsPlanOf old (record { most = most; children = take (4 * nodes) children; parents = map (λ (r : Run). r.parent) (take nodes runs) })
unfolding plan_over
IsPlanOf-numbered bodies old runs children most nodes e some needed few h = IsPlanOf-some bodies old runs children most nodes e some needed few h

empty_plan : (most : ℕ) → IsPlanOf [] (record { most = most; children = []; parents = [] })
empty_plan most = record {
  nodes = refl;
  slots = refl;
  same_tree = refl;
  low = omega arith;
  once = IsPermutation-refl [];
  breadth_first = refl;
  parents = record {
    root = refl;
    others = λ n later made. absurd (omega arith);
    above = λ n m c e. absurd (none_some None (m, c) refl e);
    agree = λ m c n made few. absurd (omega arith);
  };
}

empty_by : (old : List (ℕ × FixBox)) (most : ℕ) → length old ≡ 0 → IsPlanOf old (record { most = most; children = []; parents = [] })
empty_by [] most e = empty_plan most
empty_by (b ∷ old) most e = absurd (omega arith)

no_bodies : (n : ℕ) → need n ≡ 0 → n ≡ 0
no_bodies zero e = refl
no_bodies (suc n) e = absurd (omega (arith, need_some (suc n) (omega arith)))

-- without bodies it has no nodes
pub IsPlanOf-empty : (bodies old : List (ℕ × FixBox)) (runs : List Run) (children : List PlanChild) (most nodes : ℕ) → bodies ≡ arranged old → nodes ≡ need (length bodies) → nodes ≤ 0
    → IsPlanOf old (record { most = most; children = take (4 * nodes) children; parents = map (λ (r : Run). r.parent) (take nodes runs) })
IsPlanOf-empty bodies old runs children most nodes e needed none =
    let zero_nodes : nodes ≡ 0 = omega arith in
    let size : length bodies ≡ length old = ap length e ∙ length-arranged old in
    let empty : length bodies ≡ 0 = no_bodies (length bodies) (sym needed ∙ zero_nodes) in
    subst (λ (k : ℕ). IsPlanOf old (record { most = most; children = take (4 * k) children; parents = map (λ (r : Run). r.parent) (take k runs) })) (sym zero_nodes) (empty_by old most (sym size ∙ empty))
