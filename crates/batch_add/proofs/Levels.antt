-- How far below the root each node of a plan stands, and how far its tree has to be read.
use Rattle.std.proofs.Common.{◌≡◌, ℕ, zero, suc, ◌+◌, ◌<◌, ◌≤◌, Option, Some, None, IsSome, List, length, refl, sym, ◌∙◌, ap, subst, inl, inr, arith}
use Rattle.std.proofs.lemmas.Bool.{cases_lt, false≢true}
use Rattle.std.proofs.lemmas.Option.{none-some}
use Rattle.std.proofs.lemmas.List.{get_or_past}
use Rattle.fixed_box.specs.declared.fix_box.FixBox.{FixBox}
use Rattle.scene_model.specs.Tree.{Tree, node, tree, height_of}
use Rattle.scene_model.proofs.Trees.{same_node}
use Rattle.tree_plan.specs.declared.plan_child.PlanChild.{PlanChild}
use Rattle.tree_plan.specs.declared.plan_child.PlanChild.TheVariants.{Nothing, Body, Node}
use Rattle.tree_plan.specs.Plan.{Plan, node_count, child_at, parent_at, tree_under, tree_from, tree_of, ParentsAgree, IsPlanOf}
use Rattle.tree_plan.proofs.Slots.{need_some}

-- ---- how far below the root a node stands, as far as so many steps up reach

abbrev pub level_below : (ℕ → ℕ) → Option (ℕ × ℕ) → ℕ
level_below level None = 0
level_below level (Some above) = suc (level above.0)

abbrev pub level : Plan → ℕ → ℕ → ℕ
level plan zero n = 0
level plan (suc steps) n = level_below (level plan steps) (parent_at plan n)

same_below : (f g : ℕ → ℕ) (o : Option (ℕ × ℕ)) → ((m c : ℕ) → o ≡ Some (m, c) → f m ≡ g m) → level_below f o ≡ level_below g o
same_below f g None same = refl
same_below f g (Some above) same = ap suc (same above.0 above.1 refl)

-- a child's tree is one level lower than its node's
child_lower : (f : ℕ → Tree) (c h : ℕ) → c < 4 → h < height_of (f c) → suc h < height_of (node (f 0) (f 1) (f 2) (f 3))
child_lower f zero h few less = omega arith
child_lower f (suc zero) h few less = omega arith
child_lower f (suc (suc zero)) h few less = omega arith
child_lower f (suc (suc (suc zero))) h few less = omega arith
child_lower f (suc (suc (suc (suc c)))) h few less = absurd (omega arith)

child_low : (f : ℕ → Tree) (c h : ℕ) → c < 4 → height_of (node (f 0) (f 1) (f 2) (f 3)) ≤ suc h → height_of (f c) ≤ h
child_low f zero h few low = omega arith
child_low f (suc zero) h few low = omega arith
child_low f (suc (suc zero)) h few low = omega arith
child_low f (suc (suc (suc zero))) h few low = omega arith
child_low f (suc (suc (suc (suc c)))) h few low = absurd (omega arith)

-- children are the same where the trees of their nodes are
same_child : (f g : ℕ → Tree) (e : PlanChild) → ((m : ℕ) → e ≡ Node m → f m ≡ g m) → tree_under f e ≡ tree_under g e
same_child f g Nothing same = refl
same_child f g (Body index) same = refl
same_child f g (Node m) same = same m refl

module _ {plan : Plan} (agree : ParentsAgree plan) where
  -- what has a parent is a node of the plan
  pub node-made : (n : ℕ) (above : ℕ × ℕ) → parent_at plan n ≡ Some above → n < node_count plan
  node-made n above e =
      elim (cases_lt n (node_count plan)) [
        | inl made ↦ made
        | inr past ↦ absurd (none-some above (sym (get_or_past plan.parents n None past) ∙ e))
      ]

  -- what has none is the root
  pub root-alone : (n : ℕ) → n < node_count plan → parent_at plan n ≡ None → n ≡ 0
  root-alone zero made none = refl
  root-alone (suc n) made none = absurd (false≢true (subst IsSome none (agree.others (suc n) (omega arith) made)))

  -- a child that is a node has its parent there, and a higher number
  pub child-node : (n k m : ℕ) → n < node_count plan → k < 4 → child_at plan n k ≡ Node m → (parent_at plan m ≡ Some (n, k)) × (n < m) × (m < node_count plan)
  child-node n k m made few e =
      let up = (agree.agree n k m made few).1 e in
      (up, (agree.above m n k up).0, node-made m (n, k) up)

  -- ---- levels

  -- the root is at level 0
  level-root : (steps n : ℕ) → n ≡ 0 → level plan steps n ≡ 0
  level-root zero n e = refl
  level-root (suc steps) n e = ap (λ (k : ℕ). level_below (level plan steps) (parent_at plan k)) e ∙ ap (level_below (level plan steps)) agree.root

  -- a node has no more levels above it than its number
  level-enough : (j k n : ℕ) → n ≤ j → n ≤ k → level plan j n ≡ level plan k n
  level-enough zero k n below within = sym (level-root k n (omega arith))
  level-enough (suc j) zero n below within = level-root (suc j) n (omega arith)
  level-enough (suc j) (suc k) n below within =
      same_below (level plan j) (level plan k) (parent_at plan n)
      (λ m c e. let less = (agree.above n m c e).0 in level-enough j k m (omega arith) (omega arith))

  -- a node stands one level below its parent
  pub level-next : (steps n m c : ℕ) → parent_at plan n ≡ Some (m, c) → n ≤ steps → level plan steps n ≡ suc (level plan steps m)
  level-next zero n m c e within = let less = (agree.above n m c e).0 in absurd (omega arith)
  level-next (suc steps) n m c e within =
      let less = (agree.above n m c e).0 in
      ap (level_below (level plan steps)) e ∙ ap suc (level-enough steps (suc steps) m (omega arith) (omega arith))

  level-least : (steps n : ℕ) → level plan steps n ≤ n
  level-least zero n = omega arith
  level-least (suc steps) n = by (parent_at plan n) (λ m c e. (agree.above n m c e).0) (level-least steps)
    where
      by : (o : Option (ℕ × ℕ)) → ((m c : ℕ) → o ≡ Some (m, c) → m < n) → ((m : ℕ) → level plan steps m ≤ m) → level_below (level plan steps) o ≤ n
      by None less least = omega arith
      by (Some above) less least = omega (arith, less above.0 above.1 refl, least above.0)

  -- ---- the trees that are read

  -- from a node a tree is read that has more levels than so many, if it is read as far
  abbrev Reaches : ℕ → ℕ → Type 0
  Reaches n h = (levels : ℕ) → h < levels → h < height_of (tree_from plan levels n)

  reaches-itself : (n : ℕ) → Reaches n 0
  reaches-itself n zero less = absurd (omega arith)
  reaches-itself n (suc levels) less = omega arith

  reaches-parent : (m c n h : ℕ) → c < 4 → child_at plan m c ≡ Node n → Reaches n h → Reaches m (suc h)
  reaches-parent m c n h few e below zero less = absurd (omega arith)
  reaches-parent m c n h few e below (suc levels) less =
      child_lower (λ k. tree_under (tree_from plan levels) (child_at plan m k)) c h few
      (subst (λ (p : PlanChild). h < height_of (tree_under (tree_from plan levels) p)) (sym e) (below levels (omega arith)))

  -- so the tree of the root has more levels than there are above a node
  climb : (steps n h : ℕ) → n ≤ steps → n < node_count plan → Reaches n h → Reaches 0 (level plan steps n + h)
  climb zero n h within made below =
      let at_root : n ≡ 0 = omega arith in
      let no_more : h ≡ 0 + h = omega arith in
      subst (λ (k : ℕ). Reaches k (0 + h)) at_root (subst (Reaches n) no_more below)
  climb (suc steps) n h within made below =
      by (parent_at plan n) refl (λ m less. climb steps m (suc h) (omega arith) (omega arith))
    where
      by : (o : Option (ℕ × ℕ)) → parent_at plan n ≡ o → ((m : ℕ) → m < n → Reaches m (suc h) → Reaches 0 (level plan steps m + suc h)) → Reaches 0 (level_below (level plan steps) o + h)
      by None none further =
          let no_more : h ≡ 0 + h = omega arith in
          subst (λ (k : ℕ). Reaches k (0 + h)) (root-alone n made none) (subst (Reaches n) no_more below)
      by (Some above) e further =
          let up = agree.above n above.0 above.1 e in
          let there = (agree.agree above.0 above.1 n (omega arith) up.1).0 e in
          let sum : level plan steps above.0 + suc h ≡ suc (level plan steps above.0) + h = omega arith in
          subst (Reaches 0) sum (further above.0 up.0 (reaches-parent above.0 above.1 n h up.1 there below))

  -- no node stands lower than the tree is high
  pub level-low : (n : ℕ) → n < node_count plan → level plan (node_count plan) n < height_of (tree_of plan)
  level-low n made =
      let sum : level plan (node_count plan) n + 0 ≡ level plan (node_count plan) n = omega arith in
      let least = level-least (node_count plan) n in
      subst (Reaches 0) sum (climb (node_count plan) n 0 (omega arith) made (reaches-itself n)) (node_count plan) (omega arith)

  -- children have higher numbers, so nothing more is read past as many levels as there are nodes
  tree-enough : (j k n : ℕ) → n < node_count plan → node_count plan ≤ n + j → node_count plan ≤ n + k → tree_from plan j n ≡ tree_from plan k n
  tree-enough zero k n made deep far = absurd (omega arith)
  tree-enough (suc j) zero n made deep far = absurd (omega arith)
  tree-enough (suc j) (suc k) n made deep far =
      let child : (c : ℕ) → c < 4 → tree_under (tree_from plan j) (child_at plan n c) ≡ tree_under (tree_from plan k) (child_at plan n c) =
      λ c few.
      same_child (tree_from plan j) (tree_from plan k) (child_at plan n c)
      (λ m e. let below = child-node n c m made few e in let less = below.1 in tree-enough j k m below.2 (omega arith) (omega arith)) in
      same_node _ _ _ _ _ _ _ _ (child 0 (omega arith)) (child 1 (omega arith)) (child 2 (omega arith)) (child 3 (omega arith))

  -- nor past its height
  tree-low : (j k n : ℕ) → j ≤ k → height_of (tree_from plan k n) ≤ j → tree_from plan j n ≡ tree_from plan k n
  tree-low zero zero n less low = refl
  tree-low zero (suc k) n less low = absurd (omega arith)
  tree-low (suc j) zero n less low = absurd (omega arith)
  tree-low (suc j) (suc k) n less low =
      let f = λ (c : ℕ). tree_under (tree_from plan k) (child_at plan n c) in
      let child : (c : ℕ) → c < 4 → tree_under (tree_from plan j) (child_at plan n c) ≡ tree_under (tree_from plan k) (child_at plan n c) =
      λ c few.
      same_child (tree_from plan j) (tree_from plan k) (child_at plan n c)
      (λ m e. tree-low j k m (omega arith) (subst (λ (p : PlanChild). height_of (tree_under (tree_from plan k) p) ≤ j) e (child_low f c j few low))) in
      same_node _ _ _ _ _ _ _ _ (child 0 (omega arith)) (child 1 (omega arith)) (child 2 (omega arith)) (child 3 (omega arith))

-- a plan over some bodies has a node
pub node-there : (bodies : List (ℕ × FixBox)) (plan : Plan) → IsPlanOf bodies plan → 0 < length bodies → 0 < node_count plan
node-there bodies plan h some = omega (arith, h.nodes, need_some (length bodies) some)

-- ten levels are enough to read its tree
pub tree-read : (bodies : List (ℕ × FixBox)) (plan : Plan) (levels : ℕ) → IsPlanOf bodies plan → 0 < length bodies → 10 ≤ levels → tree_from plan levels 0 ≡ tree bodies
tree-read bodies plan levels h some ten =
    elim (cases_lt levels (node_count plan)) [
      | inl fewer ↦ tree-low h.parents levels (node_count plan) 0 (omega arith) (omega (arith, h.low)) ∙ h.same_tree
      | inr enough ↦ tree-enough h.parents levels (node_count plan) 0 (node-there bodies plan h some) (omega arith) (omega arith) ∙ h.same_tree
    ]
