-- A batch that is drawn by its plan is a whole tree.
use Rattle.std.proofs.Common.{◌≡◌, ◌≢◌, ℕ, ◌<◌, List, [], ◌∷◌, length, Option, Some, None, Contains, refl, sym, ◌∙◌, ap, subst, inl, inr, arith}
use Rattle.fixed_box.specs.declared.fix_box.FixBox.{FixBox}
use Rattle.tree_plan.specs.declared.plan_child.PlanChild.{PlanChild}
use Rattle.tree_plan.specs.declared.plan_child.PlanChild.TheVariants.{Nothing, Body, Node}
use Rattle.tree_plan.specs.Plan.{Plan, node_count, child_at, parent_at}
use Rattle.tree_bounds.specs.Bounds.{side}
use Rattle.word_map.specs.declared.name.Name.{Name}
use Rattle.word_map.specs.declared.name.Name.TheVariants.{Child}
use Rattle.core_state.specs.declared.view.Marked.{Marked}
use Rattle.core_state.specs.declared.view.Batch.{Batch}
use Rattle.core_state.specs.Encoding.{sides_of, IsBox, Covers, bound_in}
use Rattle.core_state.specs.Space.{IsInHull}
use Rattle.core_state.proofs.Beginning.{contains_first}
use Rattle.core_state.specs.Batches.{IsPart, nothing, a_body, a_node, IsBelowRoot, IsEntered, HasSide, IsWholeTree}
use Rattle.batch_add.specs.Drawing.{node_at, IsMarkedAs, IsDrawn}
use Rattle.batch_add.proofs.Levels.{level-low, root-alone, child-node}
use Rattle.batch_add.proofs.Drawn.{root-made, node-among, each-node, depth, depth-node_at, depth-child, child-said, parent-said, child-there, marked-at, stands-at}
use Rattle.batch_add.proofs.Bounds.{box-said, tight-said, encloses-above}

module _ {word : Name → ℕ} {bodies : List (ℕ × FixBox)} {plan : Plan} {bound : ℕ → ℕ → FixBox} {batch : Batch} (d : IsDrawn word bodies plan bound batch) where
  abbrev at : ℕ → ℕ
  at n = node_at batch.nodes n

  abbrev Depth : ℕ → ℕ
  Depth = depth d

  -- what the plan has at a place stands there
  part : (n k : ℕ) (e : PlanChild) → n < node_count plan → k < 4 → child_at plan n k ≡ e → IsPart word batch Depth (at n) k
  part n k Nothing made few there = nothing (child-said d n k Nothing made few there)
  part n k (Body index) made few there =
      let t = marked-at d n k index made few there in
      let own : child_at plan n k ≡ Body t.m.index = there ∙ ap Body (sym t.is) in
      a_body t.m t.marked ((d.placed t.m t.marked).1 n k made few own) (child-said d n k (Body t.m.index) made few own)
  part n k (Node c) made few there =
      let up = child-node d.planned.parents n k c made few there in
      a_node (at c) (node-among d c up.2) (child-said d n k (Node c) made few there)
      (parent-said d c (Some (n, k)) up.2 up.0) (depth-child d n k c up.2 up.0 made)

  -- each node is the root, or stands where its parent word says
  under-root : (n : ℕ) (o : Option (ℕ × ℕ)) → n < node_count plan → parent_at plan n ≡ o → IsBelowRoot word batch (at 0) (at n)
  under-root n None made none = inl (ap at (root-alone d.planned.parents n made none), parent-said d n None made none)
  under-root n (Some above) made e =
      let tree = d.planned.parents in
      let p = above.0 in
      let k = above.1 in
      let is_above = tree.above n p k e in
      let number_less = is_above.0 in
      let less : p < node_count plan = omega arith in
      let there = (tree.agree p k n less is_above.1).0 e in
      inr (at p, k, is_above.1, node-among d p less, parent-said d n (Some above) made e, child-said d p k (Node n) less is_above.1 there)

  -- there are ten levels at most
  low : (n : ℕ) → n < node_count plan → Depth (at n) < 10
  low n made = let deep = level-low d.planned.parents n made in omega (arith, depth-node_at d n made, d.planned.low)

  -- a child that is a body is something
  body_some : (e : PlanChild) (index : ℕ) → e ≡ Body index → e ≢ Nothing
  body_some e index is none = cc

  -- each body has its entry at its place, and the bounds above contain its box
  entered : (m : Marked) → Contains batch.marked m → IsEntered word batch m
  entered m marked =
      let s = stands-at d m marked in
      let placed = d.placed m marked in
      let own : Covers (side (bound s.node s.child)) (sides_of m.bounds) =
      subst (λ (w : List ℕ). Covers (side (bound s.node s.child)) (sides_of w)) (sym s.bounds) (λ q below. (omega arith, omega arith)) in
      record {
        placed = placed.0;
        node = at s.node;
        child = s.child;
        below = s.below;
        in_batch = node-among d s.node s.made;
        at = placed.1 s.node s.child s.made s.below s.there;
        entry = child-said d s.node s.child (Body m.index) s.made s.below s.there;
        encloses = λ a b above.
            encloses-above d (sides_of m.bounds) (at s.node) s.child a b above s.node refl s.made s.below (body_some (child_at plan s.node s.child) m.index s.there) own;
      }

  -- there is a body
  has_body : (m : Marked) × Contains batch.marked m
  has_body = first bodies d.some d.of_batch.all
    where
      first : (xs : List (ℕ × FixBox)) → 0 < length xs → ((body : ℕ × FixBox) → Contains xs body → (m : Marked) × Contains batch.marked m × IsMarkedAs m body) → (m : Marked) × Contains batch.marked m
      first [] some all = absurd (omega arith)
      first (b ∷ rest) some all = let t = all b (contains_first b rest) in (t.0, t.1)

  whole : IsWholeTree word batch (at 0)
  whole = record {
    depth = Depth;
    rooted = node-among d 0 (root-made d);
    parts = λ c k among few. each-node d (λ x. IsPart word batch Depth x k) (λ n made. part n k (child_at plan n k) made few refl) c among;
    under_root = each-node d (IsBelowRoot word batch (at 0)) (λ n made. under-root n (parent_at plan n) made refl);
    height = each-node d (λ x. Depth x < 10) low;
    entered = entered;
    some = has_body;
    boxes = λ c k among few.
        each-node d (λ x. word (Child x k) ≢ 0 → IsBox (bound_in word x k))
        (λ n made some. box-said d n k made few (child-there d n k made few some)) c among;
    tight = λ c k among few.
        each-node d (λ x. word (Child x k) ≢ 0 → IsInHull (HasSide batch) (bound_in word x k))
        (λ n made some. tight-said d n k made few (child-there d n k made few some)) c among;
  }

-- the nodes of a batch that is drawn are one tree over its bodies
pub drawn-whole : (word : Name → ℕ) (bodies : List (ℕ × FixBox)) (plan : Plan) (bound : ℕ → ℕ → FixBox) (batch : Batch) → IsDrawn word bodies plan bound batch → IsWholeTree word batch (node_at batch.nodes 0)
drawn-whole word bodies plan bound batch d = whole d
