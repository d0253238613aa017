use Rattle.std.proofs.Common.{◌≡◌, ◌≤◌, ℕ, ◌*◌, List, ◌++◌, length, take, drop, sym, ap, subst, ◌∙◌, arith}
use Rattle.std.proofs.lemmas.List.{take-append-le, take_all}
use Rattle.fixed_box.specs.declared.fix_box.FixBox.{FixBox}
use Rattle.scene_model.specs.Need.{need}
use Rattle.tree_plan.specs.Plan.{Plan, node_count, IsPlanOf}
use Rattle.tree_plan.proofs.Growth.{need-grows}
use Rattle.tree_bounds.specs.Bounds.{AreBoundsOf}
use Rattle.tree_bounds.specs.Held.{HeldBounds, bound_in}
use Rattle.tree_bounds.proofs.Filling.{AreBoundsOf-same, bound_in-take}
use Rattle.tree_bounds.proofs.tree_bounds.TreeBounds.plan.Goals as goal

-- the nodes of a plan are no more than there is room for
fits : (bodies : List (ℕ × FixBox)) (plan : Plan) (most : ℕ) → IsPlanOf bodies plan → length bodies ≤ most → node_count plan ≤ need most
fits bodies plan most h few = omega (arith, h.nodes, need-grows (length bodies) most few)

-- the items of a vector that is written over as a slice
refilled : {X : Type 0} (n : ℕ) (xs old : List X) → length xs ≡ n → take n (xs ++ drop (length xs) old) ≡ xs
refilled n xs old size = take-append-le n xs (drop (length xs) old) (omega arith) ∙ take_all n xs (omega arith)

-- of all bounds those of the nodes are shown
shown : (bodies : List (ℕ × FixBox)) (plan : Plan) (nodes : ℕ) (boxes held : List FixBox) → IsPlanOf bodies plan → nodes ≡ node_count plan → held ≡ boxes → AreBoundsOf bodies plan (bound_in boxes)
    → AreBoundsOf bodies plan (bound_in (take (4 * nodes) held))
shown bodies plan nodes boxes held planned count same h =
    subst (λ (xs : List FixBox). AreBoundsOf bodies plan (bound_in (take (4 * nodes) xs))) (sym same)
    (AreBoundsOf-same bodies plan (bound_in boxes) (bound_in (take (4 * nodes) boxes)) planned (λ n k made few. bound_in-take boxes nodes n k (omega arith) few) h)

pub plan_with_bounds-requires-clause-room : goal.plan_with_bounds-requires-clause-room
plan_with_bounds-requires-clause-room c =
    let most = ap (λ (h : HeldBounds). h.most) c.self.view_is in
    omega (arith, need-grows (length c.args.bodies.now) c.self.inside.most (omega arith), c.self.invariant.2, c.deref_mut.ensures.len)

pub invariant_of-self : goal.invariant_of-self
invariant_of-self c =
    let i = c.self.invariant in
    let few = fits c.args.bodies.now c.plan_with_bounds.new.planner c.self.inside.most c.plan_with_bounds.ensures.plan (omega (arith, ap (λ (h : HeldBounds). h.most) c.self.view_is)) in
    (i.0, omega arith, i.2)

pub returns-clause-bounds : goal.returns-clause-bounds
returns-clause-bounds c =
    shown c.args.bodies.now c.plan_with_bounds.new.planner c.len-self-inside.result c.plan_with_bounds.new.bounds _ c.plan_with_bounds.ensures.plan c.len-self-inside.ensures
    (refilled c.self.inside.bounds.len c.plan_with_bounds.new.bounds c.self.inside.bounds.items (omega (arith, c.deref_mut.ensures.len, c.plan_with_bounds.ensures.room))) c.plan_with_bounds.ensures.bounds
