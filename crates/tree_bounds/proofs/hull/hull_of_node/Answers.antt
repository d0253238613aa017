use Rattle.std.proofs.Common.{◌≡◌, ℕ, ◌+◌, ◌*◌, ◌<◌, List, length, subst, sym, ◌∙◌, get_or, arith}
use Rattle.std.proofs.lemmas.List.{get_or_default}
use Rattle.fixed_box.specs.FixBox.{IsHull}
use Rattle.fixed_box.specs.declared.fix_box.FixBox.{FixBox}
use Rattle.tree_bounds.specs.Held.{no_bound, bound_in}
use Rattle.tree_bounds.proofs.NodeHulls.{IsHullOfSome, IsHullOfSome-nothing, IsHullOfSome-more, IsHullOfNode-all}
use Rattle.tree_bounds.proofs.hull.hull_of_node.Goals as goal
use Rattle.tree_bounds.proofs.hull.hull_of_node.Goals.{in-Nothing, in_default}

-- what is read at a place is the bound that stands there
bound_read : (boxes : List FixBox) (n k : ℕ) (read : FixBox) → 4 * n + k < length boxes → read ≡ get_or boxes (4 * n + k) read → read ≡ bound_in boxes n k
bound_read boxes n k read within e = e ∙ get_or_default boxes (4 * n + k) read no_bound within

pub loop-c-preserved : goal.loop-c-preserved
loop-c-preserved c =
    let plan = c.args.planner.now in
    let n = c.args.node in
    let k = c.loop-c.c in
    let bound = bound_in c.args.bounds.now in
    elim c.match-child.branch [
      | in-Nothing w ↦ subst (IsHullOfSome plan bound n (k + 1)) (sym w.hull-is) (IsHullOfSome-nothing plan bound n k c.loop-c.hull (sym c.child.ensures ∙ w.in-Nothing.is) c.loop-c.invariant)
      | in_default w ↦
          let read = bound_read c.args.bounds.now n k w.index-bounds-first-in_default.result (omega arith) w.index-bounds-first-in_default.is in
          let both = subst (λ (b : FixBox). IsHull c.loop-c.hull b w.hull-hull.result) read w.hull-hull.ensures in
          subst (IsHullOfSome plan bound n (k + 1)) (sym w.hull-is)
          (IsHullOfSome-more plan bound n k c.loop-c.hull w.hull-hull.result (λ e. w.in_default.not-Nothing (c.child.ensures ∙ e)) both c.loop-c.invariant)
    ]

pub returns : goal.returns
returns c =
    let all : c.loop-c.c ≡ 4 = omega arith in
    let plan = c.args.planner.now in
    let bound = bound_in c.args.bounds.now in
    IsHullOfNode-all plan bound c.args.node c.loop-c.hull (subst (λ (k : ℕ). IsHullOfSome plan bound c.args.node k c.loop-c.hull) all c.loop-c.invariant)
