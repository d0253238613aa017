use Rattle.std.proofs.Common.{◌≡◌, ◌≤◌, ◌<◌, ◌+◌, ℕ, zero, suc, List, length, get_or, set, refl, sym, subst, arith}
use Rattle.fixed_box.specs.declared.fix_box.FixBox.{FixBox}
use Rattle.tree_plan.specs.declared.plan_child.PlanChild.TheVariants.{Body}
use Rattle.tree_plan.specs.Numbering.{HaveBoxes}
use Rattle.tree_plan.proofs.Slots.{IsNumbered-none, IsNumbered-one, IsNumbered-more, room_for_more, slot_under, slot_within}
use Rattle.tree_plan.proofs.Boxes.{HaveBoxes-body}
use Rattle.tree_plan.proofs.numbering.fill_slot.Goals as goal

two_or_more : (n : ℕ) → (n ≡ 0 → ⊥) → (n ≡ 1 → ⊥) → 2 ≤ n
two_or_more zero p q = absurd (p refl)
two_or_more (suc zero) p q = absurd (q refl)
two_or_more (suc (suc n)) p q = omega arith

pub returns-then-size-eq0-clause-numbered : goal.returns-then-size-eq0-clause-numbered
returns-then-size-eq0-clause-numbered c = IsNumbered-none _ _ _ _ _ _ _ c.requires.before c.requires.slot c.quarter-start.ensures.size c.if-size-eq0.true

pub returns-then-size-eq1-clause-numbered : goal.returns-then-size-eq1-clause-numbered
returns-then-size-eq1-clause-numbered c =
    IsNumbered-one _ _ _ _ _ _ _ _ _ c.requires.before c.requires.slot c.quarter-start.ensures.start c.quarter-start.ensures.size c.if-size-eq1.true

pub bounds-runs-count : goal.bounds-runs-count
bounds-runs-count c =
    omega (arith, room_for_more _ _ _ _ _ _ _ c.requires.before c.requires.slot c.quarter-start.ensures.size (two_or_more _ c.if-size-eq0.false c.if-size-eq1.false), c.requires.before.room)

pub returns-clause-numbered : goal.returns-clause-numbered
returns-clause-numbered c =
    IsNumbered-more _ _ _ _ _ _ _ c.requires.before c.requires.slot c.quarter-start.ensures.start c.quarter-start.ensures.size refl (two_or_more _ c.if-size-eq0.false c.if-size-eq1.false)

pub returns-then-size-eq1-clause-boxes : goal.returns-then-size-eq1-clause-boxes
returns-then-size-eq1-clause-boxes c =
    let places = c.requires.before.places in
    let before = c.requires.before in
    let under = slot_under c.args.runs.now c.args.nodes c.args.count c.args.slot c.requires.slot before.reached before.still in
    let within = slot_within c.args.bodies.now c.args.runs.now c.args.children.now c.args.nodes c.args.count c.args.slot before c.args.slot under in
    let some : c.quarter-start.result.0 < length c.args.bodies.now = omega (arith, within, c.quarter-start.ensures.start, c.quarter-start.ensures.size) in
    subst (λ (bs : List FixBox). HaveBoxes c.args.bodies.now (set c.args.children.now c.args.slot (Body (get_or c.args.bodies.now c.quarter-start.result.0 c.index-bodies-start.result).0)) bs (c.args.slot + 1)) (sym c.put_box.ensures)
    (HaveBoxes-body c.args.bodies.now c.args.children.now c.args.boxes.now c.args.slot c.quarter-start.result.0 c.index-bodies-start.result _ (omega arith) some c.requires.boxes_before)
