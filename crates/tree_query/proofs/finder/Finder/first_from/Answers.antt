use Rattle.std.proofs.Common.{◌≡◌, ℕ, ◌*◌, ◌/◌, ◌≤◌, List, false, subst}
use Rattle.std.specs.Prelude.{IfSome}
use Rattle.tree_query.specs.Indexes.{has_bit, IsFirst}
use Rattle.tree_query.proofs.Marks.{none-further, first-further, some-below}
use Rattle.tree_query.proofs.finder.Finder.first_from.Goals as goal

pub returns-in_err-next-clause-none : goal.returns-in_err-next-clause-none
returns-in_err-next-clause-none c =
    let self = c.args.self.now in
    let beside = subst (λ (ws : List ℕ). (other : ℕ) → c.args.at ≤ other → other / 64 ≡ c.args.at / 64 → has_bit ws other ≡ false) c.deref.ensures.value c.in_default.ensures.none in
    rw c.from_residual.ensures (none-further self.words.items self.touched.words.items self.marks c.args.at beside c.in_err-next.ensures.none)

pub returns-clause-some : goal.returns-clause-some
returns-clause-some c =
    let self = c.args.self.now in
    let beside = subst (λ (ws : List ℕ). (other : ℕ) → c.args.at ≤ other → other / 64 ≡ c.args.at / 64 → has_bit ws other ≡ false) c.deref.ensures.value c.in_default.ensures.none in
    first-further self.words.items self.touched.words.items self.marks c.args.at beside c.in_ok-next.next c.in_ok-next.ensures.some c.first_beside-2.result
    (subst (λ (ws : List ℕ). IfSome c.first_beside-2.result (IsFirst (has_bit ws) (c.in_ok-next.next * 64))) c.deref-2.ensures.value c.first_beside-2.ensures.some)

pub returns-clause-below : goal.returns-clause-below
returns-clause-below c =
    let self = c.args.self.now in
    some-below self.words.items _ (c.in_ok-next.next * 64) self.below c.first_beside-2.result
    (subst (λ (ws : List ℕ). IfSome c.first_beside-2.result (IsFirst (has_bit ws) (c.in_ok-next.next * 64))) c.deref-2.ensures.value c.first_beside-2.ensures.some)
