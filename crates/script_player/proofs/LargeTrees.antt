-- The tree over many bodies has many nodes.
use Rattle.std.proofs.Common.{◌≡◌, ℕ, zero, suc, ◌+◌, ◌-◌, ◌*◌, ◌/◌, ◌<◌, ◌≤◌, Bool, true, false, cond, nat_lt, refl, ap, sym, Some, None, arith}
use Rattle.std.proofs.lemmas.Bool.Decides.{nat_tests}
use Rattle.std.proofs.lemmas.Bool.{lt-ltb}
use Rattle.word_map.specs.declared.config.TheConstants.{MAX_NODES}
use Rattle.scene_model.specs.Need.{need, need_of_run, need_within}
use Rattle.tree_plan.specs.declared.node_count.TheConstants.{MAX_TREE_BODIES}

cond-large : (b : Bool) (x run : ℕ) → (b ≡ true → run ≤ 1) → (b ≡ false → run ≤ 4 * x) → run ≤ 4 * cond b 0 x + 1
cond-large true x run few many = let h = few refl in omega arith
cond-large false x run few many = let h = many refl in omega arith

one_at_most : (run : ℕ) → nat_lt run 2 ≡ true → run ≤ 1
one_at_most run e = grind (arith, nat_tests)

two_or_more : (run : ℕ) → nat_lt run 2 ≡ false → 2 ≤ run
two_or_more run e = grind (arith, nat_tests)

need_of_run-large : (f : ℕ → ℕ) (run : ℕ) → (2 ≤ run → run ≤ 4 * f run) → run ≤ 4 * need_of_run f run + 1
need_of_run-large f run large = cond-large (nat_lt run 2) (f run) run (one_at_most run) (λ e. large (two_or_more run e))

-- each node has at most four bodies of its own
need_within-large : (levels n : ℕ) → n ≤ levels → n ≤ 4 * need_within levels n
need_within-large zero n within = omega arith
need_within-large (suc levels) n within =
    let front = n - n / 2 in
    let back = n / 2 in
    let large : (run : ℕ) → (2 ≤ run → run ≤ levels) → run ≤ 4 * need_of_run (need_within levels) run + 1 =
    λ run fewer. need_of_run-large (need_within levels) run (λ two. need_within-large levels run (fewer two)) in
    omega (
      arith,
      large (front - front / 2) (λ two. omega arith),
      large (front / 2) (λ two. omega arith),
      large (back - back / 2) (λ two. omega arith),
      large (back / 2) (λ two. omega arith),
    )

pub need-large : (n : ℕ) → n ≤ 4 * need n
need-large n = need_within-large n n (omega arith)

-- the tree over more bodies than are counted has more nodes than any world
pub too_many : (count free : ℕ) → free ≤ MAX_NODES → MAX_TREE_BODIES < count → None ≡ cond (nat_lt free (need count)) None (Some (need count))
too_many count free most many =
    let few : free < need count = omega (arith, need-large count) in
    ap (λ b. cond b None (Some (need count))) (sym (lt-ltb free (need count) few))
