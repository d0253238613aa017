-- More bodies need no fewer nodes.
use Rattle.std.proofs.Common.{ℕ, zero, suc, ◌-◌, ◌/◌, ◌<◌, ◌≤◌, cond, ◌⊎◌, inl, inr, refl, ap, arith}
use Rattle.std.proofs.lemmas.Bool.{lt-ltb, cases_lt}
use Rattle.scene_model.specs.Need.{need_of_run, need_within, need}
use Rattle.scene_model.proofs.Needs.{need_within-enough, need_of_run-two}
use Rattle.tree_plan.proofs.Runs.{sum_of_runs}

run_grows_by : (f : ℕ → ℕ) (m n : ℕ) → ((j k : ℕ) → j ≤ k → f j ≤ f k) → m ≤ n → (m < 2) ⊎ (2 ≤ m) → need_of_run f m ≤ need_of_run f n
run_grows_by f m n grows few (inl one) = omega (arith, ap (λ b. cond b 0 (f m)) (lt-ltb m 2 one))
run_grows_by f m n grows few (inr two) = omega (arith, need_of_run-two f m two, need_of_run-two f n (omega arith), grows m n few)

run_grows : (f : ℕ → ℕ) (m n : ℕ) → ((j k : ℕ) → j ≤ k → f j ≤ f k) → m ≤ n → need_of_run f m ≤ need_of_run f n
run_grows f m n grows few = run_grows_by f m n grows few (cases_lt m 2)

within_grows : (levels m n : ℕ) → m ≤ n → need_within levels m ≤ need_within levels n
within_grows zero m n few = omega arith
within_grows (suc levels) m n few =
    let f = need_within levels in
    let run : (j k : ℕ) → j ≤ k → need_of_run f j ≤ need_of_run f k = λ j k h. run_grows f j k (λ i l p. within_grows levels i l p) h in
    let a = run ((m - m / 2) - (m - m / 2) / 2) ((n - n / 2) - (n - n / 2) / 2) (omega arith) in
    let b = run ((m - m / 2) / 2) ((n - n / 2) / 2) (omega arith) in
    let c = run (m / 2 - m / 2 / 2) (n / 2 - n / 2 / 2) (omega arith) in
    let d = run (m / 2 / 2) (n / 2 / 2) (omega arith) in
    omega (arith, a, b, c, d, sum_of_runs (need_of_run f) m _ _ _ _ refl refl refl refl, sum_of_runs (need_of_run f) n _ _ _ _ refl refl refl refl)

pub need-grows : (m n : ℕ) → m ≤ n → need m ≤ need n
need-grows zero n few = omega arith
need-grows (suc m) n few = omega (arith, need_within-enough (suc m) n (suc m) (omega arith) (omega arith) few, within_grows n (suc m) n few)
