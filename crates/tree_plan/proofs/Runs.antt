-- How many of a node's four runs are the longer ones.
use Rattle.std.proofs.Common.{◌≡◌, ℕ, zero, suc, ◌+◌, ◌-◌, ◌*◌, ◌/◌, ◌%◌, ◌<◌, ◌≤◌, map, sum, sym, add_assoc, ap, ◌∙◌, arith}
use Rattle.scene_model.specs.Need.{run_sizes, need_of_run, need}
use Rattle.scene_model.proofs.Needs.{need-more, need-small, need_of_run-two}

pub sum_of_runs : (f : ℕ → ℕ) (n e g h i : ℕ) → (n - n / 2) - (n - n / 2) / 2 ≡ e → (n - n / 2) / 2 ≡ g → n / 2 - n / 2 / 2 ≡ h → n / 2 / 2 ≡ i
    → sum (map f (run_sizes n)) ≡ f e + f g + f h + f i
sum_of_runs f n e g h i p q r s = omega (arith, ap f p, ap f q, ap f r, ap f s)

runs-0 : (f : ℕ → ℕ) (n q : ℕ) → n ≡ 4 * q → sum (map f (run_sizes n)) ≡ 4 * f q + 0 * f (q + 1)
runs-0 f n q e = omega (arith, sum_of_runs f n q q q q (omega arith) (omega arith) (omega arith) (omega arith))

runs-1 : (f : ℕ → ℕ) (n q : ℕ) → n ≡ 4 * q + 1 → sum (map f (run_sizes n)) ≡ 3 * f q + 1 * f (q + 1)
runs-1 f n q e = omega (arith, sum_of_runs f n (q + 1) q q q (omega arith) (omega arith) (omega arith) (omega arith))

runs-2 : (f : ℕ → ℕ) (n q : ℕ) → n ≡ 4 * q + 2 → sum (map f (run_sizes n)) ≡ 2 * f q + 2 * f (q + 1)
runs-2 f n q e = omega (arith, sum_of_runs f n (q + 1) q (q + 1) q (omega arith) (omega arith) (omega arith) (omega arith))

runs-3 : (f : ℕ → ℕ) (n q : ℕ) → n ≡ 4 * q + 3 → sum (map f (run_sizes n)) ≡ 1 * f q + 3 * f (q + 1)
runs-3 f n q e = omega (arith, sum_of_runs f n (q + 1) (q + 1) (q + 1) q (omega arith) (omega arith) (omega arith) (omega arith))

-- of n bodies as many runs are longer as n leaves over a multiple of four
runs_by : (f : ℕ → ℕ) (n q over : ℕ) → n ≡ 4 * q + over → over < 4 → sum (map f (run_sizes n)) ≡ (4 - over) * f q + over * f (q + 1)
runs_by f n q zero e few = runs-0 f n q (omega arith)
runs_by f n q (suc zero) e few = runs-1 f n q (omega arith)
runs_by f n q (suc (suc zero)) e few = runs-2 f n q (omega arith)
runs_by f n q (suc (suc (suc zero))) e few = runs-3 f n q (omega arith)
runs_by f n q (suc (suc (suc (suc k)))) e few = absurd (omega arith)

need-quarters : (n : ℕ) → 0 < n → need n ≡ 1 + ((4 - n % 4) * need_of_run need (n / 4) + n % 4 * need_of_run need (n / 4 + 1))
need-quarters n some = need-more n some ∙ ap (λ k. 1 + k) (runs_by (need_of_run need) n (n / 4) (n % 4) (omega arith) (omega arith))

-- one body more makes one run more a longer one
next_by : (f : ℕ → ℕ) (n q over : ℕ) → n ≡ 4 * q + over → over < 4 → sum (map f (run_sizes (n + 1))) ≡ (3 - over) * f q + (over + 1) * f (q + 1)
next_by f n q zero e few = omega (arith, runs-1 f (n + 1) q (omega arith))
next_by f n q (suc zero) e few = omega (arith, runs-2 f (n + 1) q (omega arith))
next_by f n q (suc (suc zero)) e few = omega (arith, runs-3 f (n + 1) q (omega arith))
next_by f n q (suc (suc (suc zero))) e few = omega (arith, runs-0 f (n + 1) (q + 1) (omega arith))
next_by f n q (suc (suc (suc (suc k)))) e few = absurd (omega arith)

need-next : (n : ℕ) → need (n + 1) ≡ 1 + ((3 - n % 4) * need_of_run need (n / 4) + (n % 4 + 1) * need_of_run need (n / 4 + 1))
need-next n = need-more (n + 1) (omega arith) ∙ ap (λ k. 1 + k) (next_by (need_of_run need) n (n / 4) (n % 4) (omega arith) (omega arith))

-- a run takes below its node what its tree takes, and never more than it has bodies
pub need_of_run-quarters : (n a b : ℕ) → 2 ≤ n → a ≡ need_of_run need (n / 4) → b ≡ need_of_run need (n / 4 + 1) → 1 + (4 - n % 4) * a + n % 4 * b ≡ need_of_run need n
need_of_run-quarters n a b two p q = rw (p, q) (sym (need_of_run-two need n two ∙ need-quarters n (omega arith) ∙ sym (add_assoc 1 _ _)))

pub need_of_run-next : (n a b : ℕ) → 1 ≤ n → a ≡ need_of_run need (n / 4) → b ≡ need_of_run need (n / 4 + 1)
    → 1 + (3 - n % 4) * a + (n % 4 + 1) * b ≡ need_of_run need (n + 1)
need_of_run-next n a b some p q = rw (p, q) (sym (need_of_run-two need (n + 1) (omega arith) ∙ need-next n ∙ sym (add_assoc 1 _ _)))

pub need_of_run-few : (n : ℕ) → need_of_run need n ≤ n
need_of_run-few zero = omega arith
need_of_run-few (suc zero) = omega arith
need_of_run-few (suc (suc k)) = omega (arith, need_of_run-two need (suc (suc k)) (omega arith), need-small (suc (suc k)))
