-- How the number of nodes follows from the sizes of the runs.
use Rattle.std.proofs.Common.{◌≡◌, ℕ, zero, suc, ◌+◌, ◌-◌, ◌/◌, ◌<◌, ◌≤◌, Bool, true, false, cond, nat_lt, max, [], ◌∷◌, map, sum, refl, ap, lit≤, arith}
use Rattle.std.proofs.lemmas.Bool.Decides.{nat_tests}
use Rattle.scene_model.specs.Need.{run_sizes, need_of_run, need_within, need}

cond-agree : (b : Bool) (x y : ℕ) → (b ≡ false → x ≡ y) → cond b 0 x ≡ cond b 0 y
cond-agree true x y same = refl
cond-agree false x y same = same refl

two_or_more : (n : ℕ) → nat_lt n 2 ≡ false → 2 ≤ n
two_or_more n e = grind (arith, nat_tests)

-- what a run needs looks at the nodes below it only where it has two bodies or more
pub need_of_run-agree : (f g : ℕ → ℕ) (run : ℕ) → (2 ≤ run → f run ≡ g run) → need_of_run f run ≡ need_of_run g run
need_of_run-agree f g run same = cond-agree (nat_lt run 2) (f run) (g run) (λ e. same (two_or_more run e))

same_four : (a b c d e f g h : ℕ) → a ≡ e → b ≡ f → c ≡ g → d ≡ h → a ∷ b ∷ c ∷ d ∷ [] ≡ e ∷ f ∷ g ∷ h ∷ []
same_four a b c d e f g h p q r s = cc

-- the runs of some bodies are fewer, where there are two of them or more
runs-agree : (f g : ℕ → ℕ) (n : ℕ) → ((run : ℕ) → 2 ≤ run → run < n → f run ≡ g run) → map (need_of_run f) (run_sizes n) ≡ map (need_of_run g) (run_sizes n)
runs-agree f g n same =
    let front = n - n / 2 in
    let back = n / 2 in
    let at : (run : ℕ) → (2 ≤ run → run < n) → need_of_run f run ≡ need_of_run g run =
    λ run fewer. need_of_run-agree f g run (λ two. same run two (fewer two)) in
    same_four _ _ _ _ _ _ _ _
    (at (front - front / 2) (λ two. omega arith))
    (at (front / 2) (λ two. omega arith))
    (at (back - back / 2) (λ two. omega arith))
    (at (back / 2) (λ two. omega arith))

-- more levels than bodies change nothing
pub need_within-enough : (j k n : ℕ) → 0 < n → n ≤ j → n ≤ k → need_within j n ≡ need_within k n
need_within-enough zero k n some below within = absurd (omega arith)
need_within-enough (suc j) zero n some below within = absurd (omega arith)
need_within-enough (suc j) (suc k) n some below within =
    ap (λ xs. 1 + sum xs)
    (runs-agree (need_within j) (need_within k) n (λ run two fewer. need_within-enough j k run (omega arith) (omega arith) (omega arith)))

pub need-more : (n : ℕ) → 0 < n → need n ≡ 1 + sum (map (need_of_run need) (run_sizes n))
need-more zero some = absurd (omega arith)
need-more (suc n) some =
    ap (λ xs. 1 + sum xs)
    (runs-agree (need_within n) need (suc n) (λ run two fewer. need_within-enough n run run (omega arith) (omega arith) (omega arith)))

cond-small : (b : Bool) (x most : ℕ) → (b ≡ false → x ≤ most) → cond b 0 x ≤ most
cond-small true x most small = omega arith
cond-small false x most small = small refl

-- a run of bodies needs fewer nodes than it has bodies
need_of_run-small : (f : ℕ → ℕ) (run : ℕ) → (2 ≤ run → f run + 1 ≤ run) → need_of_run f run ≤ run - 1
need_of_run-small f run small = cond-small (nat_lt run 2) (f run) (run - 1) (λ e. let fewer = small (two_or_more run e) in omega arith)

need_within-small : (levels n : ℕ) → 2 ≤ n → need_within levels n + 1 ≤ n
need_within-small zero n two = omega arith
need_within-small (suc levels) n two =
    let front = n - n / 2 in
    let back = n / 2 in
    let small : (run : ℕ) → need_of_run (need_within levels) run ≤ run - 1 = λ run. need_of_run-small (need_within levels) run (need_within-small levels run) in
    omega (arith, small (front - front / 2), small (front / 2), small (back - back / 2), small (back / 2))

pub need-small : (n : ℕ) → need n ≤ max 1 n
need-small zero = omega arith
need-small (suc zero) = lit≤ tt
need-small (suc (suc n)) = omega (arith, need_within-small (suc (suc n)) (suc (suc n)) (omega arith))

not_fewer : (n : ℕ) → 2 ≤ n → nat_lt n 2 ≡ false
not_fewer n two = grind (arith, nat_tests)

pub need_of_run-two : (f : ℕ → ℕ) (run : ℕ) → 2 ≤ run → need_of_run f run ≡ f run
need_of_run-two f run two = ap (λ b. cond b 0 (f run)) (not_fewer run two)
