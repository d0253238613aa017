-- The four runs of a run by their places.
use Rattle.std.proofs.Common.{◌≡◌, ℕ, zero, suc, ◌+◌, ◌-◌, ◌<◌, ◌≤◌, List, ◌++◌, length, take, drop, refl, sym, ◌∙◌, ap, arith, take-append-drop}
use Rattle.std.proofs.lemmas.List.{take-take, drop-drop, drop-take, length-take, length-drop, take_all}
use Rattle.fixed_box.specs.declared.fix_box.FixBox.{FixBox}
use Rattle.scene_model.specs.Need.{need, need_of_run}
use Rattle.scene_model.proofs.Needs.{need-more}
use Rattle.tree_plan.specs.Quarters.{quarter_start, quarter_size}
use Rattle.tree_plan.specs.Numbering.{part}
use Rattle.tree_plan.proofs.Runs.{sum_of_runs}

pub quarter_within : (n c : ℕ) → quarter_start n c + quarter_size n c ≤ n
quarter_within n zero = omega arith
quarter_within n (suc zero) = omega arith
quarter_within n (suc (suc zero)) = omega arith
quarter_within n (suc (suc (suc c))) = omega arith

pub quarter_less : (n c : ℕ) → 2 ≤ quarter_size n c → quarter_size n c < n
quarter_less n zero two = omega arith
quarter_less n (suc zero) two = omega arith
quarter_less n (suc (suc zero)) two = omega arith
quarter_less n (suc (suc (suc c))) two = omega arith

-- what the four runs need below a node
pub need_by_quarters : (n : ℕ) → 0 < n
    → need n ≡ 1 + (need_of_run need (quarter_size n 0) + need_of_run need (quarter_size n 1) + need_of_run need (quarter_size n 2) + need_of_run need (quarter_size n 3))
need_by_quarters n some =
    need-more n some ∙ ap (λ k. 1 + k) (sum_of_runs (need_of_run need) n (quarter_size n 0) (quarter_size n 1) (quarter_size n 2) (quarter_size n 3) refl refl refl refl)

pub length-part : (bodies : List (ℕ × FixBox)) (start size : ℕ) → start + size ≤ length bodies → length (part bodies start size) ≡ size
length-part bodies start size within = omega (arith, length-take size (drop start bodies), length-drop start bodies)

pub part-whole : (bodies : List (ℕ × FixBox)) → part bodies 0 (length bodies) ≡ bodies
part-whole bodies = take_all (length bodies) bodies (omega arith)

-- a part in two
part-split : (bodies : List (ℕ × FixBox)) (start m n : ℕ) → part bodies start (m + n) ≡ part bodies start m ++ part bodies (start + m) n
part-split bodies start m n =
    let ys = drop start bodies in
    sym (take-append-drop m (take (m + n) ys))
    ∙ ap (λ us. us ++ drop m (take (m + n) ys)) (take-take m (m + n) ys (omega arith))
    ∙ ap (λ vs. take m ys ++ vs) (drop-take m n ys ∙ ap (take n) (drop-drop m start bodies))

pub part-front : (bodies : List (ℕ × FixBox)) (start m n : ℕ) → m ≤ n → take m (part bodies start n) ≡ part bodies start m
part-front bodies start m n few = take-take m n (drop start bodies) few

pub part-back : (bodies : List (ℕ × FixBox)) (start m n : ℕ) → m ≤ n → drop m (part bodies start n) ≡ part bodies (start + m) (n - m)
part-back bodies start m n few =
    let whole : m + (n - m) ≡ n = omega arith in
    ap (λ k. drop m (take k (drop start bodies))) (sym whole) ∙ drop-take m (n - m) (drop start bodies) ∙ ap (take (n - m)) (drop-drop m start bodies)

four_parts : (bodies : List (ℕ × FixBox)) (start a b c d : ℕ)
    → part bodies start (a + (b + (c + d))) ≡ part bodies start a ++ (part bodies (start + a) b ++ (part bodies (start + (a + b)) c ++ part bodies (start + (a + b + c)) d))
four_parts bodies start a b c d =
    let second : start + a + b ≡ start + (a + b) = omega arith in
    let third : start + (a + b) + c ≡ start + (a + b + c) = omega arith in
    part-split bodies start a (b + (c + d))
    ∙ ap (λ ys. part bodies start a ++ ys) (part-split bodies (start + a) b (c + d))
    ∙ ap (λ k. part bodies start a ++ (part bodies (start + a) b ++ part bodies k (c + d))) second
    ∙ ap (λ ys. part bodies start a ++ (part bodies (start + a) b ++ ys)) (part-split bodies (start + (a + b)) c d)
    ∙ ap (λ k. part bodies start a ++ (part bodies (start + a) b ++ (part bodies (start + (a + b)) c ++ part bodies k d))) third

-- a run is its four runs, one after the other
pub quarters_join : (bodies : List (ℕ × FixBox)) (start n : ℕ)
    → part bodies (start + quarter_start n 0) (quarter_size n 0) ++ (part bodies (start + quarter_start n 1) (quarter_size n 1) ++ (part bodies (start + quarter_start n 2) (quarter_size n 2) ++ part bodies (start + quarter_start n 3) (quarter_size n 3)))
    ≡ part bodies start n
quarters_join bodies start n =
    let a = quarter_size n 0 in
    let b = quarter_size n 1 in
    let c = quarter_size n 2 in
    let d = quarter_size n 3 in
    let first : start + 0 ≡ start = omega arith in
    let third : quarter_start n 2 ≡ a + b = omega arith in
    let fourth : quarter_start n 3 ≡ a + b + c = omega arith in
    let whole : a + (b + (c + d)) ≡ n = omega arith in
    ap (λ k. part bodies k a ++ (part bodies (start + a) b ++ (part bodies (start + quarter_start n 2) c ++ part bodies (start + quarter_start n 3) d))) first
    ∙ ap (λ k. part bodies start a ++ (part bodies (start + a) b ++ (part bodies (start + k) c ++ part bodies (start + quarter_start n 3) d))) third
    ∙ ap (λ k. part bodies start a ++ (part bodies (start + a) b ++ (part bodies (start + (a + b)) c ++ part bodies (start + k) d))) fourth
    ∙ sym (four_parts bodies start a b c d) ∙ ap (part bodies start) whole
