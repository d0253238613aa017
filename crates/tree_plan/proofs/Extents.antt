-- The least and the greatest doubled centre of the bodies so far, and the widest axis.
use Rattle.std.proofs.Common.{◌≡◌, ℕ, ◌+◌, ◌<◌, Bool, true, false, cond, List, [], ◌∷◌, ◌++◌, length, get_or, take, map, fold, ℤ, ◌-ℤ◌, refl, sym, ◌∙◌, ap, subst, arith}
use Rattle.std.specs.Int.{int_max, int_min}
use Rattle.std.specs.Prelude.{int_lt}
use Rattle.std.proofs.lemmas.List.{take_more, map-append, take_all}
use Rattle.std.proofs.lemmas.List.Sums.{fold_push}
use Rattle.fixed_box.specs.declared.fix_box.FixBox.{FixBox}
use Rattle.scene_model.specs.Tree.{centre, spread, wider, widest}
use Rattle.tree_plan.specs.Axes.{IsCentre, IsExtent}

-- over the first body and the first n bodies
pub record Reached (axis : ℕ) (bodies : List (ℕ × FixBox)) (n : ℕ) (low high : ℤ) : Type 0 where
  pub least : (d : ℕ × FixBox) → low ≡ fold int_min (centre axis (get_or bodies 0 d)) (map (centre axis) (take n bodies))
  pub greatest : (d : ℕ × FixBox) → high ≡ fold int_max (centre axis (get_or bodies 0 d)) (map (centre axis) (take n bodies))
  pub low_in : IsCentre low
  pub high_in : IsCentre high

cond_same : (b : Bool) (x : ℤ) → cond b x x ≡ x
cond_same true x = refl
cond_same false x = refl

-- both are the first body's centre before the first turn
pub Reached-none : (axis : ℕ) (bodies : List (ℕ × FixBox)) (b : ℕ × FixBox) (low high : ℤ) → 0 < length bodies → b ≡ get_or bodies 0 b
    → low ≡ centre axis b → high ≡ centre axis b → IsCentre low → Reached axis bodies 0 low high
Reached-none axis [] b low high some at p q in_range = absurd (omega arith)
Reached-none axis (x ∷ xs) b low high some at p q in_range = record {
  least = λ d. p ∙ ap (centre axis) at;
  greatest = λ d. q ∙ ap (centre axis) at;
  low_in = in_range;
  high_in = subst IsCentre (p ∙ sym q) in_range;
}

-- one more centre in a fold over the first ones
fold_more : (f : ℤ → ℤ → ℤ) (start : ℤ) (g : ℕ × FixBox → ℤ) (bodies : List (ℕ × FixBox)) (n : ℕ) (b : ℕ × FixBox) → n < length bodies → b ≡ get_or bodies n b
    → fold f start (map g (take (n + 1) bodies)) ≡ f (fold f start (map g (take n bodies))) (g b)
fold_more f start g bodies n b within at =
    ap (λ ys. fold f start (map g ys)) (take_more bodies n b within ∙ ap (λ y. take n bodies ++ y ∷ []) (sym at))
    ∙ ap (fold f start) (map-append g (take n bodies) (b ∷ []))
    ∙ fold_push f start (map g (take n bodies)) (g b)

pub Reached-more : (axis : ℕ) (bodies : List (ℕ × FixBox)) (n : ℕ) (b : ℕ × FixBox) (low high low' high' : ℤ) → Reached axis bodies n low high → n < length bodies → b ≡ get_or bodies n b
    → low' ≡ int_min low (centre axis b) → high' ≡ int_max high (centre axis b) → (IsCentre low → IsCentre low') → (IsCentre high → IsCentre high') → Reached axis bodies (n + 1) low' high'
Reached-more axis bodies n b low high low' high' so_far within at p q low_in high_in = record {
  least = λ d. p ∙ ap (λ k. int_min k (centre axis b)) (so_far.least d) ∙ sym (fold_more int_min _ (centre axis) bodies n b within at);
  greatest = λ d. q ∙ ap (λ k. int_max k (centre axis b)) (so_far.greatest d) ∙ sym (fold_more int_max _ (centre axis) bodies n b within at);
  low_in = low_in so_far.low_in;
  high_in = high_in so_far.high_in;
}

pub Reached-all : (axis : ℕ) (bodies : List (ℕ × FixBox)) (n : ℕ) (low high : ℤ) → 0 < length bodies → n ≡ length bodies → Reached axis bodies n low high → IsExtent axis bodies low high
Reached-all axis [] n low high some all so_far = absurd (omega arith)
Reached-all axis (b ∷ bs) n low high some all so_far =
    let whole : take n (b ∷ bs) ≡ b ∷ bs = take_all n (b ∷ bs) (omega arith) in
    let c = centre axis b in
    let least : low ≡ fold int_min c (map (centre axis) bs) =
    so_far.least b ∙ ap (λ ys. fold int_min c (map (centre axis) ys)) whole ∙ ap (λ k. fold int_min k (map (centre axis) bs)) (cond_same (int_lt c c) c) in
    let greatest : high ≡ fold int_max c (map (centre axis) bs) =
    so_far.greatest b ∙ ap (λ ys. fold int_max c (map (centre axis) ys)) whole ∙ ap (λ k. fold int_max k (map (centre axis) bs)) (cond_same (int_lt c c) c) in record {
      apart = ap (λ k. k -ℤ low) greatest ∙ ap (λ k. fold int_max c (map (centre axis) bs) -ℤ k) least;
      low_in = so_far.low_in;
      high_in = so_far.high_in;
    }

-- ---- the widest axis, by two tests

wider_by : (bodies : List (ℕ × FixBox)) (first second : ℕ) (test : Bool) → int_lt (spread first bodies) (spread second bodies) ≡ test → wider bodies first second ≡ cond test second first
wider_by bodies first second test e = ap (λ b. cond b second first) e

pub widest_by : (bodies : List (ℕ × FixBox)) (t u : Bool) (axis : ℕ) → int_lt (spread 0 bodies) (spread 1 bodies) ≡ t → int_lt (spread (cond t 1 0) bodies) (spread 2 bodies) ≡ u
    → axis ≡ cond u 2 (cond t 1 0) → axis ≡ widest bodies
widest_by bodies t u axis p q e =
    e ∙ sym (ap (λ k. wider bodies k 2) (wider_by bodies 0 1 t p) ∙ wider_by bodies (cond t 1 0) 2 u q)

-- equal numbers give equal tests
pub int_lt-same : (a b x y : ℤ) (test : Bool) → a ≡ x → b ≡ y → int_lt a b ≡ test → int_lt x y ≡ test
int_lt-same a b x y test p q e = subst (λ z. int_lt z y ≡ test) p (subst (λ z. int_lt a z ≡ test) q e)
