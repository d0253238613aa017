-- Indexes that rise are apart.
use Rattle.std.proofs.Common.{◌≡◌, ℕ, ◌+◌, ◌-◌, ◌<◌, ◌≤◌, nat_eq, List, [], ◌∷◌, length, get_or, map, slice_index, subst, arith}
use Rattle.std.specs.List.{IsDistinct}
use Rattle.std.specs.List.Sorted.{IsStrictlyIncreasing}
use Rattle.std.proofs.lemmas.Bool.{ne_eqb}
use Rattle.std.proofs.lemmas.List.{get_or-map, length-map}
use Rattle.std.proofs.lemmas.Map.Keys.{IsDistinct-from_apart, sorted_from_strictly_increasing, below_from_sorted}
use Rattle.fixed_box.specs.declared.fix_box.FixBox.{FixBox}
use Rattle.tree_plan.specs.Arranged.{AreApart}

distinct_from_rising : (xs : List ℕ) → IsStrictlyIncreasing xs → IsDistinct nat_eq xs
distinct_from_rising xs up =
    IsDistinct-from_apart nat_eq xs
    (λ i j d before within.
    let less : get_or xs i d < get_or xs j d = below_from_sorted xs i j d (sorted_from_strictly_increasing xs up) before within in
    ne_eqb (get_or xs i d) (get_or xs j d) (λ same. omega arith))

pub AreApart-from_rising : (bodies : List (ℕ × FixBox)) → IsStrictlyIncreasing (map (λ b. b.0) bodies) → AreApart bodies
AreApart-from_rising bodies up = distinct_from_rising (map (λ b. b.0) bodies) up

index_at : (bodies : List (ℕ × FixBox)) (k : ℕ) (d : ℕ × FixBox) → k < length bodies → slice_index (map (λ b. b.0) bodies) k ≡ (get_or bodies k d).0
index_at bodies k d within = get_or-map (λ (b : ℕ × FixBox). b.0) bodies k d 0 within

-- each of the first n indexes is above the one before it
abbrev pub RisesTo : List (ℕ × FixBox) → ℕ → Type 0
RisesTo bodies n = (k : ℕ) (d : ℕ × FixBox) → k + 1 < n → (get_or bodies k d).0 < (get_or bodies (k + 1) d).0

rising_at : (bodies : List (ℕ × FixBox)) (k : ℕ) → k + 1 < length bodies → ((d : ℕ × FixBox) → (get_or bodies k d).0 < (get_or bodies (k + 1) d).0)
    → slice_index (map (λ b. b.0) bodies) k < slice_index (map (λ b. b.0) bodies) (k + 1)
rising_at [] k within up = absurd (omega arith)
rising_at (b ∷ bodies) k within up = omega (arith, index_at (b ∷ bodies) k b (omega arith), index_at (b ∷ bodies) (k + 1) b within, up b)

pub rising_from_all : (bodies : List (ℕ × FixBox)) (n : ℕ) → length bodies ≤ n → RisesTo bodies n → IsStrictlyIncreasing (map (λ b. b.0) bodies)
rising_from_all bodies n all up = λ k within.
    let size = length-map bodies (λ (b : ℕ × FixBox). b.0) in
    rising_at bodies k (omega arith) (λ d. up k d (omega arith))

pub not_rising : (bodies : List (ℕ × FixBox)) (i : ℕ) (d e : ℕ × FixBox) → 1 ≤ i → i < length bodies → (get_or bodies i d).0 ≤ (get_or bodies (i - 1) e).0
    → IsStrictlyIncreasing (map (λ b. b.0) bodies) → ⊥
not_rising bodies i d e later within below up =
    let size = length-map bodies (λ (b : ℕ × FixBox). b.0) in
    let next : i - 1 + 1 ≡ i = omega arith in
    let h = subst (λ k. slice_index (map (λ b. b.0) bodies) (i - 1) < slice_index (map (λ b. b.0) bodies) k) next (up (i - 1) (omega arith)) in
    omega (arith, h, index_at bodies i d within, index_at bodies (i - 1) e (omega arith))
