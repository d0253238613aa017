-- The numbers of stripes are the powers of two up to 64.
use Rattle.std.proofs.Common.{ℕ, ◌≡◌, ◌-◌, ◌%◌, ◌^◌, ◌≤◌, ◌==◌, true, List, [], ◌∷◌, inl, inr, refl, subst, arith, bit_and}
use Rattle.std.specs.List.{list_any}
use Rattle.std.proofs.lemmas.Nat.{and_mask}
use Rattle.std.proofs.lemmas.Bool.{or_cases, eqb-true}
use Rattle.word_map.specs.declared.config.TheConstants.{STRIPE_COUNTS}
use Rattle.word_map.specs.Limits.{is_stripe_count}

-- what holds of each number of a list
abbrev EachOf : (ℕ → Type 0) → List ℕ → Type 0
EachOf P [] = Unit {0}
EachOf P (n ∷ rest) = P n × EachOf P rest

-- and so of a number that is found there
found-each : (P : ℕ → Type 0) (counts : List ℕ) (n : ℕ) → EachOf P counts → list_any (λ count. count == n) counts ≡ true → P n
found-each P [] n each found = absurd (cc)
found-each P (count ∷ rest) n each found =
    elim (or_cases _ _ found) [
      | inl same ↦ subst P (eqb-true count n same) each.0
      | inr later ↦ found-each P rest n each.1 later
    ]

-- 2 to a power of at most 6
abbrev IsPower : ℕ → Type 0
IsPower n = (k : ℕ) × (n ≡ 2 ^ k) × (k ≤ 6)

-- a number of stripes is a power of two
pub stripes-power : (n : ℕ) → is_stripe_count n ≡ true → (k : ℕ) × (n ≡ 2 ^ k) × (k ≤ 6)
stripes-power n found =
    found-each IsPower STRIPE_COUNTS n (
      (0, refl, omega arith),
      (
        (1, refl, omega arith),
        (
          (2, refl, omega arith),
          (
            (3, refl, omega arith),
            (
              (4, refl, omega arith),
              ((5, refl, omega arith), ((6, refl, omega arith), tt)),
            ),
          ),
        ),
      ),
    ) found

-- a number of stripes is from 1 to 64
pub stripes-range : (n : ℕ) → is_stripe_count n ≡ true → (1 ≤ n) × (n ≤ 64)
stripes-range n found =
    found-each (λ m. (1 ≤ m) × (m ≤ 64)) STRIPE_COUNTS n (
      (omega arith, omega arith),
      (
        (omega arith, omega arith),
        (
          (omega arith, omega arith),
          (
            (omega arith, omega arith),
            (
              (omega arith, omega arith),
              ((omega arith, omega arith), ((omega arith, omega arith), tt)),
            ),
          ),
        ),
      ),
    ) found

-- the low bits of an index are its stripe
pub stripes-mask : (n index : ℕ) → is_stripe_count n ≡ true → bit_and index (n - 1) ≡ index % n
stripes-mask n index found =
    let power = stripes-power n found in
    rw power.1 (and_mask index power.0)

-- what the stripe of an index stands on
pub ruleset stripe_rules = (stripes-mask, stripes-range)
