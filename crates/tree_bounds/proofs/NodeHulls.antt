-- The hull of the first children of a node.
use Rattle.std.proofs.Common.{◌≡◌, ◌≢◌, ℕ, ◌+◌, ◌<◌, inl, inr, sym, ◌∙◌, subst, below_more, refl, arith}
use Rattle.fixed_box.specs.FixBox.{IsHull}
use Rattle.fixed_box.specs.declared.fix_box.FixBox.{FixBox}
use Rattle.tree_plan.specs.declared.plan_child.PlanChild.TheVariants.{Nothing}
use Rattle.tree_plan.specs.Plan.{Plan, child_at}
use Rattle.tree_bounds.specs.Bounds.{side, Encloses, IsHullOfNode}
use Rattle.tree_bounds.proofs.Sides.{Encloses-from_contains, Encloses-refl, Encloses-trans, sides_reach}

-- the hull of the bounds of so many children, of which there is one
pub record IsHullOfSome (plan : Plan) (bound : ℕ → ℕ → FixBox) (n count : ℕ) (hull : FixBox) : Type 0 where
  pub encloses : (k : ℕ) → k < count → child_at plan n k ≢ Nothing → Encloses hull (bound n k)
  pub reaches : (q : ℕ) → q < 6 → (k : ℕ) × (k < count) × (child_at plan n k ≢ Nothing) × (side (bound n k) q ≡ side hull q)

pub IsHullOfSome-first : (plan : Plan) (bound : ℕ → ℕ → FixBox) (n : ℕ) (hull : FixBox) → child_at plan n 0 ≢ Nothing → bound n 0 ≡ hull → IsHullOfSome plan bound n 1 hull
IsHullOfSome-first plan bound n hull there e = record {
  encloses = λ k few some. subst (λ i. Encloses hull (bound n i)) {x = 0} (omega arith) (subst (Encloses hull) (sym e) (Encloses-refl hull));
  reaches = λ q few. (0, omega arith, there, subst (λ (b : FixBox). side (bound n 0) q ≡ side b q) e refl);
}

pub IsHullOfSome-nothing : (plan : Plan) (bound : ℕ → ℕ → FixBox) (n count : ℕ) (hull : FixBox) → child_at plan n count ≡ Nothing → IsHullOfSome plan bound n count hull → IsHullOfSome plan bound n (count + 1) hull
IsHullOfSome-nothing plan bound n count hull none h = record {
  encloses = below_more (λ k. child_at plan n k ≢ Nothing → Encloses hull (bound n k)) count h.encloses (λ some. absurd (some none));
  reaches = λ q few. let r = h.reaches q few in (r.0, omega (arith, r.1), r.2, r.3);
}

pub IsHullOfSome-more : (plan : Plan) (bound : ℕ → ℕ → FixBox) (n count : ℕ) (hull larger : FixBox) → child_at plan n count ≢ Nothing → IsHull hull (bound n count) larger → IsHullOfSome plan bound n count hull
    → IsHullOfSome plan bound n (count + 1) larger
IsHullOfSome-more plan bound n count hull larger there both h = record {
  encloses =
      below_more (λ k. child_at plan n k ≢ Nothing → Encloses larger (bound n k)) count
      (λ k few some. Encloses-trans larger hull (bound n k) (Encloses-from_contains larger hull both.first) (h.encloses k few some))
      (λ some. Encloses-from_contains larger (bound n count) both.second);
  reaches = λ q few.
      elim (sides_reach hull (bound n count) larger both q few) [
        | inl e ↦ let r = h.reaches q few in (r.0, omega (arith, r.1), r.2, r.3 ∙ e)
        | inr e ↦ (count, omega arith, there, e)
      ];
}

pub IsHullOfNode-all : (plan : Plan) (bound : ℕ → ℕ → FixBox) (n : ℕ) (hull : FixBox) → IsHullOfSome plan bound n 4 hull → IsHullOfNode plan bound n hull
IsHullOfNode-all plan bound n hull h = record { encloses = h.encloses; reaches = h.reaches }

-- it speaks of the bounds of this node's children alone
pub IsHullOfNode-same : (plan : Plan) (bound other : ℕ → ℕ → FixBox) (n : ℕ) (hull : FixBox) → ((k : ℕ) → k < 4 → bound n k ≡ other n k) → IsHullOfNode plan bound n hull → IsHullOfNode plan other n hull
IsHullOfNode-same plan bound other n hull same h = record {
  encloses = λ k few some. subst (Encloses hull) (same k few) (h.encloses k few some);
  reaches = λ q few. let r = h.reaches q few in (r.0, r.1, r.2, subst (λ (b : FixBox). side b q ≡ side hull q) (same r.0 r.1) r.3);
}
