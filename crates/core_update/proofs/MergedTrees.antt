-- Which trees an update is to merge, by the test and by the list.
use Rattle.std.proofs.Common.{◌||◌, Bool, Contains, List, [], ap, arith, false, inl, inr, refl, subst, true, ℕ, ◌∙◌, ◌∷◌, ◌≡◌, ◌⊎◌}
use Rattle.std.proofs.lemmas.Bool.{and_parts, eq-eqb, eqb-true, false≢true}
use Rattle.std.proofs.lemmas.List.Folds.{list_any_at}
use Rattle.std.specs.List.{list_any}
use Rattle.std.specs.Prelude.{◌&&◌, ◌==◌}
use Rattle.core_state.specs.Noting.{is_merged}
use Rattle.core_state.specs.Updates.{IsStillMerged, merged_tree}
use Rattle.core_state.specs.declared.view.Merged.{Merged}
use Rattle.core_state.specs.declared.view.Rebuild.{Rebuild}
use Rattle.core_state.proofs.Beginning.{contains_first}
use Rattle.core_batch.proofs.Lists.{contains_later}

-- one of two tests that pass together
pub any_cases : (a b : Bool) → (a || b) ≡ true → (a ≡ true) ⊎ (b ≡ true)
any_cases true b h = inl refl
any_cases false b h = inr h

pub any-from : {X : Type 0} (p : X → Bool) (xs : List X) → list_any p xs ≡ true → (x : X) × Contains xs x × (p x ≡ true)
any-from p [] h = absurd (false≢true h)
any-from p (x ∷ xs) h =
    elim (any_cases (p x) (list_any p xs) h) [
      | inl first ↦ (x, contains_first x xs, first)
      | inr later ↦ let t = any-from p xs later in (t.0, contains_later x xs t.0 t.1, t.2)
    ]

pub still-merged : (r : Rebuild) (l t root : ℕ) → IsStillMerged r l t root → is_merged r l t ≡ true
still-merged r l t root h =
    list_any_at (λ (m : Merged). (m.layer == l) && (m.slot == t)) r.merged h.0 (merged_tree l t root) h.2
    (ap (λ (m : Merged). (m.layer == l) && (m.slot == t)) h.3 ∙ (λ i. eq-eqb l l refl i && eq-eqb t t refl i))

pub merged-still : (r : Rebuild) (l t : ℕ) → r.cleared ≡ 0 → is_merged r l t ≡ true → (root : ℕ) × IsStillMerged r l t root
merged-still r l t none h =
    let x = any-from (λ (m : Merged). (m.layer == l) && (m.slot == t)) r.merged h in
    let both = and_parts (x.0.layer == l) (x.0.slot == t) x.2 in
    let same : x.0 ≡ merged_tree l t x.0.root = (λ i. record { layer = eqb-true x.0.layer l both.0 i; slot = eqb-true x.0.slot t both.1 i; root = x.0.root }) in
    let among : Contains r.merged (merged_tree l t x.0.root) = subst (λ (m : Merged). Contains r.merged m) same x.1 in
    (x.0.root, (among.0, omega arith, among.1, among.2))
