-- Each body of a plan stands at one place.
use Rattle.std.proofs.Common.{◌≡◌, ℕ, zero, suc, ◌+◌, ◌*◌, ◌/◌, ◌%◌, ◌<◌, inl, inr, List, [], ◌∷◌, length, get_or, map, sym, ◌∙◌, ap, nat_eq, false, arith}
use Rattle.std.specs.List.{filter_map, Contains, IsDistinct}
use Rattle.std.proofs.lemmas.Bool.{cases_order, eqb-false}
use Rattle.std.proofs.lemmas.List.Sorted.{IsPermutation-sym}
use Rattle.std.proofs.lemmas.Map.Keys.{IsDistinct-head, IsDistinct-tail, IsDistinct-IsPermutation}
use Rattle.fixed_box.specs.declared.fix_box.FixBox.{FixBox}
use Rattle.tree_plan.specs.declared.plan_child.PlanChild.{PlanChild}
use Rattle.tree_plan.specs.declared.plan_child.PlanChild.TheVariants.{Nothing, Body, Node}
use Rattle.tree_plan.specs.Arranged.{AreApart}
use Rattle.tree_plan.specs.Plan.{Plan, node_count, child_at, body_of, IsPlanOf}
use Rattle.tree_plan.proofs.Members.{In, all_in, in_permutation, in_from_contains, contains_from_in}
use Rattle.tree_plan.proofs.Order.{nat_eq-flips}

-- the bodies among some children
abbrev picked : List PlanChild → List ℕ
picked children = filter_map body_of children

-- a body that is picked stands at a place, and what stands at a place is picked
place_of_body : (children : List PlanChild) (i : ℕ) → In i (picked children) → (t : ℕ) × (t < length children) × (get_or children t Nothing ≡ Body i)
place_of_body [] i h = absurd h
place_of_body (Nothing ∷ es) i h = let p = place_of_body es i h in (suc p.0, omega (arith, p.1), p.2)
place_of_body (Body j ∷ es) i (inl e) = (0, omega arith, ap Body (sym e))
place_of_body (Body j ∷ es) i (inr h) = let p = place_of_body es i h in (suc p.0, omega (arith, p.1), p.2)
place_of_body (Node n ∷ es) i h = let p = place_of_body es i h in (suc p.0, omega (arith, p.1), p.2)

body_same : (i j : ℕ) → Body j ≡ Body i → i ≡ j
body_same i j e = cc

picked_at : (children : List PlanChild) (i t : ℕ) → t < length children → get_or children t Nothing ≡ Body i → In i (picked children)
picked_at [] i t within e = absurd (omega arith)
picked_at (Nothing ∷ es) i zero within e = absurd (let bad : ⊥ = cc in bad)
picked_at (Body j ∷ es) i zero within e = inl (body_same i j e)
picked_at (Node n ∷ es) i zero within e = absurd (let bad : ⊥ = cc in bad)
picked_at (Nothing ∷ es) i (suc t) within e = picked_at es i t (omega arith) e
picked_at (Body j ∷ es) i (suc t) within e = inr (picked_at es i t (omega arith) e)
picked_at (Node n ∷ es) i (suc t) within e = picked_at es i t (omega arith) e

not_again : (i j : ℕ) (xs : List ℕ) → i ≡ j → IsDistinct nat_eq (j ∷ xs) → In i xs → ⊥
not_again i j xs same apart h =
    let differ : nat_eq j i ≡ false = all_in (λ k. nat_eq j k ≡ false) xs (IsDistinct-head nat_eq j xs apart) i h in
    eqb-false j i differ (sym same)

-- an index that is picked once stands at no second place
no_second : (children : List PlanChild) (i t u : ℕ) → IsDistinct nat_eq (picked children) → t < u → u < length children → get_or children t Nothing ≡ Body i → get_or children u Nothing ≡ Body i → ⊥
no_second [] i t u apart before within p q = omega arith
no_second (e ∷ es) i t zero apart before within p q = omega arith
no_second (Nothing ∷ es) i zero (suc u) apart before within p q = let bad : ⊥ = cc in bad
no_second (Body j ∷ es) i zero (suc u) apart before within p q = not_again i j (picked es) (body_same i j p) apart (picked_at es i u (omega arith) q)
no_second (Node n ∷ es) i zero (suc u) apart before within p q = let bad : ⊥ = cc in bad
no_second (Nothing ∷ es) i (suc t) (suc u) apart before within p q = no_second es i t u apart (omega arith) (omega arith) p q
no_second (Body j ∷ es) i (suc t) (suc u) apart before within p q = no_second es i t u (IsDistinct-tail nat_eq j (picked es) apart) (omega arith) (omega arith) p q
no_second (Node n ∷ es) i (suc t) (suc u) apart before within p q = no_second es i t u apart (omega arith) (omega arith) p q

one_slot : (children : List PlanChild) (i t u : ℕ) → IsDistinct nat_eq (picked children) → t < length children → u < length children → get_or children t Nothing ≡ Body i → get_or children u Nothing ≡ Body i → t ≡ u
one_slot children i t u apart within within' p q =
    elim (cases_order t u) [
      | inl e ↦ e
      | inr h ↦ elim h [ inl less ↦ absurd (no_second children i t u apart less within' p q) | inr more ↦ absurd (no_second children i u t apart more within q p) ]
    ]

pub body_somewhere : (bodies : List (ℕ × FixBox)) (plan : Plan) → IsPlanOf bodies plan → (index : ℕ) → Contains (map (λ b. b.0) bodies) index
    → (n : ℕ) × ((c : ℕ) × (n < node_count plan) × (c < 4) × (child_at plan n c ≡ Body index))
body_somewhere bodies plan h index given =
    let p = place_of_body plan.children index (in_permutation (map (λ b. b.0) bodies) (picked plan.children) index h.once (in_from_contains (map (λ b. b.0) bodies) index given)) in
    let same : 4 * (p.0 / 4) + p.0 % 4 ≡ p.0 = omega arith in
    (p.0 / 4, (p.0 % 4, omega (arith, p.1, h.slots), omega arith, ap (λ k. get_or plan.children k Nothing) same ∙ p.2))

pub body_once : (bodies : List (ℕ × FixBox)) (plan : Plan) → AreApart bodies → IsPlanOf bodies plan → (index m b n c : ℕ) → m < node_count plan → b < 4 → n < node_count plan → c < 4
    → child_at plan m b ≡ Body index → child_at plan n c ≡ Body index → (m ≡ n) × (b ≡ c)
body_once bodies plan apart h index m b n c made few made' few' p q =
    let distinct : IsDistinct nat_eq (picked plan.children) = IsDistinct-IsPermutation nat_eq nat_eq-flips (map (λ b. b.0) bodies) (picked plan.children) h.once apart in
    let same : 4 * m + b ≡ 4 * n + c = one_slot plan.children index (4 * m + b) (4 * n + c) distinct (omega (arith, h.slots)) (omega (arith, h.slots)) p q in
    (omega arith, omega arith)

pub body_given : (bodies : List (ℕ × FixBox)) (plan : Plan) → IsPlanOf bodies plan → (index n c : ℕ) → n < node_count plan → c < 4 → child_at plan n c ≡ Body index → Contains (map (λ b. b.0) bodies) index
body_given bodies plan h index n c made few e =
    contains_from_in (map (λ b. b.0) bodies) index
    (in_permutation (picked plan.children) (map (λ b. b.0) bodies) index (IsPermutation-sym (map (λ b. b.0) bodies) (picked plan.children) h.once)
    (picked_at plan.children index (4 * n + c) (omega (arith, h.slots)) e))
