-- How bodies are arranged: by halves, the same from any order.
use Rattle.std.proofs.Common.{◌≡◌, ℕ, zero, suc, ◌-◌, ◌/◌, ◌<◌, ◌≤◌, Bool, true, false, cond, nat_lt, ◌⊎◌, inl, inr, List, [], ◌∷◌, ◌++◌, length, take, drop, refl, sym, ◌∙◌, ap, subst, arith}
use Rattle.std.specs.List.Sorted.{IsPermutation}
use Rattle.std.proofs.lemmas.Bool.{ltb-false, lt-ltb, le-ltb, cases_lt}
use Rattle.std.proofs.lemmas.List.Sorted.{IsPermutation-refl, IsPermutation-trans, IsPermutation-append, length_permutation}
use Rattle.fixed_box.specs.declared.fix_box.FixBox.{FixBox}
use Rattle.scene_model.specs.Tree.{front_half, back_half}
use Rattle.scene_model.proofs.Trees.{length-front_half, length-back_half, halves_permute}
use Rattle.tree_plan.specs.Arranged.{AreApart, arranged_within, arranged}
use Rattle.tree_plan.proofs.Members.{In, in_permutation}
use Rattle.tree_plan.proofs.Order.{AreApart-permutation, apart_left, apart_right}
use Rattle.tree_plan.proofs.Halves.{front_half-permutation, back_half-permutation}

enough_by : (j k : ℕ) (xs : List (ℕ × FixBox)) (test : Bool) → nat_lt (length xs) 2 ≡ test → length xs ≤ suc j → length xs ≤ suc k
    → ((ys : List (ℕ × FixBox)) → length ys ≤ j → length ys ≤ k → arranged_within j ys ≡ arranged_within k ys)
    → cond test xs (arranged_within j (front_half xs) ++ arranged_within j (back_half xs)) ≡ cond test xs (arranged_within k (front_half xs) ++ arranged_within k (back_half xs))
enough_by j k xs true e p q same = refl
enough_by j k xs false e p q same =
    let two : 2 ≤ length xs = ltb-false (length xs) 2 e in
    let front = length-front_half xs in
    let back = length-back_half xs in
    let a = same (front_half xs) (omega arith) (omega arith) in
    let b = same (back_half xs) (omega arith) (omega arith) in
    ap (λ ys. ys ++ arranged_within j (back_half xs)) a ∙ ap (λ ys. arranged_within k (front_half xs) ++ ys) b

-- more levels than bodies change nothing
enough : (j k : ℕ) (xs : List (ℕ × FixBox)) → length xs ≤ j → length xs ≤ k → arranged_within j xs ≡ arranged_within k xs
enough zero zero xs p q = refl
enough zero (suc k) [] p q = refl
enough zero (suc k) (x ∷ xs) p q = absurd (omega arith)
enough (suc j) zero [] p q = refl
enough (suc j) zero (x ∷ xs) p q = absurd (omega arith)
enough (suc j) (suc k) xs p q = enough_by j k xs (nat_lt (length xs) 2) refl p q (λ ys r s. enough j k ys r s)

more_by : (j : ℕ) (xs : List (ℕ × FixBox)) → length xs ≡ suc j → 2 ≤ length xs → arranged_within (suc j) xs ≡ arranged (front_half xs) ++ arranged (back_half xs)
more_by j xs size two =
    let front = length-front_half xs in
    let back = length-back_half xs in
    ap (λ t. cond t xs (arranged_within j (front_half xs) ++ arranged_within j (back_half xs))) (le-ltb (length xs) 2 two)
    ∙ ap (λ ys. ys ++ arranged_within j (back_half xs)) (enough j (length (front_half xs)) (front_half xs) (omega arith) (omega arith))
    ∙ ap (λ ys. arranged (front_half xs) ++ ys) (enough j (length (back_half xs)) (back_half xs) (omega arith) (omega arith))

-- two bodies or more are arranged by halves, and fewer stay as they are
pub arranged-more : (xs : List (ℕ × FixBox)) → 2 ≤ length xs → arranged xs ≡ arranged (front_half xs) ++ arranged (back_half xs)
arranged-more [] two = absurd (omega arith)
arranged-more (x ∷ xs) two = more_by (length xs) (x ∷ xs) refl two

pub arranged-few : (xs : List (ℕ × FixBox)) → length xs < 2 → arranged xs ≡ xs
arranged-few [] few = refl
arranged-few (x ∷ xs) few =
    ap (λ t. cond t (x ∷ xs) (arranged_within (length xs) (front_half (x ∷ xs)) ++ arranged_within (length xs) (back_half (x ∷ xs)))) (lt-ltb (length (x ∷ xs)) 2 few)

permutes_by : (levels : ℕ) (xs : List (ℕ × FixBox)) (test : Bool) → ((ys : List (ℕ × FixBox)) → IsPermutation ys (arranged_within levels ys))
    → IsPermutation xs (cond test xs (arranged_within levels (front_half xs) ++ arranged_within levels (back_half xs)))
permutes_by levels xs true h = IsPermutation-refl xs
permutes_by levels xs false h =
    IsPermutation-trans xs (front_half xs ++ back_half xs) _ (halves_permute xs)
    (IsPermutation-append (front_half xs) (arranged_within levels (front_half xs)) (back_half xs) (arranged_within levels (back_half xs)) (h (front_half xs)) (h (back_half xs)))

permutes_within : (levels : ℕ) (xs : List (ℕ × FixBox)) → IsPermutation xs (arranged_within levels xs)
permutes_within zero xs = IsPermutation-refl xs
permutes_within (suc levels) xs = permutes_by levels xs (nat_lt (length xs) 2) (λ ys. permutes_within levels ys)

-- the same bodies, in another order
pub arranged-permutes : (xs : List (ℕ × FixBox)) → IsPermutation xs (arranged xs)
arranged-permutes xs = permutes_within (length xs) xs

one_same : (x y : ℕ × FixBox) → In x (y ∷ []) → x ∷ [] ≡ y ∷ []
one_same x y (inl e) = ap (λ z. z ∷ []) e
one_same x y (inr h) = absurd h

few_same : (xs ys : List (ℕ × FixBox)) → length xs < 2 → IsPermutation xs ys → length ys ≡ length xs → xs ≡ ys
few_same [] [] few same size = refl
few_same [] (y ∷ ys) few same size = absurd (omega arith)
few_same (x ∷ []) [] few same size = absurd (omega arith)
few_same (x ∷ []) (y ∷ []) few same size = one_same x y (in_permutation (x ∷ []) (y ∷ []) x same (inl refl))
few_same (x ∷ []) (y ∷ z ∷ ys) few same size = absurd (omega arith)
few_same (x ∷ w ∷ xs) ys few same size = absurd (omega arith)

arranged-permutation_by : (xs ys : List (ℕ × FixBox)) → IsPermutation xs ys → AreApart xs → length ys ≡ length xs → (length xs < 2) ⊎ (2 ≤ length xs) → arranged xs ≡ arranged ys
arranged-permutation_by xs ys same apart size (inl few) = ap arranged (few_same xs ys few same size)
arranged-permutation_by xs ys same apart size (inr two) =
    arranged-more xs two ∙ ap (λ zs. arranged zs ++ arranged (back_half xs)) (front_half-permutation xs ys same apart)
    ∙ ap (λ zs. arranged (front_half ys) ++ arranged zs) (back_half-permutation xs ys same apart) ∙ sym (arranged-more ys (omega arith))

-- arranged, bodies are the same list in whichever order they came
pub arranged-permutation : (xs ys : List (ℕ × FixBox)) → IsPermutation xs ys → AreApart xs → arranged xs ≡ arranged ys
arranged-permutation xs ys same apart = arranged-permutation_by xs ys same apart (length_permutation xs ys same) (cases_lt (length xs) 2)

-- halves of bodies that are apart are apart
halves_apart : (xs : List (ℕ × FixBox)) → AreApart xs → AreApart (front_half xs ++ back_half xs)
halves_apart xs apart = AreApart-permutation xs (front_half xs ++ back_half xs) (halves_permute xs) apart

pub front_apart : (xs ys : List (ℕ × FixBox)) → IsPermutation (front_half xs) ys → AreApart xs → AreApart ys
front_apart xs ys same apart = AreApart-permutation (front_half xs) ys same (apart_left (front_half xs) (back_half xs) (halves_apart xs apart))

pub back_apart : (xs ys : List (ℕ × FixBox)) → IsPermutation (back_half xs) ys → AreApart xs → AreApart ys
back_apart xs ys same apart = AreApart-permutation (back_half xs) ys same (apart_right (front_half xs) (back_half xs) (halves_apart xs apart))

pub arranged-by_halves : (xs us vs fs bs : List (ℕ × FixBox)) → 2 ≤ length xs → AreApart xs → IsPermutation (front_half xs) us → IsPermutation (back_half xs) vs → fs ≡ arranged us → bs ≡ arranged vs
    → fs ++ bs ≡ arranged xs
arranged-by_halves xs us vs fs bs two apart p q e f =
    let whole = halves_apart xs apart in
    ap (λ zs. zs ++ bs) (e ∙ sym (arranged-permutation (front_half xs) us p (apart_left (front_half xs) (back_half xs) whole)))
    ∙ ap (λ zs. arranged (front_half xs) ++ zs) (f ∙ sym (arranged-permutation (back_half xs) vs q (apart_right (front_half xs) (back_half xs) whole)))
    ∙ sym (arranged-more xs two)

-- ---- the parts of a list that has been halved

pub front_part : (xs zs us : List (ℕ × FixBox)) → IsPermutation (front_half xs) (take (length xs - length xs / 2) zs) → length zs ≡ length xs → us ≡ take (length zs - length zs / 2) zs
    → IsPermutation (front_half xs) us
front_part xs zs us p size e = subst (λ (ws : List (ℕ × FixBox)). IsPermutation (front_half xs) ws) (ap (λ n. take (n - n / 2) zs) (sym size) ∙ sym e) p

pub back_part : (xs zs us : List (ℕ × FixBox)) → IsPermutation (back_half xs) (drop (length xs - length xs / 2) zs) → length zs ≡ length xs → us ≡ drop (length zs - length zs / 2) zs
    → IsPermutation (back_half xs) us
back_part xs zs us p size e = subst (λ (ws : List (ℕ × FixBox)). IsPermutation (back_half xs) ws) (ap (λ n. drop (n - n / 2) zs) (sym size) ∙ sym e) p
