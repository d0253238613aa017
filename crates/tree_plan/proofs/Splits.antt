-- What a selection leaves is split.
use Rattle.std.proofs.Common.{◌≡◌, ℕ, suc, ◌+◌, ◌-◌, ◌<◌, ◌≤◌, Bool, true, false, cond, eqb, ltb, ◌⊎◌, inl, inr, List, [], ◌∷◌, ◌++◌, length, get_or, slice_set, refl, sym, ◌∙◌, ap, subst, arith}
use Rattle.std.specs.Ordering.{is_lt, nat_cmp}
use Rattle.std.specs.List.Sorted.{IsSplitAroundByKey}
use Rattle.std.specs.declared.cmp.Ordering.TheVariants.{Less, Equal, Greater}
use Rattle.std.proofs.lemmas.Bool.{ltb-false, cases_order}
use Rattle.std.proofs.lemmas.List.{get_or_append_left, get_or-append_right, length-append}
use Rattle.fixed_box.specs.declared.fix_box.FixBox.{FixBox}
use Rattle.tree_plan.specs.Axes.{key_of}
use Rattle.tree_plan.specs.Arranged.{IsSplit}

not_less : (t u : Bool) → is_lt (cond t Less (cond u Equal Greater)) ≡ false → t ≡ false
not_less true u e = e
not_less false u e = refl

at_most : (m n : ℕ) → is_lt (nat_cmp m n) ≡ false → n ≤ m
at_most m n e = ltb-false m n (not_less (ltb m n) (eqb m n) e)

at_head : (f : List (ℕ × FixBox)) (x : ℕ × FixBox) (b : List (ℕ × FixBox)) (j : ℕ) (d : ℕ × FixBox) → j ≡ length f → get_or (f ++ x ∷ b) j d ≡ x
at_head f x b j d e =
    let start : j - length f ≡ 0 = omega arith in
    get_or-append_right f (x ∷ b) (length f) j d refl (omega arith) ∙ ap (λ k. get_or (x ∷ b) k d) start

at_tail : (f : List (ℕ × FixBox)) (x : ℕ × FixBox) (b : List (ℕ × FixBox)) (j k : ℕ) (d : ℕ × FixBox) → j ≡ length f + suc k → get_or (f ++ x ∷ b) j d ≡ get_or b k d
at_tail f x b j k d e =
    let further : j - length f ≡ suc k = omega arith in
    get_or-append_right f (x ∷ b) (length f) j d refl (omega arith) ∙ ap (λ i. get_or (x ∷ b) i d) further

-- the key of what stands from the selected place on is no less than that of the selected body
from_selected : (axis : ℕ) (f : List (ℕ × FixBox)) (x : ℕ × FixBox) (b : List (ℕ × FixBox)) → ((k : ℕ) (d : ℕ × FixBox) → k < length b → is_lt (nat_cmp (key_of axis (get_or b k d)) (key_of axis x)) ≡ false)
    → (j : ℕ) (d : ℕ × FixBox) → j < length (f ++ x ∷ b) → (j ≡ length f) ⊎ ((j < length f) ⊎ (length f < j)) → length f ≤ j → key_of axis x ≤ key_of axis (get_or (f ++ x ∷ b) j d)
from_selected axis f x b back j d within (inl e) from = subst (λ y. key_of axis x ≤ key_of axis y) (sym (at_head f x b j d e)) (omega arith)
from_selected axis f x b back j d within (inr (inl h)) from = absurd (omega arith)
from_selected axis f x b back j d within (inr (inr h)) from =
    let k = j - length f - 1 in
    let size = length-append f (x ∷ b) in
    subst (λ y. key_of axis x ≤ key_of axis y) (sym (at_tail f x b j k d (omega arith))) (at_most _ _ (back k d (omega arith)))

pub IsSplit-from_around : (axis front : ℕ) (f : List (ℕ × FixBox)) (x : ℕ × FixBox) (b : List (ℕ × FixBox)) → length f ≡ front → IsSplitAroundByKey (key_of axis) nat_cmp f x b → IsSplit axis front (f ++ x ∷ b)
IsSplit-from_around axis front f x b size around = λ i j d before from within.
    let first : get_or (f ++ x ∷ b) i d ≡ get_or f i d = get_or_append_left f (x ∷ b) d i (omega arith) in
    let low : key_of axis (get_or f i d) ≤ key_of axis x = at_most _ _ (around.0 i d (omega arith)) in
    let high : key_of axis x ≤ key_of axis (get_or (f ++ x ∷ b) j d) = from_selected axis f x b around.1 j d within (cases_order j (length f)) (omega arith) in
    subst (λ y. key_of axis y ≤ key_of axis (get_or (f ++ x ∷ b) j d)) (sym first) (omega (arith, low, high))

pub put_together : (f g b c one : List (ℕ × FixBox)) (x : ℕ × FixBox) → g ≡ f → length one ≡ 1 → c ≡ b → f ++ x ∷ b ≡ g ++ (slice_set one 0 x ++ c)
put_together f g b c [] x p size q = absurd (omega arith)
put_together f g b c (y ∷ []) x p size q = ap (λ us. us ++ x ∷ b) (sym p) ∙ ap (λ vs. g ++ x ∷ vs) (sym q)
put_together f g b c (y ∷ z ∷ ys) x p size q = absurd (omega arith)
