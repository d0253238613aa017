-- Numbers in a row, and what each of them gives.
use Rattle.std.proofs.Common.{◌≡◌, ℕ, zero, suc, ◌+◌, List, [], ◌∷◌, ◌++◌, refl, sym, ◌∙◌, ap, add-zero, zero-add, filter_map, Option, Some, None, option_to_list, arith}
use Rattle.std.specs.List.{cons_option, range_with_len}
use Rattle.std.proofs.lemmas.List.Elements.{filter_map-append}

range_with_len-more : (a n : ℕ) → range_with_len a (n + 1) ≡ range_with_len a n ++ (a + n) ∷ []
range_with_len-more a zero = ap (λ k. k ∷ []) (sym (add-zero a))
range_with_len-more a (suc n) =
    let count : suc n + 1 ≡ suc (n + 1) = omega arith in
    let last : a + 1 + n ≡ a + suc n = omega arith in
    rw count (ap (λ ks. a ∷ ks) (range_with_len-more (a + 1) n ∙ ap (λ k. range_with_len (a + 1) n ++ k ∷ []) last))

list_option : {A : Type 0} (o : Option A) → cons_option o [] ≡ option_to_list o
list_option None = refl
list_option (Some x) = refl

-- the items that one index more gives
pub filter_map-range_more : {A : Type 0} (f : ℕ → Option A) (n : ℕ) → filter_map f (range_with_len 0 (n + 1)) ≡ filter_map f (range_with_len 0 n) ++ option_to_list (f n)
filter_map-range_more f n =
    ap (filter_map f) (range_with_len-more 0 n) ∙ filter_map-append f (range_with_len 0 n) ((0 + n) ∷ [])
    ∙ ap (λ xs. filter_map f (range_with_len 0 n) ++ xs) (list_option (f (0 + n)) ∙ ap (λ k. option_to_list (f k)) (zero-add n))

pub found_more : {A : Type 0} (f : ℕ → Option A) (n : ℕ) (found more : List A) (o : Option A) → found ≡ filter_map f (range_with_len 0 n)
    → o ≡ f n → more ≡ found ++ option_to_list o → more ≡ filter_map f (range_with_len 0 (n + 1))
found_more f n found more o so_far this pushed =
    pushed ∙ ap (λ xs. xs ++ option_to_list o) so_far ∙ ap (λ p. filter_map f (range_with_len 0 n) ++ option_to_list p) this
    ∙ sym (filter_map-range_more f n)
