-- The texts of words that lie in a longer text.
use Rattle.std.proofs.Common.{◌≡◌, ℕ, ◌+◌, ◌<◌, Bool, true, false, ◌&&◌, List, length, get_or, take, arith}
use Rattle.std.specs.Borrow.{Bor}
use Rattle.std.specs.List.{list_all}
use Rattle.std.proofs.lemmas.List.Folds.{list_all-map, list_all_more, list_all_at}
use Rattle.script_text.specs.Lines.{texts}

both : (a b : Bool) → a ≡ true → b ≡ true → (a && b) ≡ true
both a b h k = grind arith

-- one word more that passes a test
pub all_more : (p : List ℕ → Bool) (words : List (Bor (List ℕ))) (i : ℕ) (d : Bor (List ℕ)) → i < length words
    → list_all p (texts (take i words)) ≡ true → p (get_or words i d).now ≡ true → list_all p (texts (take (i + 1) words)) ≡ true
all_more p words i d lt h k =
    rw (list_all-map p (λ (w : Bor (List ℕ)). w.now) (take (i + 1) words), list_all_more (λ (w : Bor (List ℕ)). p w.now) words i d lt)
    (both _ _ (rw (list_all-map p (λ (w : Bor (List ℕ)). w.now) (take i words)) at h) k)

-- a word that does not pass
pub all_fails : (p : List ℕ → Bool) (words : List (Bor (List ℕ))) (i : ℕ) (d : Bor (List ℕ)) → i < length words
    → p (get_or words i d).now ≡ false → list_all p (texts words) ≡ false
all_fails p words i d lt k =
    rw (list_all-map p (λ (w : Bor (List ℕ)). w.now) words) (list_all_at (λ (w : Bor (List ℕ)). p w.now) words i d lt k)
