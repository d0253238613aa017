-- The words of a line that has so many.
use Rattle.std.proofs.Common.{◌≡◌, ◌≤◌, ◌<◌, ℕ, length, List, [], ◌∷◌, drop, get_or, refl, arith}
use Rattle.std.specs.Borrow.{Bor}
use Rattle.script_text.specs.Lines.{texts}

abbrev pub nothing : Bor (List ℕ)
nothing = record { ref_ptr = (0, 0); now = [] }

abbrev pub word : List (Bor (List ℕ)) → ℕ → List ℕ
word xs k = (get_or xs k nothing).now

no_words : (xs : List (Bor (List ℕ))) → length xs < 1 → texts xs ≡ []
no_words [] h = refl
no_words (x ∷ xs) h = absurd (omega arith)

pub words_1 : (xs : List (Bor (List ℕ))) → 1 ≤ length xs → length xs < 2 → texts xs ≡ word xs 0 ∷ []
words_1 [] h l = absurd (omega arith)
words_1 (x ∷ xs) h l = rw (no_words xs (omega arith)) refl

pub words_2 : (xs : List (Bor (List ℕ))) → 2 ≤ length xs → length xs < 3 → texts xs ≡ word xs 0 ∷ word xs 1 ∷ []
words_2 [] h l = absurd (omega arith)
words_2 (x ∷ xs) h l = rw (words_1 xs (omega arith) (omega arith)) refl

pub words_3 : (xs : List (Bor (List ℕ))) → 3 ≤ length xs → length xs < 4 → texts xs ≡ word xs 0 ∷ word xs 1 ∷ word xs 2 ∷ []
words_3 [] h l = absurd (omega arith)
words_3 (x ∷ xs) h l = rw (words_2 xs (omega arith) (omega arith)) refl

pub words_4 : (xs : List (Bor (List ℕ))) → 4 ≤ length xs → length xs < 5 → texts xs ≡ word xs 0 ∷ word xs 1 ∷ word xs 2 ∷ word xs 3 ∷ []
words_4 [] h l = absurd (omega arith)
words_4 (x ∷ xs) h l = rw (words_3 xs (omega arith) (omega arith)) refl

pub words_5 : (xs : List (Bor (List ℕ))) → 5 ≤ length xs → length xs < 6 → texts xs ≡ word xs 0 ∷ word xs 1 ∷ word xs 2 ∷ word xs 3 ∷ word xs 4 ∷ []
words_5 [] h l = absurd (omega arith)
words_5 (x ∷ xs) h l = rw (words_4 xs (omega arith) (omega arith)) refl

pub words_6 : (xs : List (Bor (List ℕ))) → 6 ≤ length xs → length xs < 7
    → texts xs ≡ word xs 0 ∷ word xs 1 ∷ word xs 2 ∷ word xs 3 ∷ word xs 4 ∷ word xs 5 ∷ []
words_6 [] h l = absurd (omega arith)
words_6 (x ∷ xs) h l = rw (words_5 xs (omega arith) (omega arith)) refl

pub words_7 : (xs : List (Bor (List ℕ))) → 7 ≤ length xs → length xs < 8
    → texts xs ≡ word xs 0 ∷ word xs 1 ∷ word xs 2 ∷ word xs 3 ∷ word xs 4 ∷ word xs 5 ∷ word xs 6 ∷ []
words_7 [] h l = absurd (omega arith)
words_7 (x ∷ xs) h l = rw (words_6 xs (omega arith) (omega arith)) refl

words_8 : (xs : List (Bor (List ℕ))) → 8 ≤ length xs → length xs < 9
    → texts xs ≡ word xs 0 ∷ word xs 1 ∷ word xs 2 ∷ word xs 3 ∷ word xs 4 ∷ word xs 5 ∷ word xs 6 ∷ word xs 7 ∷ []
words_8 [] h l = absurd (omega arith)
words_8 (x ∷ xs) h l = rw (words_7 xs (omega arith) (omega arith)) refl

pub words_9 : (xs : List (Bor (List ℕ))) → 9 ≤ length xs → length xs < 10
    → texts xs ≡ word xs 0 ∷ word xs 1 ∷ word xs 2 ∷ word xs 3 ∷ word xs 4 ∷ word xs 5 ∷ word xs 6 ∷ word xs 7 ∷ word xs 8 ∷ []
words_9 [] h l = absurd (omega arith)
words_9 (x ∷ xs) h l = rw (words_8 xs (omega arith) (omega arith)) refl

-- at least two words, and those behind them
pub two_words : (xs : List (Bor (List ℕ))) → 2 ≤ length xs → texts xs ≡ word xs 0 ∷ word xs 1 ∷ texts (drop 2 xs)
two_words [] h = absurd (omega arith)
two_words (x ∷ []) h = absurd (omega arith)
two_words (x ∷ y ∷ xs) h = refl
