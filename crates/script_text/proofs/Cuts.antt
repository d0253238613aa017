-- The first line of a text, and the first word of a line.
use Rattle.std.proofs.Common.{◌≡◌, ℕ, ◌<◌, eqb, Bool, false, List, [], ◌∷◌, ◌++◌, length, All, refl, sym, ap, ◌∙◌, append_assoc, arith, rules}
use Rattle.std.specs.List.{slice_split, flat_map}
use Rattle.std.proofs.lemmas.List.{append-nil}
use Rattle.std.proofs.lemmas.List.Splits.{slice_split_none, slice_split_at, length-slice_split}
use Rattle.script_text.specs.Lines.{without_return, lines_in, lines_of, some_word, words_of}

-- a line above others
lines_above : (line : List ℕ) (pieces : List (List ℕ)) → 0 < length pieces → lines_in (line ∷ pieces) ≡ without_return line ∷ lines_in pieces
lines_above line [] h = absurd (omega arith)
lines_above line (next ∷ pieces) h = refl

pub lines_cut : (bytes front rest : List ℕ) → All (λ b. eqb b 10 ≡ false) front → bytes ≡ front ++ 10 ∷ rest → lines_of bytes ≡ without_return front ∷ lines_of rest
lines_cut bytes front rest h e =
    let newline : ℕ → Bool = λ b. eqb b 10 in
    let some : 0 < length (slice_split newline rest) = omega (arith, length-slice_split newline rest) in
    ap lines_of e ∙ (ap lines_in (slice_split_at newline front 10 rest h refl) ∙ lines_above front (slice_split newline rest) some)

last_line : (bytes : List ℕ) → 0 < length bytes → lines_in (bytes ∷ []) ≡ bytes ∷ []
last_line [] h = absurd (omega arith)
last_line (b ∷ bytes) h = search rules

pub lines_last : (bytes : List ℕ) → 0 < length bytes → All (λ b. eqb b 10 ≡ false) bytes → lines_of bytes ≡ bytes ∷ []
lines_last bytes long h = ap lines_in (slice_split_none (λ b. eqb b 10) bytes h) ∙ last_line bytes long

-- one word more, of those that stand in front of the rest
pub words_cut : (words more : List (List ℕ)) (word rest after : List ℕ) (all : List (List ℕ))
    → All (λ b. eqb b 32 ≡ false) word → rest ≡ word ++ 32 ∷ after
    → words ++ words_of rest ≡ all → more ≡ words ++ some_word word → more ++ words_of after ≡ all
words_cut words more word rest after all h e so_far added =
    let one : words_of rest ≡ some_word word ++ words_of after = ap words_of e ∙ ap (flat_map some_word) (slice_split_at (λ b. eqb b 32) word 32 after h refl) in
    rw (added, append_assoc) (ap (λ (ws : List (List ℕ)). words ++ ws) (sym one) ∙ so_far)

-- the last word
pub words_last : (words more : List (List ℕ)) (rest : List ℕ) (all : List (List ℕ))
    → All (λ b. eqb b 32 ≡ false) rest → words ++ words_of rest ≡ all → more ≡ words ++ some_word rest → more ≡ all
words_last words more rest all h so_far added =
    let one : words_of rest ≡ some_word rest = ap (flat_map some_word) (slice_split_none (λ b. eqb b 32) rest h) ∙ append-nil (some_word rest) in
    added ∙ (ap (λ (ws : List (List ℕ)). words ++ ws) (sym one) ∙ so_far)
