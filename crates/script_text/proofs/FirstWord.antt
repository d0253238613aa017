-- The first word of a line.
use Rattle.std.proofs.Common.{◌≡◌, ℕ, Bool, true, List, [], ◌∷◌, Option, Some, find, ap, sym, ◌∙◌, inl, inr}
use Rattle.std.specs.Borrow.{Bor}
use Rattle.std.specs.Str.{bytes_eq}
use Rattle.std.specs.List.{IsFirstAndRest}
use Rattle.std.proofs.lemmas.Slice.Eq.{bytes_eq-Decides}
use Rattle.std.proofs.lemmas.Bool.{cases_Bool}
use Rattle.script_text.specs.declared.keyword.TheConstants.{BUILT}
use Rattle.script_text.specs.Above.{Above}
use Rattle.script_text.specs.Grammar.{command_fault, named_fault}
use Rattle.script_text.specs.declared.keyword.Keyword.{Keyword}
use Rattle.script_text.specs.Keyword.{keyword_text, keyword_of}
use Rattle.script_text.specs.Lines.{texts}

some_is : {X : Type 0} {x y : X} → Some x ≡ Some y → x ≡ y
some_is h = cc

-- what is found passes the test
found_passes : {X : Type 0} (p : X → Bool) (xs : List X) (x : X) → find p xs ≡ Some x → p x ≡ true
found_passes p [] x h = absurd cc
found_passes p (y ∷ ys) x h =
    elim (cases_Bool (p y)) [
      | inl passes ↦ let e : y ≡ x = some_is (rw passes at h) in ap p (sym e) ∙ passes
      | inr fails ↦ found_passes p ys x (rw fails at h)
    ]

-- a word that names a command is the command's word
keyword_is : (word : List ℕ) (k : Keyword) → keyword_of word ≡ Some k → word ≡ keyword_text k
unfolding keyword_of
keyword_is word k h = (bytes_eq-Decides word (keyword_text k)).0 (found_passes (λ k. bytes_eq word (keyword_text k)) BUILT k h)

-- a line with a known command word
pub below_keyword : (above : Above) (words args : List (Bor (List ℕ))) (word : Bor (List ℕ)) (k : Keyword) → IsFirstAndRest words word args → keyword_of word.now ≡ Some k
    → (texts words ≡ keyword_text k ∷ texts args) × (command_fault above (texts words) ≡ named_fault above [] (Some k) (texts args))
below_keyword above words args word k h named = (
  ap texts h.0 ∙ ap (λ (w : List ℕ). w ∷ texts args) (keyword_is word.now k named),
  ap (λ (ws : List (Bor (List ℕ))). command_fault above (texts ws)) h.0 ∙ ap (λ (o : Option Keyword). named_fault above word.now o (texts args)) named,
)
