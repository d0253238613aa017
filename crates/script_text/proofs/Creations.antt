-- What is wrong with the words of a creation, part by part.
use Rattle.std.proofs.Common.{◌≡◌, ◌≤◌, ◌<◌, ℕ, List, [], ◌∷◌, ◌++◌, length, Option, Some, None, refl, ap, ◌∙◌}
use Rattle.std.specs.Borrow.{Bor}
use Rattle.script_text.specs.declared.code.Code.{Code}
use Rattle.script_text.specs.Lines.{texts}
use Rattle.script_text.specs.Fault.{first_of}
use Rattle.script_text.specs.Name.{new_name_fault}
use Rattle.script_text.specs.Fields.{layer_fault, corner_fault, user_fault, order_fault}
use Rattle.script_text.specs.Grammar.{create_fault}
use Rattle.script_text.proofs.Words.{word, words_9}

first_alone : (fault : Option Code) → fault ≡ first_of (fault ∷ [])
first_alone None = refl
first_alone (Some code) = refl

-- the first fault of tests and others behind them
first_of_both : (tests others : List (Option Code)) → first_of (tests ++ others) ≡ first_of (first_of tests ∷ first_of others ∷ [])
first_of_both [] others = first_alone (first_of others)
first_of_both (Some code ∷ tests) others = refl
first_of_both (None ∷ tests) others = first_of_both tests others

-- the name and the layer, and then the box and the user number
pub creation_parts : (names : List (List ℕ)) (layers : ℕ) (args : List (Bor (List ℕ))) → 9 ≤ length args → length args < 10
    → create_fault names layers (texts args)
    ≡ first_of (first_of (new_name_fault names (word args 0) ∷ layer_fault layers (word args 1) ∷ [])
    ∷ first_of (corner_fault (word args 2) (word args 3) (word args 4) ∷ corner_fault (word args 5) (word args 6) (word args 7) ∷ user_fault (word args 8)
    ∷ order_fault (word args 2 ∷ word args 3 ∷ word args 4 ∷ []) (word args 5 ∷ word args 6 ∷ word args 7 ∷ []) ∷ []) ∷ [])
creation_parts names layers args enough few =
    ap (create_fault names layers) (words_9 args enough few)
    ∙ first_of_both (new_name_fault names (word args 0) ∷ layer_fault layers (word args 1) ∷ [])
    (corner_fault (word args 2) (word args 3) (word args 4) ∷ corner_fault (word args 5) (word args 6) (word args 7) ∷ user_fault (word args 8)
    ∷ order_fault (word args 2 ∷ word args 3 ∷ word args 4 ∷ []) (word args 5 ∷ word args 6 ∷ word args 7 ∷ []) ∷ [])
