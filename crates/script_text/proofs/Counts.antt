-- Lines with a wrong number of words.
use Rattle.std.proofs.Common.{◌≡◌, ◌≢◌, ℕ, ◌<◌, length, List, [], ◌∷◌, Some, refl, arith}
use Rattle.std.specs.Borrow.{Bor}
use Rattle.std.proofs.lemmas.List.{length-map}
use Rattle.script_text.specs.Lines.{texts}
use Rattle.script_text.specs.declared.code.Code.TheVariants as code
use Rattle.script_text.specs.Grammar.{world_fault, create_fault, prepare_fault}

count_of_world : (args : List (List ℕ)) → length args ≢ 5 → world_fault args ≡ Some code.Count
count_of_world (a ∷ b ∷ c ∷ d ∷ e ∷ []) h = absurd (h refl)
count_of_world _ h = refl

pub world_count : (args : List (Bor (List ℕ))) → length args ≢ 5 → world_fault (texts args) ≡ Some code.Count
world_count args h = count_of_world (texts args) (rw (length-map args (λ p. p.now)) h)

count_of_create : (names : List (List ℕ)) (layers : ℕ) (args : List (List ℕ)) → length args ≢ 9 → create_fault names layers args ≡ Some code.Count
count_of_create names layers (a ∷ b ∷ c ∷ d ∷ e ∷ f ∷ g ∷ i ∷ j ∷ []) h = absurd (h refl)
count_of_create names layers _ h = refl

pub create_count : (names : List (List ℕ)) (layers : ℕ) (args : List (Bor (List ℕ))) → length args ≢ 9 → create_fault names layers (texts args) ≡ Some code.Count
create_count names layers args h = count_of_create names layers (texts args) (rw (length-map args (λ p. p.now)) h)

count_of_prepare : (names : List (List ℕ)) (most layers : ℕ) (args : List (List ℕ)) → length args < 2 → prepare_fault names most layers args ≡ Some code.Count
count_of_prepare names most layers (a ∷ b ∷ args) h = absurd (omega arith)
count_of_prepare names most layers _ h = refl

pub prepare_count : (names : List (List ℕ)) (most layers : ℕ) (args : List (Bor (List ℕ))) → length args < 2 → prepare_fault names most layers (texts args) ≡ Some code.Count
prepare_count names most layers args h = count_of_prepare names most layers (texts args) (rw (length-map args (λ p. p.now)) h)
