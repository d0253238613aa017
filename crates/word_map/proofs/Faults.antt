-- A world without a fault has each field within its limit.
use Rattle.std.proofs.Common.{ℕ, ◌≡◌, ◌≤◌, Bool, true, false, not, Option, Some, None, cond, refl, arith}
use Rattle.std.proofs.lemmas.Bool.Decides.{nat_tests}
use Rattle.word_map.specs.declared.config.Config.{Config}
use Rattle.word_map.specs.Limits.{IsConfig, is_up_to, fault_of}

-- where nothing is found, the first did not fail, and nothing is found after it
first_passes : {X : Type 0} (within : Bool) (x : X) (later : Option X) →
    cond (not within) (Some x) later ≡ None → (within ≡ true) × (later ≡ None)
first_passes true x later none = (refl, none)
first_passes false x later none = cc

-- what the test of a limit tells
up_to : (limit n : ℕ) → is_up_to limit n ≡ true → (1 ≤ n) × (n ≤ limit)
up_to limit n within = (grind (arith, nat_tests), grind (arith, nat_tests))

-- no fault, no field out of its limit
pub no_fault : (c : Config) → fault_of c ≡ None → IsConfig c
no_fault c none =
    let bodies = first_passes _ _ _ none in
    let stripes = first_passes _ _ _ bodies.1 in
    let layers = first_passes _ _ _ stripes.1 in
    let slots = first_passes _ _ _ layers.1 in
    let nodes = first_passes _ _ _ slots.1 in
    let last = first_passes _ _ _ nodes.1 in
    record {
      bodies = up_to _ _ bodies.0;
      stripes = stripes.0;
      layers = up_to _ _ layers.0;
      slots = up_to _ _ slots.0;
      nodes = up_to _ _ nodes.0;
      passes = up_to _ _ last.0;
    }
