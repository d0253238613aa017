-- The limits of a world's sizes.
use Rattle.std.proofs.Common.{ℕ, ◌≡◌, ◌≤◌, Bool, true, false, not, Option, Some, None, cond, List, refl, sym, ap, pos, nat_abs, arith}
use Rattle.std.proofs.lemmas.Bool.Decides.{nat_tests}
use Rattle.word_map.specs.declared.config.Config.{Config}
use Rattle.word_map.specs.declared.config.Field.TheVariants.{Bodies, Stripes, Layers, Slots, Nodes}
use Rattle.word_map.specs.Limits.{IsConfig, is_up_to, fault_of}
use Rattle.script_text.specs.Number.{number_of}
use Rattle.script_text.specs.Fields.{SpellsSize}

-- where the first does not fail and nothing is found after it, nothing is found
passes_first : {X : Type 0} (within : Bool) (x : X) (later : Option X) → within ≡ true → later ≡ None → cond (not within) (Some x) later ≡ None
passes_first true x later passed rest = rest
passes_first false x later passed rest = cc

up_to : (limit n : ℕ) → (1 ≤ n) × (n ≤ limit) → is_up_to limit n ≡ true
up_to limit n within = grind (arith, nat_tests)

-- sizes within their limits have no fault
pub none_broken : (c : Config) → IsConfig c → fault_of c ≡ None
none_broken c is =
    passes_first _ _ _ (up_to _ _ is.bodies) (
    passes_first _ _ _ is.stripes (
    passes_first _ _ _ (up_to _ _ is.layers) (
    passes_first _ _ _ (up_to _ _ is.slots) (
    passes_first _ _ _ (up_to _ _ is.nodes) (passes_first _ _ _ (up_to _ _ is.passes) refl)))))

-- what a number without a minus stands for
pub value_is : (word : List ℕ) (n : ℕ) → pos n ≡ number_of word → nat_abs (number_of word) ≡ n
value_is word n e = ap nat_abs (sym e)

-- sizes of which each is within the limit of its field
pub all_within : (a b c d e : List ℕ) (k l m n o : ℕ)
    → SpellsSize Bodies a k → SpellsSize Stripes b l → SpellsSize Layers c m → SpellsSize Slots d n → SpellsSize Nodes e o
    → IsConfig (record { bodies = k; stripes = l; layers = m; slots = n; nodes = o; passes = 1 })
all_within a b c d e k l m n o p q r s t = record {
  bodies = p.within.bodies;
  stripes = q.within.stripes;
  layers = r.within.layers;
  slots = s.within.slots;
  nodes = t.within.nodes;
  passes = p.within.passes;
}
