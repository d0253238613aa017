use Rattle.std.proofs.Common.{◌≡◌, true, ap, eqb, ℕ, ◌/◌, ◌%◌, w64, arith, ◌∙◌}
use Rattle.std.specs.Prelude.{slice_index}
use Rattle.std.specs.Int.{bit_at}
use Rattle.std.proofs.lemmas.List.{get_or_default}
use Rattle.std.proofs.lemmas.Nat.Bits.{bit_at_set_same, bit_at_set_other}
use Rattle.tree_query.proofs.Sets.{has-changed, some-here}
use Rattle.tree_query.proofs.bits.put_in.Goals as goal

pub returns-clause-has : goal.returns-clause-has
returns-clause-has c =
    let words = c.args.words.now.items in
    let number = c.args.number in
    let below = c.requires in
    let word = c.index_mut.result.now in
    let here : word ≡ slice_index words (number / 64) = c.index_mut.ensures.value ∙ get_or_default words (number / 64) word 0 (omega arith) in
    has-changed words number _ (omega arith) true (ap (λ (n : ℕ). eqb n 1) (bit_at_set_same w64 word (number % 64) (omega arith)))
    (λ bit low apart. bit_at_set_other w64 word (number % 64) (omega arith) bit apart ∙ ap (λ (w : ℕ). bit_at w bit) here)

pub returns-clause-some : goal.returns-clause-some
returns-clause-some c =
    let number = c.args.number in
    let below = c.requires in
    some-here c.args.words.now.items number _ (omega arith) (number % 64) (bit_at_set_same w64 c.index_mut.result.now (number % 64) (omega arith))
