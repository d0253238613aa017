use Rattle.std.proofs.Common.{rules, arith}
use Rattle.std.proofs.lemmas.Bool.{and_parts, and_from, both_ways}
use Rattle.fixed_box.proofs.Words.{IsOrdered-from_words, AreWords-of_box}
use Rattle.fixed_box.proofs.Same.{same_six}
use Rattle.fixed_box.proofs.fix_box.FixBox.from_words.Goals as goal

pub invariant_of-result : goal.invariant_of-result
invariant_of-result c =
    let f = and_parts _ _ c.if-are_words.true in
    let g = and_parts _ _ f.0 in
    let x = c.are_words.ensures.0 g.0 in
    let y = c.are_words-2.ensures.0 g.1 in
    let z = c.are_words-3.ensures.0 f.1 in
    record { ordered = IsOrdered-from_words _ _ _ _ _ _ (omega arith) (omega arith) (omega arith) }

pub returns-then-are_words-clause-some : goal.returns-then-are_words-clause-some
returns-then-are_words-clause-some c =
    same_six _ _ _ _ _ _ c.args.w (search rules) c.from_word.ensures c.from_word-then-are_words.ensures c.from_word-then-are_words-2.ensures c.from_word-then-are_words-3.ensures c.from_word-then-are_words-4.ensures c.from_word-then-are_words-5.ensures

pub returns-else-are_words-clause-none : goal.returns-else-are_words-clause-none
returns-else-are_words-clause-none c = λ b e.
    let w = AreWords-of_box b c.args.w e in
    both_ways _ c.if-are_words.false (and_from _ _ (and_from _ _ (c.are_words.ensures.1 w.0) (c.are_words-2.ensures.1 w.1)) (c.are_words-3.ensures.1 w.2))
