use Rattle.std.proofs.Common.{ℕ, ◌+◌, ◌/◌, length, ap, sym, ◌∙◌, arith}
use Rattle.std.proofs.lemmas.List.{length-set}
use Rattle.tree_query.proofs.Marks.{marks-put, below-put}
use Rattle.tree_query.proofs.finder.Finder.put.Goals as goal

pub invariant_of-self-clause-sized : goal.invariant_of-self-clause-sized
invariant_of-self-clause-sized c =
    let self = c.args.self.now in
    c.put_in.ensures.len ∙ (self.sized ∙ ap (λ (n : ℕ). (n + 63) / 64) (sym (length-set self.sequences.items c.args.index c.args.seq)))

pub invariant_of-self-clause-marks : goal.invariant_of-self-clause-marks
invariant_of-self-clause-marks c =
    let self = c.args.self.now in
    marks-put self.words.items c.put_in.new.words.items self.touched.words.items c.insert.new.self.words.items (c.args.index / 64) self.marks c.put_in.ensures.some c.put_in.ensures.others c.insert.ensures.has

pub invariant_of-self-clause-below : goal.invariant_of-self-clause-below
invariant_of-self-clause-below c = λ other has.
    let self = c.args.self.now in
    let below = below-put self.words.items c.put_in.new.words.items (length self.sequences.items) c.args.index c.requires self.below c.put_in.ensures.has other has in
    omega (arith, below, length-set self.sequences.items c.args.index c.args.seq)
