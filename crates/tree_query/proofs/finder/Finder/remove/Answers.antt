use Rattle.std.proofs.Common.{rules, arith, ◌/◌, ◌<◌, ◌∙◌, length}
use Rattle.std.specs.Prelude.{slice_index}
use Rattle.std.proofs.lemmas.List.{get_or_default}
use Rattle.tree_query.proofs.Marks.{marks-out, marks-stay, below-out}
use Rattle.tree_query.proofs.finder.Finder.remove.Goals as goal

pub invariant_of-self-clause-marks : goal.invariant_of-self-clause-marks
invariant_of-self-clause-marks c =
    let self = c.args.self.now in
    marks-out self.words.items c.take_out.new.words.items self.touched.words.items c.remove.new.self.words.items (c.args.index / 64) self.marks (search rules) c.take_out.ensures.others c.remove.ensures.has

pub invariant_of-self-clause-below : goal.invariant_of-self-clause-below
invariant_of-self-clause-below c =
    let self = c.args.self.now in
    below-out self.words.items c.take_out.new.words.items (length self.sequences.items) c.args.index self.below c.take_out.ensures.has

pub invariant_of-self-else-index-eq0-clause-marks : goal.invariant_of-self-else-index-eq0-clause-marks
invariant_of-self-else-index-eq0-clause-marks c =
    let self = c.args.self.now in
    let inside = c.requires in
    let other = c.if-index-eq0.false in
    let is = c.index.ensures ∙ get_or_default c.take_out.new.words.items (c.args.index / 64) c.index.result.now 0 (omega (arith, c.take_out.ensures.len)) in
    let some : 0 < slice_index c.take_out.new.words.items (c.args.index / 64) = omega (arith, is, other) in
    marks-stay self.words.items c.take_out.new.words.items self.touched.words.items (c.args.index / 64) self.marks some (c.take_out.ensures.zero (c.args.index / 64)) c.take_out.ensures.others

pub invariant_of-self-else-index-eq0-clause-below : goal.invariant_of-self-else-index-eq0-clause-below
invariant_of-self-else-index-eq0-clause-below c =
    let self = c.args.self.now in
    below-out self.words.items c.take_out.new.words.items (length self.sequences.items) c.args.index self.below c.take_out.ensures.has
