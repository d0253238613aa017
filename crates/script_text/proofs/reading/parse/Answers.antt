use Rattle.std.proofs.Common.{◌∙◌}
use Rattle.script_text.proofs.Parsing.{from_first, spelled, reads_as}
use Rattle.script_text.proofs.Unique.{only_read}
use Rattle.script_text.proofs.reading.parse.Goals as goal

pub returns-clause-exact : goal.returns-clause-exact
returns-clause-exact c =
    reads_as _ _ _ _ _ (from_first c.new-draft.result c.args.bytes.now c.new-draft.ensures.above ∙ c.in_ok-number.ensures.fault)
    (λ script h. spelled c.args.bytes.now c.new-draft.result c.add_lines.new.draft _ script c.new-draft.ensures.words c.in_ok-number.ensures h)
    c.finish.ensures

pub returns-clause-only : goal.returns-clause-only
returns-clause-only c = only_read _ _ c.args.bytes.now (returns-clause-exact c)
