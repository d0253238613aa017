use Rattle.std.proofs.Common.{sym, ◌∙◌}
use Rattle.std.proofs.lemmas.Bool.{false≢true}
use Rattle.pass_table.specs.Passes.{view_of}
use Rattle.pass_table.proofs.Between.{more-trans}
use Rattle.tree_query.proofs.CandidateChecks.{none-seen, none-asked, none-touching, one-hit, asked-of, unasked-of}
use Rattle.tree_query.proofs.checking.is_hit.Goals as goal

pub returns-in-None-clause-none : goal.returns-in-None-clause-none
returns-in-None-clause-none c = λ false_is. none-seen c.args.shape.now c.args.mask c.args.id (view_of c.args.pass.now) (view_of c.layer_in.new.pass) c.in-None.ensures.seen

pub returns-then-not-is_asked-clause-none : goal.returns-then-not-is_asked-clause-none
returns-then-not-is_asked-clause-none c = λ false_is.
    none-asked c.args.shape.now c.args.mask c.args.id (view_of c.args.pass.now) (view_of c.layer_in.new.pass) c.in-Some.layer c.in-Some.ensures.seen
    (unasked-of c.args.mask c.in-Some.layer c.is_asked.result c.is_asked.ensures c.if-not-is_asked.true)

pub returns-clause-more : goal.returns-clause-more
returns-clause-more c = more-trans (view_of c.args.pass.now) (view_of c.layer_in.new.pass) (view_of c.load_box-bounds.new.pass) c.layer_in.ensures.more c.load_box-bounds.ensures.more

pub returns-clause-hit : goal.returns-clause-hit
returns-clause-hit c = λ touches.
    one-hit c.args.shape.now c.args.mask c.args.id (view_of c.args.pass.now) (view_of c.layer_in.new.pass) (view_of c.load_box-bounds.new.pass) c.load_box-bounds.ensures.more c.in-Some.layer c.in-Some.ensures.seen
    c.load_box-bounds.result c.load_box-bounds.ensures.bounds (asked-of c.args.mask c.in-Some.layer c.is_asked.result c.is_asked.ensures c.if-not-is_asked.false) (c.touch.ensures.meaning.0 touches)

pub returns-clause-none : goal.returns-clause-none
returns-clause-none c = λ apart.
    none-touching c.args.shape.now c.args.mask c.args.id (view_of c.args.pass.now) (view_of c.layer_in.new.pass) (view_of c.load_box-bounds.new.pass) c.load_box-bounds.ensures.more c.in-Some.layer c.in-Some.ensures.seen
    c.load_box-bounds.result c.load_box-bounds.ensures.bounds (λ touches. false≢true (sym apart ∙ c.touch.ensures.meaning.1 touches))
