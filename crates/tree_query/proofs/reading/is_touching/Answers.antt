use Rattle.std.proofs.Common.{◌∙◌, sym, subst}
use Rattle.fixed_box.specs.Touch.{Touch}
use Rattle.fixed_box.proofs.Words.{words_tell_boxes_apart}
use Rattle.tree_query.proofs.reading.is_touching.Goals as goal

pub returns-in-Some : goal.returns-in-Some
returns-in-Some c =
    let bounds = c.in-Some.bounds in
    let words = c.in-Some.ensures.some in (
      λ h. (bounds, words, c.touch.ensures.meaning.0 h),
      λ h. c.touch.ensures.meaning.1 (subst (Touch c.args.shape.now) (words_tell_boxes_apart h.0 bounds (h.1 ∙ sym words)) h.2),
    )
