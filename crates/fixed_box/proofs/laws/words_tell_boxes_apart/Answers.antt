use Rattle.fixed_box.proofs.Words.{words_tell_boxes_apart}
use Rattle.fixed_box.proofs.laws.words_tell_boxes_apart.Goals as goal

pub returns : goal.returns
returns c = words_tell_boxes_apart
