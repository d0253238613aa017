use Rattle.core_state.proofs.Boxes.{box_of-words}
use Rattle.core_state.proofs.laws.words_tell_boxes.Goals as goal

pub returns : goal.returns
returns c = box_of-words
