use Rattle.tree_query.proofs.RightAnswers.{right-answer}
use Rattle.tree_query.proofs.laws.checked_candidates_answer_right.Goals as goal

pub returns : goal.returns
returns c = right-answer
