use Rattle.scene_model.proofs.Batches.{JoinsOnly-fold}
use Rattle.scene_model.proofs.laws.join_changes_what_it_lists.Goals as goal

pub returns : goal.returns
returns c = λ scene layer indexes. JoinsOnly-fold scene indexes
