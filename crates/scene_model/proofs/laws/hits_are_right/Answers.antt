use Rattle.scene_model.proofs.Hits.{hits_right}
use Rattle.scene_model.proofs.laws.hits_are_right.Goals as goal

pub returns : goal.returns
returns c = hits_right
