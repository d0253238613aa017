use Rattle.scene_model.proofs.Creations.{id-view_at}
use Rattle.scene_model.proofs.laws.id_counts_creations.Goals as goal

pub returns : goal.returns
returns c = id-view_at
