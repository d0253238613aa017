use Rattle.scene_model.specs.History.{scene_after}
use Rattle.scene_model.proofs.Histories.{IsConsistent-scene_after}
use Rattle.scene_model.proofs.Full.{next_index-full}
use Rattle.scene_model.proofs.laws.full_has_no_next_index.Goals as goal

pub returns : goal.returns
returns c = λ layers bodies history lawful. next_index-full layers (scene_after bodies history) (IsConsistent-scene_after layers bodies history lawful)
