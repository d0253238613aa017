use Rattle.scene_model.proofs.Histories.{IsConsistent-scene_after}
use Rattle.scene_model.proofs.laws.lawful_scene_is_consistent.Goals as goal

pub returns : goal.returns
returns c = IsConsistent-scene_after
