use Rattle.std.proofs.lemmas.List.{map-set}
use Rattle.scene_model.proofs.plain_scene.PlainScene.write.Goals as goal

pub returns-then-place-len : goal.returns-then-place-len
returns-then-place-len c = rw (← c.self.view_is) (simp map-set)
