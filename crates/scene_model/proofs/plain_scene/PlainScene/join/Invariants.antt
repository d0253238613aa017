use Rattle.std.proofs.Common.{◌≡◌, fold, take}
use Rattle.scene_model.specs.declared.body_view.Phase.TheVariants.{In}
use Rattle.scene_model.specs.Step.{with_phase}
use Rattle.scene_model.proofs.plain_scene.PlainScene.join.Given as goal

-- the bodies passed so far are in
abbrev pub invariant-loop-index : goal.invariant-loop-index
invariant-loop-index l = l.self ≡ fold (with_phase In) l.initial.self (take l.index-index l.indexes)
