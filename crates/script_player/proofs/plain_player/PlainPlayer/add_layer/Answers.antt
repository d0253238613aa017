use Rattle.std.proofs.Common.{Result, subst, sym, ap}
use Rattle.scene_model.specs.Need.{need}
use Rattle.std.proofs.Common.{length}
use Rattle.scene_model.specs.declared.entry.Entry.TheVariants.{Join}
use Rattle.scene_model.specs.Scene.{Scene}
use Rattle.scene_model.specs.Step.{IsPossible}
use Rattle.reply_text.specs.declared.refusal.Refusal.{Refusal}
use Rattle.script_player.specs.declared.taking.Taken.{Taken}
use Rattle.script_player.specs.Table.{Table}
use Rattle.script_player.specs.Taking.{taking}
use Rattle.script_player.specs.Shown.{Takes}
use Rattle.script_player.proofs.Batching.{taken_can_join}
use Rattle.script_player.proofs.plain_player.PlainPlayer.add_layer.Goals as goal

pub apply-requires : goal.apply-requires
apply-requires c =
    let old = c.args.self.now in
    let layer = c.args.layer in
    let bodies = c.args.bodies.now in
    let nodes = need (length bodies) in
    let P : Result Taken Refusal → Type 0 = λ r. Takes (taking old layer bodies) nodes old c.take.new.self r in
    let Q : Scene → Type 0 = λ s. IsPossible s (Join layer c.in-Ok.taken.indexes) in
    subst Q (sym (ap (λ (t : Table). t.scene) c.self.view_is))
    (taken_can_join old c.take.new.self layer nodes bodies c.in-Ok.taken (subst P c.in-Ok.is c.in_ok-taken.ensures))
