use Rattle.std.proofs.Common.{◌≡◌, refl}
use Rattle.scene_model.proofs.Views.{hit_at-from_view}
use Rattle.scene_model.proofs.plain_scene.PlainScene.hit.Goals as goal

pub returns : goal.returns
returns g c = λ t tells.
    let body = c.in_ok-body.body in
    let tested : c.passes.result ≡ t body.bounds = tells _ _ c.passes.ensures in
    let seen = hit_at-from_view t c.args.mask c.args.self.now c.args.index body c.in_ok-body.ensures in
    rw (c.then_some.ensures, seen, ← c.is_in.ensures, c.if-not-is_in.false, ← c.is_in_mask.ensures, c.if-not-is_in_mask.false, tested) refl
