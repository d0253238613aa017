use Rattle.std.proofs.Common.{sym, ◌∙◌, ap}
use Rattle.scene_model.specs.declared.body_view.BodyView.{BodyView}
use Rattle.scene_model.proofs.Views.{HasBody-from_view, IsPossible-join_one}
use Rattle.scene_model_tests.proofs.tests.join.Goals as goal

pub apply-requires : goal.apply-requires
apply-requires c =
    let body = c.in_ok-body.body in
    rw (c.new-indexes.ensures ∙ c.in_ok-vec.ensures.items)
    (IsPossible-join_one c.args.scene.now body.layer c.args.index
    (HasBody-from_view c.args.scene.now c.args.index body _ (sym c.at.ensures ∙ c.in_ok-body.ensures.ok_part)
    (λ r e. (ap (λ (v : BodyView). v.phase) e ∙ c.in-Held.is, ap (λ (v : BodyView). v.layer) e))))
