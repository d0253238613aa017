use Rattle.std.proofs.Common.{◌≡◌, ◌++◌, sym, ◌∙◌, ap, append-nil, option_to_list, Option, Vec, Global}
use Rattle.body_ident.specs.Id.{Id}
use Rattle.scene_model.specs.Query.{hit_at}
use Rattle.scene_model.proofs.Ranges.{found_more}
use Rattle.scene_model.proofs.plain_scene.PlainScene.hits_where.Goals as goal
use Rattle.scene_model.proofs.plain_scene.PlainScene.hits_where.Goals.{in-Some+in_ok-push, in_default}

pub loop-index-preserved : goal.loop-index-preserved
loop-index-preserved g c =
    let found = c.loop-index.found.items in
    let pushed : c.match-hit.found.items ≡ found ++ option_to_list c.hit.result =
    elim c.match-hit.branch [
      | in-Some+in_ok-push w ↦
          ap (λ (v : Vec Id Global). v.items) w.found-is ∙ w.in_ok-push.ensures.items ∙ ap (λ (o : Option Id). found ++ option_to_list o) (sym w.in-Some.is)
      | in_default w ↦
          ap (λ (v : Vec Id Global). v.items) w.found-is ∙ sym (append-nil found) ∙ ap (λ (o : Option Id). found ++ option_to_list o) (sym w.in_default.is)
    ] in
    λ t tells.
    found_more (hit_at t c.args.mask c.args.self.now) c.loop-index.index found c.match-hit.found.items c.hit.result (c.loop-index.invariant t tells) (c.hit.ensures t tells) pushed
