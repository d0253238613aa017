use Rattle.scene_model.proofs.Views.{HasBody-from_view}
use Rattle.scene_model.proofs.laws.view_tells_the_body.Goals as goal

pub returns : goal.returns
returns c = λ scene index view same. HasBody-from_view scene index view _ same (λ r e. e)
