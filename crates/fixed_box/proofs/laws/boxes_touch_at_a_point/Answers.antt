use Rattle.fixed_box.proofs.Boxes.{SharedPoint-from_touch, touch_from_shared_point}
use Rattle.fixed_box.proofs.laws.boxes_touch_at_a_point.Goals as goal

pub returns : goal.returns
returns c = λ a b. (SharedPoint-from_touch a b, touch_from_shared_point a b)
