use Rattle.body_lock.proofs.StayingGone.{stays-gone}
use Rattle.body_lock.proofs.laws.gone_bodies_stay_gone.Goals as goal

pub returns : goal.returns
returns c = λ layers bodies id g first later lawful creation none. stays-gone layers bodies id g first later lawful creation none
