use Rattle.body_lock.proofs.Staying.{guarded-stays}
use Rattle.body_lock.proofs.laws.locked_bodies_stay.Goals as goal

pub returns : goal.returns
returns c = λ number id mode view next guarding more now. guarded-stays number id mode view next guarding more now
