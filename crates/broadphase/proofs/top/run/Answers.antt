use Rattle.broadphase.proofs.Ending.{stops}
use Rattle.broadphase.proofs.top.run.Goals as goal

pub returns-in-Some-clause-stops : goal.returns-in-Some-clause-stops
returns-in-Some-clause-stops g c = stops _ _ _ _ _ _ _ _ _ _ c.run_form.ensures.ends
