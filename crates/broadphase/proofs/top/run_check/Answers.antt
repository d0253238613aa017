use Rattle.broadphase.proofs.Ending.{stops}
use Rattle.broadphase.proofs.top.run_check.Goals as goal

pub returns-clause-stops : goal.returns-clause-stops
returns-clause-stops g c = stops _ _ _ _ _ _ _ _ _ _ c.check_script.ensures.ends
