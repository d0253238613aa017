use Rattle.scene_model.proofs.ShownReads.{hits-shown}
use Rattle.scene_model.proofs.ShownSteps.{shown-after_entry}
use Rattle.scene_model.proofs.laws.shown_tells_the_scene.Goals as goal

pub returns-clause-hits : goal.returns-clause-hits
returns-clause-hits c = hits-shown

pub returns-clause-step : goal.returns-clause-step
returns-clause-step c = shown-after_entry
