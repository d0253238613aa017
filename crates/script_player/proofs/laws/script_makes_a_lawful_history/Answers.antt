use Rattle.script_player.proofs.Lawful.{lawful_of, in_layers_of}
use Rattle.script_player.proofs.laws.script_makes_a_lawful_history.Goals as goal

pub returns-clause-lawful : goal.returns-clause-lawful
returns-clause-lawful c = lawful_of

pub returns-clause-layers : goal.returns-clause-layers
returns-clause-layers c = in_layers_of
