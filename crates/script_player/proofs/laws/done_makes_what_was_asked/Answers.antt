use Rattle.script_player.proofs.Doing.{made_at}
use Rattle.script_player.proofs.laws.done_makes_what_was_asked.Goals as goal

pub returns : goal.returns
returns c = made_at
