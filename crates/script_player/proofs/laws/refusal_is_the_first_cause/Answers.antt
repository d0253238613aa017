use Rattle.script_player.proofs.Refusing.{answered_at}
use Rattle.script_player.proofs.laws.refusal_is_the_first_cause.Goals as goal

pub returns : goal.returns
returns c = answered_at
