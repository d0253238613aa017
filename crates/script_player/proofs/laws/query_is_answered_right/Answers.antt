use Rattle.script_player.proofs.Querying.{queries_at}
use Rattle.script_player.proofs.laws.query_is_answered_right.Goals as goal

pub returns : goal.returns
returns c = queries_at
