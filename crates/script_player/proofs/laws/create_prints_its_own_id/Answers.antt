use Rattle.script_player.proofs.Creating.{creates_at}
use Rattle.script_player.proofs.laws.create_prints_its_own_id.Goals as goal

pub returns : goal.returns
returns c = creates_at
