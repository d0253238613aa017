use Rattle.script_player.proofs.Undoing.{undone_at}
use Rattle.script_player.proofs.laws.refusal_leaves_the_scene.Goals as goal

pub returns : goal.returns
returns c = undone_at
