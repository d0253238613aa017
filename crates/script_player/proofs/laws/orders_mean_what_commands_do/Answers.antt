use Rattle.script_player.proofs.Orders.{orders_same}
use Rattle.script_player.proofs.laws.orders_mean_what_commands_do.Goals as goal

pub returns : goal.returns
returns c = orders_same
