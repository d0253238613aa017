use Rattle.script_player.proofs.Beginning.{shown_new}
use Rattle.script_player.proofs.plain_player.PlainPlayer.new.Goals as goal

pub returns : goal.returns
returns c = shown_new c.args.world c.in_ok-new.field-0 c.new-2.result c.requires c.in_ok-new.ensures c.new-2.ensures
