use Rattle.script_player.proofs.Answering.{answered_ok}
use Rattle.script_player.proofs.plain_player.PlainPlayerHost.command.Goals as goal

pub turn-requires : goal.turn-requires
turn-requires c = c.requires.told.shown.under_way

pub returns : goal.returns
returns c = record { answered = answered_ok c.args.command.now c.args.self.now c.turn.new.self c.turn.result c.turn.ensures }
