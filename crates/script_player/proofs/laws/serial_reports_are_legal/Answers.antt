use Rattle.script_player.proofs.StoryAlone.{played_of, legal_of}
use Rattle.script_player.proofs.laws.serial_reports_are_legal.Goals as goal

pub returns-clause-played : goal.returns-clause-played
returns-clause-played c = played_of

pub returns-clause-legal : goal.returns-clause-legal
returns-clause-legal c = legal_of
