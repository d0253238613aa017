use Rattle.script_player.specs.Report.{serial_report}
use Rattle.script_player.proofs.Standing.{scene_is}
use Rattle.script_player.proofs.StoryAlone.{played_of}
use Rattle.script_player.proofs.laws.what_is_played_is_legal.Goals as goal

pub returns-clause-written : goal.returns-clause-written
returns-clause-written c = λ script before after h. record { report = serial_report script; written = h; played = played_of script }

pub returns-clause-scene : goal.returns-clause-scene
returns-clause-scene c = λ script. scene_is script.world script.lines
