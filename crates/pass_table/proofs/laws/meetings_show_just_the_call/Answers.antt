use Rattle.pass_table.proofs.Several.{sees-just}
use Rattle.pass_table.proofs.laws.meetings_show_just_the_call.Goals as goal

pub returns : goal.returns
returns c = sees-just
