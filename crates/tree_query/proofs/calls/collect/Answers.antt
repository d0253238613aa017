use Rattle.std.proofs.Common.{sym, ◌∙◌}
use Rattle.pass_table.specs.Passes.{view_of}
use Rattle.pass_table.proofs.Current.{knows-lawful}
use Rattle.tree_query.proofs.WalkGuards.{walked-idle, walked-keeps, walked-locks, walked-guards, walked-alone}
use Rattle.tree_query.proofs.WalkMulti.{walked-multi}
use Rattle.tree_query.proofs.calls.collect.Goals as goal

pub returns-clause-idle : goal.returns-clause-idle
returns-clause-idle c = λ idle. walked-idle c.args.world.now c.args.pass.now c.walk_all.new.pass _ c.walk_all.ensures.collected.walked c.walk_all.ensures.collected.ended c.walk_all.ensures.of idle

pub returns-clause-lawful : goal.returns-clause-lawful
returns-clause-lawful c = knows-lawful (view_of c.walk_all.new.pass) c.walk_all.new.pass.current

pub returns-clause-keeps : goal.returns-clause-keeps
returns-clause-keeps c = walked-keeps (view_of c.args.pass.now) (view_of c.walk_all.new.pass) _ c.walk_all.ensures.collected.walked

pub returns-clause-locks : goal.returns-clause-locks
returns-clause-locks c = walked-locks (view_of c.args.pass.now) (view_of c.walk_all.new.pass) _ c.walk_all.ensures.collected.walked

pub returns-clause-guards : goal.returns-clause-guards
returns-clause-guards c = walked-guards (view_of c.args.pass.now) (view_of c.walk_all.new.pass) _ c.walk_all.ensures.collected.walked

pub returns-clause-alone : goal.returns-clause-alone
returns-clause-alone c = walked-alone (view_of c.args.pass.now) (view_of c.walk_all.new.pass) _ c.walk_all.ensures.collected.walked c.walk_all.ensures.collected.ended

pub returns-clause-multi : goal.returns-clause-multi
returns-clause-multi c = walked-multi (view_of c.args.pass.now) (view_of c.walk_all.new.pass) _ c.walk_all.ensures.collected.walked (c.walk_all.ensures.collected.ended ∙ sym c.requires.still)
