use Rattle.script_player.proofs.Told.{block_legal, one_pass_block}
use Rattle.script_player.proofs.examples.block_is_legal.Goals as goal

pub returns-clause-legal : goal.returns-clause-legal
returns-clause-legal c = block_legal

pub returns-clause-one_pass : goal.returns-clause-one_pass
returns-clause-one_pass c = one_pass_block
