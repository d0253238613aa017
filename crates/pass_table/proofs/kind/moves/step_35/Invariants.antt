-- The index for which kind 35 is made.
use Rattle.pass_table.proofs.kind.moves.step_35.Given as goal

abbrev pub ghosts-widen_high : goal.ghosts-widen_high
ghosts-widen_high g a = record { index = g.index }
