-- The index for which kind 34 is made.
use Rattle.pass_table.proofs.kind.moves.step_34.Given as goal

abbrev pub ghosts-widen_low : goal.ghosts-widen_low
ghosts-widen_low g a = record { index = g.index }
