-- The index for which kind 36 is made.
use Rattle.pass_table.proofs.kind.moves.step_36.Given as goal

abbrev pub ghosts-load_parent : goal.ghosts-load_parent
ghosts-load_parent g a = record { index = g.index }
