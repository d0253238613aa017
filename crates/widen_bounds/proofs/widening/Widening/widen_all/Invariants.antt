use Rattle.pass_table.specs.Passes.{view_of, IsOf}
use Rattle.widen_bounds.specs.stages.Widening.{HasWidenedOn, widening_left}
use Rattle.widen_bounds.proofs.widening.Widening.widen_all.Given as goal

abbrev pub ghost-turn : goal.ghost-turn
ghost-turn g a = g.index

-- so far it has come on by turns
abbrev pub invariant-loop-widening : goal.invariant-loop-widening
invariant-loop-widening g l = IsOf l.world l.pass × HasWidenedOn g.index l.target l.initial.widening l.widening (view_of l.initial.pass) (view_of l.pass)

abbrev pub decreases-loop-widening : goal.decreases-loop-widening
decreases-loop-widening g l = widening_left l.widening
