use Rattle.std.proofs.Common.{ap}
use Rattle.scene_model.specs.declared.body_view.Phase.TheVariants.{In as InPhase}
use Rattle.pass_table.specs.Passes.{view_of}
use Rattle.body_look.specs.Found.{phase_found}
use Rattle.widen_bounds.specs.stages.MoveLater.{in-apart}
use Rattle.widen_bounds.proofs.GuardedMoves.{free-at}
use Rattle.widen_bounds.proofs.moving_guarded.held_slot.Goals as goal

pub returns-in-In-clause-held : goal.returns-in-In-clause-held
returns-in-In-clause-held c =
    free-at c.args.id (view_of c.look_guarded.new.pass) c.look_guarded.result InPhase in-apart (ap phase_found c.in-In.is) c.look_guarded.ensures.guarded c.look_guarded.ensures.found

pub returns-in-Joined-clause-held : goal.returns-in-Joined-clause-held
returns-in-Joined-clause-held c =
    free-at c.args.id (view_of c.look_guarded.new.pass) c.look_guarded.result InPhase in-apart (ap phase_found c.in-Joined.is) c.look_guarded.ensures.guarded c.look_guarded.ensures.found
