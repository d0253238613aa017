use Rattle.batch_add.specs.stages.Preparing.{stage_label}
use Rattle.batch_add.proofs.PrepareLabel.{label-none}
use Rattle.pass_table.specs.declared.turn.Turn.TheVariants.{Done}
use Rattle.std.proofs.Common.{ap, Err, inl}
use Rattle.pass_table.specs.Passes.{view_of}
use Rattle.batch_add.proofs.PrepareBegun.{empty-turn}
use Rattle.batch_add.proofs.prepare_op.PrepareOp.next_turn.Goals as goal

pub returns-in-Empty-clause-turn : goal.returns-in-Empty-clause-turn
returns-in-Empty-clause-turn c = empty-turn c.args.self.now (view_of c.args.pass.now) c.args.pass.now.number c.args.pass.now.numbered c.in-Empty.is

pub returns-in-Empty-clause-label : goal.returns-in-Empty-clause-label
returns-in-Empty-clause-label c = label-none (Done (Err _)) c.args.self.now c.args.self.now (view_of c.args.pass.now) (view_of c.args.pass.now) (inl tt) (ap stage_label c.in-Empty.is)
