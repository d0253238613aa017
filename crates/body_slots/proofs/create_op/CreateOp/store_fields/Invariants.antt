use Rattle.pass_table.specs.Passes.{view_of, IsOf}
use Rattle.body_slots.proofs.WholeCreate.{FillsOn}
use Rattle.body_slots.proofs.create_op.CreateOp.store_fields.Given as goal

abbrev pub invariant-loop-number : goal.invariant-loop-number
invariant-loop-number l = IsOf l.world l.pass × FillsOn l.self l.index (view_of l.initial.pass) l.number (view_of l.pass)
