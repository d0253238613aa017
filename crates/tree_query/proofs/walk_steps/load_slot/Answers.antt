use Rattle.std.proofs.Common.{refl}
use Rattle.word_map.specs.declared.name.Name.TheVariants.{Slot}
use Rattle.pass_table.specs.Passes.{view_of}
use Rattle.tree_query.proofs.WalkOn.{slot-on, slot-step, slot-made}
use Rattle.tree_query.proofs.walk_steps.load_slot.Goals as goal

pub step_30-requires-clause-asks : goal.step_30-requires-clause-asks
step_30-requires-clause-asks c = record { layer = c.args.layer; slot = c.args.slot; names = refl; walks = c.requires.walks }

pub returns-clause-on : goal.returns-clause-on
returns-clause-on c = slot-on (view_of c.args.pass.now) (view_of c.step_30.new.pass) (Slot c.args.layer c.args.slot) c.step_30.result c.step_30.ensures.step

pub returns-clause-step : goal.returns-clause-step
returns-clause-step c = slot-step (view_of c.args.pass.now) (view_of c.step_30.new.pass) (Slot c.args.layer c.args.slot) c.step_30.result c.step_30.ensures.step

pub returns-clause-made : goal.returns-clause-made
returns-clause-made c = slot-made (view_of c.args.pass.now) (view_of c.step_30.new.pass) (Slot c.args.layer c.args.slot) c.step_30.result c.step_30.ensures.step
