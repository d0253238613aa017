use Rattle.word_map.specs.declared.name.Name.TheVariants.{Slot}
use Rattle.pass_table.specs.Passes.{view_of}
use Rattle.pass_table.proofs.Bodies.{loaded-slot, slot-load-step, slot-load-made}
use Rattle.tree_query.proofs.check_loads.load_of_slot.Goals as goal

pub returns-clause-loaded : goal.returns-clause-loaded
returns-clause-loaded c = loaded-slot (view_of c.args.pass.now) (view_of c.step_17.new.pass) (Slot c.args.layer c.args.slot) c.step_17.result c.step_17.ensures.step

pub returns-clause-step : goal.returns-clause-step
returns-clause-step c = slot-load-step (view_of c.args.pass.now) (view_of c.step_17.new.pass) (Slot c.args.layer c.args.slot) c.step_17.result c.step_17.ensures.step

pub returns-clause-made : goal.returns-clause-made
returns-clause-made c = slot-load-made (view_of c.args.pass.now) (view_of c.step_17.new.pass) (Slot c.args.layer c.args.slot) c.step_17.result c.step_17.ensures.step
