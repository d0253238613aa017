use Rattle.pass_table.specs.Passes.{view_of}
use Rattle.batch_add.proofs.GiveSlot.{asks-slot, slot-gone, slot-step, slot-turn-made}
use Rattle.batch_add.proofs.kept_batch.KeptBatch.let_slot_go.Goals as goal

pub step_27-requires-clause-asks : goal.step_27-requires-clause-asks
step_27-requires-clause-asks c =
    let now = c.requires.so_far in
    asks-slot now.start now.before now.batch now.after c.args.self.now now.begun (view_of c.args.pass.now) now.at

pub returns-clause-step : goal.returns-clause-step
returns-clause-step c =
    let kept = c.args.self.now in
    let view = view_of c.args.pass.now in
    let next = view_of c.step_27.new.pass in
    let stored = c.step_27.ensures.step in
    record {
      step = slot-step view next kept.layer kept.slot stored;
      made = slot-turn-made view next kept.layer kept.slot stored c.args.pass.now.number c.args.pass.now.numbered;
      leads = λ start before batch after begun at. slot-gone start before batch after kept begun view at next stored;
    }
