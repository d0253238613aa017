use Rattle.pass_table.specs.Passes.{view_of}
use Rattle.body_look.specs.declared.look_op.LookStage.TheVariants.{Live}
use Rattle.body_look.proofs.Finding.{phase-low}
use Rattle.body_look.proofs.LookTurns.{live-guarded, phase-out, phase-in, phase-joins}
use Rattle.body_look.proofs.look_op.LookOp.load_phase.Goals as goal

pub load_phase-requires-clause-guarded : goal.load_phase-requires-clause-guarded
load_phase-requires-clause-guarded c = live-guarded c.args.self.now Live (view_of c.args.pass.now) c.requires.stage c.requires.under_way (λ start at. at)

pub from_word-requires : goal.from_word-requires
from_word-requires c =
    let loaded = c.load_phase.ensures.loaded in
    record { in_range = phase-low c.args.self.now.id (view_of c.load_phase.new.pass) c.load_phase.ensures.guarded loaded.now c.load_phase.result loaded.word }

pub returns-in-Out-clause-turn : goal.returns-in-Out-clause-turn
returns-in-Out-clause-turn c =
    let load = c.load_phase.ensures in
    phase-out c.args.self.now (view_of c.args.pass.now) (view_of c.load_phase.new.pass) c.load_phase.result c.requires.stage load.step load.made load.loaded c.in-Out.ensures

pub returns-in-In-clause-turn : goal.returns-in-In-clause-turn
returns-in-In-clause-turn c =
    let load = c.load_phase.ensures in
    phase-in c.args.self.now (view_of c.args.pass.now) (view_of c.load_phase.new.pass) c.load_phase.result c.requires.stage load.step load.made load.loaded c.in-In.ensures

pub returns-in-Joined-clause-turn : goal.returns-in-Joined-clause-turn
returns-in-Joined-clause-turn c =
    let load = c.load_phase.ensures in
    phase-joins c.args.self.now (view_of c.args.pass.now) (view_of c.load_phase.new.pass) c.load_phase.result c.requires.stage load.step load.made load.loaded c.in-Joined.slot c.in-Joined.ensures
