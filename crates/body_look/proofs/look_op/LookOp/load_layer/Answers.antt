use Rattle.pass_table.specs.Passes.{view_of}
use Rattle.body_look.specs.declared.look_op.LookStage.TheVariants.{Joining}
use Rattle.body_look.proofs.LookTurns.{live-guarded, layer-placed}
use Rattle.body_look.proofs.look_op.LookOp.load_layer.Goals as goal

pub load_layer-layer-requires-clause-guarded : goal.load_layer-layer-requires-clause-guarded
load_layer-layer-requires-clause-guarded c =
    live-guarded c.args.self.now (Joining c.args.slot) (view_of c.args.pass.now) c.requires.stage c.requires.under_way (λ start at. at.live)

pub returns-clause-turn : goal.returns-clause-turn
returns-clause-turn c =
    let load = c.load_layer-layer.ensures in
    layer-placed c.args.self.now (view_of c.args.pass.now) (view_of c.load_layer-layer.new.pass) c.args.slot c.load_layer-layer.result c.requires.stage load.step load.made load.loaded
