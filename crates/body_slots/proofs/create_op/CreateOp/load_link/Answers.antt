use Rattle.std.proofs.Common.{arith, subst, ◌<◌, sym, ◌∙◌}
use Rattle.pass_table.specs.Passes.{view_of}
use Rattle.pass_table.proofs.WorkLater.{worked-sizes}
use Rattle.word_map.specs.declared.config.Config.{Config}
use Rattle.body_slots.specs.stages.Creating.{AtCreate}
use Rattle.body_slots.specs.declared.create_op.CreateStage.TheVariants.{First, Linked}
use Rattle.pass_table.proofs.Stages.{went-on}
use Rattle.body_slots.proofs.CreateTurns.{create_stages, link-step, link-made, link-loaded, has-list}
use Rattle.body_slots.proofs.create_op.CreateOp.load_link.Goals as goal

pub returns-clause-turn : goal.returns-clause-turn
returns-clause-turn c =
    let view = view_of c.args.pass.now in
    let next = view_of c.load_link-link.new.pass in
    let index = c.args.index in
    let link = c.load_link-link.result in
    let loaded = c.load_link-link.ensures.loaded in
    went-on create_stages c.go_on.result c.args.self.now c.go_on.new.self (First index) (Linked index link) view next c.go_on.ensures.more c.go_on.ensures.stage c.requires.stage
    (link-step view next index link loaded) (link-made view next index link loaded) (omega arith) tt (λ first start making at. link-loaded first start view next index link making.0.rest loaded at)

pub load_link-link-requires-clause-list : goal.load_link-link-requires-clause-list
load_link-link-requires-clause-list c =
    let view = view_of c.args.pass.now in
    let way = c.requires.under_way in
    let at = subst (AtCreate way.first way.start view) c.requires.stage way.goes.1 in
    has-list way.start view way.goes.0.rest at.0

pub load_link-link-requires-clause-below : goal.load_link-link-requires-clause-below
load_link-link-requires-clause-below c =
    let view = view_of c.args.pass.now in
    let way = c.requires.under_way in
    let at = subst (AtCreate way.first way.start view) c.requires.stage way.goes.1 in
    subst (λ (s : Config). c.args.index < s.bodies) (sym (worked-sizes way.start view _ at.0) ∙ c.requires.of.sizes) at.1
