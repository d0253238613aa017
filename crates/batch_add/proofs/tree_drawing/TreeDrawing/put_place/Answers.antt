use Rattle.std.proofs.Common.{◌≡◌, ◌<◌, ℕ, refl, ap, sym, ◌∙◌, subst}
use Rattle.word_map.specs.declared.name.Name.TheVariants.{LocA}
use Rattle.word_map.specs.declared.config.Config.{Config}
use Rattle.core_state.specs.Batches.{MayPlace}
use Rattle.core_state.specs.Encoding.{place}
use Rattle.pass_table.specs.Passes.{view_of}
use Rattle.pass_table.specs.declared.turn.Turn.TheVariants.{More}
use Rattle.batch_add.specs.declared.draw_stage.DrawStage.TheVariants.{Placing}
use Rattle.batch_add.specs.Drawing.{node_at}
use Rattle.batch_add.specs.stages.DrawStages.{at_stage, planned_of, next_child}
use Rattle.batch_add.proofs.DrawTurns.{may-place, index-below, placing-turn}
use Rattle.batch_add.proofs.tree_drawing.TreeDrawing.put_place.Goals as goal

pub step_23-requires-clause-named : goal.step_23-requires-clause-named
step_23-requires-clause-named c =
    let under_way = c.requires.under_way in
    let below = index-below (planned_of c.args.self.now) under_way.start (view_of c.args.pass.now) c.args.node c.args.child c.args.index under_way.goes.1 in
    subst (λ (s : Config). c.args.index < s.bodies) c.requires.of.sizes below

pub step_23-requires-clause-asks : goal.step_23-requires-clause-asks
step_23-requires-clause-asks c =
    let operation = c.args.self.now in
    let view = view_of c.args.pass.now in
    let under_way = c.requires.under_way in
    let is : c.to_word.result ≡ place (node_at operation.nodes.items c.args.node) c.args.child = c.to_word.ensures ∙ ap (λ (n : ℕ). place n c.args.child) c.node.ensures in
    subst (λ (w : ℕ). MayPlace view (LocA c.args.index) w 0) (sym is) (may-place (planned_of operation) under_way.start view c.args.node c.args.child c.args.index under_way.goes.1)

pub returns-clause-turn : goal.returns-clause-turn
returns-clause-turn c =
    let operation = c.args.self.now in
    let after = next_child c.args.node c.args.child in
    placing-turn More (at_stage operation (Placing c.args.node c.args.child c.args.index)) (at_stage operation after) (view_of c.args.pass.now) (view_of c.step_23.new.pass) c.args.pass.now.number c.args.pass.now.numbered after refl refl
    c.args.node c.args.child c.args.index c.to_word.result (c.to_word.ensures ∙ ap (λ (n : ℕ). place n c.args.child) c.node.ensures) refl refl c.requires.under_way.goes.1.0.1 c.step_23.ensures.step
