use Rattle.std.proofs.Common.{◌<◌, ◌∙◌, ap, sym, subst}
use Rattle.word_map.specs.declared.config.Config.{Config}
use Rattle.core_state.specs.declared.view.Mode.TheVariants.{Write}
use Rattle.pass_table.specs.Passes.{view_of}
use Rattle.body_look.specs.declared.look_op.LookDepth.TheVariants.{Phase as ItsPhase}
use Rattle.body_look.specs.stages.Looking.{looking_of}
use Rattle.widen_bounds.proofs.MoveTurns.{moving-begun}
use Rattle.widen_bounds.proofs.move_op.MoveOp.new.Goals as goal

pub returns-clause-under_way : goal.returns-clause-under_way
returns-clause-under_way c =
    let sizes = sym c.requires.idle.of.sizes in
    moving-begun c.args.id c.args.to (view_of c.args.pass.now) (view_of c.new-look.new.pass) c.new-look.result (subst (λ (s : Config). c.args.id.index < s.bodies) sizes c.requires.below)
    c.requires.idle.rest (c.new-look.ensures.begun ∙ ap (λ (s : Config). looking_of s c.args.id Write ItsPhase) sizes) c.new-look.ensures.under_way
