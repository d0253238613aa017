use Rattle.pass_table.specs.Passes.{view_of}
use Rattle.std.proofs.Common.{ℕ, ◌≤◌, sym, subst, ◌∙◌}
use Rattle.word_map.specs.declared.config.Config.{Config}
use Rattle.tree_query.specs.Finding.{room_of}
use Rattle.tree_query.specs.stages.WalkPlaces.{BeginsWith}
use Rattle.tree_query.proofs.QueryTurns.{query-begun}
use Rattle.tree_query.proofs.query_op.QueryOp.new.Goals as goal

pub returns-clause-under_way : goal.returns-clause-under_way
returns-clause-under_way c =
    let view = view_of c.args.pass.now in
    let sizes = c.requires.idle.of.sizes in
    query-begun c.new.result c.new-2.result c.clear.new.self c.args.shape.now c.args.mask view c.args.pass.now.number c.args.pass.now.numbered c.requires.idle.rest
    (subst (λ (s : Config). BeginsWith c.new.result s c.args.shape.now c.args.mask) (c.config.ensures.sizes ∙ sym sizes) c.new.ensures) c.clear.ensures.none c.clear.ensures.loads
    (subst (λ (s : Config). s.bodies ≤ room_of c.clear.new.self) (sym sizes) (subst (λ (n : ℕ). c.args.world.now.map.bodies ≤ n) (sym c.clear.ensures.room) c.requires.room))
    c.new-2.ensures.next c.new-2.ensures.none
