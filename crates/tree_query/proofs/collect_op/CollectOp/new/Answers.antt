use Rattle.std.proofs.Common.{◌≤◌, refl, sym, ap, ◌∙◌, inl, arith}
use Rattle.word_map.specs.declared.config.Config.{Config}
use Rattle.pass_table.specs.Passes.{view_of}
use Rattle.tree_query.specs.Finding.{room_of}
use Rattle.tree_query.proofs.CollectTurns.{walk-begun}
use Rattle.tree_query.proofs.collect_op.CollectOp.new.Goals as goal

pub returns-clause-under_way : goal.returns-clause-under_way
returns-clause-under_way c =
    let pass = c.args.pass.now in
    let finder = c.clear.new.self in
    let bodies = ap (λ (s : Config). s.bodies) c.config.ensures.sizes in
    let fits : c.config.result.bodies ≤ room_of finder = let room = c.clear.ensures.room in let fits = c.requires.room in omega arith in
    record {
      finder = finder;
      held = refl;
      goes = record {
        mid = view_of pass;
        goes =
            walk-begun c.new.result c.config.result c.args.shape.now c.args.mask finder (view_of pass) pass.number pass.numbered c.new.ensures (c.requires.of.sizes ∙ sym c.config.ensures.sizes) c.requires.still
            c.clear.ensures.none c.clear.ensures.loads fits;
        since = inl refl;
      };
    }
