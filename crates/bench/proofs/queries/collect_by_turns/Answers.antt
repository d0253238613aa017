use Rattle.std.proofs.Common.{◌≤◌, sym, ◌∙◌, subst, ℕ}
use Rattle.pass_table.specs.Passes.{view_of}
use Rattle.tree_query.proofs.WalkGuards.{walked-idle}
use Rattle.bench.proofs.queries.collect_by_turns.Goals as goal

pub returns-clause-idle : goal.returns-clause-idle
returns-clause-idle g c =
    let handed = c.drive.ensures.answers c.new-collecting.result (view_of c.args.pass.now) c.new-collecting.ensures.under_way in
    walked-idle c.args.world.now c.args.pass.now c.drive.new.pass _ handed.collected.walked handed.collected.ended c.drive.ensures.of c.requires.idle

pub returns-clause-room : goal.returns-clause-room
returns-clause-room g c =
    let handed = c.drive.ensures.answers c.new-collecting.result (view_of c.args.pass.now) c.new-collecting.ensures.under_way in
    subst (λ (n : ℕ). c.args.world.now.map.bodies ≤ n) (sym (handed.room ∙ c.new-collecting.ensures.room)) c.requires.room
