use Rattle.std.proofs.Common.{◌≡◌, length, ap, subst, arith}
use Rattle.word_map.specs.declared.config.Config.{Config}
use Rattle.pass_table.specs.Passes.{view_of}
use Rattle.batch_add.specs.declared.kept_batch.KeptBatch.{KeptBatch}
use Rattle.batch_add.specs.stages.Keeping.{IsBegunFor}
use Rattle.batch_add.specs.stages.Aborting.{kept_of}
use Rattle.batch_add.proofs.AbortBegun.{bodies-few, nodes-few, prepared-begun}
use Rattle.batch_add.proofs.aborting.kept_of.Goals as goal

pub overflow_cast-marked : goal.overflow_cast-marked
overflow_cast-marked c =
    let good = c.requires.good in
    let few = bodies-few c.args.batch (view_of c.args.pass.now) good.before good.batch good.after good.bodies good.is in
    let most = c.args.world.now.in_limits.bodies.1 in
    let same = ap (λ (m : Config). m.bodies) c.requires.of.sizes in
    let len = c.len-marked.ensures in
    let items = c.args.batch.indexes.ok.0 in
    omega arith

pub overflow_cast-node_count : goal.overflow_cast-node_count
overflow_cast-node_count c =
    let good = c.requires.good in
    let few = nodes-few c.args.batch (view_of c.args.pass.now) good.before good.batch good.after good.bodies good.is in
    let bodies = c.args.world.now.in_limits.bodies.1 in
    let nodes = c.args.world.now.in_limits.nodes.1 in
    let layers = c.args.world.now.in_limits.layers.1 in
    let same = c.requires.of.sizes in
    let bodies_same = ap (λ (m : Config). m.bodies) same in
    let nodes_same = ap (λ (m : Config). m.nodes) same in
    let layers_same = ap (λ (m : Config). m.layers) same in
    let len = c.len-node_count.ensures in
    let items = c.args.batch.nodes.ok.0 in
    omega arith

pub returns-clause-begun : goal.returns-clause-begun
returns-clause-begun c =
    let good = c.requires.good in
    let prepared = c.args.batch in
    let view = view_of c.args.pass.now in
    let marked : length prepared.indexes.items ≡ c.len-marked.result = let len = c.len-marked.ensures in let items = prepared.indexes.ok.0 in omega arith in
    let nodes : length prepared.nodes.items ≡ c.len-node_count.result = let len = c.len-node_count.ensures in let items = prepared.nodes.ok.0 in omega arith in (
      good.before,
      good.batch,
      good.after,
      subst (λ (k : KeptBatch). IsBegunFor k view good.before good.batch good.after) (λ i. record (kept_of prepared) { marked = marked i; node_count = nodes i })
          (prepared-begun prepared view good.before good.batch good.after good.bodies good.is c.requires.rest),
    )
