use Rattle.std.proofs.Common.{ℕ, ◌<◌, sym, ◌∙◌, subst}
use Rattle.std.specs.Prelude.{Contains}
use Rattle.word_map.specs.declared.config.Config.{Config}
use Rattle.pass_table.specs.Passes.{view_of}
use Rattle.pass_table.proofs.WorkLater.{worked-sizes}
use Rattle.free_list.specs.Pool.{LinkedNode}
use Rattle.batch_add.proofs.GiveNodes.{node-kept, node-room, node-loose, link-step, link-made, link-known, has-pool}
use Rattle.batch_add.proofs.kept_batch.KeptBatch.store_link.Goals as goal

pub node-requires : goal.node-requires
node-requires c = let now = c.requires.so_far.1 in record { below = node-room c.args.self.now now.batch now.begun.keeps c.args.given now.at.0.at }

pub store_pool_link-requires-clause-pool : goal.store_pool_link-requires-clause-pool
store_pool_link-requires-clause-pool c =
    let now = c.requires.so_far.1 in
    has-pool now.start now.before now.batch now.after c.args.self.now now.begun (view_of c.args.pass.now) c.args.given _ _ now.at.0.work

pub store_pool_link-requires-clause-below : goal.store_pool_link-requires-clause-below
store_pool_link-requires-clause-below c =
    let now = c.requires.so_far.1 in
    let put = now.at.0 in
    subst (λ (n : ℕ). n < c.args.world.now.map.nodes) (sym (c.node.ensures.value ∙ node-kept c.args.self.now now.batch now.begun.keeps c.args.given put.at))
    (subst (λ (s : Config). put.at.node < s.nodes) (sym (worked-sizes now.start (view_of c.args.pass.now) _ put.work.worked) ∙ c.requires.of.sizes) now.at.2)

pub store_pool_link-requires-clause-loose : goal.store_pool_link-requires-clause-loose
store_pool_link-requires-clause-loose c =
    let view = view_of c.args.pass.now in
    let now = c.requires.so_far.1 in
    subst (λ (n : ℕ). Contains view.loose n) (sym (c.node.ensures.value ∙ node-kept c.args.self.now now.batch now.begun.keeps c.args.given now.at.0.at))
    (node-loose now.start now.before now.batch now.after c.args.self.now now.begun view c.requires.so_far.0 c.args.given now.at.0)

pub returns-clause-step : goal.returns-clause-step
returns-clause-step c free =
    let kept = c.args.self.now in
    let view = view_of c.args.pass.now in
    let next = view_of c.store_pool_link.new.pass in
    let given = c.args.given in
    let head = c.args.head in
    let so = c.requires.so_far.0 in
    let now = c.requires.so_far.1 in
    let linked = c.store_pool_link.ensures.linked in
    let here = subst (λ (n : ℕ). LinkedNode view next n head) (c.node.ensures.value ∙ node-kept kept now.batch now.begun.keeps given now.at.0.at) linked in
    record {
      step = link-step now.start now.before now.batch now.after kept now.begun view so given now.at.0 next head here;
      made = link-made now.start now.before now.batch now.after kept now.begun view so given now.at.0 next head here c.args.pass.now.number c.args.pass.now.numbered;
      leads = λ start before batch after begun at.
          link-known start before batch after kept begun view free given at.0 next head
          (subst (λ (n : ℕ). LinkedNode view next n head) (c.node.ensures.value ∙ node-kept kept batch begun.keeps given at.0.at) linked) at.1;
    }
