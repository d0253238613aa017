use Rattle.std.proofs.Common.{◌≡◌, ℕ, suc, ◌+◌, sym, ◌∙◌, subst, arith}
use Rattle.std.specs.Prelude.{Contains}
use Rattle.word_map.specs.declared.name.Name.TheVariants.{PoolHead, PoolNext}
use Rattle.core_state.specs.View.{known_word}
use Rattle.pass_table.specs.Passes.{view_of}
use Rattle.free_list.specs.Pool.{GaveNode}
use Rattle.batch_add.specs.stages.GiveSteps.{HasPut}
use Rattle.batch_add.proofs.GiveNodes.{node-kept, node-room, node-loose, front-step, front-made, front-put, has-pool}
use Rattle.batch_add.proofs.kept_batch.KeptBatch.put_in_front.Goals as goal

pub node-requires : goal.node-requires
node-requires c = let now = c.requires.so_far.1 in record { below = node-room c.args.self.now now.batch now.begun.keeps c.args.given now.at.0.at }

pub put_node_in_front-requires-clause-pool : goal.put_node_in_front-requires-clause-pool
put_node_in_front-requires-clause-pool c =
    let now = c.requires.so_far.1 in
    has-pool now.start now.before now.batch now.after c.args.self.now now.begun (view_of c.args.pass.now) c.args.given _ _ now.at.0.work

pub put_node_in_front-requires-clause-loose : goal.put_node_in_front-requires-clause-loose
put_node_in_front-requires-clause-loose c =
    let view = view_of c.args.pass.now in
    let now = c.requires.so_far.1 in
    subst (λ (n : ℕ). Contains view.loose n) (sym (c.node.ensures.value ∙ node-kept c.args.self.now now.batch now.begun.keeps c.args.given now.at.0.at))
    (node-loose now.start now.before now.batch now.after c.args.self.now now.begun view c.requires.so_far.0 c.args.given now.at.0)

pub put_node_in_front-requires-clause-link : goal.put_node_in_front-requires-clause-link
put_node_in_front-requires-clause-link c =
    let view = view_of c.args.pass.now in
    let now = c.requires.so_far.1 in
    subst (λ (n : ℕ). known_word view (PoolNext n) ≡ known_word view PoolHead) (sym (c.node.ensures.value ∙ node-kept c.args.self.now now.batch now.begun.keeps c.args.given now.at.0.at)) now.at.1

pub returns-clause-step : goal.returns-clause-step
returns-clause-step c free =
    let kept = c.args.self.now in
    let view = view_of c.args.pass.now in
    let next = view_of c.put_node_in_front.new.pass in
    let given = c.args.given in
    let so = c.requires.so_far.0 in
    let now = c.requires.so_far.1 in
    let gave = c.put_node_in_front.ensures.given in
    let here = subst (λ (n : ℕ). GaveNode view next n) (c.node.ensures.value ∙ node-kept kept now.batch now.begun.keeps given now.at.0.at) gave in
    let one : suc given ≡ given + 1 = omega arith in
    record {
      step = front-step now.start now.before now.batch now.after kept now.begun view so given now.at.0 next here;
      made = front-made now.start now.before now.batch now.after kept now.begun view so given now.at.0 next here c.args.pass.now.number c.args.pass.now.numbered;
      leads = λ start before batch after begun at.
          subst (λ (n : ℕ). HasPut free n start before batch after next) one
          (front-put start before batch after kept begun view free given at.0 next
          (subst (λ (n : ℕ). GaveNode view next n) (c.node.ensures.value ∙ node-kept kept batch begun.keeps given at.0.at) gave));
    }
