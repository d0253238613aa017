use Rattle.std.proofs.Common.{length, ap, ◌∙◌, subst}
use Rattle.std.proofs.lemmas.List.{length-set}
use Rattle.pass_table.specs.Passes.{view_of}
use Rattle.batch_add.specs.declared.node_taking.NodeStage.TheVariants.{Linked}
use Rattle.batch_add.specs.stages.TakingNodes.{AtNodes}
use Rattle.batch_add.proofs.TakingNodes.{noted-loads, nodes-on, takes-node, took-step, took-made, took-noted, noted-less, taking-pool}
use Rattle.batch_add.proofs.node_taking.NodeTaking.take_off.Goals as goal

pub take_node_off-requires-clause-takes : goal.take_node_off-requires-clause-takes
take_node_off-requires-clause-takes c =
    let view = view_of c.args.pass.now in
    let under_way = c.requires.under_way in
    let at = subst (AtNodes under_way.start c.args.self.now view) c.requires.stage under_way.goes.stage in
    takes-node under_way.start c.args.self.now view c.args.node c.args.link under_way.goes.preparing at

pub returns-clause-turn : goal.returns-clause-turn
returns-clause-turn c =
    let operation = c.args.self.now in
    let view = view_of c.args.pass.now in
    let next = view_of c.take_node_off.new.pass in
    let node = c.args.node in
    let link = c.args.link in
    let under_way = c.requires.under_way in
    let at = subst (AtNodes under_way.start operation view) c.requires.stage under_way.goes.stage in
    let took = c.take_node_off.ensures.taken node at.0.head in
    let after = c.note.new.self in
    let noted = c.note.ensures in
    nodes-on operation after (Linked node link) view next c.requires.stage noted.count (ap length noted.nodes ∙ length-set operation.nodes.items operation.taken node) (took-step view next node link took)
    (took-made view next node link took c.args.pass.now.number c.args.pass.now.numbered) (noted-less operation after node link at.0.short noted)
    (noted-loads operation node after view next noted)
    (λ first start other there. took-noted view next node link took start operation after other.rest other.long noted there)

pub take_node_off-requires-clause-pool : goal.take_node_off-requires-clause-pool
take_node_off-requires-clause-pool c =
    let operation = c.args.self.now in
    let view = view_of c.args.pass.now in
    let way = c.requires.under_way in
    let at = subst (AtNodes way.start operation view) c.requires.stage way.goes.stage in
    taking-pool way.start view _ operation.taken way.goes.rest at.0.some.worked

pub note-requires-clause-below : goal.note-requires-clause-below
note-requires-clause-below c =
    let operation = c.args.self.now in
    let view = view_of c.args.pass.now in
    let way = c.requires.under_way in
    let at = subst (AtNodes way.start operation view) c.requires.stage way.goes.stage in
    at.0.short

pub note-requires-clause-long : goal.note-requires-clause-long
note-requires-clause-long c =
    let operation = c.args.self.now in
    let view = view_of c.args.pass.now in
    let way = c.requires.under_way in
    let at = subst (AtNodes way.start operation view) c.requires.stage way.goes.stage in
    way.goes.long
