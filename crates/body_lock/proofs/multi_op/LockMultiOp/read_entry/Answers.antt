use Rattle.std.proofs.Common.{◌<◌, sym, subst}
use Rattle.word_map.specs.declared.config.Config.{Config}
use Rattle.body_ident.specs.Id.{Id}
use Rattle.word_map.specs.declared.name.Name.TheVariants.{State}
use Rattle.pass_table.specs.Passes.{view_of}
use Rattle.pass_table.proofs.Bodies.{body-load-step}
use Rattle.body_lock.specs.declared.multi_op.Wanted.{Wanted}
use Rattle.body_lock.specs.stages.LockingAll.{MayLoadState}
use Rattle.body_lock.proofs.ReadingAll.{entry-asks, entry-reads}
use Rattle.body_lock.proofs.multi_op.LockMultiOp.read_entry.Goals as goal

pub step_15-state-requires-clause-named : goal.step_15-state-requires-clause-named
step_15-state-requires-clause-named c =
    let past : Wanted = record { id = c.next_id-id.result } in
    let may : MayLoadState c.next_id-id.result (view_of c.args.pass.now) = subst (λ (i : Id). MayLoadState i (view_of c.args.pass.now)) (sym (c.next_id-id.ensures past)) (c.requires.may past) in
    subst (λ (n : _). n < c.args.world.now.map.bodies) (sym c.index.ensures.value) (subst (λ (s : Config). c.next_id-id.result.index < s.bodies) c.requires.of.sizes may.below)

pub step_15-state-requires-clause-asks : goal.step_15-state-requires-clause-asks
step_15-state-requires-clause-asks c =
    let past : Wanted = record { id = c.next_id-id.result } in
    entry-asks c.next_id-id.result (view_of c.args.pass.now) c.index.result c.index.ensures.value
    (subst (λ (i : Id). MayLoadState i (view_of c.args.pass.now)) (sym (c.next_id-id.ensures past)) (c.requires.may past))

pub returns-clause-step : goal.returns-clause-step
returns-clause-step c = body-load-step (view_of c.args.pass.now) (view_of c.step_15-state.new.pass) (State c.index.result) c.step_15-state.result c.step_15-state.ensures.step

pub returns-clause-reads : goal.returns-clause-reads
returns-clause-reads c past =
    entry-reads c.next_id-id.result _ (view_of c.args.pass.now) (view_of c.step_15-state.new.pass) c.index.result c.step_15-state.result c.entry_of.result (c.next_id-id.ensures past)
    c.index.ensures.value c.step_15-state.ensures.step c.entry_of.ensures
