use Rattle.std.proofs.Common.{ℕ, ap, sym, ◌∙◌, subst}
use Rattle.word_map.specs.declared.name.Name.TheVariants.{State}
use Rattle.word_map.specs.Names.{index_lock}
use Rattle.core_state.specs.Lives.{MayDestroy, destroy}
use Rattle.pass_table.specs.Stepping.{Stored}
use Rattle.pass_table.specs.Passes.{view_of}
use Rattle.body_slots.proofs.DestroyTurns.{list-named}
use Rattle.body_slots.proofs.DestroyEnds.{asks_destroy}
use Rattle.body_slots.proofs.WholeDestroy.{list-order, list-on, destroyed-on, may-leave-out, left-on}
use Rattle.body_slots.proofs.whole_destroy.destroy_out.Goals as goal

pub take_write-requires-clause-named : goal.take_write-requires-clause-named
take_write-requires-clause-named g c = list-named c.index_lock-lock.result c.args.world.now.map c.index_lock-lock.ensures

pub take_write-requires-clause-order : goal.take_write-requires-clause-order
take_write-requires-clause-order g c =
    let way = c.requires.found in
    list-order c.args.id way.0 (view_of c.args.pass.now) c.index_lock-lock.result (c.index_lock-lock.ensures ∙ ap index_lock (sym c.requires.of.sizes)) way.1 way.2

pub put_back-requires-clause-locked : goal.put_back-requires-clause-locked
put_back-requires-clause-locked g c =
    let way = c.requires.found in
    let lock = c.index_lock-lock.ensures ∙ ap index_lock (sym c.requires.of.sizes) in
    (way.0, way.1, list-on c.args.id (view_of c.args.pass.now) (view_of c.take_write.new.pass) c.index_lock-lock.result lock c.take_write.ensures.taken c.take_write.ensures.made way.0 way.1 way.2)

pub step_14-requires-clause-asks : goal.step_14-requires-clause-asks
step_14-requires-clause-asks g c =
    let way = c.requires.found in
    let two = view_of c.put_back.new.pass in
    let lock = c.index_lock-lock.ensures ∙ ap index_lock (sym c.requires.of.sizes) in
    let locked = list-on c.args.id (view_of c.args.pass.now) (view_of c.take_write.new.pass) c.index_lock-lock.result lock c.take_write.ensures.taken c.take_write.ensures.made way.0 way.1 way.2 in
    subst (λ (n : ℕ). MayDestroy two (State n) c.from.result 0) (sym c.index-index.ensures.value)
    (asks_destroy c.args.id way.0 two c.from.result way.1 (c.put_back.ensures.keeps way.0 way.1 locked) (c.from.ensures ∙ c.seq.ensures))

pub release-requires-clause-named : goal.release-requires-clause-named
release-requires-clause-named g c = list-named c.index_lock-lock.result c.args.world.now.map c.index_lock-lock.ensures

pub release-requires-clause-may : goal.release-requires-clause-may
release-requires-clause-may g c =
    let way = c.requires.found in
    let two = view_of c.put_back.new.pass in
    let three = view_of c.step_14.new.pass in
    let lock = c.index_lock-lock.ensures ∙ ap index_lock (sym c.requires.of.sizes) in
    let locked = list-on c.args.id (view_of c.args.pass.now) (view_of c.take_write.new.pass) c.index_lock-lock.result lock c.take_write.ensures.taken c.take_write.ensures.made way.0 way.1 way.2 in
    let stored = subst (λ (n : ℕ). Stored MayDestroy destroy two (State n) c.from.result three) c.index-index.ensures.value c.step_14.ensures.step in
    may-leave-out c.args.id way.0 three c.index_lock-lock.result (c.index_lock-lock.ensures ∙ ap index_lock (sym c.step_14.ensures.of.sizes)) way.1
    (destroyed-on c.args.id two three c.from.result (c.from.ensures ∙ c.seq.ensures) stored way.0 way.1 (c.put_back.ensures.keeps way.0 way.1 locked))

pub returns-clause-keeps : goal.returns-clause-keeps
returns-clause-keeps g c = λ start begun found.
    let two = view_of c.put_back.new.pass in
    let three = view_of c.step_14.new.pass in
    let lock = c.index_lock-lock.ensures ∙ ap index_lock (sym c.requires.of.sizes) in
    let locked = list-on c.args.id (view_of c.args.pass.now) (view_of c.take_write.new.pass) c.index_lock-lock.result lock c.take_write.ensures.taken c.take_write.ensures.made start begun found in
    let stored = subst (λ (n : ℕ). Stored MayDestroy destroy two (State n) c.from.result three) c.index-index.ensures.value c.step_14.ensures.step in
    left-on c.args.id three (view_of c.release.new.pass) c.index_lock-lock.result _ (c.index_lock-lock.ensures ∙ ap index_lock (sym c.step_14.ensures.of.sizes)) c.release.ensures.step.1 start begun
    (destroyed-on c.args.id two three c.from.result (c.from.ensures ∙ c.seq.ensures) stored start begun (c.put_back.ensures.keeps start begun locked))
