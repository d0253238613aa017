use Rattle.std.proofs.Common.{ℕ, ◌+◌, sym, ◌∙◌, subst, ◌≡◌, length}
use Rattle.word_map.specs.declared.name.Name.TheVariants.{PoolFree}
use Rattle.core_state.specs.View.{known_word}
use Rattle.pass_table.specs.Passes.{view_of}
use Rattle.free_list.specs.Pool.{StoredCount, taken_in, given_in}
use Rattle.batch_add.proofs.GiveBodies.{nodes-many}
use Rattle.batch_add.proofs.GiveNodes.{count-step, count-made, count-work, count-from, has-pool, count-asks}
use Rattle.batch_add.proofs.kept_batch.KeptBatch.store_free.Goals as goal

pub store_count-requires-clause-pool : goal.store_count-requires-clause-pool
store_count-requires-clause-pool c =
    let now = c.requires.so_far in
    has-pool now.start now.before now.batch now.after c.args.self.now now.begun (view_of c.args.pass.now) (length now.batch.nodes) _ _ now.at.1

pub store_count-requires-clause-pooling : goal.store_count-requires-clause-pooling
store_count-requires-clause-pooling c =
    let now = c.requires.so_far in
    (count-asks now.start now.before now.batch now.after c.args.self.now now.begun (view_of c.args.pass.now) c.args.free now.at.0 now.at.1 now.at.2).0

pub store_count-requires-clause-counts : goal.store_count-requires-clause-counts
store_count-requires-clause-counts c =
    let view = view_of c.args.pass.now in
    let now = c.requires.so_far in
    subst (λ (n : ℕ). c.args.free + n + taken_in view.call.task ≡ known_word view PoolFree + given_in view.call.task) (nodes-many c.args.self.now now.batch now.begun.keeps ∙ sym c.from.ensures)
    (count-asks now.start now.before now.batch now.after c.args.self.now now.begun view c.args.free now.at.0 now.at.1 now.at.2).1

pub returns-clause-step : goal.returns-clause-step
returns-clause-step c =
    let kept = c.args.self.now in
    let view = view_of c.args.pass.now in
    let next = view_of c.store_count.new.pass in
    let free = c.args.free in
    let now = c.requires.so_far in
    let stored = c.store_count.ensures.stored in
    let here = subst (λ (n : ℕ). StoredCount view next (free + n)) (c.from.ensures ∙ sym (nodes-many kept now.batch now.begun.keeps)) stored in
    record {
      step = count-step now.start now.before now.batch now.after kept now.begun view free now.at.0 now.at.1 now.at.2 next here;
      made = count-made now.start now.before now.batch now.after kept now.begun view free now.at.0 now.at.1 now.at.2 next here c.args.pass.now.number c.args.pass.now.numbered;
      leads = λ start before batch after begun at.
          let there = subst (λ (n : ℕ). StoredCount view next (free + n)) (c.from.ensures ∙ sym (nodes-many kept batch begun.keeps)) stored in (
            at.0,
            free,
            count-work start before batch after kept begun view free at.0 at.1 at.2 next there,
            count-from start before batch after kept begun view free at.0 at.1 at.2 next there,
          );
    }
