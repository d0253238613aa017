use Rattle.std.proofs.Common.{ℕ, ◌+◌, ◌<◌, length, List, sym, ap, ◌∙◌, subst, arith}
use Rattle.fixed_box.specs.declared.fix_box.FixBox.{FixBox}
use Rattle.core_state.specs.declared.view.Batch.{Batch}
use Rattle.core_state.specs.declared.view.View.{View}
use Rattle.body_lock.proofs.Guards.{multi-kept}
use Rattle.batch_add.specs.declared.prepared.Prepared.{Prepared}
use Rattle.batch_add.specs.Prepared.{IsTheBatch}
use Rattle.pass_table.specs.Belongings.{belongings_of}
use Rattle.pass_table.specs.Passes.{view_of}
use Rattle.batch_add.specs.Drawing.{node_at}
use Rattle.batch_add.proofs.Drawn.{root-made}
use Rattle.batch_add.proofs.Attaching.{may-attach, attached, guards_left, alone_left}
use Rattle.batch_add.proofs.Resting.{attached-rest}
use Rattle.batch_add.specs.PreparedLists.{batches_of}
use Rattle.batch_add.proofs.PreparedLists.{all-others}
use Rattle.batch_add.proofs.finalizing.finalize.Goals as goal

-- there is a root
some-nodes : {before after : List Batch} {batch : Batch} {bodies : List (ℕ × FixBox)} (view : View) (prepared : Prepared) → IsTheBatch prepared (belongings_of view) before batch after bodies → 0 < length prepared.nodes.items
some-nodes view prepared is =
    let some = root-made is.drawn in
    let count = is.drawn.nodes in
    let same = ap (λ (l : List ℕ). length l) is.nodes in
    omega arith

pub first_node-root-requires : goal.first_node-root-requires
first_node-root-requires c = subst (λ (l : List ℕ). 0 < length l) (sym c.as_slice.ensures.value) (some-nodes (view_of c.args.pass.now) c.args.batch c.requires.good.is)

pub step_24-requires-clause-asks : goal.step_24-requires-clause-asks
step_24-requires-clause-asks c =
    let good = c.requires.good in
    may-attach c.args.batch (view_of c.args.pass.now) (view_of c.args.pass.now) c.args.batch.number good.pass good.before good.batch good.after good.bodies good.is c.args.pass.now.current c.to_word.result
    (c.to_word.ensures ∙ ap (λ (n : ℕ). 1024 + n) (c.first_node-root.ensures ∙ ap (λ (l : List ℕ). node_at l 0) c.as_slice.ensures.value))

pub returns-clause-attached : goal.returns-clause-attached
returns-clause-attached c =
    let good = c.requires.good in
    attached c.args.batch (view_of c.args.pass.now) (view_of c.step_24.new.pass) c.args.batch.number good.pass good.before good.batch good.after good.bodies good.is c.args.pass.now.current c.to_word.result
    (c.to_word.ensures ∙ ap (λ (n : ℕ). 1024 + n) (c.first_node-root.ensures ∙ ap (λ (l : List ℕ). node_at l 0) c.as_slice.ensures.value)) c.step_24.ensures.step

pub returns-clause-idle : goal.returns-clause-idle
returns-clause-idle c idle = record {
  of = c.step_24.ensures.of;
  rest = attached-rest c.args.batch (view_of c.args.pass.now) (view_of c.step_24.new.pass) idle.rest (returns-clause-attached c);
}

pub returns-clause-one : goal.returns-clause-one
returns-clause-one c = (returns-clause-attached c).step

pub returns-clause-stores : goal.returns-clause-stores
returns-clause-stores c = (returns-clause-attached c).stores

pub returns-clause-locks : goal.returns-clause-locks
returns-clause-locks c = ap (λ (v : View). v.locks) (returns-clause-attached c).left

pub returns-clause-guards : goal.returns-clause-guards
returns-clause-guards c =
    let good = c.requires.good in
    guards_left c.args.batch (view_of c.args.pass.now) (view_of c.step_24.new.pass) c.args.batch.number good.pass good.before good.batch good.after good.bodies good.is c.args.pass.now.current c.to_word.result
    (c.to_word.ensures ∙ ap (λ (n : ℕ). 1024 + n) (c.first_node-root.ensures ∙ ap (λ (l : List ℕ). node_at l 0) c.as_slice.ensures.value)) c.step_24.ensures.step

pub returns-clause-alone : goal.returns-clause-alone
returns-clause-alone c =
    let good = c.requires.good in
    alone_left c.args.batch (view_of c.args.pass.now) (view_of c.step_24.new.pass) c.args.batch.number good.pass good.before good.batch good.after good.bodies good.is c.args.pass.now.current c.to_word.result
    (c.to_word.ensures ∙ ap (λ (n : ℕ). 1024 + n) (c.first_node-root.ensures ∙ ap (λ (l : List ℕ). node_at l 0) c.as_slice.ensures.value)) c.step_24.ensures.step

pub returns-clause-multi : goal.returns-clause-multi
returns-clause-multi c guard =
    let left = (returns-clause-attached c).left in
    multi-kept guard (view_of c.args.pass.now) (view_of c.step_24.new.pass) (ap (λ (v : View). v.config) left) (ap (λ (v : View). v.role) left) (ap (λ (v : View). v.locks) left)
    (ap (λ (v : View). v.call.task) left) (ap (λ (v : View). v.walk.is_on) left) (λ id. returns-clause-guards c guard.number id guard.mode)

pub returns-clause-others : goal.returns-clause-others
returns-clause-others c = (returns-clause-attached c).others

pub returns-clause-lists : goal.returns-clause-lists
returns-clause-lists c list = all-others c.args.batch (batches_of list) (belongings_of (view_of c.args.pass.now)) (belongings_of (view_of c.step_24.new.pass)) (returns-clause-attached c).others
