use Rattle.std.proofs.Common.{subst, arith}
use Rattle.std.specs.Prelude.{Option}
use Rattle.pass_table.specs.Passes.{view_of}
use Rattle.reply_text.specs.declared.refusal.Refusal.{Refusal}
use Rattle.world_host.specs.Batches.{ListAfter, TakesAlone}
use Rattle.world_host.proofs.AddedBatches.{last-place, adds-now}
use Rattle.world_host.proofs.batches_alone.add_alone.Goals as goal

pub returns-clause-adds : goal.returns-clause-adds
returns-clause-adds g c =
    let old = c.args.batches.now in
    let mid = c.prepare_alone.new.batches in
    let start = view_of c.args.pass.now in
    let between = view_of c.prepare_alone.new.pass in
    let list = subst (ListAfter old mid) c.in_default.is c.in_ok-refusal.ensures.list in
    let takes = subst (λ (r : Option Refusal). TakesAlone c.args.layer c.args.bodies.now old mid start between r) c.in_default.is c.in_ok-refusal.ensures.takes in
    let count = last-place old mid list in
    let len = c.len-place.ensures in
    let t = c.finalize_alone.ensures.attached in
    λ table tells. adds-now c.args.layer c.args.bodies.now old mid start between (view_of c.finalize_alone.new.pass) takes table tells _ (omega (arith, count, len)) t.0 t.1 t.2
