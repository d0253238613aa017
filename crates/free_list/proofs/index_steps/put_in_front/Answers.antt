use Rattle.std.proofs.Common.{refl, arith}
use Rattle.pass_table.specs.Passes.{view_of}
use Rattle.free_list.proofs.Heads.{put-in-front}
use Rattle.free_list.proofs.index_steps.put_in_front.Goals as goal

pub returns-clause-put : goal.returns-clause-put
returns-clause-put c =
    let index = c.args.index in
    let same = c.from.ensures in
    put-in-front (view_of c.args.pass.now) (view_of c.step_11.new.pass) _ c.requires.list c.step_11.ensures.step index
    (record { index = index; body = c.requires.body; link = c.requires.link; head = omega arith }) refl (omega arith)
