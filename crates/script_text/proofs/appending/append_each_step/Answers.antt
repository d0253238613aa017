use Rattle.std.proofs.Common.{rules}
use Rattle.script_text.proofs.Spaced.{front_kept_after}
use Rattle.script_text.proofs.appending.append_each_step.Goals as goal

pub returns-in_err-append_signed : goal.returns-in_err-append_signed
returns-in_err-append_signed c = record {
  ok = search rules;
  err = front_kept_after c.from_residual.result c.args.out.now.items c.loop-n.out.items c.append_signed.new.out.items _ c.loop-n.invariant c.in_err-append_signed.ensures.err;
}
