use Rattle.std.proofs.Common.{rules, arith, pos, slice_index_or, w32, FitsSigned}
use Rattle.std.proofs.lemmas.Int.{to_z-of_z}
use Rattle.fixed_box.proofs.Axis.{reads}
use Rattle.fixed_box.proofs.corner.can_shift.Goals as goal

pub returns : goal.returns
returns c =
    let x : FitsSigned w32 (slice_index_or c.args.v 0 (pos 0)) = search rules in
    let y : FitsSigned w32 (slice_index_or c.args.v 1 (pos 0)) = search rules in
    let z : FitsSigned w32 (slice_index_or c.args.v 2 (pos 0)) = search rules in
    grind (arith, reads, to_z-of_z)
