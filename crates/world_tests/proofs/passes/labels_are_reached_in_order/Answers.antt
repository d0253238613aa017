use Rattle.std.proofs.Common.{arith}
use Rattle.core_state.proofs.Prefixes.{IsPrefix-refl}
use Rattle.pass_table.specs.Passes.{view_of}
use Rattle.world_tests.proofs.passes.labels_are_reached_in_order.Goals as goal

pub drive-requires-clause-under_way : goal.drive-requires-clause-under_way
drive-requires-clause-under_way g c =
    let view = view_of c.in-Some.first in record { first = record { looks = 0 }; start = view; goes = (omega arith, IsPrefix-refl view.known) }
