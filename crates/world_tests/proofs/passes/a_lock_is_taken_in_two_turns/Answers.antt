use Rattle.core_state.specs.declared.view.Mode.TheVariants.{Read}
use Rattle.pass_table.specs.Passes.{view_of}
use Rattle.pass_table.specs.TakeTurns.{taking_of, taking-later}
use Rattle.world_tests.proofs.passes.a_lock_is_taken_in_two_turns.Goals as goal

pub turn-requires-2-clause-under_way : goal.turn-requires-2-clause-under_way
turn-requires-2-clause-under_way g c =
    let first = taking_of 0 Read in
    let start = view_of c.in-Some.first in
    let turned = view_of c.turn.new.pass in
    let looked = view_of c.look.new.self in
    let taking = c.turn.new.self in
    record {
      first = first;
      start = start;
      goes = taking-later first start taking looked (view_of c.meet.new.self) c.meet.ensures.meets.more (taking-later first start taking turned looked c.look.ensures.looked.more (c.in-More.ensures.keeps first start c.new-taking.ensures.under_way));
    }
