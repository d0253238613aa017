use Rattle.std.proofs.Common.{ap, sym}
use Rattle.core_state.specs.Operation.{result_of}
use Rattle.pass_table.proofs.Allowing.{below-words, allows}
use Rattle.pass_table.proofs.table_step.load.Goals as goal

pub load-requires : goal.load-requires
load-requires g c =
    let table = c.args.table.now in
    let seat = c.args.seat.now in
    let may = c.requires.may in (
      c.requires.own,
      below-words _ _ table.table_id seat.me c.args.place _ _ may,
      allows _ _ g.K.Kind.event table.key table.table_id seat.id c.args.place 0 0 seat.me (λ n. n) may (λ n. sym (ap (λ o. result_of o n 0 0) c.requires.loads)),
    )
