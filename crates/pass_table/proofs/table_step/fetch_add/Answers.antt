use Rattle.std.proofs.Common.{◌+◌, ◌%◌, ◌^◌, ap, sym}
use Rattle.core_state.specs.Operation.{result_of}
use Rattle.pass_table.proofs.Allowing.{below-words, allows}
use Rattle.pass_table.proofs.table_step.fetch_add.Goals as goal

pub fetch_add-requires : goal.fetch_add-requires
fetch_add-requires g c =
    let table = c.args.table.now in
    let seat = c.args.seat.now in
    let may = c.requires.may in (
      c.requires.own,
      below-words _ _ table.table_id seat.me c.args.place _ _ may,
      allows _ _ g.K.Kind.event table.key table.table_id seat.id c.args.place c.args.summand 0 seat.me (λ n. (n + c.args.summand) % 2 ^ 64) may (λ n. sym (ap (λ o. result_of o n c.args.summand 0) c.requires.adds)),
    )
