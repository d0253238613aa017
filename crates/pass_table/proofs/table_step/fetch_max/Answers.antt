use Rattle.std.proofs.Common.{max, ap, sym}
use Rattle.core_state.specs.Operation.{result_of}
use Rattle.pass_table.proofs.Allowing.{below-words, allows}
use Rattle.pass_table.proofs.table_step.fetch_max.Goals as goal

pub fetch_max-requires : goal.fetch_max-requires
fetch_max-requires g c =
    let table = c.args.table.now in
    let seat = c.args.seat.now in
    let may = c.requires.may in (
      c.requires.own,
      below-words _ _ table.table_id seat.me c.args.place _ _ may,
      allows _ _ g.K.Kind.event table.key table.table_id seat.id c.args.place c.args.value 0 seat.me (λ n. max n c.args.value) may (λ n. sym (ap (λ o. result_of o n c.args.value 0) c.requires.raises)),
    )
