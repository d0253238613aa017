use Rattle.std.proofs.Common.{ap, sym}
use Rattle.core_state.specs.Operation.{result_of}
use Rattle.pass_table.proofs.Allowing.{below-words, allows}
use Rattle.pass_table.proofs.table_step.compare_exchange.Goals as goal

pub compare_exchange-requires : goal.compare_exchange-requires
compare_exchange-requires g c =
    let table = c.args.table.now in
    let seat = c.args.seat.now in
    let may = c.requires.may in (
      c.requires.own,
      below-words _ _ table.table_id seat.me c.args.place _ _ may,
      allows _ _ g.K.Kind.event table.key table.table_id seat.id c.args.place c.args.expected c.args.new seat.me _ may (λ n. sym (ap (λ o. result_of o n c.args.expected c.args.new) c.requires.exchanges)),
    )
