use Rattle.pass_table.proofs.Seating.{opens-view, words-some}
use Rattle.pass_table.proofs.pass_list.open_next.Goals as goal

pub split_seat-next-requires : goal.split_seat-next-requires
split_seat-next-requires c =
    let world = c.args.world.now in
    let seat = c.args.seat in (
      c.requires.last.table,
      words-some world.map world.table.shared.table_id.words world.sized.1,
      opens-view world.table.shared.key world.map seat.id c.args.number seat.me.0 world.sized.0 c.requires.more c.requires.last.view,
    )
