use Rattle.std.proofs.Common.{sym, subst}
use Rattle.script_player.specs.UnderWay.{IsUnderWay}
use Rattle.script_player.proofs.Spending.{batch_can_join}
use Rattle.script_player.proofs.plain_player.PlainPlayer.finalize.Goals as goal

pub apply-requires : goal.apply-requires
apply-requires c =
    let under_way = subst IsUnderWay (sym c.self.view_is) c.requires in
    batch_can_join c.self.inside.scene c.self.inside.books c.args.name.now c.in-Some.batch under_way.held (sym c.in-Some.ensures.batch)
