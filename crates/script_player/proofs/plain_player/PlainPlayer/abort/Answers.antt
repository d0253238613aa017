use Rattle.std.proofs.Common.{List, ℕ, sym, subst}
use Rattle.script_player.specs.Taking.{unmarks}
use Rattle.script_player.specs.UnderWay.{IsUnderWay, ArePossible}
use Rattle.script_player.proofs.Spending.{batch_can_join}
use Rattle.script_player.proofs.Holding.{join_can_let_go}
use Rattle.script_player.proofs.plain_player.PlainPlayer.abort.Goals as goal

pub unmark-requires : goal.unmark-requires
unmark-requires c =
    let under_way = subst IsUnderWay (sym c.self.view_is) c.requires in
    let join = batch_can_join c.self.inside.scene c.self.inside.books c.args.name.now c.in-Some.batch under_way.held (sym c.in-Some.ensures.batch) in
    let P : List ℕ → Type 0 = λ xs. ArePossible c.self.inside.scene (unmarks xs) in
    subst P (sym c.items.ensures) (join_can_let_go c.self.inside.scene c.in-Some.batch.layer c.in-Some.batch.indexes join)
