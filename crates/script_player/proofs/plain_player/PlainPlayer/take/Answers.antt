use Rattle.script_player.proofs.Batching.{marked_can_let_go}
use Rattle.script_player.proofs.plain_player.PlainPlayer.take.Goals as goal

pub unmark-requires : goal.unmark-requires
unmark-requires c = marked_can_let_go _ _ _ _ _ _ _ c.in_ok-indexes.ensures c.deref.ensures.value
