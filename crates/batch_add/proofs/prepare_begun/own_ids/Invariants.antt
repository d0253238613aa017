use Rattle.std.proofs.Common.{◌≡◌, take}
use Rattle.batch_add.proofs.prepare_begun.own_ids.Given as goal

abbrev pub invariant-loop-id : goal.invariant-loop-id
invariant-loop-id l = l.own.items ≡ take l.id-index l.ids
