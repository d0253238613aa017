use Rattle.std.proofs.Common.{◌≡◌, map, take}
use Rattle.body_ident.specs.Id.{Id}
use Rattle.batch_add.proofs.prepare_begun.indexes_of.Given as goal

abbrev pub invariant-loop-id : goal.invariant-loop-id
invariant-loop-id l = l.indexes.items ≡ map (λ (id : Id). id.index) (take l.id-index l.ids)
