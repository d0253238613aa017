use Rattle.std.proofs.Common.{◌≡◌, take}
use Rattle.body_lock.specs.Answers.{wanted_ids}
use Rattle.body_lock.proofs.multi_turns.wanted_of.Given as goal

abbrev pub invariant-loop-id : goal.invariant-loop-id
invariant-loop-id l = wanted_ids l.wanted.items ≡ take l.id-index l.ids
