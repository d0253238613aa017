use Rattle.std.proofs.Common.{take}
use Rattle.body_lock.specs.Stripes.{AreStripesOf}
use Rattle.body_lock.proofs.multi_turns.stripes_of.Given as goal

abbrev pub invariant-loop-id : goal.invariant-loop-id
invariant-loop-id l = AreStripesOf l.world.map (take l.id-index l.ids) l.set.bits
