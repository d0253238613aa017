use Rattle.std.proofs.Common.{◌≡◌, ◌-◌, ◌≤◌, vec_len}
use Rattle.world_io.specs.Bytes.{Gave}
use Rattle.broadphase.specs.declared.streams.TheConstants.{BLOCK}
use Rattle.broadphase.proofs.streams.read_all.Given as goal

-- the source gave what was read so far
abbrev pub invariant-loop-bytes : goal.invariant-loop-bytes
invariant-loop-bytes g l = record {
  block : vec_len l.block ≡ BLOCK;
  within : vec_len l.bytes ≤ l.limit;
  gave : Gave (g.S.Source.left l.initial.source) (g.S.Source.left l.source) l.bytes.items;
  none : g.S.Source.faults l.source ≡ g.S.Source.faults l.initial.source;
}

abbrev pub decreases-loop-bytes : goal.decreases-loop-bytes
decreases-loop-bytes g l = l.limit - vec_len l.bytes
