use Rattle.std.proofs.Common.{◌-◌, ◌≤◌, length, take}
use Rattle.world_io.specs.Bytes.{Appended}
use Rattle.world_io.proofs.sink.write_all.Given as goal

-- the front of the piece was appended
abbrev pub invariant-loop-at : goal.invariant-loop-at
invariant-loop-at g l = record {
  within : l.at ≤ length l.piece;
  front : Appended (g.K.Sink.contents l.initial.sink) (g.K.Sink.contents l.sink) (take l.at l.piece);
  counted : g.K.Sink.faults l.initial.sink ≤ g.K.Sink.faults l.sink;
}

abbrev pub decreases-loop-at : goal.decreases-loop-at
decreases-loop-at g l = length l.piece - l.at
