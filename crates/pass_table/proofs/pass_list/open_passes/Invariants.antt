use Rattle.std.proofs.Common.{◌≡◌, length}
use Rattle.pass_table.specs.Opened.{AreFresh, IsLast}
use Rattle.pass_table.proofs.pass_list.open_passes.Given as goal

abbrev pub invariant-loop-number : goal.invariant-loop-number
invariant-loop-number l = record {
  count : length l.list.items ≡ l.number;
  fresh : AreFresh l.world l.list.items;
  last : IsLast l.world l.number l.last;
}
