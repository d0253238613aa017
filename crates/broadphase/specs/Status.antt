-- The exit status of each way in which a run ends.
use Rattle.std.specs.Prelude.{ℕ}
use Rattle.broadphase.specs.declared.status.Status.{Status}
use Rattle.broadphase.specs.declared.status.Status.TheVariants.{Done, Usage, BadScript, ReadFault, WriteFault, Memory, TooLong}

abbrev pub exit_code : Status → ℕ
exit_code Done = 0
exit_code Usage = 2
exit_code BadScript = 3
exit_code ReadFault = 4
exit_code WriteFault = 5
exit_code Memory = 6
exit_code TooLong = 7
