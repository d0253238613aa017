use Rattle.std.proofs.Common.{◌≤◌}
use Rattle.script_player.proofs.PlayedSoFar.{HasPlayed}
use Rattle.script_player.proofs.playing.play_commands.Given as goal

abbrev pub invariant-loop-command : goal.invariant-loop-command
invariant-loop-command g l =
    HasPlayed (g.H.Host.shows) l.commands l.fn.host l.host (g.K.Sink.contents l.fn.sink) (g.K.Sink.contents l.sink) l.command-index
    × (g.K.Sink.faults l.fn.sink ≤ g.K.Sink.faults l.sink)
