use Rattle.std.proofs.Common.{ℕ, List, Option, sym, subst, arith}
use Rattle.script_text.specs.declared.command.Command.{Command}
use Rattle.script_player.specs.Hosts.{IsToldFor, Writes, WritesPart}
use Rattle.script_player.proofs.PlayedSoFar.{told_next, one_more, stops}
use Rattle.script_player.proofs.Writing.{on_err_always}
use Rattle.script_player.proofs.playing.play_commands.Goals as goal

pub play_command-requires : goal.play_command-requires
play_command-requires g c =
    let before : Option (List ℕ) = g.K.Sink.contents c.args.sink.now in
    let after : Option (List ℕ) = g.K.Sink.contents c.loop-command.sink in
    subst (IsToldFor g.H.Host.shows c.loop-command.host) (sym c.command-item.is)
    (told_next g.H.Host.shows c.args.commands.now c.args.host.now c.loop-command.host before after c.loop-command.command-index c.command-item.result c.requires c.loop-command.invariant.0 (omega arith))

pub returns-in_err-play_command-clause-part : goal.returns-in_err-play_command-clause-part
returns-in_err-play_command-clause-part g c =
    let before : Option (List ℕ) = g.K.Sink.contents c.args.sink.now in
    let after : Option (List ℕ) = g.K.Sink.contents c.loop-command.sink in
    let later : Option (List ℕ) = g.K.Sink.contents c.play_command.new.sink in
    let Part : Command → Type 0 = λ x. WritesPart g.H.Host.shows x c.loop-command.host after later in
    on_err_always _ (stops g.H.Host.shows c.args.commands.now c.args.host.now c.loop-command.host before after later c.loop-command.command-index c.command-item.result c.loop-command.invariant.0 (omega arith)
    (subst Part c.command-item.is c.in_err-play_command.ensures.part))

pub loop-command-preserved : goal.loop-command-preserved
loop-command-preserved g c =
    let before : Option (List ℕ) = g.K.Sink.contents c.args.sink.now in
    let after : Option (List ℕ) = g.K.Sink.contents c.loop-command.sink in
    let later : Option (List ℕ) = g.K.Sink.contents c.play_command.new.sink in
    let Line : Command → Type 0 = λ x. Writes g.H.Host.shows x c.loop-command.host c.play_command.new.host after later in (
      one_more g.H.Host.shows c.args.commands.now c.args.host.now c.loop-command.host c.play_command.new.host before after later c.loop-command.command-index c.command-item.result c.loop-command.invariant.0 (omega arith)
          (subst Line c.command-item.is c.in_ok-play_command.ensures.ok),
      omega (arith, c.loop-command.invariant.1, c.in_ok-play_command.ensures.counted),
    )
