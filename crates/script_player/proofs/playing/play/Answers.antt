use Rattle.std.proofs.Common.{List, ℕ, Option, sym, subst}
use Rattle.script_text.specs.declared.command.Command.{Command}
use Rattle.script_player.specs.Table.{empty_table}
use Rattle.script_player.specs.Hosts.{IsToldForAll, Plays, PlaysPart}
use Rattle.script_player.proofs.PlayedSoFar.{whole_report_ok, part_to_end_err, part_of_replies}
use Rattle.script_player.proofs.Layered.{script_fits}
use Rattle.script_player.proofs.Writing.{on_err_always, on_ok_always}
use Rattle.script_player.proofs.playing.play.Goals as goal

pub play_commands-requires : goal.play_commands-requires
play_commands-requires g c =
    let script = c.args.script.now in
    subst (IsToldForAll g.H.Host.shows c.args.host.now) (sym c.items.ensures)
    (record { table = empty_table script.world; shown = c.requires.told; fits = script_fits script })

pub returns-in_err-play_commands-clause-part : goal.returns-in_err-play_commands-clause-part
returns-in_err-play_commands-clause-part g c =
    let held : Option (List ℕ) = g.K.Sink.contents c.args.sink.now in
    let told : Option (List ℕ) = g.K.Sink.contents c.play_commands.new.sink in
    let P : List Command → Type 0 = λ commands. PlaysPart g.H.Host.shows commands c.args.host.now held told in
    on_err_always _ (part_of_replies g.H.Host.shows c.args.script.now c.args.host.now held told c.requires.told (subst P c.items.ensures c.in_err-play_commands.ensures.part))

pub returns-clause-report : goal.returns-clause-report
returns-clause-report g c =
    let held : Option (List ℕ) = g.K.Sink.contents c.args.sink.now in
    let told : Option (List ℕ) = g.K.Sink.contents c.play_commands.new.sink in
    let P : List Command → Type 0 = λ commands. Plays g.H.Host.shows commands c.args.host.now c.play_commands.new.host held told in
    whole_report_ok g.H.Host.shows c.args.script.now c.args.host.now c.play_commands.new.host held told (g.K.Sink.contents c.play_end.new.sink) c.play_end.result c.requires.told
    (subst P c.items.ensures c.in_ok-play_commands.ensures.ok) c.play_end.ensures.ok

pub returns-clause-part : goal.returns-clause-part
returns-clause-part g c =
    let held : Option (List ℕ) = g.K.Sink.contents c.args.sink.now in
    let told : Option (List ℕ) = g.K.Sink.contents c.play_commands.new.sink in
    let P : List Command → Type 0 = λ commands. Plays g.H.Host.shows commands c.args.host.now c.play_commands.new.host held told in
    part_to_end_err g.H.Host.shows c.args.script.now c.args.host.now c.play_commands.new.host held told (g.K.Sink.contents c.play_end.new.sink) c.play_end.result c.requires.told
    (subst P c.items.ensures c.in_ok-play_commands.ensures.ok) c.play_end.ensures.part

pub returns-clause-shown : goal.returns-clause-shown
returns-clause-shown g c =
    let held : Option (List ℕ) = g.K.Sink.contents c.args.sink.now in
    let told : Option (List ℕ) = g.K.Sink.contents c.play_commands.new.sink in
    let P : List Command → Type 0 = λ commands. Plays g.H.Host.shows commands c.args.host.now c.play_commands.new.host held told in
    let played = subst P c.items.ensures c.in_ok-play_commands.ensures.ok in
    on_ok_always c.play_end.result (played.shown (empty_table c.args.script.now.world) c.requires.told)
