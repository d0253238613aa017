use Rattle.script_player.proofs.Reporting.{report_is, reply_stands, entries_stand}
use Rattle.script_player.proofs.Standing.{is_table_at}
use Rattle.script_player.proofs.laws.report_tells_what_happened.Goals as goal

pub returns-clause-report : goal.returns-clause-report
returns-clause-report c = report_is

pub returns-clause-replies : goal.returns-clause-replies
returns-clause-replies c = reply_stands

pub returns-clause-entries : goal.returns-clause-entries
returns-clause-entries c = entries_stand

pub returns-clause-scene : goal.returns-clause-scene
returns-clause-scene c = λ script at. (is_table_at script at).scene
