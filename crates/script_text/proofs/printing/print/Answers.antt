use Rattle.std.proofs.Common.{rules}
use Rattle.script_text.proofs.Spaced.{text_by_command}
use Rattle.script_text.proofs.Unique.{only_printed}
use Rattle.script_text.proofs.printing.print.Goals as goal

pub returns-clause-only : goal.returns-clause-only
returns-clause-only c = λ other is. only_printed c.append_lines.new.out.items c.args.script.now other (search (rules, text_by_command)) is
