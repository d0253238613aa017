use Rattle.std.proofs.Common.{◌≡◌, ◌++◌, take, codes}
use Rattle.std.specs.List.{flat_map}
use Rattle.script_text.specs.Command.{command_words}
use Rattle.script_text.specs.Printed.{line_text}
use Rattle.script_text.proofs.printing.append_lines.Given as goal

-- the lines so far stand at the end
abbrev pub invariant-loop-command : goal.invariant-loop-command
invariant-loop-command l = l.out.items ≡ l.fn.out.items ++ flat_map (λ c. line_text (command_words c) ++ codes "\n") (take l.command-index l.commands)
