use Rattle.std.proofs.Common.{◌≡◌, ◌++◌, take}
use Rattle.script_text.specs.Printed.{spaced}
use Rattle.script_text.proofs.appending.append_names.Given as goal

-- the names so far stand at the end
abbrev pub invariant-loop-name : goal.invariant-loop-name
invariant-loop-name l = l.out.items ≡ l.fn.out.items ++ spaced (take l.name-index l.names)
