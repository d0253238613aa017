use Rattle.std.proofs.Common.{◌≡◌, take}
use Rattle.script_text.specs.Lines.{texts}
use Rattle.script_text.proofs.name_fields.copy_texts.Given as goal

-- the texts so far
abbrev pub invariant-loop-word : goal.invariant-loop-word
invariant-loop-word l = l.list.items ≡ texts (take l.word-index l.words)
