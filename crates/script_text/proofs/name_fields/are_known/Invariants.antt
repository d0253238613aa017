use Rattle.std.proofs.Common.{◌≡◌, true, take}
use Rattle.std.specs.List.{list_all}
use Rattle.script_text.specs.Name.{is_among}
use Rattle.script_text.specs.Lines.{texts}
use Rattle.script_text.proofs.name_fields.are_known.Given as goal

-- the words so far are names
abbrev pub invariant-loop-word : goal.invariant-loop-word
invariant-loop-word l = list_all (is_among l.names) (texts (take l.word-index l.words)) ≡ true
