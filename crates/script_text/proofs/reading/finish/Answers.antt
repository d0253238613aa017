use Rattle.script_text.proofs.Parsing.{sound}
use Rattle.script_text.proofs.reading.finish.Goals as goal

pub invariant_of-result : goal.invariant_of-result
invariant_of-result c = record { sound = sound c.args.draft c.in-Some.world c.new.result c.args.number c.in-Some.is c.new.ensures c.requires }
