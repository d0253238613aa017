use Rattle.bench.proofs.Pairs.{first_fresh}
use Rattle.bench.proofs.pass.typed.open.Goals as goal

pub returns : goal.returns
returns c = first_fresh c.in-Ok.world c.in_ok-pass.pass _ _ c.in-Ok.ensures.passes c.in_ok-pass.ensures.first
