use Rattle.std.proofs.Common.{ap}
use Rattle.word_map.specs.declared.config.Config.{Config}
use Rattle.bench.proofs.lock.crew.Crew.empty.Goals as goal

pub invariant_of-result : goal.invariant_of-result
invariant_of-result c =
    let one = c.in_ok-first.ensures.others c.in-Ok.world c.in-Ok.ensures.idle in
    let two = c.in_ok-second.ensures.others c.in-Ok.world one in
    let three = c.in_ok-third.ensures.others c.in-Ok.world two in
    record {
      sizes = ap (λ (s : Config). s.bodies) c.in-Ok.ensures.sizes.1;
      one = c.in_ok-first.ensures.idle c.in-Ok.world c.in-Ok.ensures.idle;
      two = c.in_ok-second.ensures.idle c.in-Ok.world one;
      three = c.in_ok-third.ensures.idle c.in-Ok.world two;
      four = c.in_ok-fourth.ensures.idle c.in-Ok.world three;
    }
