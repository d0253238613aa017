use Rattle.std.proofs.Common.{arith}
use Rattle.std.proofs.lemmas.Int.{ints}
use Rattle.shape_test.proofs.Passing.{sides_in_order}
use Rattle.shape_test.proofs.run.Run.on.Goals as goal

pub invariant_of-result : goal.invariant_of-result
invariant_of-result c =
    let sides = sides_in_order c.args.b.now c.args.axis c.requires in
    record {
      in_range = ((omega (arith, ints), omega (arith, ints)), (omega (arith, ints), omega (arith, ints)), (omega (arith, ints), omega (arith, ints)));
      ordered = omega (arith, ints);
      onward = omega (arith, ints);
    }

pub returns-then-step-lt0 : goal.returns-then-step-lt0
returns-then-step-lt0 c = record {
  up = λ h. absurd (omega (arith, ints));
  down = λ h. (omega (arith, ints), omega (arith, ints), omega (arith, ints));
}

pub invariant_of-result-2 : goal.invariant_of-result-2
invariant_of-result-2 c =
    let sides = sides_in_order c.args.b.now c.args.axis c.requires in
    record {
      in_range = ((omega (arith, ints), omega (arith, ints)), (omega (arith, ints), omega (arith, ints)), (omega (arith, ints), omega (arith, ints)));
      ordered = omega (arith, ints);
      onward = omega (arith, ints);
    }

pub returns : goal.returns
returns c = record {
  up = λ h. (omega (arith, ints), omega (arith, ints), omega (arith, ints));
  down = λ h. absurd (omega (arith, ints));
}
