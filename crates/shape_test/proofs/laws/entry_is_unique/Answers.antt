use Rattle.shape_test.proofs.Unique.{IsEntry-unique}
use Rattle.shape_test.proofs.laws.entry_is_unique.Goals as goal

pub returns : goal.returns
returns c = IsEntry-unique
