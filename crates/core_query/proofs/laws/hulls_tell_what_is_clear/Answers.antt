use Rattle.core_query.proofs.Hulls.{clear-by_hull}
use Rattle.core_query.proofs.laws.hulls_tell_what_is_clear.Goals as goal

pub returns : goal.returns
returns c = clear-by_hull
