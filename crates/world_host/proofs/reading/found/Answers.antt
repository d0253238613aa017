use Rattle.std.proofs.lemmas.Iterator.{items_from_collect}
use Rattle.std.proofs.lemmas.Iterator.Consumers.{YieldsList-from_first}
use Rattle.tree_query.specs.Finding.{ids_from, ids_of}
use Rattle.world_host.proofs.reading.found.Goals as goal

pub returns : goal.returns
returns c = items_from_collect c.collect.result c.collect.ensures.ran (YieldsList-from_first (λ x. x) (λ s. ids_from s.finder.now s.next) (ids_of c.args.finder.now) c.ids.ensures)
