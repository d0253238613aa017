use Rattle.core_query.proofs.Cleared.{layer-few, layer-untouched}
use Rattle.core_query.proofs.laws.clear_layers_have_few_loads.Goals as goal

pub returns-clause-loads : goal.returns-clause-loads
returns-clause-loads c = λ core query seat number view all walking end. layer-few core all query seat number view walking end

pub returns-clause-untouched : goal.returns-clause-untouched
returns-clause-untouched c = λ core query seat number view all walking end. layer-untouched core all query seat number view walking end
