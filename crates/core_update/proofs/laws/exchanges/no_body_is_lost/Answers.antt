use Rattle.core_update.proofs.laws.exchanges.no_body_is_lost.Goals as goal

pub returns-clause-second : goal.returns-clause-second
returns-clause-second c = λ core h index node child number name below at home. h.cover.replaced index node child number name below at home

pub returns-clause-covered : goal.returns-clause-covered
returns-clause-covered c = λ core h index body live inside. h.cover.covered index body live inside
