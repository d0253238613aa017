use Rattle.scene_model.proofs.Needs.{need-more, need-small}
use Rattle.scene_model.proofs.laws.need_follows_the_runs.Goals as goal

pub returns-clause-some : goal.returns-clause-some
returns-clause-some c = need-more

pub returns-clause-small : goal.returns-clause-small
returns-clause-small c = need-small
