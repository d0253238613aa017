use Rattle.core_guard.proofs.ListSteps.{Invariants-store_link, Invariants-store_head}
use Rattle.core_guard.proofs.LivesKeep.{Invariants-store_field, Invariants-create, Invariants-destroy, Invariants-set_user}
use Rattle.core_guard.proofs.laws.lives_keep_all.Goals as goal

pub returns-clause-links : goal.returns-clause-links
returns-clause-links c = Invariants-store_link

pub returns-clause-heads : goal.returns-clause-heads
returns-clause-heads c = Invariants-store_head

pub returns-clause-fields : goal.returns-clause-fields
returns-clause-fields c = Invariants-store_field

pub returns-clause-creations : goal.returns-clause-creations
returns-clause-creations c = Invariants-create

pub returns-clause-destructions : goal.returns-clause-destructions
returns-clause-destructions c = Invariants-destroy

pub returns-clause-users : goal.returns-clause-users
returns-clause-users c = Invariants-set_user
