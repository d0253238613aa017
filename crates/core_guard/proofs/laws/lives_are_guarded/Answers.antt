use Rattle.core_guard.proofs.LivesGuarded.{GuardsHold-store_link, GuardsHold-store_head, GuardsHold-store_field, GuardsHold-create, GuardsHold-destroy, GuardsHold-set_user}
use Rattle.core_guard.proofs.laws.lives_are_guarded.Goals as goal

pub returns-clause-links : goal.returns-clause-links
returns-clause-links c = GuardsHold-store_link

pub returns-clause-heads : goal.returns-clause-heads
returns-clause-heads c = GuardsHold-store_head

pub returns-clause-fields : goal.returns-clause-fields
returns-clause-fields c = GuardsHold-store_field

pub returns-clause-creations : goal.returns-clause-creations
returns-clause-creations c = GuardsHold-create

pub returns-clause-destructions : goal.returns-clause-destructions
returns-clause-destructions c = GuardsHold-destroy

pub returns-clause-users : goal.returns-clause-users
returns-clause-users c = GuardsHold-set_user
