use Rattle.word_map.proofs.Words.{state-one, phase-one, slot-one, child-one, location-one, bound-one, link-one}
use Rattle.word_map.proofs.law.words_say_one_thing.Goals as goal

pub returns-clause-states : goal.returns-clause-states
returns-clause-states c = state-one

pub returns-clause-phases : goal.returns-clause-phases
returns-clause-phases c = phase-one

pub returns-clause-slots : goal.returns-clause-slots
returns-clause-slots c = slot-one

pub returns-clause-children : goal.returns-clause-children
returns-clause-children c = child-one

pub returns-clause-locations : goal.returns-clause-locations
returns-clause-locations c = location-one

pub returns-clause-bounds : goal.returns-clause-bounds
returns-clause-bounds c = bound-one

pub returns-clause-links : goal.returns-clause-links
returns-clause-links c = link-one
