use Rattle.core_state.proofs.Reading.{word-stored, word-other, word-none, word-last}
use Rattle.core_state.proofs.laws.words_are_read_off_the_log.Goals as goal

pub returns-clause-stored : goal.returns-clause-stored
returns-clause-stored c = word-stored

pub returns-clause-other : goal.returns-clause-other
returns-clause-other c = word-other

pub returns-clause-none : goal.returns-clause-none
returns-clause-none c = word-none

pub returns-clause-last : goal.returns-clause-last
returns-clause-last c = word-last
