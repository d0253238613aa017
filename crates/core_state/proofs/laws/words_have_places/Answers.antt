use Rattle.core_state.proofs.Reading.{length-words, words-named}
use Rattle.core_state.proofs.laws.words_have_places.Goals as goal

pub returns-clause-len : goal.returns-clause-len
returns-clause-len c = length-words

pub returns-clause-at : goal.returns-clause-at
returns-clause-at c = words-named
