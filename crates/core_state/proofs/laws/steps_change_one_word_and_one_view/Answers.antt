use Rattle.core_state.proofs.Steps.{word-step, word-step-other, words-step, view-step, view-step-other}
use Rattle.core_state.proofs.laws.steps_change_one_word_and_one_view.Goals as goal

pub returns-clause-word : goal.returns-clause-word
returns-clause-word c = word-step

pub returns-clause-others : goal.returns-clause-others
returns-clause-others c = word-step-other

pub returns-clause-table : goal.returns-clause-table
returns-clause-table c = words-step

pub returns-clause-view : goal.returns-clause-view
returns-clause-view c = view-step

pub returns-clause-views : goal.returns-clause-views
returns-clause-views c = view-step-other
