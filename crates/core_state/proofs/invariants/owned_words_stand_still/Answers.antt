use Rattle.core_state.proofs.Guarding.{writer-alone, GuardsHold-step, owned-still, live-still}
use Rattle.core_state.proofs.invariants.owned_words_stand_still.Goals as goal

pub returns-clause-alone : goal.returns-clause-alone
returns-clause-alone c = writer-alone

pub returns-clause-step : goal.returns-clause-step
returns-clause-step c = GuardsHold-step

pub returns-clause-still : goal.returns-clause-still
returns-clause-still c = λ core seat number view name formed guards at pass owns. owned-still core seat number view formed guards at pass name owns

pub returns-clause-live : goal.returns-clause-live
returns-clause-live c = live-still
