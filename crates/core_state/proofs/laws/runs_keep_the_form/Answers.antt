use Rattle.core_state.specs.Core.{opening}
use Rattle.core_state.proofs.Fitting.{word-fits}
use Rattle.core_state.proofs.Forming.{IsFormed-opening, IsFormed-event, IsFormed-run}
use Rattle.core_state.proofs.laws.runs_keep_the_form.Goals as goal

pub returns-clause-opening : goal.returns-clause-opening
returns-clause-opening c = IsFormed-opening

pub returns-clause-event : goal.returns-clause-event
returns-clause-event c = IsFormed-event

pub returns-clause-run : goal.returns-clause-run
returns-clause-run c = λ config last sizes run. IsFormed-run (opening config) last run (IsFormed-opening config sizes)

pub returns-clause-known : goal.returns-clause-known
returns-clause-known c = λ config last seat view sizes run at unspent.
    let formed = IsFormed-run (opening config) last run (IsFormed-opening config sizes) in
    (formed.views seat view at unspent).known

pub returns-clause-fits : goal.returns-clause-fits
returns-clause-fits c = λ config last name sizes run named.
    let formed = IsFormed-run (opening config) last run (IsFormed-opening config sizes) in
    word-fits last.config last.log name formed.sizes formed.items named
