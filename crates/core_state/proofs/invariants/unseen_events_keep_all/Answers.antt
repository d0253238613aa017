use Rattle.core_state.specs.Looking.{MayLook, look}
use Rattle.core_state.specs.Locking.{MayLoadLock, load_lock}
use Rattle.core_state.specs.Lists.{MayLoadList, load_list}
use Rattle.core_state.specs.Lives.{MayLoadBody, load_body}
use Rattle.core_state.specs.Batches.{MayLoadSlot, load_slot}
use Rattle.core_state.proofs.Keeping.{Invariants-unseen, visits-unseen, joins-unseen, load-unseen, look-plain, load_lock-plain, load_list-plain, load_body-plain, load_slot-plain}
use Rattle.core_state.proofs.invariants.unseen_events_keep_all.Goals as goal

pub returns-clause-unseen : goal.returns-clause-unseen
returns-clause-unseen c = Invariants-unseen

pub returns-clause-visits : goal.returns-clause-visits
returns-clause-visits c = λ before after visits. Invariants-unseen before after (visits-unseen before after visits)

pub returns-clause-joins : goal.returns-clause-joins
returns-clause-joins c = λ before after joins. Invariants-unseen before after (joins-unseen before after joins)

pub returns-clause-looks : goal.returns-clause-looks
returns-clause-looks c = λ before after steps. Invariants-unseen before after (load-unseen MayLook look before after look-plain steps)

pub returns-clause-loads : goal.returns-clause-loads
returns-clause-loads c = λ before after steps. Invariants-unseen before after (load-unseen MayLoadLock load_lock before after load_lock-plain steps)

pub returns-clause-lists : goal.returns-clause-lists
returns-clause-lists c = λ before after steps. Invariants-unseen before after (load-unseen MayLoadList load_list before after load_list-plain steps)

pub returns-clause-bodies : goal.returns-clause-bodies
returns-clause-bodies c = λ before after steps. Invariants-unseen before after (load-unseen MayLoadBody load_body before after load_body-plain steps)

pub returns-clause-slots : goal.returns-clause-slots
returns-clause-slots c = λ before after steps. Invariants-unseen before after (load-unseen MayLoadSlot load_slot before after load_slot-plain steps)
