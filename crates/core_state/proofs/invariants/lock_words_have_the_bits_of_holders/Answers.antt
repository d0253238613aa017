use Rattle.core_state.proofs.LockBits.{lock_bits}
use Rattle.core_state.proofs.invariants.lock_words_have_the_bits_of_holders.Goals as goal

pub returns-clause-reader : goal.returns-clause-reader
returns-clause-reader c = λ core lock number formed agree less. (lock_bits core lock number formed agree less).0

pub returns-clause-writer : goal.returns-clause-writer
returns-clause-writer c = λ core lock number formed agree less. (lock_bits core lock number formed agree less).1
