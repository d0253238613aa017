use Rattle.word_map.specs.declared.name.Name.TheVariants.{Update}
use Rattle.core_state.specs.Looking.{MayLook, look}
use Rattle.core_state.specs.Seats.{joined_view}
use Rattle.pass_table.proofs.Bodies.{stepped-current}
use Rattle.body_lock.proofs.Standing.{alone-more}
use Rattle.body_lock.proofs.laws.guards_stay_good.Goals as goal

pub returns-clause-good : goal.returns-clause-good
returns-clause-good c = λ number id mode view next alone more. alone-more number id mode view next alone more

pub returns-clause-looked : goal.returns-clause-looked
returns-clause-looked c = λ view next looked. stepped-current MayLook look view next Update 0 0 looked.found looked.step

pub returns-clause-met : goal.returns-clause-met
returns-clause-met c = λ view other next meets. stepped-current MayLook look (joined_view view other) next Update 0 0 meets.looked.found meets.looked.step
