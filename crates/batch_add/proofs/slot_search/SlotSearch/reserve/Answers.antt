use Rattle.std.proofs.Common.{◌≡◌, ◌+◌, arith}
use Rattle.pass_table.specs.Passes.{view_of}
use Rattle.batch_add.proofs.Searching.{search-inside, noted-turn, reserve-step, reserve-missed, reserve-found, reserve-unmade, reserved-turn}
use Rattle.batch_add.proofs.slot_search.SlotSearch.reserve.Goals as goal

pub returns-in-Ok-clause-turn : goal.returns-in-Ok-clause-turn
returns-in-Ok-clause-turn c =
    let own : c.to_word-own.result ≡ c.number.result + 1 = (let word = c.to_word-own.ensures in omega arith) in
    reserved-turn c.args.self.now (view_of c.args.pass.now) (view_of c.step_18.new.pass) c.number.result _ c.number.ensures own c.in-Ok.ensures.step

pub returns-in-Err-clause-turn : goal.returns-in-Err-clause-turn
returns-in-Err-clause-turn c =
    let search = c.args.self.now in
    let view = view_of c.args.pass.now in
    let next = view_of c.step_18.new.pass in
    let found = c.in-Err.word in
    let step = c.in-Err.ensures.step in
    let under_way = c.requires.under_way in
    noted-turn search c.note.new.self found view next c.note.ensures.noted (reserve-missed view next search.layer search.slot _ found step.1 step.0) (reserve-found view next search.layer search.slot _ found step.1 step.0) step.0
    c.note.result c.note.ensures.turn (search-inside under_way.first under_way.start search view under_way.goes) (reserve-step view next search.layer search.slot _ found step.1)
    (reserve-unmade view next search.layer search.slot _ found step.1 step.0)
