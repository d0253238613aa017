use Rattle.pass_table.specs.Passes.{view_of}
use Rattle.batch_add.proofs.Searching.{search-inside, noted-turn, slot-step, slot-made, slot-more, slot-is, empty-turn}
use Rattle.batch_add.proofs.slot_search.SlotSearch.load.Goals as goal

pub returns-then-word-eq0-clause-turn : goal.returns-then-word-eq0-clause-turn
returns-then-word-eq0-clause-turn c =
    let search = c.args.self.now in
    let view = view_of c.args.pass.now in
    let next = view_of c.step_17-word.new.pass in
    let found = c.step_17-word.result in
    let stepped = c.step_17-word.ensures.step in
    empty-turn search view next c.requires.unread (slot-more view next search.layer search.slot found stepped) (slot-step view next search.layer search.slot found stepped)
    (slot-made view next search.layer search.slot found stepped)

pub returns-clause-turn : goal.returns-clause-turn
returns-clause-turn c =
    let search = c.args.self.now in
    let view = view_of c.args.pass.now in
    let next = view_of c.step_17-word.new.pass in
    let found = c.step_17-word.result in
    let stepped = c.step_17-word.ensures.step in
    let under_way = c.requires.under_way in
    noted-turn search c.note.new.self found view next c.note.ensures.noted (slot-more view next search.layer search.slot found stepped) (slot-is view next search.layer search.slot found stepped) c.if-word-eq0.false
    c.note.result c.note.ensures.turn (search-inside under_way.first under_way.start search view under_way.goes) (slot-step view next search.layer search.slot found stepped)
    (slot-made view next search.layer search.slot found stepped)
