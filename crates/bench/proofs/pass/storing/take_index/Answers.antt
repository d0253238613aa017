use Rattle.std.proofs.Common.{◌-◌, ap, ◌∙◌, arith}
use Rattle.word_map.specs.declared.config.Config.{Config}
use Rattle.word_map.specs.declared.name.Name.TheVariants.{SlotHead, SlotNext}
use Rattle.pass_table.specs.Passes.{view_of}
use Rattle.bench.proofs.Stores.{loaded-list, loaded-word, head-index, may-take-last, creates-next}
use Rattle.bench.proofs.pass.storing.take_index.Goals as goal

pub step_11-requires-clause-asks : goal.step_11-requires-clause-asks
step_11-requires-clause-asks c =
    let head = c.step_9-head.result in
    let view = view_of c.args.pass.now in
    let one = view_of c.step_9-head.new.pass in
    let two = view_of c.step_9.new.pass in
    let first = c.step_9-head.ensures.step in
    let second = c.step_9.ensures.step in
    let list = loaded-list view one SlotHead head first c.requires.list in
    may-take-last two (head - 1) (loaded-list one two (SlotNext (head - 1)) c.step_9.result second list)
    (head-index one two (SlotNext (head - 1)) head c.step_9.result list (loaded-word view one SlotHead head first) c.if-head-eq0.false second)
    (loaded-word one two (SlotNext (head - 1)) c.step_9.result second ∙ c.if-step_9-ne0.false)

pub returns-clause-index : goal.returns-clause-index
returns-clause-index c =
    let head = c.step_9-head.result in
    let view = view_of c.args.pass.now in
    let one = view_of c.step_9-head.new.pass in
    let two = view_of c.step_9.new.pass in
    let first = c.step_9-head.ensures.step in
    let second = c.step_9.ensures.step in
    let list = loaded-list view one SlotHead head first c.requires.list in
    let most = c.if-head-config.false in
    let sizes = ap (λ (k : Config). k.bodies) c.config.ensures.sizes in
    let some = c.if-head-eq0.false in (
      omega arith,
      creates-next two (view_of c.step_11.new.pass) (head - 1) (loaded-list one two (SlotNext (head - 1)) c.step_9.result second list)
          (head-index one two (SlotNext (head - 1)) head c.step_9.result list (loaded-word view one SlotHead head first) c.if-head-eq0.false second)
          c.step_11.ensures.step,
    )
