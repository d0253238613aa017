use Rattle.std.proofs.Common.{rules, List, ◌+◌, sym, subst, ap, ◌∙◌}
use Rattle.pass_table.specs.Passes.{view_of}
use Rattle.reply_text.specs.declared.multi.MultiItem.{MultiItem}
use Rattle.world_host.proofs.ReadItems.{HasRead, told_in, read_more}
use Rattle.world_host.proofs.reading.items_alone.Goals as goal

pub loop-known-preserved : goal.loop-known-preserved
loop-known-preserved g c =
    let start = view_of c.args.pass.now in
    let bodies = c.args.bodies.now in
    let at = c.loop-known.known-index in
    subst (λ (items : List MultiItem). HasRead c.args.world.now start c.item_alone.new.pass bodies items (at + 1)) (sym c.in_ok-push.ensures.items)
    (read_more c.args.world.now start c.loop-known.pass c.item_alone.new.pass bodies c.loop-known.items.items at c.known-item.result c.item_alone.result c.loop-known.invariant (search rules) c.item_alone.ensures.lone
    c.item_alone.ensures.leaves (c.item_alone.ensures.item ∙ ap (told_in (view_of c.loop-known.pass)) c.known-item.is))
