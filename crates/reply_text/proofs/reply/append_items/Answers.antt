use Rattle.std.proofs.Common.{rules, ◌∷◌, take}
use Rattle.std.specs.List.{flat_map}
use Rattle.reply_text.specs.Reply.{item_text}
use Rattle.script_text.proofs.Spaced.{front_kept}
use Rattle.reply_text.proofs.reply.append_items.Goals as goal

pub returns-in_err-append_item-clause-err : goal.returns-in_err-append_item-clause-err
returns-in_err-append_item-clause-err c =
    let kept =
    front_kept c.args.out.now.items c.loop-item.out.items c.append_item.new.out.items (flat_map (λ item. 32 ∷ item_text item) (take c.loop-item.item-index c.args.items.now))
    c.loop-item.invariant c.in_err-append_item.ensures.err in
    search rules
