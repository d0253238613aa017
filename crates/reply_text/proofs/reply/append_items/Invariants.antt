use Rattle.std.proofs.Common.{◌≡◌, ◌∷◌, ◌++◌, take}
use Rattle.std.specs.List.{flat_map}
use Rattle.reply_text.specs.Reply.{item_text}
use Rattle.reply_text.proofs.reply.append_items.Given as goal

-- the items so far stand at the end
abbrev pub invariant-loop-item : goal.invariant-loop-item
invariant-loop-item l = l.out.items ≡ l.fn.out.items ++ flat_map (λ item. 32 ∷ item_text item) (take l.item-index l.items)
