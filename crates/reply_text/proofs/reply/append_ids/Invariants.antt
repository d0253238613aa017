use Rattle.std.proofs.Common.{◌≡◌, ◌∷◌, ◌++◌, take}
use Rattle.std.specs.List.{flat_map}
use Rattle.body_ident.specs.Text.{id_text}
use Rattle.reply_text.proofs.reply.append_ids.Given as goal

-- the ids so far stand at the end
abbrev pub invariant-loop-id : goal.invariant-loop-id
invariant-loop-id l = l.out.items ≡ l.fn.out.items ++ flat_map (λ i. 32 ∷ id_text i) (take l.id-index l.ids)
