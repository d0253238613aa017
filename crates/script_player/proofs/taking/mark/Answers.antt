use Rattle.std.proofs.Common.{◌∙◌, sym, ap}
use Rattle.script_player.specs.Taking.{mark_refusal}
use Rattle.script_player.specs.declared.books.Known.{Known}
use Rattle.script_player.proofs.Marking.{marked_stop}
use Rattle.script_player.proofs.taking.mark.Goals as goal

pub returns-in-Some : goal.returns-in-Some
returns-in-Some c =
    marked_stop c.args.layer c.args.scene.now c.loop-known.scene c.args.bodies.now c.loop-known.indexes.items c.loop-known.known-index c.known-item.result c.in-Some.refusal
    c.loop-known.invariant c.loop-known-test.true
    (ap (λ (known : Known). mark_refusal c.loop-known.scene c.args.layer known.id) (sym c.known-item.is) ∙ (sym c.mark_refusal.ensures ∙ c.in-Some.is))
