use Rattle.std.proofs.Common.{◌≡◌, ℕ, ◌∙◌, Some, ap, subst, arith}
use Rattle.std.specs.List.{range_with_len}
use Rattle.script_player.specs.Table.{Table}
use Rattle.script_player.specs.Batches.{add_layers}
use Rattle.script_player.specs.Shown.{Tries}
use Rattle.script_player.proofs.Layers.{added_stop}
use Rattle.script_player.proofs.plain_player.PlainPlayer.add_layers.Goals as goal

pub returns-in-Some : goal.returns-in-Some
returns-in-Some c =
    let old = c.args.self.now in
    let layers = c.self.inside.world.layers in
    let same : layers ≡ old.world.layers = ap (λ (t : Table). t.world.layers) c.self.view_is in
    let P : ℕ → Type 0 = λ n. Tries (add_layers old c.args.bodies.now (range_with_len 0 n)) old c.add_layer.new.self (Some c.in-Some.refusal) in
    subst P same
    (added_stop old c.loop-layer.self c.add_layer.new.self c.args.bodies.now c.deref.result.now layers c.loop-layer.layer c.in_ok-refusal.field-0 c.in-Some.refusal
    c.loop-layer.invariant (omega arith) (c.deref.ensures.value ∙ c.in_ok-part.ensures) c.in_ok-refusal.ensures c.in-Some.is)
