use Rattle.std.proofs.Common.{◌≡◌, ◌<◌, ◌≤◌, ◌==◌, ℕ, All, length, Some, sym, ap, ◌∙◌, subst, arith}
use Rattle.std.specs.List.{range_with_len}
use Rattle.std.proofs.lemmas.List.Elements.{All-filter}
use Rattle.std.proofs.lemmas.List.Sums.{length-filter, count_by-le-length}
use Rattle.word_map.specs.declared.config.Config.{Config}
use Rattle.script_player.specs.declared.books.Known.{Known}
use Rattle.script_player.specs.Batches.{in_layer, add_layers}
use Rattle.world_host.specs.Shown.{table_of, Attempts}
use Rattle.world_host.proofs.AddedLayers.{added-none, added-more, added-stop}
use Rattle.world_host.proofs.serial_world.SerialWorld.add_layers.Goals as goal

pub loop-layer-init : goal.loop-layer-init
loop-layer-init g c = added-none c.args.self.now c.args.bodies.now c.config-layers.result.layers c.requires.sound

pub add_layer-requires-clause-below : goal.add_layer-requires-clause-below
add_layer-requires-clause-below g c =
    let P : Known → Type 0 = λ k. k.id.index < c.args.self.now.world.map.bodies in
    let part = c.deref.ensures.value ∙ c.in_ok-part.ensures in
    subst (λ (w : Config). All (λ (k : Known). k.id.index < w.bodies) c.deref.result.now) (sym c.loop-layer.invariant.sizes)
    (subst (All P) (sym part) (All-filter (λ (k : Known). k.layer == c.loop-layer.layer) P c.args.bodies.now c.requires.below))

pub add_layer-requires-clause-few : goal.add_layer-requires-clause-few
add_layer-requires-clause-few g c =
    let p = λ (k : Known). k.layer == c.loop-layer.layer in
    let part = ap (length {A = Known}) (c.deref.ensures.value ∙ c.in_ok-part.ensures) in
    let kept : length (in_layer c.loop-layer.layer c.args.bodies.now) ≤ length c.args.bodies.now = subst (λ (n : ℕ). n ≤ length c.args.bodies.now) (sym (length-filter p c.args.bodies.now)) (count_by-le-length p c.args.bodies.now) in
    let few = c.requires.few in
    let same = ap (λ (w : Config). w.bodies) c.loop-layer.invariant.sizes in
    omega (arith, part, kept, few, same)

pub returns-in-Some : goal.returns-in-Some
returns-in-Some g c =
    let a = c.args.self.now in
    let layers = c.config-layers.result.layers in
    let same : layers ≡ a.world.map.layers = ap (λ (w : Config). w.layers) c.config-layers.ensures.sizes in
    subst (λ (n : ℕ). Attempts (add_layers (table_of a) c.args.bodies.now (range_with_len 0 n)) a c.add_layer.new.self (Some c.in-Some.refusal)) same
    (added-stop a c.loop-layer.self c.add_layer.new.self c.args.bodies.now c.deref.result.now layers c.loop-layer.layer c.in_ok-refusal.field-0 c.in-Some.refusal c.loop-layer.invariant c.loop-layer-test.true
    (c.deref.ensures.value ∙ c.in_ok-part.ensures) c.in_ok-refusal.ensures c.in-Some.is)

pub loop-layer-preserved : goal.loop-layer-preserved
loop-layer-preserved g c =
    added-more c.args.self.now c.loop-layer.self c.add_layer.new.self c.args.bodies.now c.deref.result.now c.config-layers.result.layers c.loop-layer.layer c.in_ok-refusal.field-0 c.loop-layer.invariant c.loop-layer-test.true
    (c.deref.ensures.value ∙ c.in_ok-part.ensures) c.in_ok-refusal.ensures c.in_default.is
