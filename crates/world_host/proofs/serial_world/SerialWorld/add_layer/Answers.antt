use Rattle.std.proofs.Common.{◌+◌, ◌≤◌, ℕ, length, refl, sym, ap, ◌∙◌, subst, arith}
use Rattle.std.specs.Prelude.{Option}
use Rattle.pass_table.specs.Passes.{view_of}
use Rattle.reply_text.specs.declared.refusal.Refusal.{Refusal}
use Rattle.script_player.specs.Books.{with_attached}
use Rattle.world_host.specs.Batches.{AddsAlone}
use Rattle.world_host.proofs.AddedBatches.{some-bodies, added-fits, added-turn, unadded-turn}
use Rattle.world_host.proofs.serial_world.SerialWorld.add_layer.Goals as goal

pub returns-in-Some : goal.returns-in-Some
returns-in-Some g c =
    let a = c.args.self.now in
    let b = record a { pass = c.add_alone.new.pass; batches = c.add_alone.new.batches } in
    let ends = c.in_ok-refusal.ensures in
    let some = some-bodies c.args.bodies.now (sym c.is_empty.ensures ∙ c.if-is_empty.false) in
    let adds = subst (λ (r : Option Refusal). AddsAlone c.args.layer c.args.bodies.now (view_of a.pass) (view_of b.pass) r) c.in-Some.is ends.adds in
    unadded-turn a b c.args.layer c.args.bodies.now c.requires.sound some ends.lone ends.good ends.same refl refl refl c.in-Some.refusal refl refl adds

pub overflow_add-self : goal.overflow_add-self
overflow_add-self g c =
    let a = c.args.self.now in
    let ends = c.in_ok-refusal.ensures in
    let adds = subst (λ (r : Option Refusal). AddsAlone c.args.layer c.args.bodies.now (view_of a.pass) (view_of c.add_alone.new.pass) r) c.in_default.is ends.adds in
    let fits : a.inside + length c.args.bodies.now ≤ 65536 = added-fits a a.world c.add_alone.new.pass c.args.layer c.args.bodies.now c.requires.sound ends.lone.idle.of adds in
    omega (arith, fits)

pub returns : goal.returns
returns g c =
    let a = c.args.self.now in
    let b = record a { pass = c.add_alone.new.pass; books = c.attach.new.self; batches = c.add_alone.new.batches; inside = a.inside + length c.args.bodies.now } in
    let ends = c.in_ok-refusal.ensures in
    let some = some-bodies c.args.bodies.now (sym c.is_empty.ensures ∙ c.if-is_empty.false) in
    let adds = subst (λ (r : Option Refusal). AddsAlone c.args.layer c.args.bodies.now (view_of a.pass) (view_of b.pass) r) c.in_default.is ends.adds in
    added-turn a b c.args.layer c.args.bodies.now c.requires.sound some ends.lone ends.good ends.same refl refl refl
    (c.in_ok-attach.ensures ∙ ap (λ (n : ℕ). with_attached a.books c.args.layer n) c.need.ensures.exact) refl adds
