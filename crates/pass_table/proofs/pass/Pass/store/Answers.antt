use Rattle.std.proofs.Common.{sym, ◌∙◌, refl, arith}
use Rattle.pass_table.proofs.Leaving.{may-step, stepped-named, number-left, walk-left, of-left, still-held}
use Rattle.pass_table.proofs.Bodies.{stepped-current}
use Rattle.pass_table.proofs.pass.Pass.store.Goals as goal

pub store-requires-clause-may : goal.store-requires-clause-may
store-requires-clause-may g c =
    let world = c.args.world.now in
    let pass = c.args.self.now in
    may-step _ world.table.shared.key world.map world.table.shared.table_id pass.seat.me c.place-place.result c.args.value 0 pass.number c.args.name
    world.sized.0 world.sized.1 c.requires.of.sizes c.place-place.ensures.in_range c.place-place.ensures.name pass.numbered c.ranges.value.fits (omega arith) c.requires.asks

pub invariant_of-self-clause-numbered : goal.invariant_of-self-clause-numbered
invariant_of-self-clause-numbered g c = let pass = c.args.self.now in number-left _ _ pass.seat.me.0 _ _ _ _ _ c.store.ensures.step.1 pass.number pass.numbered

pub invariant_of-self-clause-holds : goal.invariant_of-self-clause-holds
invariant_of-self-clause-holds g c = let pass = c.args.self.now in still-held _ _ pass.seat.me.0 _ _ _ _ _ c.store.ensures.step.1 g.met.K.StillKind.still pass.held pass.written pass.holds

pub invariant_of-self-clause-walking : goal.invariant_of-self-clause-walking
invariant_of-self-clause-walking g c = let pass = c.args.self.now in pass.walking ∙ sym (walk-left _ _ pass.seat.me.0 _ _ _ _ _ c.store.ensures.step.1 g.met.K.StillKind.still)

pub invariant_of-self-clause-current : goal.invariant_of-self-clause-current
invariant_of-self-clause-current g c = ∣ stepped-current _ _ _ _ _ _ _ _ c.store.ensures.step.1 ∣₁

pub returns-clause-of : goal.returns-clause-of
returns-clause-of g c = of-left _ _ c.args.world.now c.args.self.now _ _ _ _ _ c.store.ensures.step.1 c.store.ensures.seat.0 c.requires.of

pub returns-clause-step : goal.returns-clause-step
returns-clause-step g c = (c.store.ensures.step.0, stepped-named _ _ _ _ _ _ c.args.world.now.map _ _ _ _ c.args.name c.args.world.now.sized.0 c.place-place.ensures.name refl c.store.ensures.step.1)
