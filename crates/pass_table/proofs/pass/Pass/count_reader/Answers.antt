use Rattle.std.proofs.Common.{sym, ◌∙◌, refl, arith}
use Rattle.pass_table.proofs.Leaving.{may-step, stepped-named, number-left, turned-walk, of-left, turned-held}
use Rattle.pass_table.proofs.Bodies.{stepped-current}
use Rattle.pass_table.proofs.pass.Pass.count_reader.Goals as goal

pub fetch_add-found-requires-clause-may : goal.fetch_add-found-requires-clause-may
fetch_add-found-requires-clause-may g c =
    let world = c.args.world.now in
    let pass = c.args.self.now in
    may-step _ world.table.shared.key world.map world.table.shared.table_id pass.seat.me c.place-place.result 1 0 pass.number c.args.name
    world.sized.0 world.sized.1 c.requires.of.sizes c.place-place.ensures.in_range c.place-place.ensures.name pass.numbered (omega arith) (omega arith) c.requires.asks

pub invariant_of-self-clause-numbered : goal.invariant_of-self-clause-numbered
invariant_of-self-clause-numbered g c = let pass = c.args.self.now in number-left _ _ pass.seat.me.0 _ _ _ _ _ c.fetch_add-found.ensures.step pass.number pass.numbered

pub invariant_of-self-clause-holds : goal.invariant_of-self-clause-holds
invariant_of-self-clause-holds g c = let pass = c.args.self.now in turned-held _ _ pass.seat.me.0 _ _ _ _ _ c.fetch_add-found.ensures.step g.met.K.TurningKind.turns pass.held pass.written pass.holds

pub invariant_of-self-clause-walking : goal.invariant_of-self-clause-walking
invariant_of-self-clause-walking g c = let pass = c.args.self.now in c.requires.walks ∙ sym (turned-walk _ _ pass.seat.me.0 _ _ _ _ _ c.fetch_add-found.ensures.step _ g.met.K.TurningKind.turns)

pub invariant_of-self-clause-current : goal.invariant_of-self-clause-current
invariant_of-self-clause-current g c = ∣ stepped-current _ _ _ _ _ _ _ _ c.fetch_add-found.ensures.step ∣₁

pub returns-clause-of : goal.returns-clause-of
returns-clause-of g c = of-left _ _ c.args.world.now c.args.self.now _ _ _ _ _ c.fetch_add-found.ensures.step c.fetch_add-found.ensures.seat.0 c.requires.of

pub returns-clause-step : goal.returns-clause-step
returns-clause-step g c = stepped-named _ _ _ _ _ _ c.args.world.now.map _ _ _ _ c.args.name c.args.world.now.sized.0 c.place-place.ensures.name refl c.fetch_add-found.ensures.step
