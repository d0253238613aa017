use Rattle.std.proofs.Common.{ℕ, sym, ◌∙◌, subst}
use Rattle.word_map.specs.declared.name.Name.TheVariants.{Lock}
use Rattle.core_state.specs.declared.view.Mode.{Mode}
use Rattle.core_state.specs.Locking.{take}
use Rattle.pass_table.specs.Holding.{AreHeld}
use Rattle.pass_table.specs.LockSets.{IsChanged}
use Rattle.pass_table.specs.Stepping.{Stepped}
use Rattle.pass_table.proofs.Leaving.{may-step, lock-below, stepped-named, number-left, of-left, written_bit, held-took, missed-locks, took-walk}
use Rattle.pass_table.proofs.Bodies.{stepped-current}
use Rattle.pass_table.proofs.pass.Pass.take.Goals as goal

pub invariant_of-self-in-Read-clause-holds : goal.invariant_of-self-in-Read-clause-holds
invariant_of-self-in-Read-clause-holds g c =
    let a = c.args in
    let world = a.world.now in
    let pass = a.self.now in
    held-took _ a.mode pass.seat.me.0 _ a.lock a.expected a.new c.compare_exchange-found.result
    (stepped-named _ _ (take a.mode) _ _ _ world.map _ _ _ _ (Lock a.lock) world.sized.0 c.place-place.ensures.name c.requires.takes c.compare_exchange-found.ensures.step)
    pass.held pass.written _ c.remove.new.self c.if-found-expected.false c.insert.ensures
    (subst (λ (m : Mode). IsChanged pass.written a.lock (written_bit m) c.remove.new.self) (sym c.in-Read.is) c.remove.ensures)
    pass.holds

pub invariant_of-self-in-Read-clause-walking : goal.invariant_of-self-in-Read-clause-walking
invariant_of-self-in-Read-clause-walking g c =
    let a = c.args in
    let world = a.world.now in
    let pass = a.self.now in
    pass.walking ∙
    sym
    (took-walk _ a.mode pass.seat.me.0 _ a.lock a.expected a.new c.compare_exchange-found.result
    (stepped-named _ _ (take a.mode) _ _ _ world.map _ _ _ _ (Lock a.lock) world.sized.0 c.place-place.ensures.name c.requires.takes c.compare_exchange-found.ensures.step))

pub invariant_of-self-in-Write-clause-holds : goal.invariant_of-self-in-Write-clause-holds
invariant_of-self-in-Write-clause-holds g c =
    let a = c.args in
    let world = a.world.now in
    let pass = a.self.now in
    held-took _ a.mode pass.seat.me.0 _ a.lock a.expected a.new c.compare_exchange-found.result
    (stepped-named _ _ (take a.mode) _ _ _ world.map _ _ _ _ (Lock a.lock) world.sized.0 c.place-place.ensures.name c.requires.takes c.compare_exchange-found.ensures.step)
    pass.held pass.written _ c.insert-in-Write.new.self c.if-found-expected.false c.insert.ensures
    (subst (λ (m : Mode). IsChanged pass.written a.lock (written_bit m) c.insert-in-Write.new.self) (sym c.in-Write.is) c.insert-in-Write.ensures)
    pass.holds

pub invariant_of-self-in-Write-clause-walking : goal.invariant_of-self-in-Write-clause-walking
invariant_of-self-in-Write-clause-walking g c =
    let a = c.args in
    let world = a.world.now in
    let pass = a.self.now in
    pass.walking ∙
    sym
    (took-walk _ a.mode pass.seat.me.0 _ a.lock a.expected a.new c.compare_exchange-found.result
    (stepped-named _ _ (take a.mode) _ _ _ world.map _ _ _ _ (Lock a.lock) world.sized.0 c.place-place.ensures.name c.requires.takes c.compare_exchange-found.ensures.step))

pub place-place-requires : goal.place-place-requires
place-place-requires g c = c.requires.named

pub compare_exchange-found-requires-clause-may : goal.compare_exchange-found-requires-clause-may
compare_exchange-found-requires-clause-may g c =
    let world = c.args.world.now in
    let pass = c.args.self.now in
    may-step _ world.table.shared.key world.map world.table.shared.table_id pass.seat.me c.place-place.result c.args.expected c.args.new pass.number (Lock c.args.lock)
    world.sized.0 world.sized.1 c.requires.of.sizes c.place-place.ensures.in_range c.place-place.ensures.name pass.numbered c.ranges.expected.fits c.ranges.new.fits c.requires.asks

pub insert-requires : goal.insert-requires
insert-requires g c = lock-below c.args.world.now.map c.args.lock c.args.world.now.in_limits c.requires.named

pub remove-requires : goal.remove-requires
remove-requires g c = lock-below c.args.world.now.map c.args.lock c.args.world.now.in_limits c.requires.named

pub insert-requires-in-Write : goal.insert-requires-in-Write
insert-requires-in-Write g c = lock-below c.args.world.now.map c.args.lock c.args.world.now.in_limits c.requires.named

pub invariant_of-self-in-Read-clause-numbered : goal.invariant_of-self-in-Read-clause-numbered
invariant_of-self-in-Read-clause-numbered g c = let pass = c.args.self.now in number-left _ _ pass.seat.me.0 _ _ _ _ _ c.compare_exchange-found.ensures.step pass.number pass.numbered

pub invariant_of-self-in-Write-clause-numbered : goal.invariant_of-self-in-Write-clause-numbered
invariant_of-self-in-Write-clause-numbered g c = let pass = c.args.self.now in number-left _ _ pass.seat.me.0 _ _ _ _ _ c.compare_exchange-found.ensures.step pass.number pass.numbered

pub invariant_of-self-clause-numbered : goal.invariant_of-self-clause-numbered
invariant_of-self-clause-numbered g c = let pass = c.args.self.now in number-left _ _ pass.seat.me.0 _ _ _ _ _ c.compare_exchange-found.ensures.step pass.number pass.numbered

pub invariant_of-self-clause-holds : goal.invariant_of-self-clause-holds
invariant_of-self-clause-holds g c =
    let a = c.args in
    let world = a.world.now in
    let pass = a.self.now in
    subst (AreHeld pass.held pass.written)
    (sym (missed-locks _ a.mode pass.seat.me.0 _ a.lock a.expected a.new c.compare_exchange-found.result
    (stepped-named _ _ (take a.mode) _ _ _ world.map _ _ _ _ (Lock a.lock) world.sized.0 c.place-place.ensures.name c.requires.takes c.compare_exchange-found.ensures.step) c.if-found-expected.true))
    pass.holds

pub invariant_of-self-clause-walking : goal.invariant_of-self-clause-walking
invariant_of-self-clause-walking g c =
    let a = c.args in
    let world = a.world.now in
    let pass = a.self.now in
    pass.walking ∙
    sym
    (took-walk _ a.mode pass.seat.me.0 _ a.lock a.expected a.new c.compare_exchange-found.result
    (stepped-named _ _ (take a.mode) _ _ _ world.map _ _ _ _ (Lock a.lock) world.sized.0 c.place-place.ensures.name c.requires.takes c.compare_exchange-found.ensures.step))

pub invariant_of-self-in-Read-clause-current : goal.invariant_of-self-in-Read-clause-current
invariant_of-self-in-Read-clause-current g c = ∣ stepped-current _ _ _ _ _ _ _ _ c.compare_exchange-found.ensures.step ∣₁

pub invariant_of-self-in-Write-clause-current : goal.invariant_of-self-in-Write-clause-current
invariant_of-self-in-Write-clause-current g c = ∣ stepped-current _ _ _ _ _ _ _ _ c.compare_exchange-found.ensures.step ∣₁

pub invariant_of-self-clause-current : goal.invariant_of-self-clause-current
invariant_of-self-clause-current g c = ∣ stepped-current _ _ _ _ _ _ _ _ c.compare_exchange-found.ensures.step ∣₁

pub returns-then-found-expected-clause-of : goal.returns-then-found-expected-clause-of
returns-then-found-expected-clause-of g c = of-left _ _ c.args.world.now c.args.self.now _ _ _ _ _ c.compare_exchange-found.ensures.step c.compare_exchange-found.ensures.seat.0 c.requires.of

pub returns-in-Read-clause-of : goal.returns-in-Read-clause-of
returns-in-Read-clause-of g c = of-left _ _ c.args.world.now c.args.self.now _ _ _ _ _ c.compare_exchange-found.ensures.step c.compare_exchange-found.ensures.seat.0 c.requires.of

pub returns-in-Write-clause-of : goal.returns-in-Write-clause-of
returns-in-Write-clause-of g c = of-left _ _ c.args.world.now c.args.self.now _ _ _ _ _ c.compare_exchange-found.ensures.step c.compare_exchange-found.ensures.seat.0 c.requires.of

pub returns-in-Read-clause-step : goal.returns-in-Read-clause-step
returns-in-Read-clause-step g c =
    let a = c.args in
    let world = a.world.now in
    let pass = a.self.now in
    let view = pass.seat.me.0 in
    subst (λ (n : ℕ). Stepped _ (take a.mode) view (Lock a.lock) a.expected a.new n c.compare_exchange-found.new.seat.me.0) c.if-found-expected.false
    (stepped-named _ _ (take a.mode) _ _ _ world.map _ _ _ _ (Lock a.lock) world.sized.0 c.place-place.ensures.name c.requires.takes c.compare_exchange-found.ensures.step)

pub returns-in-Write-clause-step : goal.returns-in-Write-clause-step
returns-in-Write-clause-step g c =
    let a = c.args in
    let world = a.world.now in
    let pass = a.self.now in
    let view = pass.seat.me.0 in
    subst (λ (n : ℕ). Stepped _ (take a.mode) view (Lock a.lock) a.expected a.new n c.compare_exchange-found.new.seat.me.0) c.if-found-expected.false
    (stepped-named _ _ (take a.mode) _ _ _ world.map _ _ _ _ (Lock a.lock) world.sized.0 c.place-place.ensures.name c.requires.takes c.compare_exchange-found.ensures.step)

pub returns-then-found-expected-clause-step : goal.returns-then-found-expected-clause-step
returns-then-found-expected-clause-step g c =
    let a = c.args in
    let world = a.world.now in
    (c.if-found-expected.true, stepped-named _ _ (take a.mode) _ _ _ world.map _ _ _ _ (Lock a.lock) world.sized.0 c.place-place.ensures.name c.requires.takes c.compare_exchange-found.ensures.step)
