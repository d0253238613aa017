use Rattle.std.proofs.Common.{refl, sym, ◌∙◌, arith}
use Rattle.word_map.specs.declared.name.Name.TheVariants.{Lock}
use Rattle.core_state.specs.Locking.{MayRelease, release}
use Rattle.pass_table.proofs.Leaving.{may-step, may-release, lock-below, stepped-named, number-left, of-left, held-let_go, let_go-walk}
use Rattle.pass_table.proofs.Bodies.{stepped-current}
use Rattle.pass_table.proofs.pass.Pass.let_go.Goals as goal

pub place-place-requires : goal.place-place-requires
place-place-requires c = c.requires.named

pub taken_away-summand-requires-clause-lock : goal.taken_away-summand-requires-clause-lock
taken_away-summand-requires-clause-lock c = lock-below c.args.world.now.map c.args.lock c.args.world.now.in_limits c.requires.named

pub taken_away-summand-requires-clause-holds : goal.taken_away-summand-requires-clause-holds
taken_away-summand-requires-clause-holds c = (c.requires.may.mode, c.requires.may.holds)

pub fetch_add-found-requires-clause-own : goal.fetch_add-found-requires-clause-own
fetch_add-found-requires-clause-own c = c.requires.of.table

pub fetch_add-found-requires-clause-adds : goal.fetch_add-found-requires-clause-adds
fetch_add-found-requires-clause-adds c = refl

pub fetch_add-found-requires-clause-may : goal.fetch_add-found-requires-clause-may
fetch_add-found-requires-clause-may c =
    let world = c.args.world.now in
    let pass = c.args.self.now in
    let away = c.taken_away-summand.ensures in
    may-step MayRelease world.table.shared.key world.map world.table.shared.table_id pass.seat.me c.place-place.result c.taken_away-summand.result 0 pass.number (Lock c.args.lock)
    world.sized.0 world.sized.1 c.requires.of.sizes c.place-place.ensures.in_range c.place-place.ensures.name pass.numbered c.taken_away-summand.type_inv (omega arith)
    (may-release pass.seat.me.0 c.args.lock pass.number c.taken_away-summand.result away.0 pass.numbered away.1 c.requires.may.done away.2)

pub remove-requires : goal.remove-requires
remove-requires c = lock-below c.args.world.now.map c.args.lock c.args.world.now.in_limits c.requires.named

pub invariant_of-self-clause-few : goal.invariant_of-self-clause-few
invariant_of-self-clause-few c = c.args.self.now.few

pub invariant_of-self-clause-numbered : goal.invariant_of-self-clause-numbered
invariant_of-self-clause-numbered c =
    let pass = c.args.self.now in
    number-left _ _ pass.seat.me.0 _ _ _ _ _ c.fetch_add-found.ensures.step pass.number pass.numbered

pub invariant_of-self-clause-holds : goal.invariant_of-self-clause-holds
invariant_of-self-clause-holds c =
    let a = c.args in
    let world = a.world.now in
    let pass = a.self.now in
    held-let_go _ pass.seat.me.0 _ a.lock _ _ c.fetch_add-found.result
    (stepped-named _ _ release _ _ _ world.map _ _ _ _ (Lock a.lock) world.sized.0 c.place-place.ensures.name refl c.fetch_add-found.ensures.step)
    pass.held pass.written _ c.remove.ensures pass.holds

pub invariant_of-self-clause-walking : goal.invariant_of-self-clause-walking
invariant_of-self-clause-walking c =
    let a = c.args in
    let world = a.world.now in
    let pass = a.self.now in
    pass.walking ∙
    sym
    (let_go-walk _ pass.seat.me.0 _ a.lock _ _ c.fetch_add-found.result
    (stepped-named _ _ release _ _ _ world.map _ _ _ _ (Lock a.lock) world.sized.0 c.place-place.ensures.name refl c.fetch_add-found.ensures.step))

pub invariant_of-self-clause-current : goal.invariant_of-self-clause-current
invariant_of-self-clause-current c = ∣ stepped-current _ _ _ _ _ _ _ _ c.fetch_add-found.ensures.step ∣₁

pub returns-clause-of : goal.returns-clause-of
returns-clause-of c = of-left _ _ c.args.world.now c.args.self.now _ _ _ _ _ c.fetch_add-found.ensures.step c.fetch_add-found.ensures.seat.0 c.requires.of

pub returns-clause-step : goal.returns-clause-step
returns-clause-step c = (
  c.taken_away-summand.result,
  stepped-named _ _ release _ _ _ c.args.world.now.map _ _ _ _ (Lock c.args.lock) c.args.world.now.sized.0 c.place-place.ensures.name refl c.fetch_add-found.ensures.step,
)
