use Rattle.std.proofs.Common.{◌≤◌, ℕ, refl, sym, subst}
use Rattle.world_host.specs.Counted.{destroys, removes}
use Rattle.world_host.specs.Shown.{table_of}
use Rattle.world_host.proofs.ChangedBodies.{named-refused, named-counted, live-enough, inside-enough}
use Rattle.world_host.proofs.serial_world.SerialWorld.change.Goals as goal

pub count-requires-clause-live : goal.count-requires-clause-live
count-requires-clause-live g c =
    let a = c.args.self.now in
    subst (λ (n : ℕ). destroys c.args.change ≤ n) (sym c.requires.sound.live)
    (live-enough a.pass c.change_alone.new.pass c.args.change c.in-Some.known (table_of a) (c.in-None.ensures.changed (table_of a) refl))

pub count-requires-clause-inside : goal.count-requires-clause-inside
count-requires-clause-inside g c =
    let a = c.args.self.now in
    subst (λ (n : ℕ). removes c.args.change ≤ n) (sym c.requires.sound.inside)
    (inside-enough a.pass c.change_alone.new.pass c.args.change c.in-Some.known (table_of a) (c.in-None.ensures.changed (table_of a) refl))

pub returns-in-None : goal.returns-in-None
returns-in-None g c =
    let a = c.args.self.now in
    let b = record a { pass = c.change_alone.new.pass } in
    named-counted a b c.count.new.self c.args.change c.args.name.now c.in-Some.known c.requires.sound (sym c.in-Some.ensures) c.in-None.ensures.lone refl refl c.count.ensures (c.in-None.ensures.changed (table_of a) refl)

pub returns-in-Some-change_alone : goal.returns-in-Some-change_alone
returns-in-Some-change_alone g c =
    let a = c.args.self.now in
    named-refused a (record a { pass = c.change_alone.new.pass }) c.args.change c.args.name.now c.in-Some.known c.requires.sound (sym c.in-Some.ensures) c.in-Some-change_alone.ensures.lone refl refl c.in-Some-change_alone.refusal
    (c.in-Some-change_alone.ensures.changed (table_of a) refl) refl refl
