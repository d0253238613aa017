use Rattle.std.proofs.Common.{◌<◌, List, All, Some, length, map, refl, sym, ap, ◌∙◌, subst, arith}
use Rattle.std.specs.Prelude.{Option}
use Rattle.scene_model.specs.Need.{need}
use Rattle.pass_table.specs.Passes.{view_of}
use Rattle.reply_text.specs.declared.refusal.Refusal.{Refusal}
use Rattle.script_player.specs.declared.books.Known.{Known}
use Rattle.world_host.specs.Batches.{TakesAlone}
use Rattle.world_host.proofs.KnownNames.{known-all-below}
use Rattle.world_host.proofs.NamedTurns.{some-of}
use Rattle.world_host.proofs.TakenTurns.{known-many, kept-turn, unkept-turn}
use Rattle.world_host.proofs.serial_world.SerialWorld.prepare.Goals as goal

pub batch_of-requires : goal.batch_of-requires
batch_of-requires g c =
    let a = c.args.self.now in
    let known = some-of c.in_ok-bodies.field-0 c.in-Some.bodies (λ v. v.items) _ c.in_ok-bodies.ensures c.in-Some.is in
    let many = known-many a.books c.args.names.now c.in-Some.bodies.items known in
    let same = ap (length {A = Known}) c.deref.ensures.value in
    let few = c.requires.few in
    let most = a.world.in_limits.bodies.1 in
    record { few = omega (arith, many, same, few, most) }

pub prepare_alone-requires-clause-below : goal.prepare_alone-requires-clause-below
prepare_alone-requires-clause-below g c =
    let a = c.args.self.now in
    let known = some-of c.in_ok-bodies.field-0 c.in-Some.bodies (λ v. v.items) _ c.in_ok-bodies.ensures c.in-Some.is in
    subst (All (λ (k : Known). k.id.index < a.world.map.bodies)) (sym c.deref-2.ensures.value) (known-all-below a.world.map.bodies a.books c.args.names.now c.in-Some.bodies.items c.requires.sound.names known)

pub prepare_alone-requires-clause-few : goal.prepare_alone-requires-clause-few
prepare_alone-requires-clause-few g c =
    let a = c.args.self.now in
    let known = some-of c.in_ok-bodies.field-0 c.in-Some.bodies (λ v. v.items) _ c.in_ok-bodies.ensures c.in-Some.is in
    let many = known-many a.books c.args.names.now c.in-Some.bodies.items known in
    let same = ap (length {A = Known}) c.deref-2.ensures.value in
    let few = c.requires.few in
    omega (arith, many, same, few)

pub returns-in-None : goal.returns-in-None
returns-in-None g c =
    let a = c.args.self.now in
    let b = record a { pass = c.prepare_alone.new.pass; books = c.keep_batch.new.self; batches = c.prepare_alone.new.batches } in
    let bodies : List Known = c.deref-2.result.now in
    let known = some-of c.in_ok-bodies.field-0 c.in-Some.bodies (λ v. v.items) _ c.in_ok-bodies.ensures c.in-Some.is ∙ ap Some (sym c.deref-2.ensures.value) in
    let kept = c.in_ok-kept.ensures in
    let same = ap (λ (l : List Known). map (λ (k : Known). k.id.index) l) (c.deref.ensures.value ∙ sym c.deref-2.ensures.value) in
    let many = c.deref.ensures.value ∙ sym c.deref-2.ensures.value in
    let takes = subst (λ (r : Option Refusal). TakesAlone c.args.layer bodies a.batches b.batches (view_of a.pass) (view_of b.pass) r) c.in-None.is c.in_ok-prepare_alone.ensures.takes in
    kept-turn a b c.args.batch.now c.args.layer c.args.names.now bodies c.requires.sound known (sym c.if-has_batch.ensures) c.in_ok-prepare_alone.ensures.lone c.in_ok-prepare_alone.ensures.good refl refl refl refl
    c.in_ok-kept.kept kept.name kept.layer (kept.indexes ∙ same) (kept.nodes ∙ ap (λ (l : List Known). need (length l)) many) c.in_ok-keep_batch-in-None.ensures takes

pub returns : goal.returns
returns g c =
    let a = c.args.self.now in
    let b = record a { pass = c.prepare_alone.new.pass; batches = c.prepare_alone.new.batches } in
    let bodies : List Known = c.deref-2.result.now in
    let known = some-of c.in_ok-bodies.field-0 c.in-Some.bodies (λ v. v.items) _ c.in_ok-bodies.ensures c.in-Some.is ∙ ap Some (sym c.deref-2.ensures.value) in
    let takes = subst (λ (r : Option Refusal). TakesAlone c.args.layer bodies a.batches b.batches (view_of a.pass) (view_of b.pass) r) c.in-Some-2.is c.in_ok-prepare_alone.ensures.takes in
    unkept-turn a b c.args.batch.now c.args.layer c.args.names.now bodies c.requires.sound known (sym c.if-has_batch.ensures) c.in_ok-prepare_alone.ensures.lone c.in_ok-prepare_alone.ensures.good refl refl refl refl
    c.in-Some-2.refusal refl takes
