use Rattle.std.proofs.Common.{◌<◌, ◌≡◌, All, ◌∙◌, refl, ap, sym, subst, arith}
use Rattle.std.proofs.lemmas.List.{get_or_read}
use Rattle.std.proofs.lemmas.List.Elements.{All-get_or}
use Rattle.body_ident.specs.Id.{Id}
use Rattle.word_map.specs.declared.config.Config.{Config}
use Rattle.core_state.specs.declared.view.Mode.TheVariants.{Write}
use Rattle.pass_table.specs.TakeTurns.{LoadedNone}
use Rattle.pass_table.specs.Passes.{view_of}
use Rattle.body_look.specs.declared.look_op.LookDepth.TheVariants.{Phase as ItsPhase}
use Rattle.body_look.specs.declared.look_op.LookOp.{LookOp}
use Rattle.body_look.specs.stages.Looking.{looking_of, IsLooking, look_left, look_takes}
use Rattle.batch_add.proofs.MarkBegun.{marking-begun}
use Rattle.batch_add.proofs.mark_op.Marking.new.Goals as goal

pub new-look-requires-clause-below : goal.new-look-requires-clause-below
new-look-requires-clause-below c =
    let ids = c.args.ids.items in
    let past : Id = record { index = 0; seq = 0 } in
    let first = get_or_read ids 0 c.index.result.now c.requires.some c.index.ensures past in
    let bodies = c.args.world.now.map.bodies in
    subst (λ (i : Id). i.index < bodies) (sym first) (All-get_or (λ (i : Id). i.index < bodies) ids 0 past c.requires.some c.requires.below)

pub returns-clause-left : goal.returns-clause-left
returns-clause-left c =
    let six : look_left c.new-look.result ≡ 6 = ap look_left c.new-look.ensures.begun in
    let some = c.requires.some in
    omega arith

pub returns-clause-under_way : goal.returns-clause-under_way
returns-clause-under_way c =
    let view = view_of c.args.pass.now in
    let next = view_of c.new-look.new.pass in
    let ids = c.args.ids.items in
    let look = c.new-look.result in
    let sizes = c.requires.of.sizes in
    let still : next ≡ view = ap view_of c.new-look.ensures.pass in
    let first = get_or_read ids 0 c.index.result.now c.requires.some c.index.ensures (record { index = 0; seq = 0 }) in
    let begun = c.new-look.ensures.begun ∙ (λ i. looking_of ((sym sizes) i) (first i) Write ItsPhase) in
    marking-begun _ view next c.args.pass.now.number refl refl c.args.pass.now.numbered c.requires.rest c.requires.some c.requires.room
    (subst (λ (s : Config). All (λ (id : Id). id.index < s.bodies) ids) (sym sizes) c.requires.below) c.requires.newest
    (subst (λ (l : LookOp). IsLooking l view look next) begun c.new-look.ensures.under_way)

pub returns-clause-unloaded : goal.returns-clause-unloaded
returns-clause-unloaded c = subst (λ (l : LookOp). LoadedNone (look_takes l)) (sym c.new-look.ensures.begun) refl
