use Rattle.std.proofs.Common.{◌≡◌, ℕ, ◌<◌, length, ◌∙◌, sym, ap, subst, arith, refl}
use Rattle.word_map.specs.declared.config.Config.{Config}
use Rattle.body_ident.specs.Id.{Id}
use Rattle.word_map.specs.Names.{lock_count}
use Rattle.core_state.specs.declared.view.View.{View}
use Rattle.body_look.specs.declared.look_op.LookDepth.TheVariants.{Phase as ItsPhase}
use Rattle.body_look.specs.declared.look_op.LookOp.{LookOp}
use Rattle.body_look.specs.stages.Looking.{looking_of, IsLooking, look_left, look_takes}
use Rattle.core_state.specs.declared.view.Mode.TheVariants.{Write}
use Rattle.pass_table.specs.declared.pass.Pass.{Pass}
use Rattle.pass_table.proofs.TakingTurns.{loads-none}
use Rattle.pass_table.specs.TakeTurns.{LoadedNone}
use Rattle.pass_table.specs.Passes.{view_of}
use Rattle.pass_table.proofs.Calling.{released-step, released-made}
use Rattle.batch_add.specs.declared.mark_op.MarkStage.TheVariants.{Looking, Leaving}
use Rattle.batch_add.specs.stages.Marking.{marks_of, current, IsMarkTurn}
use Rattle.pass_table.proofs.WorkLater.{worked-sizes}
use Rattle.batch_add.proofs.MarkTurns.{went-on}
use Rattle.batch_add.proofs.MarkEnds.{going-at, ends-with, then-next, next-below, done-turn, may-let_go}
use Rattle.batch_add.proofs.mark_op.Marking.leave.Goals as goal

pub returns-then-self-len-clause-turn : goal.returns-then-self-len-clause-turn
returns-then-self-len-clause-turn c =
    let operation = c.args.self.now in
    let room = operation.ids.ok.0 in
    let all : operation.marked ≡ length operation.ids.items = (let same = c.if-self-len.true in let len = c.len.ensures in omega arith) in
    done-turn operation c.args.stripe (view_of c.args.pass.now) (view_of c.release.new.pass) c.args.pass.now.number _ c.args.pass.now.numbered c.requires.stage all c.release.ensures.step.1

pub new-self-requires-clause-idle : goal.new-self-requires-clause-idle
new-self-requires-clause-idle c =
    let view = view_of c.args.pass.now in
    let operation = c.args.self.now in
    let way = c.requires.under_way in
    let goes = way.goes.goes in
    let at = going-at operation (Leaving c.args.stripe) way.start view goes c.requires.stage in
    record {
      of = c.release.ensures.of;
      rest = (ends-with way.start goes.before goes.batch operation.layer operation.slot (marks_of operation) goes.begun view (view_of c.release.new.pass) c.args.stripe _ at.0 c.release.ensures.step.1).rest;
    }

pub new-self-requires-clause-below : goal.new-self-requires-clause-below
new-self-requires-clause-below c =
    let view = view_of c.args.pass.now in
    let next = view_of c.release.new.pass in
    let operation = c.args.self.now in
    let way = c.requires.under_way in
    let goes = way.goes.goes in
    let at = going-at operation (Leaving c.args.stripe) way.start view goes c.requires.stage in
    let within = goes.begun.first.within in
    let more : operation.marked < length operation.ids.items = (let other = c.if-self-len.false in let len = c.len.ensures in let room = operation.ids.ok.0 in omega arith) in
    subst (λ (i : Id). i.index < c.args.world.now.map.bodies) (sym c.id.ensures)
    (subst (λ (s : Config). (current (marks_of operation)).index < s.bodies) c.release.ensures.of.sizes
    (next-below way.start goes.before goes.batch operation.layer operation.slot (marks_of operation) goes.begun view next c.args.stripe _ at.0 c.release.ensures.step.1 more))

pub returns-clause-turn : goal.returns-clause-turn
returns-clause-turn c =
    let view = view_of c.args.pass.now in
    let next = view_of c.release.new.pass in
    let operation = c.args.self.now in
    let stripe = c.args.stripe in
    let look = c.new-self.result in
    let go = c.release.ensures.step.1 in
    let within = c.requires.under_way.goes.goes.begun.first.within in
    let more : operation.marked < length operation.ids.items = (let other = c.if-self-len.false in let len = c.len.ensures in let room = operation.ids.ok.0 in omega arith) in
    let six : look_left look ≡ 6 = ap look_left c.new-self.ensures.begun in
    let still = ap view_of c.new-self.ensures.pass in
    let going = subst (λ (v : View). IsLooking look next look v) still c.new-self.ensures.under_way in
    subst (λ (p : Pass). IsMarkTurn c.go_on.result operation c.go_on.new.self view (view_of p)) (sym c.new-self.ensures.pass)
    (went-on c.go_on.result operation c.go_on.new.self (Leaving stripe) look Looking view next c.go_on.ensures.more c.go_on.ensures.stage c.requires.stage
    (released-step view next stripe _ go) (released-made view next stripe _ go c.args.pass.now.number c.args.pass.now.numbered) (omega arith)
    (loads-none view next (look_takes look) (subst (λ (l : LookOp). LoadedNone (look_takes l)) (sym c.new-self.ensures.begun) refl))
    (λ start before batch begun at.
    let sizes = sym c.requires.of.sizes ∙ worked-sizes start view _ at.0.worked in
    let same : look ≡ looking_of start.config (current (marks_of operation)) Write ItsPhase = c.new-self.ensures.begun ∙ (λ i. looking_of (sizes i) (c.id.ensures i) Write ItsPhase) in
    then-next start before batch operation.layer operation.slot (marks_of operation) begun view next stripe _ at.0 go more look (subst (λ (l : LookOp). IsLooking l next look next) same going)))

-- a stripe is one of the locks of a world
stripe-named : (c d : Config) (stripe : ℕ) → c ≡ d → stripe < c.stripes → stripe < lock_count d
stripe-named c d stripe same below = let stripes = ap (λ (s : Config). s.stripes) same in omega arith

pub release-requires-clause-named : goal.release-requires-clause-named
release-requires-clause-named c =
    let view = view_of c.args.pass.now in
    let operation = c.args.self.now in
    let way = c.requires.under_way in
    let goes = way.goes.goes in
    let at = going-at operation (Leaving c.args.stripe) way.start view goes c.requires.stage in
    stripe-named way.start.config c.args.world.now.map c.args.stripe (sym (worked-sizes way.start view _ at.0.worked) ∙ c.requires.of.sizes) at.1

pub release-requires-clause-may : goal.release-requires-clause-may
release-requires-clause-may c =
    let view = view_of c.args.pass.now in
    let operation = c.args.self.now in
    let way = c.requires.under_way in
    let goes = way.goes.goes in
    let at = going-at operation (Leaving c.args.stripe) way.start view goes c.requires.stage in
    may-let_go way.start goes.before goes.batch operation.layer operation.slot (marks_of operation) goes.begun view c.args.stripe at.0
