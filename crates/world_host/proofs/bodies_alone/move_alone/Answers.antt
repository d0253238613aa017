use Rattle.std.proofs.Common.{◌≡◌, ◌≢◌, refl, subst}
use Rattle.scene_model.specs.declared.body_view.Phase.TheVariants.{Held}
use Rattle.pass_table.specs.Passes.{view_of}
use Rattle.widen_bounds.specs.declared.answers.MoveRefused.{MoveRefused}
use Rattle.widen_bounds.specs.Answers.{WasRefused}
use Rattle.reply_text.specs.declared.refusal.Refusal.TheVariants as refusals
use Rattle.script_player.specs.declared.bodies.Change.TheVariants.{Move}
use Rattle.world_host.proofs.Changes.{gone-changes, refused-changes, made-changes, phase-forbids, free-moves}
use Rattle.world_host.proofs.bodies_alone.move_alone.Goals as goal

pub returns-in-Ok-clause-changed : goal.returns-in-Ok-clause-changed
returns-in-Ok-clause-changed g c =
    let made = c.in-Ok.ensures.moved in
    made-changes c.move_body.new.pass (view_of c.args.pass.now) c.requires.lone.one c.args.id (Move c.args.to) (λ r. r.phase ≢ Held)
    (record { adds = made.adds; tells = c.move_body.ensures.tells; keeps = c.move_body.ensures.keeps }) made.at (λ r free. free-moves c.args.to r.phase free)

pub returns-in-Err-Gone-clause-changed : goal.returns-in-Err-Gone-clause-changed
returns-in-Err-Gone-clause-changed g c =
    let why = subst (λ (r : MoveRefused). WasRefused c.args.id (view_of c.args.pass.now) (view_of c.move_body.new.pass) r) c.in-Err-Gone.field-0-is c.in-Err-Gone.ensures.refused in
    gone-changes c.move_body.new.pass (view_of c.args.pass.now) c.requires.lone.one c.args.id (Move c.args.to) _
    (record { adds = why.adds; tells = c.move_body.ensures.tells; keeps = c.move_body.ensures.keeps }) why.at

pub returns-in-Err-Held-clause-changed : goal.returns-in-Err-Held-clause-changed
returns-in-Err-Held-clause-changed g c =
    let why = subst (λ (r : MoveRefused). WasRefused c.args.id (view_of c.args.pass.now) (view_of c.move_body.new.pass) r) c.in-Err-Held.field-0-is c.in-Err-Held.ensures.refused in
    refused-changes c.move_body.new.pass (view_of c.args.pass.now) c.requires.lone.one c.args.id (Move c.args.to) refusals.Held _ (λ r. r.phase ≡ Held)
    (record { adds = why.adds; tells = c.move_body.ensures.tells; keeps = c.move_body.ensures.keeps }) why.at (λ log at. at.cause) (λ r held. phase-forbids (Move c.args.to) r.phase Held _ refl held)
