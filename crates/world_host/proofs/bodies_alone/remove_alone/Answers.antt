use Rattle.std.proofs.Common.{◌≡◌, refl, subst}
use Rattle.scene_model.specs.declared.body_view.Phase.TheVariants.{Out, Held, In}
use Rattle.pass_table.specs.Passes.{view_of}
use Rattle.remove_body.specs.declared.answers.RemoveRefused.{RemoveRefused}
use Rattle.remove_body.specs.Answers.{WasRefused}
use Rattle.reply_text.specs.declared.refusal.Refusal.TheVariants as refusals
use Rattle.script_player.specs.declared.bodies.Change.TheVariants.{Remove}
use Rattle.world_host.proofs.Changes.{gone-changes, refused-changes, made-changes, phase-forbids}
use Rattle.world_host.proofs.bodies_alone.remove_alone.Goals as goal

pub returns-in-Ok-clause-changed : goal.returns-in-Ok-clause-changed
returns-in-Ok-clause-changed g c =
    let made = c.in-Ok.ensures.removed in
    made-changes c.remove.new.pass (view_of c.args.pass.now) c.requires.lone.one c.args.id Remove (λ r. r.phase ≡ In)
    (record { adds = made.adds; tells = c.remove.ensures.tells; keeps = c.remove.ensures.keeps }) made.at (λ r inside. phase-forbids Remove r.phase In _ refl inside)

pub returns-in-Err-Gone-clause-changed : goal.returns-in-Err-Gone-clause-changed
returns-in-Err-Gone-clause-changed g c =
    let why = subst (λ (r : RemoveRefused). WasRefused c.args.id (view_of c.args.pass.now) (view_of c.remove.new.pass) r) c.in-Err-Gone.field-0-is c.in-Err-Gone.ensures.refused in
    gone-changes c.remove.new.pass (view_of c.args.pass.now) c.requires.lone.one c.args.id Remove _
    (record { adds = why.adds; tells = c.remove.ensures.tells; keeps = c.remove.ensures.keeps }) why.at

pub returns-in-Err-NotIn-clause-changed : goal.returns-in-Err-NotIn-clause-changed
returns-in-Err-NotIn-clause-changed g c =
    let why = subst (λ (r : RemoveRefused). WasRefused c.args.id (view_of c.args.pass.now) (view_of c.remove.new.pass) r) c.in-Err-NotIn.field-0-is c.in-Err-NotIn.ensures.refused in
    refused-changes c.remove.new.pass (view_of c.args.pass.now) c.requires.lone.one c.args.id Remove refusals.NotIn _ (λ r. r.phase ≡ Out)
    (record { adds = why.adds; tells = c.remove.ensures.tells; keeps = c.remove.ensures.keeps }) why.at (λ log at. at.cause) (λ r out. phase-forbids Remove r.phase Out _ refl out)

pub returns-in-Err-Held-clause-changed : goal.returns-in-Err-Held-clause-changed
returns-in-Err-Held-clause-changed g c =
    let why = subst (λ (r : RemoveRefused). WasRefused c.args.id (view_of c.args.pass.now) (view_of c.remove.new.pass) r) c.in-Err-Held.field-0-is c.in-Err-Held.ensures.refused in
    refused-changes c.remove.new.pass (view_of c.args.pass.now) c.requires.lone.one c.args.id Remove refusals.Held _ (λ r. r.phase ≡ Held)
    (record { adds = why.adds; tells = c.remove.ensures.tells; keeps = c.remove.ensures.keeps }) why.at (λ log at. at.cause) (λ r held. phase-forbids Remove r.phase Held _ refl held)
