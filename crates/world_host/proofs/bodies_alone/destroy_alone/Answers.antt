use Rattle.std.proofs.Common.{◌≡◌, ◌⊎◌, refl, subst}
use Rattle.scene_model.specs.declared.body_view.Phase.TheVariants.{Out, Held, In}
use Rattle.pass_table.specs.Passes.{view_of}
use Rattle.body_slots.specs.declared.answers.DestroyRefused.{DestroyRefused}
use Rattle.body_slots.specs.Answers.{WasRefused}
use Rattle.reply_text.specs.declared.refusal.Refusal.TheVariants.{InUse}
use Rattle.script_player.specs.declared.bodies.Change.TheVariants.{Destroy}
use Rattle.world_host.proofs.Changes.{gone-changes, refused-changes, made-changes, phase-forbids, in-use-forbids}
use Rattle.world_host.proofs.bodies_alone.destroy_alone.Goals as goal

pub returns-in-Ok-clause-changed : goal.returns-in-Ok-clause-changed
returns-in-Ok-clause-changed g c =
    let made = c.in-Ok.ensures.destroyed in
    made-changes c.destroy.new.pass (view_of c.args.pass.now) c.requires.lone.one c.args.id Destroy (λ r. r.phase ≡ Out)
    (record { adds = made.adds; tells = c.destroy.ensures.tells; keeps = c.destroy.ensures.keeps }) made.at (λ r out. phase-forbids Destroy r.phase Out _ refl out)

pub returns-in-Err-Gone-clause-changed : goal.returns-in-Err-Gone-clause-changed
returns-in-Err-Gone-clause-changed g c =
    let why = subst (λ (r : DestroyRefused). WasRefused c.args.id (view_of c.args.pass.now) (view_of c.destroy.new.pass) r) c.in-Err-Gone.field-0-is c.in-Err-Gone.ensures.refused in
    gone-changes c.destroy.new.pass (view_of c.args.pass.now) c.requires.lone.one c.args.id Destroy _
    (record { adds = why.adds; tells = c.destroy.ensures.tells; keeps = c.destroy.ensures.keeps }) why.at

pub returns-in-Err-InUse-clause-changed : goal.returns-in-Err-InUse-clause-changed
returns-in-Err-InUse-clause-changed g c =
    let why = subst (λ (r : DestroyRefused). WasRefused c.args.id (view_of c.args.pass.now) (view_of c.destroy.new.pass) r) c.in-Err-InUse.field-0-is c.in-Err-InUse.ensures.refused in
    refused-changes c.destroy.new.pass (view_of c.args.pass.now) c.requires.lone.one c.args.id Destroy InUse _ (λ r. (r.phase ≡ Held) ⊎ (r.phase ≡ In))
    (record { adds = why.adds; tells = c.destroy.ensures.tells; keeps = c.destroy.ensures.keeps }) why.at (λ log at. at.cause) (λ r used. in-use-forbids r.phase used)
