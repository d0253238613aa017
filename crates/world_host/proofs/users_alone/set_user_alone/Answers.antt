use Rattle.std.proofs.Common.{[], ◌∷◌}
use Rattle.scene_model.specs.declared.entry.Entry.TheVariants.{SetUser}
use Rattle.core_state.specs.declared.view.Mode.TheVariants.{Write}
use Rattle.pass_table.specs.Passes.{view_of}
use Rattle.script_player.specs.declared.bodies.Change.TheVariants as changes
use Rattle.world_host.proofs.Parts.{Part, part-then}
use Rattle.world_host.proofs.Changes.{gone-changes}
use Rattle.world_host.proofs.Viewing.{user-set}
use Rattle.world_host.proofs.users_alone.set_user_alone.Goals as goal

pub returns-in-Ok-clause-changed : goal.returns-in-Ok-clause-changed
returns-in-Ok-clause-changed g c =
    let start = view_of c.args.pass.now in
    let locked = view_of c.lock_write.new.pass in
    let set = view_of c.set_user.new.pass in
    let entry = SetUser c.in-Ok.guard.id.index c.args.user in
    let locking : Part start locked [] = record { adds = c.lock_write.ensures.adds; tells = c.lock_write.ensures.tells; keeps = c.lock_write.ensures.keeps } in
    user-set c.lock_write.new.pass start c.requires.lone.one locking c.unlock.new.pass c.in-Ok.guard.number c.args.user c.in-Ok.guard.id c.args.id Write c.in-Ok.ensures.answers.good.guarding c.in-Ok.ensures.answers.now
    c.in-Ok.ensures.answers.names
    (part-then start set (view_of c.unlock.new.pass) (entry ∷ []) []
    (part-then start locked set [] (entry ∷ []) locking (record { adds = c.set_user.ensures.adds; tells = c.set_user.ensures.tells; keeps = c.set_user.ensures.keeps }))
    (record { adds = c.unlock.ensures.adds; tells = c.unlock.ensures.tells; keeps = c.unlock.ensures.keeps }))

pub returns-in-Err-clause-changed : goal.returns-in-Err-clause-changed
returns-in-Err-clause-changed g c =
    gone-changes c.lock_write.new.pass (view_of c.args.pass.now) c.requires.lone.one c.args.id (changes.SetUser c.args.user) c.in-Err.field-0.state
    (record { adds = c.lock_write.ensures.adds; tells = c.lock_write.ensures.tells; keeps = c.lock_write.ensures.keeps }) c.in-Err.ensures.answers.gone
