use Rattle.std.proofs.Common.{[], sym}
use Rattle.pass_table.specs.Passes.{view_of}
use Rattle.world_host.proofs.Parts.{part-then, part-leaves}
use Rattle.world_host.proofs.Changes.{gone-at}
use Rattle.world_host.proofs.Viewing.{seen-alone}
use Rattle.world_host.proofs.users_alone.view_alone.Goals as goal

pub returns-in-Ok-clause-leaves : goal.returns-in-Ok-clause-leaves
returns-in-Ok-clause-leaves g c =
    let start = view_of c.args.pass.now in
    let locked = view_of c.lock_read.new.pass in
    let seen = view_of c.view-seen.new.pass in
    part-leaves c.unlock.new.pass start [] c.requires.lone.one
    (part-then start seen (view_of c.unlock.new.pass) [] []
    (part-then start locked seen [] [] (record { adds = c.lock_read.ensures.adds; tells = c.lock_read.ensures.tells; keeps = c.lock_read.ensures.keeps })
    (record { adds = c.view-seen.ensures.adds; tells = c.view-seen.ensures.tells; keeps = c.view-seen.ensures.keeps }))
    (record { adds = c.unlock.ensures.adds; tells = c.unlock.ensures.tells; keeps = c.unlock.ensures.keeps }))

pub returns-in-Ok-clause-seen : goal.returns-in-Ok-clause-seen
returns-in-Ok-clause-seen g c =
    sym
    (seen-alone c.lock_read.new.pass (view_of c.args.pass.now) c.requires.lone.one
    (record { adds = c.lock_read.ensures.adds; tells = c.lock_read.ensures.tells; keeps = c.lock_read.ensures.keeps }) c.view-seen.new.pass c.in-Ok.guard.id c.args.id c.view-seen.result
    (record { adds = c.view-seen.ensures.adds; tells = c.view-seen.ensures.tells; keeps = c.view-seen.ensures.keeps }) c.in-Ok.ensures.answers.names c.view-seen.ensures.seen)

pub returns-in-Err-clause-leaves : goal.returns-in-Err-clause-leaves
returns-in-Err-clause-leaves g c =
    part-leaves c.lock_read.new.pass (view_of c.args.pass.now) [] c.requires.lone.one
    (record { adds = c.lock_read.ensures.adds; tells = c.lock_read.ensures.tells; keeps = c.lock_read.ensures.keeps })

pub returns-in-Err-clause-seen : goal.returns-in-Err-clause-seen
returns-in-Err-clause-seen g c =
    sym
    (gone-at c.lock_read.new.pass (view_of c.args.pass.now) c.requires.lone.one c.args.id c.in-Err.field-0.state
    (record { adds = c.lock_read.ensures.adds; tells = c.lock_read.ensures.tells; keeps = c.lock_read.ensures.keeps }) c.in-Err.ensures.answers.gone)
