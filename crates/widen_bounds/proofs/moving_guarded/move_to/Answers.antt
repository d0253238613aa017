use Rattle.std.proofs.Common.{refl, sym, subst}
use Rattle.std.specs.Prelude.{Some, None}
use Rattle.body_ident.specs.Id.{Id}
use Rattle.core_state.specs.declared.view.Mode.TheVariants.{Write}
use Rattle.pass_table.specs.Passes.{view_of}
use Rattle.body_lock.proofs.Standing.{alone-more}
use Rattle.widen_bounds.specs.stages.Guarded.{HoldsOrFree, MayMove, MovesFree}
use Rattle.widen_bounds.proofs.GuardedMoves.{may-move, was-held, calling-more, good-after, keeps-after, given-here}
use Rattle.widen_bounds.proofs.moving_guarded.move_to.Goals as goal

pub move_free-requires : goal.move_free-requires
move_free-requires c =
    let guard = c.args.guard.now in
    let view = view_of c.args.pass.now in
    let next = view_of c.held_slot.new.pass in (
      refl,
      (
        c.held_slot.ensures.of,
        subst (λ (i : Id). MayMove i next) (sym c.id-id.ensures)
            (may-move guard.number guard.id view c.requires.good next c.held_slot.ensures.more
            (subst (λ (i : Id). HoldsOrFree i next None) c.id-id.ensures (subst (HoldsOrFree c.id-id.result next) c.in-None.is c.held_slot.ensures.held))),
      ),
    )

pub returns-in-Some-clause-good : goal.returns-in-Some-clause-good
returns-in-Some-clause-good c =
    let guard = c.args.guard.now in
    alone-more guard.number guard.id Write (view_of c.args.pass.now) (view_of c.held_slot.new.pass) c.requires.good c.held_slot.ensures.more

pub returns-in-Some-clause-tells : goal.returns-in-Some-clause-tells
returns-in-Some-clause-tells c =
    let guard = c.args.guard.now in
    (calling-more guard.number guard.id (view_of c.args.pass.now) c.requires.good (view_of c.held_slot.new.pass) c.held_slot.ensures.more).tells

pub returns-in-Some-clause-spares : goal.returns-in-Some-clause-spares
returns-in-Some-clause-spares c =
    let guard = c.args.guard.now in
    (calling-more guard.number guard.id (view_of c.args.pass.now) c.requires.good (view_of c.held_slot.new.pass) c.held_slot.ensures.more).spares refl

pub returns-in-Some-clause-refused : goal.returns-in-Some-clause-refused
returns-in-Some-clause-refused c =
    let guard = c.args.guard.now in
    let next = view_of c.held_slot.new.pass in
    was-held guard.number guard.id (view_of c.args.pass.now) c.requires.good next c.held_slot.ensures.more c.in-Some.slot
    (subst (λ (i : Id). HoldsOrFree i next (Some c.in-Some.slot)) c.id-id.ensures (subst (HoldsOrFree c.id-id.result next) c.in-Some.is c.held_slot.ensures.held))

pub returns-in-None-clause-good : goal.returns-in-None-clause-good
returns-in-None-clause-good c =
    let guard = c.args.guard.now in
    let view = view_of c.args.pass.now in
    let next = view_of c.held_slot.new.pass in
    let last = view_of c.move_free.new.pass in
    let free = subst (λ (i : Id). HoldsOrFree i next None) c.id-id.ensures (subst (HoldsOrFree c.id-id.result next) c.in-None.is c.held_slot.ensures.held) in
    let given = given-here guard.number guard.id view c.requires.good next c.held_slot.ensures.more c.args.to last free (subst (λ (i : Id). MovesFree i c.args.to next last) c.id-id.ensures c.move_free.ensures.moves) in
    good-after guard.number guard.id view c.requires.good c.args.to last given

pub returns-in-None-clause-tells : goal.returns-in-None-clause-tells
returns-in-None-clause-tells c =
    let guard = c.args.guard.now in
    let view = view_of c.args.pass.now in
    let next = view_of c.held_slot.new.pass in
    let last = view_of c.move_free.new.pass in
    let free = subst (λ (i : Id). HoldsOrFree i next None) c.id-id.ensures (subst (HoldsOrFree c.id-id.result next) c.in-None.is c.held_slot.ensures.held) in
    let given = given-here guard.number guard.id view c.requires.good next c.held_slot.ensures.more c.args.to last free (subst (λ (i : Id). MovesFree i c.args.to next last) c.id-id.ensures c.move_free.ensures.moves) in
    given.calling.tells

pub returns-in-None-clause-spares : goal.returns-in-None-clause-spares
returns-in-None-clause-spares c =
    let guard = c.args.guard.now in
    let view = view_of c.args.pass.now in
    let next = view_of c.held_slot.new.pass in
    let last = view_of c.move_free.new.pass in
    let free = subst (λ (i : Id). HoldsOrFree i next None) c.id-id.ensures (subst (HoldsOrFree c.id-id.result next) c.in-None.is c.held_slot.ensures.held) in
    let given = given-here guard.number guard.id view c.requires.good next c.held_slot.ensures.more c.args.to last free (subst (λ (i : Id). MovesFree i c.args.to next last) c.id-id.ensures c.move_free.ensures.moves) in
    given.calling.spares refl

pub returns-in-None-clause-keeps : goal.returns-in-None-clause-keeps
returns-in-None-clause-keeps c =
    let guard = c.args.guard.now in
    let view = view_of c.args.pass.now in
    let next = view_of c.held_slot.new.pass in
    let last = view_of c.move_free.new.pass in
    let free = subst (λ (i : Id). HoldsOrFree i next None) c.id-id.ensures (subst (HoldsOrFree c.id-id.result next) c.in-None.is c.held_slot.ensures.held) in
    let given = given-here guard.number guard.id view c.requires.good next c.held_slot.ensures.more c.args.to last free (subst (λ (i : Id). MovesFree i c.args.to next last) c.id-id.ensures c.move_free.ensures.moves) in
    keeps-after guard.number guard.id view c.requires.good c.args.to last given

pub returns-in-None-clause-moved : goal.returns-in-None-clause-moved
returns-in-None-clause-moved c =
    let guard = c.args.guard.now in
    let view = view_of c.args.pass.now in
    let next = view_of c.held_slot.new.pass in
    let last = view_of c.move_free.new.pass in
    let free = subst (λ (i : Id). HoldsOrFree i next None) c.id-id.ensures (subst (HoldsOrFree c.id-id.result next) c.in-None.is c.held_slot.ensures.held) in
    let given = given-here guard.number guard.id view c.requires.good next c.held_slot.ensures.more c.args.to last free (subst (λ (i : Id). MovesFree i c.args.to next last) c.id-id.ensures c.move_free.ensures.moves) in
    given.moved
