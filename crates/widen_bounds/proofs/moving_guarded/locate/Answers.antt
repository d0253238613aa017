use Rattle.std.proofs.Common.{ℕ, sym, subst}
use Rattle.word_map.specs.declared.name.Name.TheVariants.{LocA, LocB}
use Rattle.core_state.specs.Lives.{MayLoadBody}
use Rattle.pass_table.specs.Bodies.{Loaded}
use Rattle.pass_table.specs.Passes.{view_of}
use Rattle.pass_table.proofs.Bodies.{loaded-body}
use Rattle.widen_bounds.specs.stages.MoveLater.{unheld-more}
use Rattle.widen_bounds.proofs.MoveSteps.{may-load-first, may-load-second}
use Rattle.widen_bounds.proofs.GuardedMoves.{locate-fits, has-located}
use Rattle.widen_bounds.proofs.moving_guarded.locate.Goals as goal

pub step_15-first-requires-clause-asks : goal.step_15-first-requires-clause-asks
step_15-first-requires-clause-asks c =
    let may = c.requires.may in
    let view = view_of c.args.pass.now in
    subst (λ (n : ℕ). MayLoadBody view (LocA n) 0 0) (sym c.index.ensures.value) (may-load-first c.args.id may.steps may.start view may.unheld)

pub step_15-second-requires-clause-asks : goal.step_15-second-requires-clause-asks
step_15-second-requires-clause-asks c =
    let may = c.requires.may in
    let view = view_of c.args.pass.now in
    let mid = view_of c.step_15-first.new.pass in
    let one = subst (λ (n : ℕ). Loaded view mid (LocA n) c.step_15-first.result) c.index.ensures.value (loaded-body view mid (LocA c.index.result) c.step_15-first.result c.step_15-first.ensures.step) in
    subst (λ (n : ℕ). MayLoadBody mid (LocB n) 0 0) (sym c.index-2.ensures.value) (may-load-second c.args.id may.steps may.start mid (unheld-more c.args.id view mid one.more may.steps may.start may.unheld))

pub new-requires-clause-first_fits : goal.new-requires-clause-first_fits
new-requires-clause-first_fits c =
    let view = view_of c.args.pass.now in
    let mid = view_of c.step_15-first.new.pass in
    let next = view_of c.step_15-second.new.pass in
    let one = subst (λ (n : ℕ). Loaded view mid (LocA n) c.step_15-first.result) c.index.ensures.value (loaded-body view mid (LocA c.index.result) c.step_15-first.result c.step_15-first.ensures.step) in
    let two = subst (λ (n : ℕ). Loaded mid next (LocB n) c.step_15-second.result) c.index-2.ensures.value (loaded-body mid next (LocB c.index-2.result) c.step_15-second.result c.step_15-second.ensures.step) in
    (locate-fits c.args.id view mid next c.step_15-first.result c.step_15-second.result one two c.requires.may).0

pub new-requires-clause-second_fits : goal.new-requires-clause-second_fits
new-requires-clause-second_fits c =
    let view = view_of c.args.pass.now in
    let mid = view_of c.step_15-first.new.pass in
    let next = view_of c.step_15-second.new.pass in
    let one = subst (λ (n : ℕ). Loaded view mid (LocA n) c.step_15-first.result) c.index.ensures.value (loaded-body view mid (LocA c.index.result) c.step_15-first.result c.step_15-first.ensures.step) in
    let two = subst (λ (n : ℕ). Loaded mid next (LocB n) c.step_15-second.result) c.index-2.ensures.value (loaded-body mid next (LocB c.index-2.result) c.step_15-second.result c.step_15-second.ensures.step) in
    (locate-fits c.args.id view mid next c.step_15-first.result c.step_15-second.result one two c.requires.may).1

pub returns-clause-located : goal.returns-clause-located
returns-clause-located c =
    let view = view_of c.args.pass.now in
    let mid = view_of c.step_15-first.new.pass in
    let next = view_of c.step_15-second.new.pass in
    let one = subst (λ (n : ℕ). Loaded view mid (LocA n) c.step_15-first.result) c.index.ensures.value (loaded-body view mid (LocA c.index.result) c.step_15-first.result c.step_15-first.ensures.step) in
    let two = subst (λ (n : ℕ). Loaded mid next (LocB n) c.step_15-second.result) c.index-2.ensures.value (loaded-body mid next (LocB c.index-2.result) c.step_15-second.result c.step_15-second.ensures.step) in
    has-located c.args.id view mid next c.step_15-first.result c.step_15-second.result one two c.new.result c.new.ensures.begun
