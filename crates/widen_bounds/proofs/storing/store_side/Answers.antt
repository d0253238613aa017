use Rattle.std.proofs.Common.{ℕ, sym, subst}
use Rattle.std.specs.Prelude.{slice_index}
use Rattle.word_map.specs.declared.name.Name.TheVariants.{BoxWord}
use Rattle.core_state.specs.Moving.{MayStoreSide, store_side}
use Rattle.pass_table.specs.Passes.{view_of}
use Rattle.pass_table.specs.Stepping.{Stored}
use Rattle.widen_bounds.specs.stages.Storing.{StoresSideOf}
use Rattle.widen_bounds.proofs.BoxStores.{asks-side, boxing-on}
use Rattle.widen_bounds.proofs.storing.store_side.Goals as goal

pub step_37-requires-clause-asks : goal.step_37-requires-clause-asks
step_37-requires-clause-asks c =
    let view = view_of c.args.pass.now in
    let id = c.args.id in
    subst (λ (n : ℕ). MayStoreSide view (BoxWord n c.args.side) (slice_index c.to_words.result c.args.side) 0) (sym c.index.ensures.value)
    (subst (λ words. MayStoreSide view (BoxWord id.index c.args.side) (slice_index words c.args.side) 0) (sym c.to_words.ensures.value)
    (asks-side id c.args.to.now view c.args.pass.now.current c.args.side c.requires.below c.requires.boxing))

pub returns-clause-boxing : goal.returns-clause-boxing
returns-clause-boxing c =
    let view = view_of c.args.pass.now in
    let next = view_of c.step_37.new.pass in
    let id = c.args.id in
    let stored : StoresSideOf id c.args.to.now c.args.side view next =
    subst (λ words. Stored MayStoreSide store_side view (BoxWord id.index c.args.side) (slice_index words c.args.side) next) c.to_words.ensures.value
    (subst (λ (n : ℕ). Stored MayStoreSide store_side view (BoxWord n c.args.side) (slice_index c.to_words.result c.args.side) next) c.index.ensures.value c.step_37.ensures.step)
    in
    boxing-on id c.args.to.now c.args.side view next c.requires.boxing stored

pub returns-clause-stores : goal.returns-clause-stores
returns-clause-stores c =
    let view = view_of c.args.pass.now in
    let next = view_of c.step_37.new.pass in
    let id = c.args.id in
    subst (λ words. Stored MayStoreSide store_side view (BoxWord id.index c.args.side) (slice_index words c.args.side) next) c.to_words.ensures.value
    (subst (λ (n : ℕ). Stored MayStoreSide store_side view (BoxWord n c.args.side) (slice_index c.to_words.result c.args.side) next) c.index.ensures.value c.step_37.ensures.step)
