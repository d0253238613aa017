use Rattle.std.proofs.Common.{ℕ, sym, subst}
use Rattle.std.specs.Prelude.{slice_index}
use Rattle.word_map.specs.declared.name.Name.TheVariants.{BoxWord}
use Rattle.core_state.specs.Moving.{MayStoreLastSide, store_last_side}
use Rattle.pass_table.specs.Passes.{view_of}
use Rattle.pass_table.specs.Stepping.{Stored}
use Rattle.widen_bounds.proofs.BoxStores.{asks-last}
use Rattle.widen_bounds.proofs.storing.store_last.Goals as goal

pub step_38-requires-clause-asks : goal.step_38-requires-clause-asks
step_38-requires-clause-asks c =
    let view = view_of c.args.pass.now in
    let id = c.args.id in
    subst (λ (n : ℕ). MayStoreLastSide view (BoxWord n 5) (slice_index c.to_words.result 5) 0) (sym c.index.ensures.value)
    (subst (λ words. MayStoreLastSide view (BoxWord id.index 5) (slice_index words 5) 0) (sym c.to_words.ensures.value)
    (asks-last id c.args.to.now view c.args.pass.now.current c.requires.boxing))

pub returns-clause-stores : goal.returns-clause-stores
returns-clause-stores c =
    let view = view_of c.args.pass.now in
    let next = view_of c.step_38.new.pass in
    let id = c.args.id in
    subst (λ words. Stored MayStoreLastSide store_last_side view (BoxWord id.index 5) (slice_index words 5) next) c.to_words.ensures.value
    (subst (λ (n : ℕ). Stored MayStoreLastSide store_last_side view (BoxWord n 5) (slice_index c.to_words.result 5) next) c.index.ensures.value c.step_38.ensures.step)
