use Rattle.core_state.specs.declared.view.Mode.TheVariants.{Read}
use Rattle.batch_add.proofs.prepared_list.PreparedList.finalize_under.Goals as goal

pub returns-clause-guarded : goal.returns-clause-guarded
returns-clause-guarded c = c.finalize.ensures.alone c.args.guard.now.number c.args.guard.now.id Read c.requires.guarded
