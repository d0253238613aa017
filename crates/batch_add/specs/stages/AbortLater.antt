-- What others' steps between two turns of giving a batch up leave as it was.
use Rattle.core_state.specs.declared.view.View.{View}
use Rattle.pass_table.specs.Knowing.{KnowsMore}
use Rattle.batch_add.specs.declared.aborting.AbortOp.{AbortOp}
use Rattle.batch_add.specs.stages.Aborting.{IsAborting}
use Rattle.batch_add.specs.stages.GivingLater.{giving-later}

pub aborting-later : (first : AbortOp) (start : View) (operation : AbortOp) (view next : View) → KnowsMore view next → IsAborting first start operation view → IsAborting first start operation next
aborting-later first start operation view next more aborting = record {
  gives = giving-later first.giving start operation.giving view next more aborting.gives;
  current = aborting.current;
}
