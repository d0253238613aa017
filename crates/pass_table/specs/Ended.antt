-- What every call leaves that has ended, whatever it did.
use Rattle.std.specs.Prelude.{◌≡◌, List, []}
use Rattle.core_state.specs.declared.item.Item.{Item}
use Rattle.core_state.specs.declared.view.View.{View}
use Rattle.pass_table.specs.Knowing.{KnowsLawful}
use Rattle.pass_table.specs.Holding.{IsAtRest}
use Rattle.pass_table.specs.Calls.{Adds, AtPoint}
use Rattle.pass_table.specs.Work.{Tells}
use Rattle.pass_table.specs.Belongings.{belongings_of}

-- A call that a pass made at rest has ended: the pass is at rest again. It stored no word that is told, all that it has beside
-- its locks and its task is as it was, and the history is lawful
pub record HasEnded (start next : View) : Type 0 where
  pub rest : IsAtRest next
  pub tells : Tells start next []
  pub keeps : belongings_of next ≡ belongings_of start
  pub lawful : KnowsLawful next

-- the call made no entry: so it was at a point of it
pub record WasNot (start next : View) (fact : List Item → Type 0) : Type 0 where
  pub adds : Adds start next []
  pub at : AtPoint start next fact
