-- Several batches of a pass that are prepared.
use Rattle.std.specs.Prelude.{List, map, All, AllPairs}
use Rattle.core_state.specs.declared.view.View.{View}
use Rattle.batch_add.specs.declared.prepared.Prepared.{Prepared}
use Rattle.batch_add.specs.declared.prepared_list.PreparedList.{PreparedList}
use Rattle.pass_table.specs.Belongings.{Belongings, belongings_of}
use Rattle.batch_add.specs.Prepared.{IsGoodIn, IsApart}

-- the batches that a list has, in order
abbrev pub batches_of : PreparedList → List Prepared
batches_of list = map (λ k. k.batch) list.batches.items

-- each of these batches is good for a pass that has this, and each two are for two slots
pub record AllGood (batches : List Prepared) (has : Belongings) : Type 0 where
  pub each : All (λ b. IsGoodIn b has) batches
  pub apart : AllPairs IsApart batches

-- the batch is for another slot than each of these
pub record AllApart (batch : Prepared) (batches : List Prepared) : Type 0 where
  pub each : All (λ other. IsApart other batch) batches

-- all batches of a list are good for the pass with this view
abbrev pub AreGood : PreparedList → View → Type 0
AreGood list view = AllGood (batches_of list) (belongings_of view)

-- a batch is for another slot than all of a list
abbrev pub IsBeside : Prepared → PreparedList → Type 0
IsBeside batch list = AllApart batch (batches_of list)
