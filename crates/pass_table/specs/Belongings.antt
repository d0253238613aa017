-- What a pass has beside its locks, what it is in the middle of, and what it read in its last walk. A call that has to do with
-- none of it leaves it as it is, and so all that rests on it stays good.
use Rattle.std.specs.Prelude.{ℕ, List, Option}
use Rattle.word_map.specs.declared.config.Config.{Config}
use Rattle.core_state.specs.declared.item.Store.{Store}
use Rattle.core_state.specs.declared.view.Role.{Role}
use Rattle.core_state.specs.declared.view.Batch.{Batch}
use Rattle.core_state.specs.declared.view.Rebuild.{Rebuild}
use Rattle.core_state.specs.declared.view.View.{View}

-- which pass of which world it is, its batches and its nodes with what it stored in them, and its update
pub record Belongings : Type 0 where
  pub config : Config
  pub role : Role
  pub batches : List Batch
  pub loose : List ℕ
  pub written : List Store
  pub rebuild : Option Rebuild

abbrev pub belongings_of : View → Belongings
belongings_of view = record {
  config = view.config;
  role = view.role;
  batches = view.batches;
  loose = view.loose;
  written = view.written;
  rebuild = view.rebuild;
}
