-- Events that no invariant sees.
use Rattle.std.specs.Prelude.{◌≡◌, ℕ, false, None}
use Rattle.word_map.specs.declared.name.Name.{Name}
use Rattle.core_state.specs.declared.view.View.{View}
use Rattle.core_state.specs.Core.{Core}
use Rattle.core_state.specs.Operation.{stores}
use Rattle.core_state.specs.Kind.{Kind}
use Rattle.core_state.specs.Scope.{IsSameTo}
use Rattle.core_state.specs.LocksAgree.{lock_scope}
use Rattle.core_state.specs.BodiesAgree.{body_scope}
use Rattle.core_state.specs.NodesInOnePlace.{node_scope}
use Rattle.core_state.specs.TreesSound.{tree_scope}
use Rattle.core_state.specs.LocationsHold.{location_scope}
use Rattle.core_state.specs.BodiesCovered.{cover_scope}
use Rattle.core_state.specs.WalksLead.{walk_scope}
use Rattle.core_state.specs.ReadersCounted.{reader_scope}

-- two cores are the same to each of them
pub record IsUnseen (before after : Core) : Type 0 where
  pub locks : IsSameTo lock_scope before after
  pub bodies : IsSameTo body_scope before after
  pub places : IsSameTo node_scope before after
  pub trees : IsSameTo tree_scope before after
  pub locations : IsSameTo location_scope before after
  pub cover : IsSameTo cover_scope before after
  pub walks : IsSameTo walk_scope before after
  pub readers : IsSameTo reader_scope before after

-- a kind of step that loads a word, makes no entry and leaves the view as it was but for what is known
pub record IsPlainLoad (kind : Kind) : Type 0 where
  pub loads : (found first : ℕ) → stores kind.operation found first ≡ false
  pub entry : (view : View) (name : Name) (value : ℕ) → kind.entry view name value ≡ None
  pub leaves : (view : View) (name : Name) (found first second : ℕ) → kind.leaves view name found first second ≡ view
