-- An update at its end: it has published all trees, promoted all bodies and given all back.
use Rattle.std.proofs.Common.{ap, arith, length, ℕ, ◌∙◌, ◌≡◌}
use Rattle.word_map.specs.declared.config.Config.{Config}
use Rattle.core_state.specs.Core.{Core}
use Rattle.core_state.specs.Kind.{Step}
use Rattle.core_state.specs.Retiring.{IsAtEnd}
use Rattle.core_state.specs.declared.view.Rebuild.{Rebuild}
use Rattle.core_guard.proofs.Settled.{sound}
use Rattle.core_guard.proofs.Leaving.{Acts}
use Rattle.core_update.proofs.AtRest.{IsQuietUpdate}

module _ (core : Core) (step : Step) (a : Acts core step) (r : Rebuild) (old : ℕ) (ends : IsAtEnd step.view r old) where
  pub all-layers : length r.swapped ≡ core.config.layers
  all-layers = ends.published.all_swapped ∙ ap (λ (c : Config). c.layers) (sound core step a).config

  pub end-quiet : IsQuietUpdate core.config r
  end-quiet = record { promoted = ends.promoted; published = λ planned. let all = all-layers in omega arith; returned = ends.none_left }
