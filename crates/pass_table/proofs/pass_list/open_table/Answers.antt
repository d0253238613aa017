use Rattle.std.proofs.Common.{[], ap, sym, ◌∙◌, subst}
use Rattle.word_map.specs.Limits.{IsConfig}
use Rattle.core_state.specs.Log.{words}
use Rattle.pass_table.proofs.Ruling.{opening-ruled, opening-len}
use Rattle.pass_table.proofs.pass_list.open_table.Goals as goal

pub of_words-requires : goal.of_words-requires
of_words-requires c =
    opening-ruled _ _ c.config-config.ensures.in_limits
    (c.as_slice.ensures.value ∙ (c.in_ok-words.ensures ∙ ap (λ k. words k []) (sym c.config-config.ensures.sizes)))

pub invariant_of-result : goal.invariant_of-result
invariant_of-result c = record {
  in_limits = subst IsConfig c.config-config.ensures.sizes c.config-config.ensures.in_limits;
  sized = (
    c.in_ok-table.ensures.5 ∙ c.config-config.ensures.sizes,
    c.in_ok-table.ensures.0 ∙ opening-len c.args.map _ (c.as_slice.ensures.value ∙ c.in_ok-words.ensures),
  );
}
