use Rattle.std.proofs.Common.{◌∙◌}
use Rattle.core_state.specs.Log.{opening_word}
use Rattle.pass_table.proofs.Ruling.{opening-more}
use Rattle.pass_table.proofs.opening_words.opening_words.Goals as goal

pub loop-place-preserved : goal.loop-place-preserved
loop-place-preserved c =
    c.in_ok-push.ensures.items ∙
    opening-more c.args.map.now _ c.loop-place.place _ c.loop-place.invariant
    (c.opening_word.ensures ∙ (λ i. opening_word (c.config-config.ensures.sizes i) (c.name_at.ensures.value i)))
